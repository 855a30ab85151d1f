-- Texts put one after another are their joined text, put at once. Assumes nothing.
use mathlib.Core.Path.{◌≡◌, refl, ap, sym, ◌∙◌, subst}
use mathlib.Core.Bool.{true, false}
use Prim.Native.Nat.{ℕ, suc, ◌+◌, ◌^◌, ◌<◌, ◌≤◌}
use mathlib.Core.List.{List, [], ◌∷◌, ◌++◌}
use native.Mathlib.Omega.{arith}
use lib.Dec.{leb}
use lib.IntN.{ℤ, pos, negsuc}
use lib.ListN.{length, drop, length-append}
use lib.Seq.{sets, sets-eq, set_out}
use mir.Syntax.{w64}
use mir.Val.{to_z}
use mir.Facts.{to_z_pos}
use borrow.Author.Tests.{le-leb, lt-leb}
use Rattle.play_line.specs.Put.{Puts, Written}

sets_join : (l : List ℕ) (i : ℕ) (t u : List ℕ) → sets (sets l i t) (i + length t) u ≡ sets l i (t ++ u)
sets_join l i [] u = ap (λ (k : ℕ). sets l k u) (omega arith)
sets_join l i (a ∷ t) u =
    let e : i + suc (length t) ≡ suc i + length t = omega arith in
    ap (λ (k : ℕ). sets (sets l i (a ∷ t)) k u) e ∙ sets_join _ (suc i) t u

module _ {m k at r q : ℕ} {t u old mid new : List ℕ} where
  pub and_then : Puts m t at old r mid → Puts k u r mid q new → Puts (m + k) (t ++ u) at old q new
  and_then p s =
      let a : length (t ++ u) ≡ length t + length u = length-append t u in
      record {
        next = omega (arith, p.next, s.next);
        few = omega (arith, p.few, s.few);
        wrote = s.wrote ∙ ap (λ (l : List ℕ). sets l r u) p.wrote ∙ ap (λ (n : ℕ). sets (sets old at t) n u) p.next ∙ sets_join old at t u;
      }

-- the same text, said in other words, and with more room
module _ {m k at r : ℕ} {t u old new : List ℕ} where
  pub as_text : t ≡ u → m ≤ k → Puts m t at old r new → Puts k u at old r new
  as_text e h p = record { next = p.next ∙ ap (λ (l : List ℕ). at + length l) e; few = omega (arith, p.few); wrote = p.wrote ∙ ap (λ (l : List ℕ). sets old at l) e }

pub put_past : (at b : ℕ) (old : List ℕ) → length old ≤ at → Puts 1 (b ∷ []) at old (at + 1) old
put_past at b old h = record { next = refl; few = omega arith; wrote = sym (set_out old at b h) }

pub put_none : (m at : ℕ) (old : List ℕ) → Puts m [] at old at old
put_none m at old = record { next = omega arith; few = omega arith; wrote = refl }

pub put_both : {b g c h m at r : ℕ} {old new : List ℕ} → b ≡ g → c ≡ h → Puts m (b ∷ c ∷ []) at old r new → Puts m (g ∷ h ∷ []) at old r new
put_both {g = g} {c = c} {m = m} {at = at} {r = r} {old = old} {new = new} e f p =
    subst (λ (y : ℕ). Puts m (g ∷ y ∷ []) at old r new) f (subst (λ (x : ℕ). Puts m (x ∷ c ∷ []) at old r new) e p)

-- ── the whole text, or nothing ──
pub write_short : (t old : List ℕ) → length old < length t → Written t old (negsuc 4) old
write_short t old h =
    let e : leb (length t) (length old) ≡ false = lt-leb (length t) (length old) h in
    record { answer = simp e; contents = simp e }

pub write_whole : (m : ℕ) (t old : List ℕ) (r : ℕ) (new : List ℕ) → m < 2 ^ 62 → length t ≤ length old → Puts m t 0 old r new → Written t old (to_z w64 r) new
write_whole m t old r new k h p =
    let e : leb (length t) (length old) ≡ true = le-leb (length t) (length old) h in
    let z : 0 + length t ≡ length t = omega arith in
    record {
      answer = simp e (to_z_pos w64 (omega (arith, p.few)) ∙ ap pos (p.next ∙ z));
      contents = simp e (p.wrote ∙ sets-eq t old 0 (omega arith) ∙ ap (λ (n : ℕ). t ++ drop n old) z);
    }

pub as_written : {t u old new : List ℕ} {r q : ℤ} → t ≡ u → r ≡ q → Written t old r new → Written u old q new
as_written {t} {u} {old} {new} {r} {q} e h w = subst (λ (l : List ℕ). Written l old q new) e (subst (λ (z : ℤ). Written t old z new) h w)
