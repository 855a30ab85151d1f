-- The loop that counts frames: what it has counted and what is left make the count. Assumes nothing.
use mathlib.Core.Path.{◌≡◌, refl, ap, sym, ◌∙◌}
use mathlib.Core.Bool.{Bool, true, false, cond}
use mathlib.Core.List.{List, [], ◌∷◌}
use Prim.Native.Nat.{ℕ, zero, suc, ◌+◌, ◌-◌, ◌*◌, ◌<◌, ◌≤◌}
use native.Mathlib.Omega.{arith}
use native.Mathlib.Nat.{zero-add, not-suc-le-zero}
use lib.Dec.{eqb}
use lib.ListN.{length, drop, length-drop}
use borrow.Author.Tests.{eqb-false, ne_eqb}
use Rattle.records.specs.declared.Read.{Read}
use Rattle.records.specs.declared.Read.TheVariants.{Record, Refused, Cut}
use Rattle.std.specs.Prelude.{Some, None}
use Rattle.records.specs.Frame.{frame_of, size_of}
use Rattle.records.specs.FramingLaws.{first_refused}
use Rattle.records.specs.Record.{read_of, number_of}
use Rattle.turn.specs.Frames.{frames, frames_after, frames_of}
use Rattle.turn.specs.CountedLaws.{Framed, framed, frame_place}

pub record Counting (s rest : List ℕ) (n : ℕ) : Type 0 where
  pub whole : frames (length s) s ≡ n + frames (length s - n) rest
  pub slow : 4 * n + length rest ≤ length s

pub count_none : (s : List ℕ) → length s ≡ 0 → 0 ≡ frames_of s
unfolding frames_of
count_none [] h = refl
count_none (b ∷ s) h = absurd (omega (arith, h))

-- the first record
after_first : (s : List ℕ) → (length s ≡ 0 → ⊥) → frames_of s ≡ frames_after s (read_of 0 s)
unfolding frames_of
after_first [] h = absurd (h refl)
after_first (b ∷ s) h = refl

-- good, it is a record as any other
pub count_good : (s : List ℕ) (k : ℕ) → (length s ≡ 0 → ⊥) → k ≡ number_of (read_of 0 s) → k ≡ 0 → frames (length s) s ≡ frames_of s
count_good [] k h q z = absurd (h refl)
count_good (b ∷ s) k h q z = by (read_of 0 (b ∷ s)) refl (framed 0 (b ∷ s)) ∙ sym (after_first (b ∷ s) h)
  where
    by : (x : Read) → read_of 0 (b ∷ s) ≡ x → Framed (b ∷ s) x → frames (length (b ∷ s)) (b ∷ s) ≡ frames_after (b ∷ s) (read_of 0 (b ∷ s))
    by (Record e next) r f =
        let l : length s ≡ length (b ∷ s) - 1 = omega arith in
        ap (λ (m : ℕ). suc (cond (eqb m 0) 0 (frames (length s) (drop m (b ∷ s))))) f.0
        ∙ ap (λ (t : Bool). suc (cond t 0 (frames (length s) (drop next (b ∷ s))))) (ne_eqb next 0 (λ y. omega (arith, y, f.1)))
        ∙ ap (λ (m : ℕ). suc (frames m (drop next (b ∷ s)))) l
        ∙ sym (ap (frames_after (b ∷ s)) r)
    by (Refused j next) r f = absurd (first_refused (b ∷ s) j next r (sym (q ∙ ap number_of r) ∙ z))
    by Cut r f = let y : k ≡ 9 = q ∙ ap number_of r in absurd (omega (arith, y, z))

pub count_only : (s : List ℕ) (k : ℕ) → (length s ≡ 0 → ⊥) → k ≡ number_of (read_of 0 s) → (k ≡ 0 → ⊥) → 1 ≡ frames_of s
count_only s k h q z = sym (after_first s h ∙ by (read_of 0 s) (λ (e : number_of (read_of 0 s) ≡ 0). z (q ∙ e)))
  where
    by : (x : Read) → (number_of x ≡ 0 → ⊥) → frames_after s x ≡ 1
    by (Record e n) k = absurd (k refl)
    by (Refused e n) k = refl
    by Cut k = refl

frames-nil : (f : ℕ) → frames f [] ≡ 0
frames-nil zero = refl
frames-nil (suc f) = refl

frames_cons : (f : ℕ) (l : List ℕ) → 0 < length l → frames (suc f) l ≡ suc (cond (eqb (frame_of l) 0) 0 (frames f (drop (frame_of l) l)))
frames_cons f [] h = absurd (not-suc-le-zero h)
frames_cons f (b ∷ l) h = refl

-- a size is no 0
no_size : (n : ℕ) → size_of n ≡ None → eqb n 0 ≡ true
no_size n e = by (eqb n 0) e
  where
    by : (t : Bool) → cond t None (Some n) ≡ None → t ≡ true
    by true e = refl
    by false e = cc

a_size : (n size : ℕ) → size_of n ≡ Some size → (eqb n 0 ≡ false) × (n ≡ size)
a_size n size e = by (eqb n 0) e
  where
    by : (t : Bool) → cond t None (Some n) ≡ Some size → (t ≡ false) × (n ≡ size)
    by true e = cc
    by false e = (refl, cc)

length-zero : (l : List ℕ) → length l ≡ 0 → l ≡ []
length-zero [] h = refl
length-zero (b ∷ l) h = absurd (omega (arith, h))

pub counting : (s : List ℕ) → Counting s s 0
counting s = let z : length s ≡ length s - 0 = omega arith in record { whole = ap (λ (k : ℕ). frames k s) z ∙ sym (zero-add (frames (length s - 0) s)); slow = omega arith }

module _ (s rest : List ℕ) (n : ℕ) (g : Counting s rest n) where
  pub count_end : length rest ≡ 0 → n ≡ frames (length s) s
  count_end h =
      let e : rest ≡ [] = length-zero rest h in
      let z : frames (length s - n) rest ≡ 0 = ap (frames (length s - n)) e ∙ frames-nil (length s - n) in
      omega (arith, g.whole, z)

  module _ (h : 0 < length rest) where
    step : frames (length s) s ≡ n + suc (cond (eqb (frame_of rest) 0) 0 (frames (length s - (n + 1)) (drop (frame_of rest) rest)))
    step =
        let f : length s - n ≡ suc (length s - (n + 1)) = omega (arith, g.slow) in
        g.whole ∙ ap (λ (m : ℕ). n + m) (ap (λ (k : ℕ). frames k rest) f ∙ frames_cons (length s - (n + 1)) rest h)

    pub count_cut : size_of (frame_of rest) ≡ None → n + 1 ≡ frames (length s) s
    count_cut e = let t : frames (length s) s ≡ n + 1 = step ∙ simp (no_size (frame_of rest) e) in omega (arith, t)

    module _ (size : ℕ) (e : size_of (frame_of rest) ≡ Some size) where
      pub count_place : (4 ≤ size) × (size ≤ length rest)
      count_place =
          let p : (4 ≤ frame_of rest) × (frame_of rest ≤ length rest) = frame_place rest (λ z. eqb-false (frame_of rest) 0 (a_size (frame_of rest) size e).0 z) in
          (omega (arith, (a_size (frame_of rest) size e).1, p.0), omega (arith, (a_size (frame_of rest) size e).1, p.1))

      pub count_more : Counting s (drop size rest) (n + 1)
      count_more =
          let q : frame_of rest ≡ size = (a_size (frame_of rest) size e).1 in
          let t : frames (length s) s ≡ n + suc (frames (length s - (n + 1)) (drop size rest)) =
          step ∙ ap (λ (t : Bool). n + suc (cond t 0 (frames (length s - (n + 1)) (drop (frame_of rest) rest)))) (a_size (frame_of rest) size e).0
          ∙ ap (λ (k : ℕ). n + suc (frames (length s - (n + 1)) (drop k rest))) q in
          let l : length (drop size rest) ≡ length rest - size = length-drop size rest in
          record { whole = omega (arith, t); slow = omega (arith, g.slow, count_place.0, count_place.1, l) }
