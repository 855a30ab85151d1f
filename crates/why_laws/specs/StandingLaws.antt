-- CHIP P17, P18: the walk of why_walk is the stream. Before record n it stands where the entries from n on are still to come, and after it
-- it shows the SYS_STAT and the pins of entry n. Assumes nothing.
use Rattle.std.specs.Prelude.{◌≡◌, refl, Bool, true, false, cond, List, [], ◌∷◌, ℕ, zero, suc, ◌+◌, ◌<◌, length, drop, get_or}
use Rattle.std.proofs.Common.{sym, ap, ◌∙◌, arith, drop-drop}
use Rattle.std.proofs.Math.Seq.{drop-length}
use Rattle.chip.specs.declared.Chip.{Chip}
use Rattle.turn.specs.declared.Entry.{Entry}
use Rattle.turn.specs.Turn.{Turn, turn_of}
use Rattle.turn.specs.Entries.{runs, entries}
use Rattle.demands.proofs.BytesLaws.{no_entry}
use Rattle.why_walk.specs.declared.Standing.{Standing}
use Rattle.why_walk.specs.Standing.{advanced, standing_at}

runs_none : (f : ℕ) (o : Bool) (c : Chip) → runs f o c [] ≡ []
runs_none zero o c = refl
runs_none (suc f) o c = refl

drop_more : (es : List Entry) (n : ℕ) → n < length es → drop n es ≡ get_or es n no_entry ∷ drop (suc n) es
drop_more [] n h = absurd (omega (arith, h))
drop_more (e ∷ es) zero h = refl
drop_more (e ∷ es) (suc n) h = drop_more es n (omega (arith, h))

-- ── one record ──
-- the entries that are still to come from where the stream stands, with so much fuel
abbrev to_come : ℕ → List ℕ → Standing → List Entry
to_come f s g = runs f g.fresh g.chip (drop g.at s)

record Step (s : List ℕ) (b : ℕ) (g : Standing) (e : Entry) (es : List Entry) : Type 0 where
  gave : (turn_of g.fresh g.chip (drop g.at s)).entry ≡ e
  fuel : ℕ
  left : to_come fuel s (advanced s b g) ≡ es

left_by : (l : Bool) (f : ℕ) (o : Bool) (c : Chip) (s : List ℕ) (at next : ℕ) (es : List Entry)
    → cond l [] (runs f o c (drop next (drop at s))) ≡ es → runs f o c (drop (cond l (length s) (at + next)) s) ≡ es
left_by true f o c s at next es h = ap (runs f o c) (drop-length s) ∙ runs_none f o c ∙ h
left_by false f o c s at next es h = ap (runs f o c) (sym (drop-drop next at s)) ∙ h

heads : (x y : Entry) (xs ys : List Entry) → ◌≡◌ {A = List Entry} (x ∷ xs) (y ∷ ys) → (x ≡ y) × (xs ≡ ys)
heads x y xs ys h = (cc, cc)

none_some : (e : Entry) (es : List Entry) → ◌≡◌ {A = List Entry} [] (e ∷ es) → ⊥
none_some e es h = omega (arith, ap length h)

step_by : (s : List ℕ) (b : ℕ) (g : Standing) (f : ℕ) (r : List ℕ) (e : Entry) (es : List Entry) → drop g.at s ≡ r
    → runs f g.fresh g.chip r ≡ e ∷ es → Step s b g e es
unfolding advanced
step_by s b g zero r e es q h = absurd (none_some e es h)
step_by s b g (suc f) [] e es q h = absurd (none_some e es h)
step_by s b g (suc f) (x ∷ r) e es q h =
    let t : Turn = turn_of g.fresh g.chip (x ∷ r) in
    let is : turn_of g.fresh g.chip (drop g.at s) ≡ t = ap (turn_of g.fresh g.chip) q in
    let two = heads t.entry e (cond t.last [] (runs f t.fresh t.chip (drop t.next (x ∷ r)))) es h in
    record {
      gave = ap (λ (u : Turn). u.entry) is ∙ two.0;
      fuel = f;
      left =
          ap (λ (u : Turn). runs f u.fresh u.chip (drop (cond u.last (length s) (g.at + u.next)) s)) is
          ∙ left_by t.last f t.fresh t.chip s g.at t.next es
          (ap (λ (l : List ℕ). cond t.last [] (runs f t.fresh t.chip (drop t.next l))) q ∙ two.1);
    }

-- ── every record ──
record Stood (s : List ℕ) (b n : ℕ) : Type 0 where
  fuel : ℕ
  left : to_come fuel s (standing_at s b n) ≡ drop n (entries s)

next_by : (s : List ℕ) (b n : ℕ) → n < length (entries s) → Stood s b n
    → Step s b (standing_at s b n) (get_or (entries s) n no_entry) (drop (suc n) (entries s))
next_by s b n h g =
    step_by s b (standing_at s b n) g.fuel (drop (standing_at s b n).at s) (get_or (entries s) n no_entry) (drop (suc n) (entries s)) refl
    (g.left ∙ drop_more (entries s) n h)

stood : (s : List ℕ) (b n : ℕ) → n < suc (length (entries s)) → Stood s b n
unfolding entries
stood s b zero h = record { fuel = length s; left = refl }
stood s b (suc n) h =
    let t = next_by s b n (omega (arith, h)) (stood s b n (omega (arith, h))) in record { fuel = t.fuel; left = t.left }

-- THE ENTRIES: what stands after record n shows what entry n shows
pub record Shows (s : List ℕ) (b n : ℕ) : Type 0 where
  pub stat_is : (standing_at s b (suc n)).stat ≡ (get_or (entries s) n no_entry).stat
  pub pins_is : (standing_at s b (suc n)).pins ≡ (get_or (entries s) n no_entry).pins

pub shows : (s : List ℕ) (b n : ℕ) → n < length (entries s) → Shows s b n
unfolding advanced
shows s b n h =
    let t = next_by s b n h (stood s b n (omega (arith, h))) in
    record { stat_is = ap (λ (e : Entry). e.stat) t.gave; pins_is = ap (λ (e : Entry). e.pins) t.gave }
