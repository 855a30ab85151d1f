-- The cases of the definitions, as the code comes to them.
-- Assumes nothing.
use mathlib.Core.Path.{◌≡◌, ap, sym, ◌∙◌, subst}
use Prim.Native.Nat.{ℕ, ◌+◌, ◌-◌, ◌≤◌}
use mathlib.Core.List.{List}
use native.Mathlib.Omega.{arith}
use lib.ListN.{length, take, drop, length-drop}
use lib.Seq.{take_all}
use borrow.Author.Tests.{le-ltb}
use Rattle.events.specs.declared.Counts.{Counts}
use Rattle.events.specs.declared.Event.{Event}
use Rattle.records.specs.Record.{read_of, no_counts, counts_in, taken_from, taken_at}
use Rattle.records.specs.ReadingLaws.{Placed, placed}
use Rattle.constants.specs.declared.refusal.Refusal.{Refusal}
use Rattle.records.specs.declared.Read.{Read}
use Rattle.records.specs.declared.Taken.{Taken}
use Rattle.records.specs.declared.Read.TheVariants.{Record, Refused}

abbrev pub as_taken : Read → Counts → Taken
as_taken y k = record { read = y; counts = k }

pub at_none : {y : Read} {k : Counts} {t : Taken} → k ≡ no_counts → as_taken y no_counts ≡ t → as_taken y k ≡ t
at_none {y} e p = ap (as_taken y) e ∙ p

-- the part of a list from a place on, as a function that is lent it has it
pub rest_is : (s : List ℕ) (at : ℕ) → take (length s - at) (drop at s) ≡ drop at s
rest_is s at = take_all (length s - at) (drop at s) (simp length-drop (omega arith))

pub within_rest : (s : List ℕ) (at n : ℕ) → n ≤ length s - at → n ≤ length (take (length s - at) (drop at s))
within_rest s at n h = simp (rest_is s at, length-drop) h

-- what was read at a place
module _ (part : ℕ) (s : List ℕ) (at : ℕ) (x : Read) (h : at ≤ length s) (q : x ≡ read_of part (take (length s - at) (drop at s))) where
  rest : x ≡ read_of part (drop at s)
  rest = q ∙ ap (read_of part) (rest_is s at)

  pub taken_is : taken_from at (drop at s) x ≡ taken_at part s at
  unfolding taken_at
  taken_is = simp (le-ltb (length s) at h) (ap (taken_from at (drop at s)) rest)

  at_placed : Placed (length s - at) x
  at_placed =
      let l : length (drop at s) ≡ length s - at = length-drop at s in
      subst (Placed (length s - at)) (sym rest) (subst (λ (n : ℕ). Placed n (read_of part (drop at s))) l (placed part (drop at s)))

  pub record_placed : (e : Event) (next : ℕ) → x ≡ Record e next → (4 ≤ next) × (next ≤ length s - at)
  record_placed e next r = subst (Placed (length s - at)) r at_placed

  pub refused_placed : (k : Refusal) (next : ℕ) → x ≡ Refused k next → (4 ≤ next) × (next ≤ length s - at)
  refused_placed k next r = subst (Placed (length s - at)) r at_placed

  pub record_taken : (e : Event) (next : ℕ) (k : Counts) → x ≡ Record e next
      → k ≡ counts_in e (take (next - 4) (drop 4 (take (length s - at) (drop at s)))) → record { read = Record e (at + next); counts = k } ≡ taken_at part s at
  record_taken e next k r c =
      let m : k ≡ counts_in e (take (next - 4) (drop 4 (drop at s))) = c ∙ ap (λ (l : List ℕ). counts_in e (take (next - 4) (drop 4 l))) (rest_is s at) in
      ap (as_taken (Record e (at + next))) m ∙ ap (taken_from at (drop at s)) (sym r) ∙ taken_is
