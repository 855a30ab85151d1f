-- `toralinge_values` names the record that was read, or gives the number it is refused with (Told).
use Rattle.std.proofs.Common.{ap, neg_ℤ, pos, arith, length, of_z, rules, subst, sym, to_z, w64, ℕ, ◌∙◌, ◌≡◌, ◌≤◌}
use Rattle.records.specs.ReadingLaws.{Placed, placed}
use Rattle.records.specs.declared.Read.TheVariants.{Record}
use Rattle.events.specs.declared.Event.{Event}
use Rattle.record_c.proofs.Ints.{minus_is}
use Rattle.record_c.proofs.Told.{named_far, named_cut, named_refused, named_read_lem}
use Rattle.record_c.proofs.toralinge_values.Goals as goal
use Rattle.record_c.proofs.toralinge_values.Goals.{After-read_rest}

module _ (r : After-read_rest) where
  inside : (e : Event) (next : ℕ) → r.read_rest.result ≡ Record e next → (4 ≤ next) × (next ≤ length r.args.bytes.now)
  inside e next h = subst (Placed (length r.args.bytes.now)) (sym r.read_rest.ensures ∙ h) (placed r.args.part r.args.bytes.now)

pub returns-then-part-gt-PART_MOST : goal.returns-then-part-gt-PART_MOST
returns-then-part-gt-PART_MOST c = named_far c.args.part c.args.bytes.now c.args.kind.now c.args.values.now c.if-part-gt-PART_MOST.true

pub slice_bounds-counts_in-count : goal.slice_bounds-counts_in-count
slice_bounds-counts_in-count c = (inside (goal.at.slice_bounds-counts_in-count c).After-read_rest _ _ c.in-Record.is).0

pub slice_bounds-counts_in-start : goal.slice_bounds-counts_in-start
slice_bounds-counts_in-start c = omega (arith, inside (goal.at.slice_bounds-counts_in-start c).After-read_rest _ _ c.in-Record.is)

pub slice_bounds-counts_in-end : goal.slice_bounds-counts_in-end
slice_bounds-counts_in-end c = omega (arith, inside (goal.at.slice_bounds-counts_in-end c).After-read_rest _ _ c.in-Record.is)

pub returns-in-Cut : goal.returns-in-Cut
returns-in-Cut c = named_cut c.args.part c.args.bytes.now c.args.kind.now c.args.values.now c.if-part-gt-PART_MOST.false c.read_rest.result c.read_rest.ensures c.in-Cut.is

pub returns-in-Refused : goal.returns-in-Refused
returns-in-Refused c = rw c.from.ensures (named_refused c.args.part c.args.bytes.now c.args.kind.now c.args.values.now c.if-part-gt-PART_MOST.false c.read_rest.result c.read_rest.ensures _ _ c.in-Refused.is _ (minus_is c.number.result (search rules) ∙ ap (λ (n : ℕ). neg_ℤ (pos n)) c.number.ensures))

pub returns-in-Record : goal.returns-in-Record
returns-in-Record c = let e : to_z w64 (of_z w64 c.put_named.result) ≡ c.put_named.result = search rules in
    named_read_lem c.args.part c.args.bytes.now c.args.kind.now c.args.values.now c.if-part-gt-PART_MOST.false c.read_rest.result c.read_rest.ensures _ _ c.in-Record.is _ c.counts_in-counts.ensures _ _ e _ _ c.put_named.ensures
