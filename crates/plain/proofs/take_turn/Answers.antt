-- The record that the rest begins with lies within it.
use Rattle.std.proofs.Common.{arith, length, sym, ℕ, ◌∙◌, ◌≡◌, ◌≤◌}
use Rattle.events.specs.declared.Event.{Event}
use Rattle.records.specs.declared.Read.TheVariants.{Record}
use Rattle.records.specs.ReadingLaws.{WholeAt, read_whole}
use Rattle.plain.proofs.take_turn.Goals as goal
use Rattle.plain.proofs.take_turn.Goals.{After-read_rest}

module _ (r : After-read_rest) where
  inside : (e : Event) (next : ℕ) → r.read_rest.result ≡ Record e next → (4 ≤ next) × (next ≤ length r.args.rest.now)
  inside e next h =
      let w : WholeAt r.args.chip.setup.part r.args.rest.now e next = read_whole r.args.chip.setup.part r.args.rest.now e next (sym r.read_rest.ensures ∙ h) in
      (omega (arith, w.header, w.room, w.ended), omega (arith, w.header, w.room, w.ended))

pub slice_bounds-counts_in-count : goal.slice_bounds-counts_in-count
slice_bounds-counts_in-count c = (inside (goal.at.slice_bounds-counts_in-count c).After-read_rest _ _ c.in-Record.is).0

pub slice_bounds-counts_in-start : goal.slice_bounds-counts_in-start
slice_bounds-counts_in-start c = omega (arith, inside (goal.at.slice_bounds-counts_in-start c).After-read_rest _ _ c.in-Record.is)

pub slice_bounds-counts_in-end : goal.slice_bounds-counts_in-end
slice_bounds-counts_in-end c = omega (arith, inside (goal.at.slice_bounds-counts_in-end c).After-read_rest _ _ c.in-Record.is)
