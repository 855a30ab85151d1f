-- A turn: what was read, and what was done.
use Rattle.std.proofs.Common.{arith, length, ap, sym, ℕ, ◌∙◌, ◌≡◌, ◌≤◌, Bool, false}
use Rattle.events.specs.declared.Event.{Event}
use Rattle.records.specs.declared.Read.TheVariants.{Record}
use Rattle.records.specs.ReadingLaws.{WholeAt, read_whole}
use Rattle.chip.specs.Answer.{as_step}
use Rattle.turn.specs.Turn.{turn}
use Rattle.turn.proofs.Cases.{cut_short, refused, done}
use Rattle.turn.proofs.turn.Goals as goal
use Rattle.turn.proofs.turn.Goals.{After-read_rest}

module _ (r : After-read_rest) where
  inside : (e : Event) (next : ℕ) → r.read_rest.result ≡ Record e next → (4 ≤ next) × (next ≤ length r.args.rest.now)
  inside e next h =
      let w : WholeAt r.args.chip.setup.part r.args.rest.now e next = read_whole r.args.chip.setup.part r.args.rest.now e next (sym r.read_rest.ensures ∙ h) in
      (omega (arith, w.header, w.room, w.ended), omega (arith, w.header, w.room, w.ended))

pub slice_bounds-counts_in-count : goal.slice_bounds-counts_in-count
slice_bounds-counts_in-count c = (inside (goal.at.slice_bounds-counts_in-count c).After-read_rest _ _ c.in-Record.is).0

pub slice_bounds-counts_in-start : goal.slice_bounds-counts_in-start
slice_bounds-counts_in-start c = (inside (goal.at.slice_bounds-counts_in-start c).After-read_rest _ _ c.in-Record.is).0

pub slice_bounds-counts_in-end : goal.slice_bounds-counts_in-end
slice_bounds-counts_in-end c = (inside (goal.at.slice_bounds-counts_in-end c).After-read_rest _ _ c.in-Record.is).1

pub returns-in-Cut : goal.returns-in-Cut
returns-in-Cut c = cut_short c.args.fresh c.args.chip c.args.rest.now c.read_rest.result c.read_rest.ensures c.in-Cut.is c.refused.ensures c.told.ensures

pub returns-in-Refused : goal.returns-in-Refused
returns-in-Refused c = refused c.args.fresh c.args.chip c.args.rest.now c.read_rest.result c.read_rest.ensures _ _ c.in-Refused.is c.refused-in-Refused.ensures c.told-in-Refused.ensures

pub returns-in-Record : goal.returns-in-Record
returns-in-Record c = done c.args.fresh c.args.chip c.args.rest.now c.read_rest.result c.read_rest.ensures _ _ c.in-Record.is c.counts_in-counts.ensures c.act-step.ensures (c.told-in-Record.ensures ∙ ap (λ (t : Bool). turn (as_step c.act-step.result) t c.in-Record.next false) c.stays_fresh.ensures)
