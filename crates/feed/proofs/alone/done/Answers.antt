-- Test by test: the rooms, the header, then what is done.
use Rattle.std.proofs.Common.{arith, length, sym, ◌∙◌, ◌≤◌}
use Rattle.records.specs.FramingLaws.{framed_place}
use Rattle.feed.proofs.Ones.{alone_is}
use Rattle.feed.proofs.alone.done.Goals as goal
use Rattle.feed.proofs.alone.done.Goals.{In-Some}

-- past the header, of one record
module _ (e : In-Some) where
  inside : (4 ≤ e.in-Some.header.next) × (e.in-Some.header.next ≤ length e.args.records.now)
  inside = framed_place e.args.records.now e.in-Some.header (sym e.header_of.ensures ∙ e.in-Some.is)

pub slice_bounds-done_by-count : goal.slice_bounds-done_by-count
slice_bounds-done_by-count c = (inside (goal.at.slice_bounds-done_by-count c).In-Some).0

pub slice_bounds-done_by-start : goal.slice_bounds-done_by-start
slice_bounds-done_by-start c = omega (arith, inside (goal.at.slice_bounds-done_by-start c).In-Some)

pub returns : goal.returns
returns c = alone_is c.args.chip.now c.args.records.now c.args.entries.now c.in-Some.header (sym c.header_of.ensures ∙ c.in-Some.is) (omega arith)
    c.in-Some-done_by.outcome c.if-chip-lt-KEPT_CHIP.false c.if-entries-lt-ENTRY.false c.done_by.ensures c.in-Some-done_by.is c.put_entry.ensures
