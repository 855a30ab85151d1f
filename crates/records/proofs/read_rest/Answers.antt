-- `read_rest` reads the payload by what the header says (FramingLaws).
use Rattle.std.proofs.Common.{ap, arith, length, sym, ◌∙◌, ◌≡◌, ◌≤◌, Some}
use Rattle.records.specs.Frame.{header_of}
use Rattle.records.specs.FramingLaws.{framed_place, framed_reads, short_reads}
use Rattle.records.specs.Record.{as_read}
use Rattle.records.proofs.read_rest.Goals as goal
use Rattle.records.proofs.read_rest.Goals.{In-Some}

header : (c : In-Some) → header_of c.args.rest.now ≡ Some c.in-Some.field-0
header c = sym c.header_of.ensures ∙ c.in-Some.is

place : (c : In-Some) → (4 ≤ c.in-Some.field-0.next) × (c.in-Some.field-0.next ≤ length c.args.rest.now)
place c = framed_place c.args.rest.now c.in-Some.field-0 (header c)

pub returns-in_default : goal.returns-in_default
returns-in_default c = sym (short_reads c.args.part c.args.rest.now (sym c.header_of.ensures ∙ c.in_default.is))

pub slice_bounds-payload_of-count : goal.slice_bounds-payload_of-count
slice_bounds-payload_of-count c = (place c).0

pub slice_bounds-payload_of-start : goal.slice_bounds-payload_of-start
slice_bounds-payload_of-start c = omega (arith, place c)

pub slice_bounds-payload_of-end : goal.slice_bounds-payload_of-end
slice_bounds-payload_of-end c = omega (arith, place c)

pub returns-in-Ok : goal.returns-in-Ok
returns-in-Ok c = ap (as_read _) (sym c.in-Ok.is ∙ c.payload_of.ensures)
    ∙ sym (framed_reads c.args.rest.now c.in-Some.field-0 (header (goal.at.returns-in-Ok c).In-Some) c.args.part)

pub returns-in-Err : goal.returns-in-Err
returns-in-Err c = ap (as_read _) (sym c.in-Err.is ∙ c.payload_of.ensures)
    ∙ sym (framed_reads c.args.rest.now c.in-Some.field-0 (header (goal.at.returns-in-Err c).In-Some) c.args.part)
