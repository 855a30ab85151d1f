-- The first record's number, by its header and then its payload (FramingLaws).
use Rattle.std.proofs.Common.{arith, length, sym, ◌∙◌, ◌≡◌, ◌≤◌, Some}
use Rattle.records.specs.Frame.{header_of}
use Rattle.records.specs.FramingLaws.{first_short, first_other, first_setup, framed_place}
use Rattle.records.proofs.first.Goals as goal
use Rattle.records.proofs.first.Goals.{In-Some}

header : (c : In-Some) → header_of c.args.s.now ≡ Some c.in-Some.field-0
header c = sym c.header_of.ensures ∙ c.in-Some.is

place : (c : In-Some) → (4 ≤ c.in-Some.field-0.next) × (c.in-Some.field-0.next ≤ length c.args.s.now)
place c = framed_place c.args.s.now c.in-Some.field-0 (header c)

pub returns-in_default : goal.returns-in_default
returns-in_default c = first_short c.args.s.now (sym c.header_of.ensures ∙ c.in_default.is)

pub returns-then-kind-ne-SETUP : goal.returns-then-kind-ne-SETUP
returns-then-kind-ne-SETUP c = first_other c.args.s.now c.in-Some.field-0 (header (goal.at.returns-then-kind-ne-SETUP c).In-Some) c.if-kind-ne-SETUP.true

pub slice_bounds-setup_in-count : goal.slice_bounds-setup_in-count
slice_bounds-setup_in-count c = (place (goal.at.slice_bounds-setup_in-count c).In-Some).0

pub slice_bounds-setup_in-start : goal.slice_bounds-setup_in-start
slice_bounds-setup_in-start c = omega (arith, place (goal.at.slice_bounds-setup_in-start c).In-Some)

pub slice_bounds-setup_in-end : goal.slice_bounds-setup_in-end
slice_bounds-setup_in-end c = omega (arith, place (goal.at.slice_bounds-setup_in-end c).In-Some)

pub returns : goal.returns
returns c = first_setup c.args.s.now c.in-Some.field-0 c.setup_in.result (header (goal.at.returns c).In-Some) c.if-kind-ne-SETUP.false c.setup_in.ensures
