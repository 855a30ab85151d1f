-- A tick that the rest begins with, by its header and its payload.
use Rattle.std.proofs.Common.{ap, arith, length, sym, ◌∙◌, ◌≡◌, ◌≤◌, Some}
use Rattle.std.proofs.Common.{of_z, rules, to_z, w32}
use Rattle.events.specs.declared.Event.{Event}
use Rattle.events.specs.declared.Event.TheVariants.{Sense}
use Rattle.records.specs.declared.Read.TheVariants.{Record}
use Rattle.records.specs.Frame.{header_of}
use Rattle.records.specs.FramingLaws.{framed_place, framed_reads}
use Rattle.records.specs.Record.{as_read}
use Rattle.plain_back.proofs.tick_in.Goals as goal
use Rattle.plain_back.proofs.tick_in.Goals.{Else-kind-ne-SENSE}

header : (c : Else-kind-ne-SENSE) → header_of c.args.rest.now ≡ Some c.in_ok-kind.field-0
header c = sym c.header_of.ensures ∙ c.in_ok-kind.was

place : (c : Else-kind-ne-SENSE) → (4 ≤ c.in_ok-kind.field-0.next) × (c.in_ok-kind.field-0.next ≤ length c.args.rest.now)
place c = framed_place c.args.rest.now c.in_ok-kind.field-0 (header c)

pub slice_bounds-payload_of-count : goal.slice_bounds-payload_of-count
slice_bounds-payload_of-count c = (place c).0

pub slice_bounds-payload_of-start : goal.slice_bounds-payload_of-start
slice_bounds-payload_of-start c = omega (arith, place c)

pub slice_bounds-payload_of-end : goal.slice_bounds-payload_of-end
slice_bounds-payload_of-end c = omega (arith, place c)

pub returns-in-Ok-Sense : goal.returns-in-Ok-Sense
returns-in-Ok-Sense c =
    let h = c.in_ok-kind.field-0 in
    let y : to_z w32 (of_z w32 c.in-Ok-Sense.value) ≡ c.in-Ok-Sense.value = search rules in
    framed_reads c.args.rest.now h (header (goal.at.returns-in-Ok-Sense c).Else-kind-ne-SENSE) c.args.setup.part
    ∙ ap (as_read h.next) (sym c.payload_of.ensures ∙ c.in-Ok-Sense.is) ∙ ap (λ (e : Event). Record e h.next) (c.in-Ok-Sense.field-0-is ∙ ap Sense (sym y))
