-- `refusal_at` looks at the part, and then asks the checks.
use Rattle.std.proofs.Common.{ap, sym, ◌∙◌}
use Rattle.events.specs.declared.Setup.{Setup}
use Rattle.events.specs.Event.{meant_of}
use Rattle.ranges.specs.Refusal.{refused, refused_is, refused_number}
use Rattle.writer.specs.CheckedLaws.{refusal_at}
use Rattle.writer.proofs.refusal_at.Goals as goal

pub returns : goal.returns
unfolding refusal_at
returns c =
    simp (sym c.part_fits.ensures ∙ c.if-not-part_fits.false)
    (ap refused_number (c.refusal.ensures ∙ ap (λ (u : Setup). refused (meant_of u c.args.event c.args.counts)) c.standing_at.ensures)
    ∙ refused_is _)
