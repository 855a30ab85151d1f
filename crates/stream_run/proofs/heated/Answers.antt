-- TEMP whose counts are judged: by the mode, what its definition says.
use Rattle.std.proofs.Common.{ap, sym, take, ◌∙◌}
use Rattle.events.specs.Setup.{groups}
use Rattle.chip.proofs.Calm.{settles}
use Rattle.chip.specs.Chip.{numbered, normally}
use borrow.Author.Tests.{not-true, not-false}
use Rattle.events.specs.Event.{Temp}
use Rattle.chip.proofs.Modes.{in_normal}
use Rattle.stream_run.proofs.Steps.{in_sleep}
use Rattle.stream_run.proofs.heated.Goals as goal

pub returns-then-not-chip : goal.returns-then-not-chip
returns-then-not-chip c = in_sleep (Temp _) c.args.chip (not-true _ c.if-not-chip.true) c.refused.ensures

pub returns : goal.returns
returns c = let e = Temp (take (groups c.args.chip.setup) c.args.counts) in
    in_normal e c.args.chip (not-false _ c.if-not-chip.false) (c.done.ensures ∙ ap (numbered 0) c.warmed.ensures ∙ sym (settles (normally e c.args.chip) c.requires))
