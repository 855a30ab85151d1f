-- A bus event: by the mode, what its definition says.
use Rattle.std.proofs.Common.{refl}
use Rattle.chip.proofs.Modes.{in_normal, in_sleep}
use Rattle.chip.proofs.Judged.{bus_done}
use borrow.Author.Tests.{not-true, not-false}
use Rattle.events.specs.Event.{OnBus}
use Rattle.chip.specs.Answer.{as_heard}
use Rattle.chip.proofs.Chip.on_bus.Goals as goal

pub returns-then-not-self : goal.returns-then-not-self
returns-then-not-self c = in_sleep (OnBus _) c.args.self (not-true _ c.if-not-self.true) c.doze.ensures

pub returns : goal.returns
returns c = in_normal (OnBus _) c.args.self (not-false _ c.if-not-self.false) (bus_done c.args.event c.args.self (as_heard c.heard-heard.result) c.landed.result c.heard-heard.ensures c.landed.ensures refl)
