-- By the event.
use Rattle.std.proofs.Common.{ap, refl, set, ◌∙◌}
use Rattle.chip_bytes_write.proofs.Stores.{byte_is}
use Rattle.chip_bytes_done.specs.SeldomLaws.{boot_moves, xready_moves, load_moves}
use Rattle.chip_bytes_done.proofs.seldom.put_event.Goals as goal

pub returns-in-Boot : goal.returns-in-Boot
returns-in-Boot c = boot_moves c.args.out.now c.in-Boot.is refl

pub returns-in-Xready : goal.returns-in-Xready
returns-in-Xready c = xready_moves c.args.out.now c.in-Xready.is c.put_xready.ensures

pub returns-in-Load : goal.returns-in-Load
returns-in-Load c = load_moves c.args.out.now c.in-Load.level c.in-Load.is (ap (set c.args.out.now 39) (c.from.ensures ∙ byte_is c.in-Load.level))
