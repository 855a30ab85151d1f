-- By SYS_STAT.
use Rattle.std.proofs.Common.{ap, false, not, refl, true}
use Rattle.chip_bytes_layout.specs.Layout.{status_at}
use Rattle.chip_bytes_layout.proofs.Bytes.{of_first, up, down}
use Rattle.chip_bytes_done.specs.SeldomLaws.{pin_moves}
use Rattle.chip_bytes_done.proofs.seldom.put_pin.Goals as goal

pub returns-then-not-alert : goal.returns-then-not-alert
returns-then-not-alert c = pin_moves c.args.out.now false (of_first status_at c.told-out c.status_at.ensures) c.alert.ensures (down c.alert.result (ap not c.if-not-alert.true)) refl

pub returns-else-not-alert : goal.returns-else-not-alert
returns-else-not-alert c = pin_moves c.args.out.now true (of_first status_at c.told-out c.status_at.ensures) c.alert.ensures (up c.alert.result (ap not c.if-not-alert.false)) refl
