-- Whether they are good, then the chip.
use Rattle.std.proofs.Common.{ap, not}
use Rattle.chip_bytes_layout.proofs.Bytes.{up, down}
use Rattle.chip_bytes.proofs.Tests.{kept_good, kept_bad}
use Rattle.chip_bytes.proofs.decode.Goals as goal

pub returns-then-not-good : goal.returns-then-not-good
returns-then-not-good c = kept_bad c.args.bytes.now c.good.ensures (down c.good.result (ap not c.if-not-good.true))

pub returns : goal.returns
returns c = kept_good c.args.bytes.now c.good.ensures (up c.good.result (ap not c.if-not-good.false)) c.chip_of.ensures c.fresh_of.ensures
