-- What 96 bytes hold is bytes.
use Rattle.std.proofs.Common.{refl, rules}
use Rattle.chip_bytes_layout.proofs.Bytes.{bytes_all}
use Rattle.chip_bytes_layout.proofs.awake_at.Goals as goal

pub returns : goal.returns
returns c = (refl, bytes_all c.args.b.now (λ i. search rules))
