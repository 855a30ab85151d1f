-- `values::doubled` meets its contract. Assumes nothing.
use Rattle.std.proofs.Common.{to_z-of_z, w64}
use Rattle.values.proofs.Exact.{exact}
use Rattle.values.proofs.doubled.Goals as goal

pub returns : goal.returns
returns c = exact (to_z-of_z {w = w64} c.ranges.v) c.requires
