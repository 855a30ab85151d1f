-- `put_start` puts two records, one after the other.
use Rattle.std.proofs.Common.{[], ◌∷◌}
use Rattle.events.specs.declared.BusEvent.TheVariants.{Start, Out}
use Rattle.i2c_lists.proofs.Writing.{and_then}
use Rattle.i2c_lists.proofs.put_start.Goals as goal

pub returns : goal.returns
returns c = and_then (Start ∷ []) (Out c.args.byte ∷ []) c.put-next.ensures c.put.ensures
