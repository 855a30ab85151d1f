-- `put_taken` puts a record a turn: the events put and those to come are the read's (Writing).
use Rattle.std.proofs.Common.{[], eqb, ◌-◌, ◌∷◌}
use Rattle.i2c_lists.specs.Records.{taken}
use Rattle.events.specs.declared.BusEvent.TheVariants.{In}
use Rattle.i2c_lists.proofs.Writing.{putting_room, putting_more, taken_first}
use Rattle.i2c_lists.proofs.put_taken.Goals as goal

pub put-next-requires : goal.put-next-requires
put-next-requires c = putting_room c.loop-left.invariant c.requires (In (eqb (c.loop-left.left - 1) 0) ∷ []) (taken (c.loop-left.left - 1)) (taken_first c.loop-left.left c.loop-left-test.true)

pub loop-left-preserved : goal.loop-left-preserved
loop-left-preserved c = putting_more c.loop-left.invariant (In (eqb (c.loop-left.left - 1) 0) ∷ []) (taken (c.loop-left.left - 1)) c.put-next.result c.put-next.new.out (taken_first c.loop-left.left c.loop-left-test.true) c.put-next.ensures
