-- `put_taken` puts a record a turn: the events put and those to come are the read's (Writing).
use Rattle.i2c_lists.specs.Records.{taken}
use Rattle.i2c_lists.proofs.Writing.{Putting}
use Rattle.i2c_lists.proofs.put_taken.Given as goal

abbrev pub invariant-loop-left : goal.invariant-loop-left
invariant-loop-left l = Putting (taken l.n) l.at l.initial.out l.out l.next (taken l.left)

abbrev pub decreases-loop-left : goal.decreases-loop-left
decreases-loop-left l = l.left
