-- `packed` keeps each number whose bit is set (Packing).
use Rattle.std.proofs.Common.{◌≤◌}
use Rattle.wiring.proofs.Packing.{Packing}
use Rattle.wiring.proofs.packed.Given as goal

abbrev pub invariant-loop-x : goal.invariant-loop-x
invariant-loop-x l = Packing l.mask l.fn.of l.rest l.out l.many l.x-index × (l.x-index ≤ 15)
