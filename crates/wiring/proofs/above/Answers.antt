-- `above` looks at the inputs from the last down, and its bits are few (Linked).
use Rattle.std.proofs.Common.{Bool, true, false, arith, get_or, leb, ◌+◌, ◌-◌, ◌≤◌}
use mir.Val.{bool_byte}
use Rattle.wiring.specs.Linked.{above_floor}
use Rattle.wiring.proofs.LinkedLaws.{few_bits}
use Rattle.wiring.proofs.above.Goals as goal
use Rattle.wiring.proofs.above.Goals.{At-loop-i}

one_most : (t : Bool) → bool_byte t ≤ 1
one_most true = omega arith
one_most false = omega arith

-- the bits so far are few
module _ (c : At-loop-i) where
  few : c.loop-i.mask ≤ 32767
  few =
      omega (arith, c.loop-i.invariant.1, few_bits (above_floor c.args.floor c.args.cells) (c.loop-i.i + 1) (c.args.inputs - c.loop-i.i) (omega (arith, c.loop-i.invariant.2)))

pub overflow_mul-mask : goal.overflow_mul-mask
overflow_mul-mask c = omega (arith, few (goal.at.overflow_mul-mask c).At-loop-i)

pub overflow_add-mask : goal.overflow_add-mask
overflow_add-mask c = omega (arith, few (goal.at.overflow_add-mask c).At-loop-i, c.from.ensures, one_most (leb c.args.floor (get_or c.args.cells (c.loop-i.i - 1) 0)))
