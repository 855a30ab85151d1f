-- `above` looks at the inputs from the last down, and its bits are few (Linked).
use Rattle.std.proofs.Common.{◌+◌, ◌-◌, ◌≡◌, ◌≤◌}
use Rattle.wiring.specs.Rows.{bits}
use Rattle.wiring.specs.Linked.{above_floor}
use Rattle.wiring.proofs.above.Given as goal

abbrev pub invariant-loop-i : goal.invariant-loop-i
invariant-loop-i l = (l.i ≤ l.inputs) × (l.mask ≡ bits (above_floor l.floor l.cells) (l.i + 1) (l.inputs - l.i)) × (l.inputs ≤ 15)

abbrev pub decreases-loop-i : goal.decreases-loop-i
decreases-loop-i l = l.i
