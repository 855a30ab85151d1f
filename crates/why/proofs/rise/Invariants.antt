-- One record a turn.
use Rattle.std.proofs.Common.{◌-◌, ◌≡◌, ◌≤◌}
use Rattle.why.specs.Rise.{risen}
use Rattle.why.proofs.rise.Given as goal

abbrev pub invariant-loop-n : goal.invariant-loop-n
invariant-loop-n l = (l.found ≡ risen l.s l.bit l.drive l.n) × (l.n ≤ l.many)

abbrev pub decreases-loop-n : goal.decreases-loop-n
decreases-loop-n l = l.many - l.n
