-- One record a turn.
use Rattle.std.proofs.Common.{◌-◌, ◌≡◌, ◌≤◌}
use Rattle.why.specs.Rise.{searched}
use Rattle.why.proofs.search.Given as goal

abbrev pub invariant-loop-n : goal.invariant-loop-n
invariant-loop-n l = (l.found ≡ searched l.s l.bit l.least l.n) × (l.n ≤ l.many)

abbrev pub decreases-loop-n : goal.decreases-loop-n
decreases-loop-n l = l.many - l.n
