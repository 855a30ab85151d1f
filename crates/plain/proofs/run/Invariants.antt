-- The loop, by the laws of Loop.
use Rattle.std.proofs.Common.{length, ◌-◌}
use Rattle.plain.proofs.Loop.{Playing}
use Rattle.plain.proofs.run.Given as goal

abbrev pub invariant-loop-at : goal.invariant-loop-at
invariant-loop-at l = Playing l.s l.initial.out l.out l.fresh l.chip l.at l.n

abbrev pub decreases-loop-at : goal.decreases-loop-at
decreases-loop-at l = length l.s - l.at
