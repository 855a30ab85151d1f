-- The walk: what stands at its head, by the laws of Loop.
use Rattle.std.proofs.Common.{length, ◌-◌}
use Rattle.plain_back.proofs.Loop.{Walking}
use Rattle.plain_back.proofs.walk_over.Given as goal

abbrev pub invariant-loop-at : goal.invariant-loop-at
invariant-loop-at l = Walking l.s l.next l.walk l.at

abbrev pub decreases-loop-at : goal.decreases-loop-at
decreases-loop-at l = length l.s - l.at
