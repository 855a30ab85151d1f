-- How many records bytes have: the loop over frames, by the laws of Counting.
use Rattle.std.proofs.Common.{length}
use Rattle.turn.proofs.Counting.{Counting}
use Rattle.turn.proofs.frames.frames_in.Given as goal

abbrev pub invariant-loop-rest : goal.invariant-loop-rest
invariant-loop-rest l = Counting l.s l.rest l.n

abbrev pub decreases-loop-rest : goal.decreases-loop-rest
decreases-loop-rest l = length l.rest
