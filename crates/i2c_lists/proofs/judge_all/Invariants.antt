-- `judge_all`: what the words from a place on leave is what all of them leave (Steps).
use Rattle.std.proofs.Common.{length, ◌+◌, ◌-◌, ◌≡◌, ◌≤◌}
use Rattle.i2c_lists.specs.Judging.{judged_all, fresh}
use Rattle.i2c_lists.specs.Reader.{words_at}
use Rattle.i2c_lists.proofs.judge_all.Given as goal

abbrev pub invariant-loop-at : goal.invariant-loop-at
invariant-loop-at l = (l.at ≤ length l.line + 1) × (judged_all (words_at l.line l.at) l.j ≡ judged_all (words_at l.line 0) (fresh l.room))

abbrev pub decreases-loop-at : goal.decreases-loop-at
decreases-loop-at l = length l.line + 1 - l.at
