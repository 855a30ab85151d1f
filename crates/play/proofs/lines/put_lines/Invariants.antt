-- A line a turn, by the laws of Walking.
use Rattle.std.proofs.Common.{length, ◌-◌}
use Rattle.play.proofs.Walking.{Walking}
use Rattle.play.proofs.lines.put_lines.Given as goal

abbrev pub invariant-loop-place : goal.invariant-loop-place
invariant-loop-place l = Walking l.input l.initial.out l.out l.fresh l.chip l.place l.at l.i

abbrev pub decreases-loop-place : goal.decreases-loop-place
decreases-loop-place l = length l.input - l.place
