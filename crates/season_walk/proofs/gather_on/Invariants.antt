-- The loop over a stream, by the laws of Going.
use Rattle.std.proofs.Common.{length, ◌-◌}
use Rattle.season.specs.Columns.{in_columns}
use Rattle.season_walk.proofs.Going.{Going}
use Rattle.season_walk.proofs.gather_on.Given as goal

abbrev pub invariant-loop-at : goal.invariant-loop-at
invariant-loop-at l = Going l.initial.takes l.initial.stands l.s l.takes l.stands (in_columns l.report) l.at

abbrev pub decreases-loop-at : goal.decreases-loop-at
decreases-loop-at l = length l.s - l.at
