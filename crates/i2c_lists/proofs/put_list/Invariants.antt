-- `put_list` puts a word's events a turn, and STOP at the end (Listing).
use Rattle.std.proofs.Common.{length, ◌+◌, ◌-◌}
use Rattle.i2c_lists.proofs.Listing.{Listing}
use Rattle.i2c_lists.proofs.put_list.Given as goal

abbrev pub invariant-loop-at : goal.invariant-loop-at
invariant-loop-at l = Listing l.line l.initial.out l.out l.next l.at

abbrev pub decreases-loop-at : goal.decreases-loop-at
decreases-loop-at l = length l.line + 1 - l.at
