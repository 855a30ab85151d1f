-- `all_counts` is `within count_most` of the payload's numbers: what is left to look at answers as the whole does.
use Rattle.std.proofs.Common.{drop, ◌*◌, ◌≡◌}
use Rattle.bits.specs.Numbers.{within, words}
use Rattle.events.specs.Event.{count_most}
use Rattle.records.proofs.all_counts.Given as goal

abbrev pub invariant-loop-i : goal.invariant-loop-i
invariant-loop-i l = within count_most (words (drop (2 * l.i) l.b)) ≡ within count_most (words l.b)
