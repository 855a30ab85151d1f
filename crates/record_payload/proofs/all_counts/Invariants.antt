-- `all_counts` looks at each value; the loop keeps what is left to look at.
use Rattle.std.proofs.Common.{drop, map, ◌≡◌}
use Rattle.record_numbers.specs.Values.{nat_of}
use Rattle.bits.specs.Numbers.{within}
use Rattle.events.specs.Event.{count_most}
use Rattle.record_payload.proofs.all_counts.Given as goal

abbrev pub invariant-loop-v : goal.invariant-loop-v
invariant-loop-v l = within count_most (map nat_of (drop l.v-index l.values)) ≡ within count_most (map nat_of l.values)
