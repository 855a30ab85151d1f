-- Each turn looks at one byte more.
use Rattle.std.proofs.Common.{◌≡◌}
use Rattle.bleed.specs.Choice.{best_below}
use Rattle.bleed.proofs.best_of.Given as goal

abbrev pub invariant-loop-byte : goal.invariant-loop-byte
invariant-loop-byte l = l.best ≡ best_below l.group 0 l.byte
