-- Each turn looks at one input more.
use Rattle.std.proofs.Common.{◌≡◌}
use Rattle.bleed.specs.Excess.{lowest_below}
use Rattle.bleed.proofs.lowest.Given as goal

abbrev pub invariant-loop-i : goal.invariant-loop-i
invariant-loop-i l = l.low ≡ lowest_below l.fn.cells l.linked l.i
