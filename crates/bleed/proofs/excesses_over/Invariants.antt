-- Each turn puts one input's excess.
use Rattle.std.proofs.Common.{get_or, length, ℕ, ◌<◌, ◌≡◌}
use Rattle.bleed.specs.Excess.{excess_at}
use Rattle.bleed.proofs.excesses_over.Given as goal

abbrev pub invariant-loop-i : goal.invariant-loop-i
invariant-loop-i l = (length l.over ≡ 15) × ((k : ℕ) → k < l.i → get_or l.over k 0 ≡ excess_at l.cells l.linked l.low l.margin k)
