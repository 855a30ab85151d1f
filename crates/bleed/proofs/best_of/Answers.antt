-- Each turn looks at one byte more.
use Rattle.std.proofs.Common.{ap, arith, ◌∙◌, ◌≡◌}
use Rattle.bleed.specs.Choice.{best_below, best_in}
use Rattle.bleed.proofs.best_of.Goals as goal

pub returns : goal.returns
unfolding best_in
returns c = let e : c.loop-byte.byte ≡ 32 = omega arith in
    c.loop-byte.invariant ∙ ap (best_below c.args.group 0) e
