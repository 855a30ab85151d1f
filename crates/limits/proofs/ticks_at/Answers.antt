-- `ticks_at` meets its contract: 256, or 640 shifted.
use Rattle.std.proofs.Common.{ap, arith, suc, ◌-◌, ◌∙◌, ◌≡◌}
use Rattle.limits.specs.Rule.{ocd_ticks}
use Rattle.limits.specs.TicksLaws.{shift_is}
use Rattle.limits.proofs.ticks_at.Goals as goal

pub returns : goal.returns
returns c = let k = c.args.code in let e : suc (k - 1) ≡ k = omega (arith, c.if-code-eq0.false) in shift_is (k - 1) (omega (arith, c.if-code-eq0.false, c.requires)) ∙ ap ocd_ticks e
