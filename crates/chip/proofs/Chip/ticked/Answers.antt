-- Ticks of one value: by the mode, as many SENSE as there are, the first by itself.
use Rattle.std.proofs.Common.{ap, to_z-of_z, w32, ◌-◌, ◌∙◌}
use borrow.Author.Tests.{not-false}
use Rattle.protection.specs.Repeat.{ticks_judged}
use Rattle.chip.specs.RepeatLaws.{ticked_by}
use Rattle.chip.proofs.Judged.{ticked_done}
use Rattle.chip.proofs.Chip.ticked.Goals as goal

pub returns : goal.returns
returns c = let e = to_z-of_z {w = w32} c.ranges.value in
    ticked_done c.args.repeat c.args.value c.args.self c.judged_by.result c.watched-first.result c.judged_by-2.result (not-false _ c.if-not-self.false) c.if-repeat-eq0.false
    (c.judged_by.ensures ∙ ap (λ v. ticked_by (ticks_judged 1 c.args.self.registers.settings v c.args.self.runs) c.args.self) e)
    c.watched-first.ensures
    (c.judged_by-2.ensures ∙ ap (λ v. ticked_by (ticks_judged (c.args.repeat - 1) c.watched-first.result.registers.settings v c.watched-first.result.runs) c.watched-first.result) e)
    c.done-2.ensures
