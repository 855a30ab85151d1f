-- `judge` is the number of what all the words leave, which is the list's (Numbering).
use Rattle.std.proofs.Common.{ap, ◌∙◌}
use Rattle.i2c_lists.proofs.NumberingLaws.{number_is}
use Rattle.i2c_lists.specs.Judging.{number_in}
use Rattle.i2c_lists.proofs.judge.Goals as goal

pub returns : goal.returns
returns c = c.verdict.ensures ∙ ap number_in c.judge_all.ensures ∙ number_is c.args.line.now c.args.room
