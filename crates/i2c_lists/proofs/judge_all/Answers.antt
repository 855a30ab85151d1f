-- `judge_all`: what the words from a place on leave is what all of them leave (Steps).
use Rattle.std.proofs.Common.{arith, ◌∙◌}
use Rattle.i2c_lists.proofs.Steps.{turn_within, judge_turn, judge_end}
use Rattle.i2c_lists.proofs.judge_all.Goals as goal

pub slice_bounds-word_of-end : goal.slice_bounds-word_of-end
slice_bounds-word_of-end c = let s = c.args.line.now in let t = turn_within s c.loop-at.at c.end_of-end.result c.loop-at-test.true c.end_of-end.ensures in omega (arith, t.0, t.1)

pub loop-at-preserved : goal.loop-at-preserved
loop-at-preserved c = let s = c.args.line.now in let t = turn_within s c.loop-at.at c.end_of-end.result c.loop-at-test.true c.end_of-end.ensures in (omega (arith, t.1), judge_turn s c.loop-at.at c.end_of-end.result c.loop-at-test.true c.end_of-end.ensures c.loop-at.j c.judge_word-j.result c.word_of.result c.word_of.ensures c.judge_word-j.ensures ∙ c.loop-at.invariant.1)

pub returns : goal.returns
returns c = judge_end c.args.line.now c.loop-at.at c.loop-at.j c.loop-at-test.false ∙ c.loop-at.invariant.1
