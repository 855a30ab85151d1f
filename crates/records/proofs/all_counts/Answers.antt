-- `all_counts` is `within count_most` of the payload's numbers: what is left to look at answers as the whole does.
use Rattle.std.proofs.Common.{ap, arith, sym, ◌*◌, ◌+◌, ◌∙◌, ◌≡◌}
use Rattle.bits.specs.Numbers.{within}
use Rattle.events.specs.Event.{count_most}
use Rattle.records.specs.WordsLaws.{words_end, fit_not, fit_next}
use Rattle.records.proofs.all_counts.Goals as goal

pub loop-i-preserved : goal.loop-i-preserved
loop-i-preserved c = let b = c.args.b.now in
    let e : 2 * (c.loop-i.i + 1) ≡ 2 * c.loop-i.i + 2 = omega arith in
    rw e (sym (fit_next b (2 * c.loop-i.i) c.get16.result (omega arith) c.get16.ensures c.if-get16-gt-COUNT_MOST.false) ∙ c.loop-i.invariant)

pub returns-then-get16-gt-COUNT_MOST : goal.returns-then-get16-gt-COUNT_MOST
returns-then-get16-gt-COUNT_MOST c =
    sym (fit_not c.args.b.now (2 * c.loop-i.i) c.get16.result (omega arith) c.get16.ensures c.if-get16-gt-COUNT_MOST.true) ∙ c.loop-i.invariant

pub returns : goal.returns
returns c = sym (ap (within count_most) (words_end c.args.b.now (2 * c.loop-i.i) (omega arith))) ∙ c.loop-i.invariant
