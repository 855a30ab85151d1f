-- The loop, by the laws of Loop.
use Rattle.std.proofs.Common.{arith}
use Rattle.plain.proofs.Loop.{playing_none, playing_end, playing_last, playing_place, playing_more}
use Rattle.plain.proofs.run.Goals as goal

pub loop-at-init : goal.loop-at-init
loop-at-init c = playing_none c.args.s.now c.args.out.now c.no_chip-chip.ensures

pub returns-then-turned : goal.returns-then-turned
returns-then-turned c = playing_last c.args.s.now c.args.out.now c.loop-at.out c.loop-at.fresh c.loop-at.chip c.loop-at.at c.loop-at.n c.loop-at.invariant c.loop-at-test.true c.take_turn-turned.result c.take_turn-turned.ensures c.put.new.out c.put.ensures c.if-turned.true

pub overflow_add-at : goal.overflow_add-at
overflow_add-at c = omega (arith, c.well_formed, playing_place c.args.s.now c.args.out.now c.loop-at.out c.loop-at.fresh c.loop-at.chip c.loop-at.at c.loop-at.n c.loop-at.invariant c.loop-at-test.true c.take_turn-turned.result c.take_turn-turned.ensures c.put.new.out c.put.ensures c.if-turned.false)

pub loop-at-smaller : goal.loop-at-smaller
loop-at-smaller c = omega (arith, c.loop-at-test.true, playing_place c.args.s.now c.args.out.now c.loop-at.out c.loop-at.fresh c.loop-at.chip c.loop-at.at c.loop-at.n c.loop-at.invariant c.loop-at-test.true c.take_turn-turned.result c.take_turn-turned.ensures c.put.new.out c.put.ensures c.if-turned.false)

pub loop-at-preserved : goal.loop-at-preserved
loop-at-preserved c = playing_more c.args.s.now c.args.out.now c.loop-at.out c.loop-at.fresh c.loop-at.chip c.loop-at.at c.loop-at.n c.loop-at.invariant c.loop-at-test.true c.take_turn-turned.result c.take_turn-turned.ensures c.put.new.out c.put.ensures c.if-turned.false

pub returns : goal.returns
returns c = playing_end c.args.s.now c.args.out.now c.loop-at.out c.loop-at.fresh c.loop-at.chip c.loop-at.at c.loop-at.n c.loop-at.invariant c.loop-at-test.false
