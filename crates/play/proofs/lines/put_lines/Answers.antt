-- A line a turn, by the laws of Walking.
use Rattle.std.proofs.Common.{arith, refl}
use Rattle.turn.specs.TurnedLaws.{as_turn}
use Rattle.play.proofs.Walking.{walk_none, walk_end, walk_last, walk_place, walk_more}
use Rattle.play.proofs.lines.put_lines.Goals as goal

pub loop-place-init : goal.loop-place-init
loop-place-init c = walk_none c.args.input.now c.args.out.now c.no_chip-chip.ensures

pub returns-then-turned : goal.returns-then-turned
returns-then-turned c = walk_last c.args.input.now c.args.out.now c.loop-place.out c.loop-place.fresh c.loop-place.chip c.loop-place.place c.loop-place.at c.loop-place.i c.requires c.loop-place.invariant c.loop-place-test.true (as_turn c.turn-turned.result) c.turn-turned.ensures
    c.turn-turned.result.entry refl c.put_line-at.result c.put_line-at.new.out c.put_line-at.ensures c.if-turned.true

pub overflow_add-place : goal.overflow_add-place
overflow_add-place c = omega (
  arith,
  c.well_formed,
  walk_place c.args.input.now c.args.out.now c.loop-place.out c.loop-place.fresh c.loop-place.chip c.loop-place.place c.loop-place.at c.loop-place.i c.requires c.loop-place.invariant c.loop-place-test.true (as_turn c.turn-turned.result) c.turn-turned.ensures
      c.turn-turned.result.entry refl c.put_line-at.result c.put_line-at.new.out c.put_line-at.ensures c.if-turned.false,
)

pub loop-place-smaller : goal.loop-place-smaller
loop-place-smaller c = omega (
  arith,
  c.loop-place-test.true,
  walk_place c.args.input.now c.args.out.now c.loop-place.out c.loop-place.fresh c.loop-place.chip c.loop-place.place c.loop-place.at c.loop-place.i c.requires c.loop-place.invariant c.loop-place-test.true (as_turn c.turn-turned.result) c.turn-turned.ensures
      c.turn-turned.result.entry refl c.put_line-at.result c.put_line-at.new.out c.put_line-at.ensures c.if-turned.false,
)

pub loop-place-preserved : goal.loop-place-preserved
loop-place-preserved c = walk_more c.args.input.now c.args.out.now c.loop-place.out c.loop-place.fresh c.loop-place.chip c.loop-place.place c.loop-place.at c.loop-place.i c.requires c.loop-place.invariant c.loop-place-test.true (as_turn c.turn-turned.result) c.turn-turned.ensures
    c.turn-turned.result.entry refl c.put_line-at.result c.put_line-at.new.out c.put_line-at.ensures c.if-turned.false

pub returns : goal.returns
returns c = walk_end c.args.input.now c.args.out.now c.loop-place.out c.loop-place.fresh c.loop-place.chip c.loop-place.place c.loop-place.at c.loop-place.i c.requires c.loop-place.invariant c.loop-place-test.false
