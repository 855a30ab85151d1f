-- A record passed: its turn, what it says, and the place after it.
use Rattle.std.proofs.Common.{arith}
use Rattle.why_walk.proofs.Cases.{next_fits, advanced_is}
use Rattle.why_walk.proofs.advance.Goals as goal
use Rattle.why_walk.proofs.advance.Goals.{then-turned, else-turned}

pub overflow_add-result : goal.overflow_add-result
overflow_add-result c = omega (arith, c.well_formed, next_fits c.args.s.now c.args.from.at c.args.from.fresh c.args.from.chip c.turn-turned.result c.requires.0 c.turn-turned.ensures)

pub returns : goal.returns
returns c = advanced_is c.args.s.now c.args.bit c.args.from c.turn-turned.result c.said_by-said.ensures c.turn-turned.ensures c.streak_after.ensures
    (elim c.if-turned.branch [
      | then-turned w ↦ simp w.if-turned.true w.result-is
      | else-turned w ↦ simp w.if-turned.false w.result-is
    ])
