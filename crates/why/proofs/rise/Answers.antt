-- One record a turn.
use Rattle.std.proofs.Common.{arith}
use Rattle.why.proofs.Cases.{rise_good, rise_next}
use Rattle.why.proofs.rise.Goals as goal

pub advance-next-requires : goal.advance-next-requires
advance-next-requires c = rise_good c.args.s.now c.args.bit c.args.drive c.loop-n.n c.loop-n.found c.loop-n.invariant.0 c.requires

pub loop-n-preserved : goal.loop-n-preserved
loop-n-preserved c = (rise_next c.args.s.now c.args.bit c.args.drive c.loop-n.n c.loop-n.found c.loop-n.invariant.0 c.advance-next.ensures c.rose_on-found.ensures, omega (arith, c.loop-n-test.true))
