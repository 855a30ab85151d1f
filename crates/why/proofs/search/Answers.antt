-- One record a turn.
use Rattle.std.proofs.Common.{arith}
use Rattle.why.proofs.Cases.{search_good, search_next}
use Rattle.why.proofs.search.Goals as goal

pub advance-next-requires : goal.advance-next-requires
advance-next-requires c = search_good c.args.s.now c.args.bit c.args.least c.loop-n.n c.loop-n.found c.loop-n.invariant.0 c.requires

pub loop-n-preserved : goal.loop-n-preserved
loop-n-preserved c = (search_next c.args.s.now c.args.bit c.args.least c.loop-n.n c.loop-n.found c.loop-n.invariant.0 c.advance-next.ensures c.searched_on-found.ensures, omega (arith, c.loop-n-test.true))
