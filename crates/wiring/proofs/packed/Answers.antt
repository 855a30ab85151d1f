-- `packed` keeps each number whose bit is set (Packing).
use Rattle.std.proofs.Common.{arith, length, rules, ◌<◌, ◌≡◌}
use Rattle.wiring.proofs.Packing.{taken, passed, same}
use Rattle.wiring.proofs.packed.Goals as goal
use Rattle.wiring.proofs.packed.Goals.{else-rest-eq1, then-rest-eq1}

pub loop-x-preserved : goal.loop-x-preserved
loop-x-preserved c = let xs = c.args.of in
    let n : length xs ≡ 15 = search rules in
    let h : c.loop-x.x-index < length xs = omega (arith, c.loop-x-test.true, n) in (
      elim c.if-rest-eq1.branch [
        | then-rest-eq1 w ↦ same w.out-is w.many-is (taken c.args.mask xs c.loop-x.rest c.loop-x.out c.loop-x.many c.loop-x.x-index c.loop-x.invariant.0 h c.loop-x-test.true w.if-rest-eq1.true)
        | else-rest-eq1 w ↦ same w.out-is w.many-is (passed c.args.mask xs c.loop-x.rest c.loop-x.out c.loop-x.many c.loop-x.x-index c.loop-x.invariant.0 h c.loop-x-test.true w.if-rest-eq1.false)
      ],
      omega (arith, c.loop-x-test.true),
    )
