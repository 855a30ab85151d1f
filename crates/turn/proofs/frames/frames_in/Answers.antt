-- How many records bytes have: the loop over frames, by the laws of Counting.
use Rattle.std.proofs.Common.{subst, sym, arith, List, ℕ, ◌+◌, ◌∙◌, ◌<◌, length}
use borrow.Author.Tests.{eqb-false}
use Rattle.turn.proofs.Runs.{rest_is}
use Rattle.turn.proofs.Counting.{Counting, count_place, count_more}
use Rattle.turn.proofs.frames.frames_in.Goals as goal

pub slice_bounds-rest-count : goal.slice_bounds-rest-count
slice_bounds-rest-count c =
    let z = eqb-false (length c.loop-rest.rest.now) 0 (sym c.is_empty.ensures ∙ c.loop-rest-test.true) in
    let h : 0 < length c.loop-rest.rest.now = omega (arith, z) in
    (count_place c.args.s.now c.loop-rest.rest.now c.loop-rest.n c.loop-rest.invariant h _ (sym c.frame.ensures ∙ c.in-Some.is)).1

pub slice_bounds-rest-start : goal.slice_bounds-rest-start
slice_bounds-rest-start c =
    let z = eqb-false (length c.loop-rest.rest.now) 0 (sym c.is_empty.ensures ∙ c.loop-rest-test.true) in
    let h : 0 < length c.loop-rest.rest.now = omega (arith, z) in
    (count_place c.args.s.now c.loop-rest.rest.now c.loop-rest.n c.loop-rest.invariant h _ (sym c.frame.ensures ∙ c.in-Some.is)).1

pub loop-rest-preserved : goal.loop-rest-preserved
loop-rest-preserved c =
    let z = eqb-false (length c.loop-rest.rest.now) 0 (sym c.is_empty.ensures ∙ c.loop-rest-test.true) in
    let h : 0 < length c.loop-rest.rest.now = omega (arith, z) in
    subst (λ (r : List ℕ). Counting c.args.s.now r (c.loop-rest.n + 1)) (sym (rest_is c.loop-rest.rest.now c.in-Some.size))
    (count_more c.args.s.now c.loop-rest.rest.now c.loop-rest.n c.loop-rest.invariant h _ (sym c.frame.ensures ∙ c.in-Some.is))
