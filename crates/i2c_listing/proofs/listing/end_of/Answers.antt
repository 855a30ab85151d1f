-- What was passed is no end of a line.
use Rattle.std.proofs.Common.{rules, arith, ap, sym, subst, ◌∙◌, ◌≡◌, ℕ, List, ◌+◌, ◌-◌, ◌<◌, ◌≤◌, get_or, drop, take, length}
use Rattle.std.proofs.lemmas.Iterator.{IsFirst-from_position, YieldsList-from_slice}
use Rattle.std.proofs.lemmas.List.{take_rest, get_or-drop}
use borrow.Author.Tests.{tests}
use Rattle.i2c_listing.proofs.listing.end_of.Goals as goal

-- what stands at a place of what is left
left : (xs : List ℕ) (at k : ℕ) → at ≤ k → get_or (take (length xs - at) (drop at xs)) (k - at) 0 ≡ get_or xs k 0
left xs at k from =
    ap (λ (l : List ℕ). get_or l (k - at) 0) (take_rest xs at) ∙ get_or-drop at xs (k - at) 0
    ∙ ap (λ (i : ℕ). get_or xs i 0) (omega arith)

pub returns-in-Some-clause-passed : goal.returns-in-Some-clause-passed
returns-in-Some-clause-passed c k from below e =
    let rest = take (length c.args.input.now - c.args.at) (drop c.args.at c.args.input.now) in
    let p = IsFirst-from_position _ _ c.position.result (λ x. x ≡ 10) (λ x. x ≡ 10 → ⊥) c.position.ensures.ran
    (YieldsList-from_slice rest c.iter.ensures.rest) (λ x q h. search (rules, tests)) (λ x q h. (search (rules, tests), search (rules, tests))) in
    let w = rw c.in-Some.is at p in
    w.2 (k - c.args.at) 0 (omega arith) (omega arith) (left c.args.input.now c.args.at k from ∙ e)

pub returns-in-None-clause-passed : goal.returns-in-None-clause-passed
returns-in-None-clause-passed c k from below e =
    let rest = take (length c.args.input.now - c.args.at) (drop c.args.at c.args.input.now) in
    let p = IsFirst-from_position _ _ c.position.result (λ x. x ≡ 10) (λ x. x ≡ 10 → ⊥) c.position.ensures.ran
    (YieldsList-from_slice rest c.iter.ensures.rest) (λ x q h. search (rules, tests)) (λ x q h. (search (rules, tests), search (rules, tests))) in
    let w = rw c.in-None.is at p in
    w (k - c.args.at) 0 (omega arith) (omega arith) (left c.args.input.now c.args.at k from ∙ e)
