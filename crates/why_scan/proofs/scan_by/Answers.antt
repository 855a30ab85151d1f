-- By the first count that is outside.
use Rattle.std.proofs.Common.{rules, ◌∙◌, take, sym, true, false}
use Rattle.std.proofs.lemmas.Iterator.{IsFirst-from_position, YieldsList-from_slice}
use borrow.Author.Tests.{tests}
use Rattle.why_scan.proofs.Cases.{Tells, small_front, such_counts, scan_found, scan_none}
use Rattle.why_scan.proofs.scan_by.Goals as goal

pub returns-in-Some : goal.returns-in-Some
returns-in-Some g c such is =
    let p = IsFirst-from_position _ _ c.position.result (Tells such true) (Tells such false) c.position.ensures.ran (YieldsList-from_slice (take c.from.result c.args.counts.now) c.iter.ensures.rest)
    (λ x q k h. sym (is x.now true h (search (rules, tests)))) (λ x q k. (search (rules, tests), λ h. sym (is x.now false h (search (rules, tests))))) in
    let w = rw c.in-Some.is at p in
    scan_found c.args.on such (take c.args.inputs c.args.counts.now) (take c.from.result c.args.counts.now) (such_counts _ _ c.args.counts.now (search rules) (c.from.ensures ∙ c.min.ensures)) (small_front c.from.result c.args.counts.now c.fits-counts) c.in-Some.at c.from-in-Some.result w.0 w.1 w.2 c.from-in-Some.ensures

pub returns : goal.returns
returns g c such is =
    let p = IsFirst-from_position _ _ c.position.result (Tells such true) (Tells such false) c.position.ensures.ran (YieldsList-from_slice (take c.from.result c.args.counts.now) c.iter.ensures.rest)
    (λ x q k h. sym (is x.now true h (search (rules, tests)))) (λ x q k. (search (rules, tests), λ h. sym (is x.now false h (search (rules, tests))))) in
    let w = rw c.in-None.is at p in
    simp (c.default.ensures.1.0, c.default.ensures.1.1.0, c.default.ensures.1.1.1.0, c.default.ensures.1.1.1.1) (scan_none c.args.on such (take c.args.inputs c.args.counts.now) (take c.from.result c.args.counts.now) (such_counts _ _ c.args.counts.now (search rules) (c.from.ensures ∙ c.min.ensures)) (small_front c.from.result c.args.counts.now c.fits-counts) w)
