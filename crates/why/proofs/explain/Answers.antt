-- By the refusals, or the row.
use Rattle.std.proofs.Common.{arith, false, le-ltb, length, lt-ltb, refl, rules, sym, true, ◌∙◌, ◌≡◌, ◌≤◌}
use Rattle.causes.specs.Cause.{known_bit}
use Rattle.why.proofs.Few.{few_short}
use Rattle.why.proofs.Cases.{explained_by, why_as, counted, uncounted, up_is, why_good, row_is, bit_known, never_up}
use Rattle.why.proofs.explain.Goals as goal
use Rattle.why.proofs.explain.Goals.{In-Some}

weight : (c : In-Some) → c.in-Some.weight ≡ known_bit c.args.bit
weight c = bit_known c.args.bit _ (sym c.known_bit.ensures ∙ c.in-Some.is)

pub returns-then-count-number : goal.returns-then-count-number
returns-then-count-number c = explained_by c.args.bytes.now c.args.number c.args.bit c.args.row.now c.args.row.now _ 27
    (why_as c.args.bytes.now c.args.number c.args.bit (length c.args.row.now) false true _ _ (le-ltb _ _ c.if-bytes-gt-STREAM_MOST.false) (counted c.args.bytes.now c.count.ensures c.if-count-number.true) refl refl) refl refl

pub returns-in_default : goal.returns-in_default
returns-in_default c = explained_by c.args.bytes.now c.args.number c.args.bit c.args.row.now c.args.row.now _ 28
    (why_as c.args.bytes.now c.args.number c.args.bit (length c.args.row.now) false false false _ (le-ltb _ _ c.if-bytes-gt-STREAM_MOST.false) (uncounted c.args.bytes.now c.count.ensures c.if-count-number.false)
    (never_up c.args.bytes.now c.args.number c.args.bit (sym c.known_bit.ensures ∙ c.in_default.is)) refl) refl refl

pub rise-found-requires : goal.rise-found-requires
rise-found-requires c = few_short c.args.bytes.now c.in-Some.weight c.if-bytes-gt-STREAM_MOST.false

pub returns-then-not-bit : goal.returns-then-not-bit
returns-then-not-bit c = explained_by c.args.bytes.now c.args.number c.args.bit c.args.row.now c.args.row.now _ 28
    (why_as c.args.bytes.now c.args.number c.args.bit (length c.args.row.now) false false false _ (le-ltb _ _ c.if-bytes-gt-STREAM_MOST.false) (uncounted c.args.bytes.now c.count.ensures c.if-count-number.false)
    (up_is c.args.bytes.now c.args.number c.args.bit c.in-Some.weight c.rise-found.result c.rise-found.ensures (weight (goal.at.returns-then-not-bit c).In-Some) c.bit.ensures ∙ c.if-not-bit.true) refl) refl refl

pub returns-in_default-first_chunk_mut : goal.returns-in_default-first_chunk_mut
returns-in_default-first_chunk_mut c = explained_by c.args.bytes.now c.args.number c.args.bit c.args.row.now c.args.row.now _ 5
    (why_as c.args.bytes.now c.args.number c.args.bit (length c.args.row.now) false false true true (le-ltb _ _ c.if-bytes-gt-STREAM_MOST.false) (uncounted c.args.bytes.now c.count.ensures c.if-count-number.false)
    (up_is c.args.bytes.now c.args.number c.args.bit c.in-Some.weight c.rise-found.result c.rise-found.ensures (weight (goal.at.returns-in_default-first_chunk_mut c).In-Some) c.bit.ensures ∙ c.if-not-bit.false) (lt-ltb _ _ c.in_default-first_chunk_mut.ensures.cases)) refl refl

pub why_of-requires : goal.why_of-requires
why_of-requires c = let m : c.count.result ≤ 18446744073709551615 = search rules in
    why_good c.args.bytes.now c.args.number c.args.bit c.in-Some.weight c.rise-found.result c.rise-found.ensures (weight (goal.at.why_of-requires c).In-Some) c.if-bytes-gt-STREAM_MOST.false
    (omega (arith, m, c.if-count-number.false)) c.bit.ensures c.if-not-bit.false

pub returns : goal.returns
returns c = explained_by c.args.bytes.now c.args.number c.args.bit c.args.row.now _ _ 0
    (why_as c.args.bytes.now c.args.number c.args.bit (length c.args.row.now) false false true false (le-ltb _ _ c.if-bytes-gt-STREAM_MOST.false) (uncounted c.args.bytes.now c.count.ensures c.if-count-number.false)
    (up_is c.args.bytes.now c.args.number c.args.bit c.in-Some.weight c.rise-found.result c.rise-found.ensures (weight (goal.at.returns c).In-Some) c.bit.ensures ∙ c.if-not-bit.false) (le-ltb _ _ c.in-Some-first_chunk_mut.ensures.cases.enough)) refl
    (row_is c.args.bytes.now c.args.number c.args.bit c.in-Some.weight c.rise-found.result c.args.row.now c.rise-found.ensures (weight (goal.at.returns c).In-Some) c.why_of.ensures c.why_row.ensures)
