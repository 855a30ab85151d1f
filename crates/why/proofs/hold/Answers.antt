-- By the refusals, or the row.
use Rattle.std.proofs.Common.{false, le-ltb, length, lt-ltb, refl, sym, true, ◌∙◌}
use Rattle.why.proofs.Few.{few_none}
use Rattle.why.proofs.Cases.{held_by_lem, off_as, counted, uncounted, off_is, off_row_is, drive_known, drive_none}
use Rattle.why.proofs.hold.Goals as goal

pub returns-then-count-number : goal.returns-then-count-number
returns-then-count-number c = held_by_lem c.args.bytes.now c.args.number c.args.drive c.args.row.now c.args.row.now _ 27 (off_as c.args.bytes.now c.args.number c.args.drive (length c.args.row.now) true _ _ _ (counted c.args.bytes.now c.count.ensures c.if-count-number.true) refl refl refl) refl refl

pub returns-in_default : goal.returns-in_default
returns-in_default c = held_by_lem c.args.bytes.now c.args.number c.args.drive c.args.row.now c.args.row.now _ 28
    (off_as c.args.bytes.now c.args.number c.args.drive (length c.args.row.now) false false _ _ (uncounted c.args.bytes.now c.count.ensures c.if-count-number.false) (drive_none c.args.drive (sym c.drive_of.ensures ∙ c.in_default.is)) refl refl) refl refl

pub rise-found-requires : goal.rise-found-requires
rise-found-requires c = few_none c.args.bytes.now

pub returns-then-bit : goal.returns-then-bit
returns-then-bit c =
    let k = drive_known c.args.drive c.in-Some.pin (sym c.drive_of.ensures ∙ c.in-Some.is) in
    held_by_lem c.args.bytes.now c.args.number c.args.drive c.args.row.now c.args.row.now _ 28
    (off_as c.args.bytes.now c.args.number c.args.drive (length c.args.row.now) false true true _ (uncounted c.args.bytes.now c.count.ensures c.if-count-number.false) k.0
    (off_is c.args.bytes.now c.args.number c.args.drive c.in-Some.pin k.1 c.rise-found.result c.rise-found.ensures c.bit.ensures ∙ c.if-bit.true) refl) refl refl

pub returns-in_default-first_chunk_mut : goal.returns-in_default-first_chunk_mut
returns-in_default-first_chunk_mut c =
    let k = drive_known c.args.drive c.in-Some.pin (sym c.drive_of.ensures ∙ c.in-Some.is) in
    held_by_lem c.args.bytes.now c.args.number c.args.drive c.args.row.now c.args.row.now _ 5
    (off_as c.args.bytes.now c.args.number c.args.drive (length c.args.row.now) false true false true (uncounted c.args.bytes.now c.count.ensures c.if-count-number.false) k.0
    (off_is c.args.bytes.now c.args.number c.args.drive c.in-Some.pin k.1 c.rise-found.result c.rise-found.ensures c.bit.ensures ∙ c.if-bit.false) (lt-ltb _ _ c.in_default-first_chunk_mut.ensures.cases)) refl refl

pub returns : goal.returns
returns c =
    let k = drive_known c.args.drive c.in-Some.pin (sym c.drive_of.ensures ∙ c.in-Some.is) in
    held_by_lem c.args.bytes.now c.args.number c.args.drive c.args.row.now _ _ 0
    (off_as c.args.bytes.now c.args.number c.args.drive (length c.args.row.now) false true false false (uncounted c.args.bytes.now c.count.ensures c.if-count-number.false) k.0
    (off_is c.args.bytes.now c.args.number c.args.drive c.in-Some.pin k.1 c.rise-found.result c.rise-found.ensures c.bit.ensures ∙ c.if-bit.false) (le-ltb _ _ c.in-Some-first_chunk_mut.ensures.cases.enough)) refl
    (off_row_is c.args.bytes.now c.args.number c.args.drive c.in-Some.pin k.1 c.rise-found.result c.args.row.now c.rise-found.ensures c.held_by.ensures c.off_row.ensures)
