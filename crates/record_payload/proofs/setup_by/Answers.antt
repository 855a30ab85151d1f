-- `setup_by` takes six values, the offset as a byte, and the rest by the ranges of `setup_of` (Meant).
use Rattle.std.proofs.Common.{ap, arith, rules, sym, ◌∙◌}
use Rattle.std.proofs.lemmas.Result.{err_from_is_err_and}
use Rattle.records.specs.Record.{checked_in}
use Rattle.record_numbers.proofs.Ints.{nat_at_lem}
use Rattle.record_numbers.specs.Values.{byte_of}
use Rattle.record_payload.proofs.Meant.{setup_is}
use Rattle.record_payload.proofs.setup_by.Goals as goal

pub returns-in_err-setup-in-len6 : goal.returns-in_err-setup-in-len6
returns-in_err-setup-in-len6 c =
    let p = err_from_is_err_and c.from_residual.result c.from_residual.ensures.1 in
    rw (p.1, p.2) (ap checked_in (sym c.in_err-setup-in-len6.was)
    ∙ setup_is c.args.values.now (omega arith) c.natural.result (search rules) c.natural.ensures c.if-natural-gt-BYTE_MOST.false c.setup_of.result
    _ _ _ _ _ _ _ (search rules)
    (c.byte_of.ensures ∙ ap byte_of (nat_at_lem c.args.values.now 0 _ (search rules) c.natural-in-len6.ensures))
    (c.byte_of-in-len6.ensures ∙ ap byte_of (nat_at_lem c.args.values.now 1 _ (search rules) c.natural-in-len6-2.ensures))
    (c.byte_of-in-len6-2.ensures ∙ ap byte_of (nat_at_lem c.args.values.now 2 _ (search rules) c.natural-in-len6-3.ensures))
    (c.byte_of-in-len6-3.ensures ∙ ap byte_of (nat_at_lem c.args.values.now 3 _ (search rules) c.natural-in-len6-4.ensures))
    (c.byte_of-in-len6-4.ensures ∙ ap byte_of (nat_at_lem c.args.values.now 4 _ (search rules) c.natural-in-len6-5.ensures))
    c.natural-in-len6-6.ensures c.word_of.ensures c.setup_of.ensures)

pub returns-in_ok-setup-in-len6 : goal.returns-in_ok-setup-in-len6
returns-in_ok-setup-in-len6 c =
    ap checked_in (sym c.in_ok-setup-in-len6.was)
    ∙ setup_is c.args.values.now (omega arith) c.natural.result (search rules) c.natural.ensures c.if-natural-gt-BYTE_MOST.false c.setup_of.result
    _ _ _ _ _ _ _ (search rules)
    (c.byte_of.ensures ∙ ap byte_of (nat_at_lem c.args.values.now 0 _ (search rules) c.natural-in-len6.ensures))
    (c.byte_of-in-len6.ensures ∙ ap byte_of (nat_at_lem c.args.values.now 1 _ (search rules) c.natural-in-len6-2.ensures))
    (c.byte_of-in-len6-2.ensures ∙ ap byte_of (nat_at_lem c.args.values.now 2 _ (search rules) c.natural-in-len6-3.ensures))
    (c.byte_of-in-len6-3.ensures ∙ ap byte_of (nat_at_lem c.args.values.now 3 _ (search rules) c.natural-in-len6-4.ensures))
    (c.byte_of-in-len6-4.ensures ∙ ap byte_of (nat_at_lem c.args.values.now 4 _ (search rules) c.natural-in-len6-5.ensures))
    c.natural-in-len6-6.ensures c.word_of.ensures c.setup_of.ensures
