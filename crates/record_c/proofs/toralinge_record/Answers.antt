-- `toralinge_record` refuses what values do not mean, or writes what the writer writes (Told).
use Rattle.std.proofs.Common.{ap, neg_ℤ, pos, ℕ, of_z, rules, to_z, w64, ◌∙◌, ◌≡◌}
use Rattle.record_c.proofs.Ints.{minus_is}
use Rattle.record_c.proofs.Told.{record_unfit, record_whole}
use Rattle.record_c.proofs.toralinge_record.Goals as goal

pub returns-in-Err : goal.returns-in-Err
returns-in-Err c = rw c.from.ensures (record_unfit c.args.kind c.args.part c.args.values.now c.event_by.result c.event_by.ensures c.args.out.now _ c.in-Err.is _ (minus_is c.number.result (search rules) ∙ ap (λ (n : ℕ). neg_ℤ (pos n)) c.number.ensures))

pub returns-in-Ok : goal.returns-in-Ok
returns-in-Ok c = let e : to_z w64 (of_z w64 c.answer_of.result) ≡ c.answer_of.result = search rules in
    record_whole c.args.kind c.args.part c.args.values.now c.event_by.result c.event_by.ensures c.args.out.now _ c.in-Ok.is _ c.counts_by-counts.ensures _ c.part_by.ensures _ _ c.write_record.ensures _ (e ∙ c.answer_of.ensures)
