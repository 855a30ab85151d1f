-- `write_record` refuses as `refusal` says and writes nothing then, or writes the event's record.
use Rattle.std.proofs.Common.{refl, sym}
use Rattle.std.proofs.lemmas.Result.{err_from_is_err_and}
use Rattle.constants.proofs.RefusalLaws.{no_zero}
use Rattle.writer.proofs.AcceptedLaws.{accepted_few}
use Rattle.writer.proofs.Refusals.{refused_puts, taken_puts}
use Rattle.writer.proofs.write_record.Goals as goal

pub put_event-requires : goal.put_event-requires
put_event-requires c = accepted_few c.args.event c.args.counts c.args.part (sym c.in_ok-refusal.ensures)

pub returns-in_err-refusal : goal.returns-in_err-refusal
returns-in_err-refusal c =
    let p = err_from_is_err_and c.from_residual.result c.from_residual.ensures.1 in
    rw (p.1, p.2) (refused_puts _ _ _ _ c.in_err-refusal.ensures (no_zero _))

pub returns : goal.returns
returns c = taken_puts _ _ _ _ _ _ c.in_ok-refusal.ensures refl c.put_event.ensures
