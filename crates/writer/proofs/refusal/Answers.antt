-- `refusal` asks SETUP's looks, a wiring record's, or those of every other event, by what the record does.
use Rattle.writer.proofs.Refusals.{at_setup, at_refusal}
use Rattle.writer.proofs.refusal.Goals as goal

pub returns-in-Makes : goal.returns-in-Makes
returns-in-Makes c = at_setup c.args.event c.args.counts c.args.part c.role_of.ensures _ c.in-Makes.is c.setup_refusal.ensures

pub returns-in-Happens : goal.returns-in-Happens
returns-in-Happens c = at_refusal c.args.event c.args.counts c.args.part c.role_of.ensures c.in-Happens.is c.refusal_at.ensures
