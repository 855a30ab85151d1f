-- A record that was read: SETUP, a wiring record, or an event of the chip, by what it does.
use Rattle.turn.proofs.Cases.{acted_as_lem}
use Rattle.turn.proofs.act.Goals as goal

pub returns-in-Makes : goal.returns-in-Makes
returns-in-Makes c = acted_as_lem c.args.fresh c.args.chip c.args.event c.args.counts _ c.role_of.ensures c.in-Makes.is c.born.ensures

pub returns-in-Rewires : goal.returns-in-Rewires
returns-in-Rewires c = acted_as_lem c.args.fresh c.args.chip c.args.event c.args.counts _ c.role_of.ensures c.in-Rewires.is c.rewired.ensures

pub returns-in-Happens : goal.returns-in-Happens
returns-in-Happens c = acted_as_lem c.args.fresh c.args.chip c.args.event c.args.counts _ c.role_of.ensures c.in-Happens.is c.step.ensures
