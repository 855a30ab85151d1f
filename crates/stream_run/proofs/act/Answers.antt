-- A record that was read: SETUP, a wiring record, or an event that needs no second check, by what it does.
use Rattle.std.proofs.Common.{sym, ◌∙◌}
use Rattle.stream_run.proofs.Steps.{other_is}
use Rattle.turn.proofs.Cases.{acted_as_lem}
use Rattle.stream_run.proofs.act.Goals as goal

pub returns-in-Makes : goal.returns-in-Makes
returns-in-Makes c = acted_as_lem c.args.fresh c.args.chip c.args.event _ _ c.role_of.ensures c.in-Makes.is c.born.ensures

pub returns-in-Rewires : goal.returns-in-Rewires
returns-in-Rewires c = acted_as_lem c.args.fresh c.args.chip c.args.event _ _ c.role_of.ensures c.in-Rewires.is c.rewired.ensures

pub returns-in-Happens : goal.returns-in-Happens
returns-in-Happens c = other_is c.args.fresh c.args.chip c.args.rest.now c.args.event c.args.next _ c.requires.rest_value
    (sym c.role_of.ensures ∙ c.in-Happens.is) c.counted-counts.ensures c.seldom.ensures
