-- By whether the bit is judged.
use Rattle.why.proofs.Cases.{why_unjudged, why_judged}
use Rattle.std.proofs.Common.{sym, ◌∙◌}
use Rattle.why.proofs.why_of.Goals as goal

pub returns-in_default : goal.returns-in_default
returns-in_default c = why_unjudged c.args.s.now c.args.bit c.args.found c.said_by-said.ensures (c.number-cause.ensures ∙ c.cause_of.ensures) (sym c.fault_of.ensures ∙ c.in_default.is)

pub returns : goal.returns
returns c = why_judged c.args.s.now c.args.bit c.args.found c.said_by-said.ensures (c.number-cause.ensures ∙ c.cause_of.ensures) c.in-Some.fault (sym c.fault_of.ensures ∙ c.in-Some.is) c.rule_of-rule.ensures c.least_of-least.ensures c.search-place.ensures c.from.ensures
