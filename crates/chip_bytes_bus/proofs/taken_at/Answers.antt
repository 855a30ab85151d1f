-- IN is told what it asks for; where it asks for nothing, whatever it is told.
use Rattle.std.proofs.Common.{ap, sym, ◌∙◌}
use Rattle.bus.specs.Bus.{wanted}
use Rattle.chip_bytes_bus.proofs.Cases.{taken_pair, taken_none}
use Rattle.chip_bytes_bus.proofs.taken_at.Goals as goal

pub returns-in-Some : goal.returns-in-Some
returns-in-Some c = taken_pair c.args.b.now c.bus_at-bus.ensures c.args.nack c.setup_at-setup.ensures _ (sym (c.wants.ensures ∙ ap wanted c.bus_at-bus.ensures) ∙ c.in-Some.is)
    c.pair_at-pair.ensures c.take.ensures

pub returns-in-None : goal.returns-in-None
returns-in-None c = taken_none c.args.b.now c.bus_at-bus.ensures c.args.nack c.setup_at-setup.ensures (sym (c.wants.ensures ∙ ap wanted c.bus_at-bus.ensures) ∙ c.in-None.is) c.take-in-None.ensures
