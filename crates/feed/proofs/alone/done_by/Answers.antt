-- By the kind.
use Rattle.events.specs.declared.Event.{Event}
use Rattle.records.specs.Record.{counts_in}
use Rattle.feed.proofs.Ones.{one_signal}
use Rattle.feed.proofs.alone.done_by.Goals as goal

pub returns-in-16 : goal.returns-in-16
returns-in-16 c = one_signal c.args.chip.now c.args.kind c.args.part c.args.b.now c.signal_of.result (λ (e : Event). (counts_in e c.args.b.now).of) c.bus_by.result c.bus_by.new.chip
    c.signal_of.ensures (c.bus_by.ensures (λ (e : Event). (counts_in e c.args.b.now).of))

pub returns-in_default : goal.returns-in_default
returns-in_default c = one_signal c.args.chip.now c.args.kind c.args.part c.args.b.now c.seldom_of.result (λ (e : Event). (counts_in e c.args.b.now).of) c.seldom_by.result c.seldom_by.new.chip
    c.seldom_of.ensures (c.seldom_by.ensures (λ (e : Event). (counts_in e c.args.b.now).of))
