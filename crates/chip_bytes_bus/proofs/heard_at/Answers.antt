-- By the case.
use Rattle.chip_bytes_bus.proofs.Cases.{hears_start, hears_out, hears_in, hears_stop}
use Rattle.chip_bytes_bus.proofs.heard_at.Goals as goal

pub returns-in-Start : goal.returns-in-Start
returns-in-Start c = hears_start c.args.b.now c.bus_at-bus.ensures c.args.event c.in-Start.is c.start.ensures c.unheard.ensures

pub returns-in-Out : goal.returns-in-Out
returns-in-Out c = hears_out c.args.b.now c.bus_at-bus.ensures c.args.event _ c.in-Out.is c.setup_at.ensures
    c.out.ensures c.sent.ensures

pub returns-in-In : goal.returns-in-In
returns-in-In c = hears_in c.args.b.now c.bus_at-bus.ensures c.args.event _ c.in-In.is c.taken_at.ensures
    c.handed.ensures

pub returns-in-Stop : goal.returns-in-Stop
returns-in-Stop c = hears_stop c.args.b.now c.bus_at-bus.ensures c.args.event c.in-Stop.is c.stop.ensures c.unheard-in-Stop.ensures
