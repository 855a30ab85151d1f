-- An event of any kind, by its case.
use Rattle.std.proofs.Common.{refl}
use Rattle.events.specs.Event.{Por, Boot, Pin, Xready, Count, Load, OnBus, Level, fits}
use Rattle.chip.proofs.Modes.{as_event, in_range_lem}
use Rattle.chip.proofs.Chip.happen.Goals as goal

pub returns-in-Por : goal.returns-in-Por
unfolding fits
returns-in-Por c = as_event c.args.counts c.args.self c.in-Por.is (in_range_lem Por c.args.self refl c.por.ensures)

pub returns-in-Boot : goal.returns-in-Boot
unfolding fits
returns-in-Boot c = as_event c.args.counts c.args.self c.in-Boot.is (in_range_lem Boot c.args.self refl c.boot.ensures)

pub returns-in-Count : goal.returns-in-Count
unfolding fits
returns-in-Count c = as_event c.args.counts c.args.self c.in-Count.is (in_range_lem (Count _) c.args.self refl c.count.ensures)

pub returns-in-Pin : goal.returns-in-Pin
unfolding fits
returns-in-Pin c = as_event c.args.counts c.args.self c.in-Pin.is (in_range_lem Pin c.args.self refl c.pin.ensures)

pub returns-in-Load : goal.returns-in-Load
unfolding fits
returns-in-Load c = as_event c.args.counts c.args.self c.in-Load.is (in_range_lem (Load _) c.args.self refl c.load.ensures)

pub returns-in-Xready : goal.returns-in-Xready
unfolding fits
returns-in-Xready c = as_event c.args.counts c.args.self c.in-Xready.is (in_range_lem Xready c.args.self refl c.xready.ensures)

pub returns-in-OnBus : goal.returns-in-OnBus
unfolding fits
returns-in-OnBus c = as_event c.args.counts c.args.self c.in-OnBus.is (in_range_lem (OnBus _) c.args.self refl c.on_bus.ensures)

pub returns-in-Level : goal.returns-in-Level
unfolding fits
returns-in-Level c = as_event c.args.counts c.args.self c.in-Level.is (in_range_lem (Level _) c.args.self refl c.level.ensures)
