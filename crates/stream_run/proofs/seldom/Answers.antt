-- What happens to a chip in SHIP, or seldom, by its case.
use Rattle.std.proofs.Common.{refl}
use Rattle.std.proofs.Math.Logic.{⊎_elim}
use Rattle.events.specs.Event.{Count, Pin, Load, Xready, Scan as Scanned, Sense as Sensed}
use Rattle.registers.specs.State.{with_load_level}
use Rattle.registers.specs.Judging.{coulombs, pulled, unready}
use Rattle.registers.specs.LevelLaws.{pulled_calm, unready_calm, coulombs_calm}
use Rattle.stream_run.proofs.Steps.{as_event, sleeping, in_sleep, boots, moves, levels, moved_to}
use Rattle.stream_run.proofs.seldom.Goals as goal

pub returns-in-Boot : goal.returns-in-Boot
returns-in-Boot c = as_event c.args.counts c.args.chip c.in-Boot.is (boots c.args.chip c.requires.calmed c.roused.ensures)

pub returns-in-Scan : goal.returns-in-Scan
returns-in-Scan c =
    ⊎_elim
    (λ h. as_event c.args.counts c.args.chip h (in_sleep (Scanned _) c.args.chip (sleeping c.args.chip c.args.event _ c.requires.event_value h refl) c.refused-in-Scan.ensures))
    (λ p. as_event c.args.counts c.args.chip p.1 (in_sleep (Sensed p.0) c.args.chip (sleeping c.args.chip c.args.event _ c.requires.event_value p.1 refl) c.refused-in-Scan.ensures))
    c.in-Scan.is

pub returns-in-Count : goal.returns-in-Count
returns-in-Count c = let n = c.in-Count.cc in as_event c.args.counts c.args.chip c.in-Count.is (moves (Count n) c.args.chip (coulombs n c.args.chip.registers) refl refl (coulombs_calm n c.args.chip.registers c.requires.calmed) (moved_to c.args.chip c.coulombs.ensures c.registers_moved.ensures))

pub returns-in-Pin : goal.returns-in-Pin
returns-in-Pin c = as_event c.args.counts c.args.chip c.in-Pin.is (moves Pin c.args.chip (pulled c.args.chip.registers) refl refl (pulled_calm c.args.chip.registers) (moved_to c.args.chip c.pulled.ensures c.registers_moved-in-Pin.ensures))

pub returns-in-Load : goal.returns-in-Load
returns-in-Load c = let l = c.in-Load.level in as_event c.args.counts c.args.chip c.in-Load.is (moves (Load l) c.args.chip (with_load_level l c.args.chip.registers) refl refl c.requires.calmed (moved_to c.args.chip c.loaded.ensures c.registers_moved-in-Load.ensures))

pub returns-in-Xready : goal.returns-in-Xready
returns-in-Xready c = as_event c.args.counts c.args.chip c.in-Xready.is (moves Xready c.args.chip (unready c.args.chip.registers) refl refl (unready_calm c.args.chip.registers) (moved_to c.args.chip c.unready.ensures c.registers_moved-in-Xready.ensures))

pub returns-in-OnBus : goal.returns-in-OnBus
returns-in-OnBus c = as_event c.args.counts c.args.chip c.in-OnBus.is (in_sleep _ c.args.chip (sleeping c.args.chip c.args.event _ c.requires.event_value c.in-OnBus.is refl) c.doze.ensures)

pub returns-in-Level : goal.returns-in-Level
returns-in-Level c = let l = c.in-Level.level in as_event c.args.counts c.args.chip c.in-Level.is (levels l c.args.chip (moved_to c.args.chip c.leveled.ensures c.registers_moved-in-Level.ensures))
