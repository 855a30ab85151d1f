-- The chip (CHIP S7): setup, mode, bus, registers and runs, and what each event does and answers: CHIP M1 to M10,
-- and the rules of the bus, the registers and judging put together over the rooms below. Assumes nothing.
use Rattle.std.specs.Prelude.{Bool, true, false, cond, List, ℕ, zero, suc, ℤ, Some, None}
use Rattle.constants.specs.Number.{DONE, BAD_KIND, BAD_VALUE, ASLEEP}
use Rattle.events.specs.declared.Setup.{Setup}
use Rattle.events.specs.declared.Counts.{Counts}
use Rattle.events.specs.declared.BusEvent.{BusEvent}
use Rattle.events.specs.declared.BusEvent.TheVariants.{Start, Stop, Out, In}
use Rattle.events.specs.declared.Event.{Event as Coded}
use Rattle.events.specs.Event.{Event, Por, Boot, Pin, Xready, Scan, Temp, Count, Sense, Load, OnBus, Level, fits, ticks_fit, Meant}
use Rattle.events.specs.Event.{means, ticks, unfit, event_of, meant_of}
use Rattle.bus.specs.declared.Line.{Line}
use Rattle.bus.specs.declared.Bus.{Bus}
use Rattle.bus.specs.declared.Outed.{Outed}
use Rattle.bus.specs.declared.Taken.{Taken}
use Rattle.bus.specs.Bus.{Store, with_line, idle_bus, grown, started, stopped, outed, takes}
use Rattle.settings.specs.Write.{ships}
use Rattle.registers.specs.declared.Registers.{Registers}
use Rattle.registers.specs.State.{reset, with_shown, with_load_level, with_outside_level}
use Rattle.registers.specs.Write.{written}
use Rattle.registers.specs.Read.{read_at}
use Rattle.registers.specs.Fault.{raised}
use Rattle.registers.specs.Judging.{scanned, warmed, coulombs, pulled, pulled_by_level, unready}
use Rattle.protection.specs.Fault.{Runs}
use Rattle.protection.specs.Fault.{no_runs}
use Rattle.protection.specs.Runs.{counted, risen}
use Rattle.chip.specs.declared.Chip.{Chip}
use Rattle.chip.specs.Answer.{Stepped}

-- ── answers: a number, and for an OUT or IN that is done the bus flag and byte ──
abbrev pub numbered : ℕ → Chip → Stepped
numbered n c = record { chip = c; number = n; flag = false; byte = 0 }

abbrev pub answered : ℕ → Chip → Stepped
answered b c = record { chip = c; number = 0; flag = true; byte = b }

-- ── one part put anew ──
abbrev pub with_normal : Bool → Chip → Chip
with_normal a c = record { setup = c.setup; normal = a; bus = c.bus; registers = c.registers; runs = c.runs }

abbrev pub with_bus : Bus → Chip → Chip
with_bus b c = record { setup = c.setup; normal = c.normal; bus = b; registers = c.registers; runs = c.runs }

abbrev pub with_registers : Registers → Chip → Chip
with_registers r c = record { setup = c.setup; normal = c.normal; bus = c.bus; registers = r; runs = c.runs }

abbrev pub with_runs : Runs → Chip → Chip
with_runs n c = record { setup = c.setup; normal = c.normal; bus = c.bus; registers = c.registers; runs = n }

-- ── what SHIP leaves (CHIP M3) ──
abbrev pub in_ship : Setup → Chip
in_ship u = record { setup = u; normal = false; bus = idle_bus; registers = reset; runs = no_runs }

-- ── the runs go on, and what rises is shown and puts off its drive (CHIP J9, J13) ──
abbrev pub judged : Event → Chip → Chip
judged e c =
    with_runs (counted c.setup.floor c.registers.settings c.runs e)
    (with_registers
    (with_shown (raised (risen c.setup.floor c.registers.settings c.runs e) c.registers.shown) c.registers) c)

-- ── an accepted store, or the byte that ships (CHIP M10) ──
abbrev pub line_moved : Line → Chip → Chip
line_moved l c = with_bus (with_line l c.bus) c

abbrev pub accepted : Line → ℕ → ℕ → Chip → Chip
accepted l a v c = with_registers (written c.setup a v c.registers) (line_moved l c)

unfoldable pub stored_at : Line → ℕ → ℕ → Chip → Chip
stored_at l a v c = cond (ships a v c.registers.settings) (in_ship c.setup) (accepted l a v c)

abbrev pub stored : Line → Store → Chip → Chip
stored l None c = line_moved l c
stored l (Some w) c = stored_at l w.at w.value c

abbrev pub sent : Outed → Chip → Stepped
sent o c = answered o.byte (stored o.line o.store c)

abbrev pub reads : Chip → ℕ → ℕ
reads c a = read_at c.setup c.registers a

abbrev pub handed : Taken → Chip → Stepped
handed t c = answered t.byte (with_bus t.bus c)

-- the bus is told the register at its pointer and the one after it
abbrev pub taken_by : Bool → Chip → Taken
taken_by nack c = takes c.setup (reads c c.bus.line.pointer) (reads c (grown c.bus.line.pointer)) nack c.bus

abbrev pub fetched : Bool → Chip → Stepped
fetched nack c = handed (taken_by nack c) c

abbrev pub on_bus : BusEvent → Chip → Stepped
on_bus Start c = numbered DONE (line_moved (started c.bus.line) c)
on_bus Stop c = numbered DONE (line_moved (stopped c.bus.line) c)
on_bus (Out b) c = sent (outed c.setup c.bus.line b) c
on_bus (In nack) c = fetched nack c

-- ── the outside level is looked at (CHIP L2). In SHIP it is 0, so an event that enters SHIP is left as it is ──
abbrev pub watched : Chip → Chip
watched c = with_registers (pulled_by_level c.registers) c

abbrev pub settled : Stepped → Stepped
settled s = record { chip = watched s.chip; number = s.number; flag = s.flag; byte = s.byte }

-- ── each event in NORMAL, before the level is looked at, and in SHIP ──
abbrev pub normally : Event → Chip → Stepped
normally Por c = numbered DONE (in_ship c.setup)
normally Boot c = numbered DONE c
normally Pin c = numbered DONE (with_registers (pulled c.registers) c)
normally Xready c = numbered DONE (with_registers (unready c.registers) c)
normally (Scan xs) c = numbered DONE (judged (Scan xs) (with_registers (scanned xs c.registers) c))
normally (Temp xs) c = numbered DONE (with_registers (warmed xs c.registers) c)
normally (Count n) c = numbered DONE (with_registers (coulombs n c.registers) c)
normally (Sense v) c = numbered DONE (judged (Sense v) c)
normally (Load l) c = numbered DONE (with_registers (with_load_level l c.registers) c)
normally (OnBus b) c = on_bus b c
normally (Level l) c = numbered DONE (with_registers (with_outside_level l c.registers) c)

-- the bus asleep (CHIP M6)
abbrev pub bus_asleep : BusEvent → Chip → Stepped
bus_asleep Start c = numbered DONE c
bus_asleep Stop c = numbered DONE c
bus_asleep (Out b) c = answered 1 c
bus_asleep (In nack) c = answered 0xFF c

-- CHIP N4
abbrev pub asleep : Event → Chip → Stepped
asleep Por c = numbered DONE (in_ship c.setup)
asleep Boot c = numbered DONE (watched (with_normal true c))
asleep Pin c = numbered ASLEEP c
asleep Xready c = numbered ASLEEP c
asleep (Scan xs) c = numbered ASLEEP c
asleep (Temp xs) c = numbered ASLEEP c
asleep (Count n) c = numbered ASLEEP c
asleep (Sense v) c = numbered ASLEEP c
asleep (Load l) c = numbered ASLEEP c
asleep (OnBus b) c = bus_asleep b c
asleep (Level l) c = numbered ASLEEP c

-- an event whose values are in range
unfoldable pub happened : Event → Chip → Stepped
happened e c = cond c.normal (settled (normally e c)) (asleep e c)

-- 3 before 4 (CHIP N30)
unfoldable pub stepped : Event → Chip → Stepped
stepped e c = cond (fits e) (happened e c) (numbered BAD_VALUE c)

abbrev pub next : Event → Chip → Chip
next e c = (stepped e c).chip

-- ── ticks (CHIP R8): that many SENSE of one value, one after the other; asleep 4, and one answer for the whole ──
abbrev pub ticking : ℕ → ℤ → Chip → Chip
ticking zero v c = c
ticking (suc n) v c = (happened (Sense v) (ticking n v c)).chip

abbrev pub ticked : ℕ → ℤ → Chip → Stepped
ticked n v c = cond c.normal (numbered DONE (ticking n v c)) (numbered ASLEEP c)

-- ── the code's event and the counts beside it: 2 before 3 ──
abbrev pub stepped_as : Meant → Chip → Stepped
stepped_as (means e) c = stepped e c
stepped_as (ticks most v n) c = cond (ticks_fit most v n) (ticked n v c) (numbered BAD_VALUE c)
stepped_as unfit c = numbered BAD_KIND c

abbrev pub stepped_by : Coded → Counts → Chip → Stepped
stepped_by e k c = stepped_as (meant_of c.setup e k) c

abbrev pub happened_as : Meant → Chip → Stepped
happened_as (means e) c = happened e c
happened_as (ticks most v n) c = ticked n v c
happened_as unfit c = numbered BAD_KIND c

abbrev pub happened_by : Coded → List ℕ → Chip → Stepped
happened_by e xs c = happened_as (event_of c.setup e xs) c
