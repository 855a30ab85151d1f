-- CHIP L2: from SHIP on, over any events, the outside level 1 and SYS_STAT 0 never stand together; so the level does something
-- only after a clearing write and after its own event. Assumes nothing.
use Rattle.std.specs.Prelude.{◌≡◌, List, ℕ}
use Rattle.std.proofs.Common.{sym, ap}
use Rattle.events.specs.declared.Setup.{Setup}
use Rattle.events.specs.Fault.{Faults}
use Rattle.events.specs.Fault.{among}
use Rattle.events.specs.Event.{Event, Scan}
use Rattle.bus.specs.declared.Bus.{Bus}
use Rattle.registers.specs.declared.Registers.{Registers}
use Rattle.registers.specs.Judging.{scanned}
use Rattle.registers.specs.LevelLaws.{level_calm, reset_calm, calm_level, raised_calm}
use Rattle.protection.specs.Fault.{Runs}
use Rattle.protection.specs.Runs.{risen}
use Rattle.chip.specs.declared.Chip.{Chip}
use Rattle.chip.specs.Answer.{Stepped}
use Rattle.chip.specs.Chip.{with_bus, with_registers, with_runs, in_ship, watched, settled, normally, next}
use Rattle.chip.specs.Parts.{raised_by}
use Rattle.chip.proofs.MovesLaws.{next_by, asleep_by}
use Rattle.chip.specs.Calm.{Calmed}

pub ship_calm : (u : Setup) → Calmed (in_ship u)
ship_calm u = reset_calm

-- any event leaves a chip so that it found so
pub calm_next : (e : Event) (c : Chip) → Calmed c → Calmed (next e c)
calm_next e c k =
    next_by Calmed e c (λ f a. level_calm (normally e c).chip.registers)
    (λ f a. asleep_by Calmed e c (ship_calm c.setup) (λ w. level_calm c.registers) k) (λ f. k)

-- there the level does nothing ..
pub calm_watched : (c : Chip) → Calmed c → watched c ≡ c
calm_watched c k = ap (λ (r : Registers). with_registers r c) (calm_level c.registers k)

pub settles : (s : Stepped) → Calmed s.chip → settled s ≡ s
settles s k = ap (λ (d : Chip). record { chip = d; number = s.number; flag = s.flag; byte = s.byte }) (calm_watched s.chip k)

-- .. so it does nothing after an event that leaves the registers, and after one that only raises
pub calm_bus : (b : Bus) (c : Chip) → Calmed c → with_bus b c ≡ watched (with_bus b c)
calm_bus b c k = sym (calm_watched (with_bus b c) k)

pub calm_scan : (xs : List ℕ) (c : Chip) → Calmed c → normally (Scan xs) c ≡ settled (normally (Scan xs) c)
calm_scan xs c k =
    sym (settles (normally (Scan xs) c)
    (raised_calm (risen c.setup.floor c.registers.settings c.runs (Scan xs)) (scanned xs c.registers) k))

pub calm_tick : (f : Faults) (n : Runs) (c : Chip) → Calmed c → raised_by f (with_runs n c) ≡ watched (raised_by f (with_runs n c))
calm_tick f n c k = sym (calm_watched (raised_by f (with_runs n c)) (raised_calm (among f) c.registers k))
