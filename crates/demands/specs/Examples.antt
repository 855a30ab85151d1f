-- CHIP X6 to X8, the worked stream and both sides of lines, over the whole chip, by computation. Assumes nothing.
use Rattle.std.specs.Prelude.{◌≡◌, refl, Bool, true, false, List, [], ◌∷◌, ◌++◌, ℕ, zero, suc, ◌-◌, replicate, pos, neg_ℤ}
use Rattle.crc8.specs.Crc.{byte_on}
use Rattle.events.specs.declared.Setup.{Setup}
use Rattle.events.specs.declared.BusEvent.TheVariants.{Start, Stop, Out, In}
use Rattle.events.specs.Setup.{groups, inputs}
use Rattle.events.specs.Event.{Event, Por, Boot, Pin, Xready, Scan, Sense, OnBus, Level, fits}
use Rattle.bus.specs.Bus.{addressed, fed, checked, outed, taken, byte_given, owing, after_data, after_sum, keeps}
use Rattle.settings.specs.Write.{settings_with}
use Rattle.settings.specs.Read.{settings_byte}
use Rattle.registers.specs.State.{alert}
use Rattle.registers.specs.Write.{shown_with, cellbal_with}
use Rattle.registers.specs.Read.{status_byte, read_at, control_byte, cellbal_byte, half, word_at, fixed_byte}
use Rattle.limits.specs.Rule.{rule, over, under, beyond}
use Rattle.chip.specs.declared.Chip.{Chip}
use Rattle.chip.specs.Answer.{Stepped}
use Rattle.chip.specs.Chip.{stored_at, in_ship, happened, stepped, next}
use Rattle.demands.specs.Checked.{ran}

-- ── what an entry shows: number, bus flag and byte, SYS_STAT, pins (ALERT 4, CHG 2, DSG 1) ──
pub record Entry : Type 0 where
  pub number : ℕ
  pub flag : Bool
  pub byte : ℕ
  pub status : ℕ
  pub alerts : Bool
  pub chg_on : Bool
  pub dsg_on : Bool

abbrev entry : Stepped → Entry
entry s =
    record {
      number = s.number;
      flag = s.flag;
      byte = s.byte;
      status = status_byte s.chip.registers.shown.status;
      alerts = alert s.chip.registers.shown.status;
      chg_on = s.chip.registers.shown.chg_on;
      dsg_on = s.chip.registers.shown.dsg_on;
    }

-- the entries of events as they come
abbrev entries : Chip → List Event → List Entry
entries c [] = []
entries c (e ∷ es) = entry (stepped e c) ∷ entries (next e c) es

abbrev quietly : ℕ → Entry
quietly n = record { number = n; flag = false; byte = 0; status = 0; alerts = false; chg_on = false; dsg_on = false }

abbrev gave : ℕ → Entry
gave b = record { number = 0; flag = true; byte = b; status = 0; alerts = false; chg_on = false; dsg_on = false }

-- SYS_STAT after these events
abbrev status : Setup → List Event → ℕ
status u es = status_byte (ran (in_ship u) es).registers.shown.status

-- ── the setups and the frames ──
abbrev plain : Setup
plain = record { part = 1; crc = false; address = 8; gain_code = 10; offset = 30; floor = 1000; cells = 0 }

abbrev out : ℕ → Event
out b = OnBus (Out b)

abbrev read : Event
read = OnBus (In false)

-- write v at a
abbrev write : ℕ → ℕ → List Event
write a v = OnBus Start ∷ out 0x10 ∷ out a ∷ out v ∷ []

-- a scan whose other cells are neither over nor under; times over
abbrev cell : ℕ → Event
cell x = Scan (x ∷ 9000 ∷ 9000 ∷ 9000 ∷ 9000 ∷ [])

abbrev tick : ℕ → Event
tick drop = Sense (neg_ℤ (pos drop))

abbrev times : ℕ → Event → List Event
times n e = replicate n e

-- ── the printed stream (CHIP X8) ──
pub printed : entries (in_ship plain) (Boot ∷ write 0x05 0x03 ++ OnBus Stop ∷ Xready ∷ [])
    ≡ quietly 0
    ∷ quietly 0
    ∷ gave 0
    ∷ gave 0
    ∷ record { number = 0; flag = true; byte = 0; status = 0; alerts = false; chg_on = true; dsg_on = true }
    ∷ record { number = 0; flag = false; byte = 0; status = 0; alerts = false; chg_on = true; dsg_on = true }
    ∷ record { number = 0; flag = false; byte = 0; status = 0x20; alerts = true; chg_on = false; dsg_on = false }
    ∷ []
unfolding stepped happened fits outed settings_with shown_with cellbal_with addressed fed checked stored_at
printed = refl

-- ── cases: events after BOOT, and the SYS_STAT that they leave (UV 8, OV 4, SCD 2, OCD 1) ──
abbrev pub Case : Type 0
Case = List Event × ℕ

abbrev found : List Case → List ℕ
found [] = []
found (c ∷ cs) = status plain (Boot ∷ c.0) ∷ found cs

abbrev wanted : List Case → List ℕ
wanted [] = []
wanted (c ∷ cs) = c.1 ∷ wanted cs

-- both sides of each line
abbrev pub lines : List Case
lines =
    (times 4 (cell 10952), 0)
    ∷ (times 3 (cell 10953), 0)
    ∷ (times 4 (cell 10953), 4)
    ∷ (times 4 (cell 6512), 0)
    ∷ (times 3 (cell 6511), 0)
    ∷ (times 4 (cell 6511), 8)
    ∷ (times 4 (cell 1000), 8)
    ∷ (times 4 (cell 999), 0)
    ∷ (times 3 (tick 18500), 0)
    ∷ (times 2 (tick 18501), 0)
    ∷ (times 3 (tick 18501), 2)
    ∷ (times 256 (tick 9500), 0)
    ∷ (times 255 (tick 9501), 0)
    ∷ (times 256 (tick 9501), 1)
    ∷ []

pub lines_hold : found lines ≡ wanted lines
unfolding stepped happened fits rule over under beyond
lines_hold = refl

-- ── a part of fifteen cells: a cell outside is judged at every place, by itself ──
abbrev largest : Setup
largest = record { part = 3; crc = false; address = 8; gain_code = 10; offset = 30; floor = 1000; cells = 0 }

abbrev cell_at : ℕ → ℕ → Event
cell_at k x = Scan (replicate k 9000 ++ x ∷ replicate (14 - k) 9000)

-- SYS_STAT after four scans with x at the k-th place, for each of the first n places
abbrev pub at_each : ℕ → ℕ → List ℕ
at_each zero x = []
at_each (suc k) x = status largest (Boot ∷ times 4 (cell_at k x)) ∷ at_each k x

pub places_hold : (at_each 15 10953 ≡ replicate 15 4) × (at_each 15 10952 ≡ replicate 15 0) × (at_each 15 6511 ≡ replicate 15 8)
    × (at_each 15 6512 ≡ replicate 15 0) × (at_each 15 999 ≡ replicate 15 0)
unfolding stepped happened fits rule over under
places_hold = (refl, refl, refl, refl, refl)

-- what ends a run, and what does not: three over scans, the named events, then one over scan
abbrev between : List Event → List Event
between es = times 3 (cell 10953) ++ es ++ cell 10953 ∷ []

abbrev pub spells : List Case
spells =
    (between (cell 10952 ∷ []), 0)
    ∷ (between (Por ∷ Boot ∷ []), 0)
    ∷ (between (write 0x04 0x11 ++ write 0x04 0x12 ++ Boot ∷ []), 0)
    ∷ (between (write 0x04 0x00 ++ cell 10953 ∷ write 0x04 0x10), 0)
    ∷ (between (Boot ∷ []), 4)
    ∷ (between (cell 16384 ∷ []), 4)
    ∷ (between (write 0x04 0x00 ++ write 0x04 0x10), 4)
    ∷ (between (write 0x00 0xFF), 4)
    ∷ (between (cell 10953 ∷ write 0x00 0xFF), 4)
    ∷ []

-- with DELAY_DIS one scan is enough, and one tick; a longer delay asks for eight scans
abbrev pub delays : List Case
delays =
    (write 0x05 0x80 ++ cell 10953 ∷ [], 4)
    ∷ (write 0x05 0x80 ++ times 1 (tick 18501), 3)
    ∷ (write 0x05 0x80 ++ times 1 (tick 18500), 1)
    ∷ (write 0x05 0x80 ++ times 1 (tick 9500), 0)
    ∷ (write 0x08 0x10 ++ times 7 (cell 10953), 0)
    ∷ (write 0x08 0x10 ++ times 8 (cell 10953), 4)
    ∷ []

-- PIN with SYS_STAT 0, and with OV up
abbrev pub pins : List Case
pins = (Pin ∷ [], 0x10) ∷ (times 4 (cell 10953) ++ Pin ∷ [], 4) ∷ []

-- the outside level: with SYS_STAT 0, and with OV up; cleared in vain while it is 1, with another bit left, and once it is 0; it does not
-- outlive SHIP
abbrev pub levels : List Case
levels =
    (Level true ∷ [], 0x10)
    ∷ (times 4 (cell 10953) ++ Level true ∷ [], 4)
    ∷ (Level true ∷ write 0x00 0xFF, 0x10)
    ∷ (Level true ∷ times 4 (cell 10953) ++ write 0x00 0x10, 4)
    ∷ (times 4 (cell 10953) ++ Level true ∷ write 0x00 0x04, 0x10)
    ∷ (Level true ∷ Level false ∷ [], 0x10)
    ∷ (Level true ∷ Level false ∷ write 0x00 0x10, 0)
    ∷ (Level true ∷ Por ∷ Boot ∷ [], 0)
    ∷ []

pub spells_hold : found (spells ++ delays ++ pins ++ levels) ≡ wanted (spells ++ delays ++ pins ++ levels)
unfolding stepped happened fits outed settings_with shown_with cellbal_with addressed fed checked stored_at rule over under beyond
spells_hold = refl

-- ── a pair's low byte is of the value whose high byte was given: 1F 10, though 0 is stored between ──
pub pairs : entries (ran (in_ship plain) (Boot ∷ cell 0x1F10 ∷ OnBus Start ∷ out 0x10 ∷ out 0x0C ∷ OnBus Start ∷ out 0x11 ∷ []))
    (read ∷ cell 0 ∷ read ∷ [])
    ≡ gave 0x1F ∷ quietly 0 ∷ gave 0x10 ∷ []
unfolding stepped happened fits outed taken byte_given owing read_at control_byte cellbal_byte half word_at fixed_byte settings_byte groups
    inputs byte_on rule over under addressed fed checked after_data after_sum keeps stored_at
pairs = refl

-- ── the byte that ships is acknowledged; then the bus is idle and XREADY is refused with 4 ──
pub shipping : entries (ran (in_ship plain) (Boot ∷ write 0x04 0x11 ++ OnBus Start ∷ out 0x10 ∷ out 0x04 ∷ []))
    (out 0x12 ∷ out 0x00 ∷ Xready ∷ [])
    ≡ gave 0 ∷ gave 1 ∷ quietly 4 ∷ []
unfolding stepped happened fits outed settings_with shown_with cellbal_with byte_on addressed fed checked stored_at
shipping = refl
