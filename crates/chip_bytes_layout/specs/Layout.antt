-- The kept chip: a chip, and whether a wiring record is still taken, as 96 bytes and back. Byte 0 is the layout's version, 1; all zero
-- is no chip yet. Assumes nothing.
use Rattle.std.specs.Prelude.{Bool, true, false, not, ◌&&◌, ◌||◌, cond, List, [], ◌∷◌, ◌++◌, ℕ, zero, suc, eqb, leb, ltb, length, take}
use Rattle.std.specs.Prelude.{drop, get_or, replicate, Option, Some, None}
use Rattle.std.proofs.lemmas.List.Edits.{sets}
use Rattle.events.specs.declared.Setup.{Setup}
use Rattle.events.specs.Setup.{setup_fits}
use Rattle.bits.specs.Numbers.{within, bit_of, words, word_bytes}
use Rattle.events.specs.Setup.{standing}
use Rattle.wiring.specs.Rows.{has_row}
use Rattle.bus.specs.declared.Phase.{Phase}
use Rattle.bus.specs.declared.Phase.TheVariants.{Idle, Address, Pointing, Writing, Checking, Reading, Summing}
use Rattle.bus.specs.declared.Bus.{Bus}
use Rattle.settings.specs.declared.Settings.{Settings}
use Rattle.registers.specs.declared.Status.{Status}
use Rattle.registers.specs.declared.Shown.{Shown}
use Rattle.registers.specs.declared.Cellbal.{Cellbal}
use Rattle.registers.specs.declared.Measured.{Measured}
use Rattle.registers.specs.declared.Registers.{Registers}
use Rattle.registers.specs.State.{alert}
use Rattle.protection.specs.Fault.{Runs}
use Rattle.chip.specs.declared.Chip.{Chip}
use Rattle.chip.specs.Chip.{in_ship}
use Rattle.chip_bytes_layout.specs.Kept.{Kept}
use Rattle.chip_bytes_layout.specs.declared.Kept.{Kept as Held}
use Rattle.constants.specs.Size.{KEPT_CHIP}
use Rattle.chip_bytes_layout.specs.Place.{LAYOUT, VERSION, PART, ADDRESS, GAIN_CODE, OFFSET, CELLS, POINTER, SUM}
use Rattle.chip_bytes_layout.specs.Place.{LOW, PHASE, FIRST, SECOND, PROTECT1, PROTECT2, PROTECT3, OV_TRIP, UV_TRIP, CC_CFG}
use Rattle.chip_bytes_layout.specs.Place.{CELLBAL1, CELLBAL2, CELLBAL3, CRC, NORMAL, FRESH, ADC_EN, TEMP_SEL, SHUT_B}
use Rattle.chip_bytes_layout.specs.Place.{DELAY_DIS, CC_EN, CC_READY, XREADY, OVRD_ALERT, UV, OV, SCD, OCD, CC_ONESHOT}
use Rattle.chip_bytes_layout.specs.Place.{DSG_ON, CHG_ON, LOAD_LEVEL, OUTSIDE_LEVEL, SWITCHES, SWITCHED, REST1, RESTS}
use Rattle.chip_bytes_layout.specs.Place.{WORDS, FLOOR, OV_RUN, UV_RUN, SCD_RUN, OCD_RUN, BAT, CC, TS1, VC1}

-- ── the phase of the bus: a tag and two bytes, 0 where it has none ──
abbrev pub tag_of : Phase → ℕ
tag_of Idle = 0
tag_of Address = 1
tag_of (Pointing s) = 2
tag_of (Writing s) = 3
tag_of (Checking v s) = 4
tag_of (Reading s k) = 5
tag_of (Summing k) = 6

abbrev pub first_of : Phase → ℕ
first_of Idle = 0
first_of Address = 0
first_of (Pointing s) = s
first_of (Writing s) = s
first_of (Checking v s) = v
first_of (Reading s k) = s
first_of (Summing k) = bit_of k

abbrev pub second_of : Phase → ℕ
second_of Idle = 0
second_of Address = 0
second_of (Pointing s) = 0
second_of (Writing s) = 0
second_of (Checking v s) = s
second_of (Reading s k) = bit_of k
second_of (Summing k) = 0

unfoldable pub phase_of : ℕ → ℕ → ℕ → Phase
phase_of tag x y =
    cond (eqb tag 0) Idle
    (cond (eqb tag 1) Address
    (cond (eqb tag 2) (Pointing x)
    (cond (eqb tag 3) (Writing x)
    (cond (eqb tag 4) (Checking x y)
    (cond (eqb tag 5) (Reading x (eqb y 1))
    (Summing (eqb x 1)))))))

-- the bytes that a phase has
unfoldable pub phase_good : ℕ → ℕ → ℕ → Bool
phase_good tag x y =
    cond (eqb tag 0) (eqb x 0 && eqb y 0)
    (cond (eqb tag 1) (eqb x 0 && eqb y 0)
    (cond (eqb tag 2) (eqb y 0)
    (cond (eqb tag 3) (eqb y 0)
    (cond (eqb tag 4) true
    (cond (eqb tag 5) (leb y 1)
    (cond (eqb tag 6) (leb x 1 && eqb y 0)
    false))))))

-- ── n numbers of a list from the i-th on, 0 past its end ──
abbrev pub listed : List ℕ → ℕ → ℕ → List ℕ
listed b i zero = []
listed b i (suc n) = get_or b i 0 ∷ listed b (suc i) n

-- ── the bytes: 21 plain ones, 20 switches, 5 zeros, and 25 numbers of 2 bytes, the low one first ──
unfoldable pub plain_of : Chip → List ℕ
plain_of c =
    LAYOUT
    ∷ c.setup.part ∷ c.setup.address ∷ c.setup.gain_code ∷ c.setup.offset ∷ c.setup.cells
    ∷ c.bus.line.pointer ∷ c.bus.owed.sum ∷ c.bus.owed.low
    ∷ tag_of c.bus.line.phase ∷ first_of c.bus.line.phase ∷ second_of c.bus.line.phase
    ∷ c.registers.settings.protect1 ∷ c.registers.settings.protect2 ∷ c.registers.settings.protect3
    ∷ c.registers.settings.ov_trip ∷ c.registers.settings.uv_trip ∷ c.registers.settings.cc_cfg
    ∷ c.registers.cellbal.cellbal1 ∷ c.registers.cellbal.cellbal2 ∷ c.registers.cellbal.cellbal3
    ∷ []

abbrev pub status_switches : Status → List ℕ
status_switches t =
    bit_of t.cc_ready ∷ bit_of t.xready ∷ bit_of t.ovrd_alert ∷ bit_of t.uv ∷ bit_of t.ov ∷ bit_of t.scd ∷ bit_of
    t.ocd ∷ []

-- what is shown, put in its place
abbrev pub shown_put : Shown → List ℕ → List ℕ
shown_put s b =
    sets b CC_READY (status_switches s.status ++ (bit_of s.cc_oneshot ∷ bit_of s.dsg_on ∷ bit_of s.chg_on ∷ []))

unfoldable pub switches_of : Chip → Bool → List ℕ
switches_of c fresh =
    bit_of c.setup.crc ∷ bit_of c.normal ∷ bit_of fresh
    ∷ bit_of c.registers.settings.adc_en ∷ bit_of c.registers.settings.temp_sel ∷ bit_of c.registers.settings.shut_b
    ∷ bit_of c.registers.settings.delay_dis ∷ bit_of c.registers.settings.cc_en
    ∷ status_switches c.registers.shown.status
    ++ (bit_of c.registers.shown.cc_oneshot ∷ bit_of c.registers.shown.dsg_on ∷ bit_of c.registers.shown.chg_on
    ∷ bit_of c.registers.load_level ∷ bit_of c.registers.outside_level
    ∷ [])

unfoldable pub words_of : Chip → List ℕ
words_of c =
    c.setup.floor
    ∷ c.runs.ov ∷ c.runs.uv ∷ c.runs.scd ∷ c.runs.ocd
    ∷ c.registers.measured.bat ∷ c.registers.measured.cc
    ∷ listed c.registers.measured.ts 0 3 ++ listed c.registers.measured.cells 0 15

unfoldable pub chip_bytes : Chip → Bool → List ℕ
chip_bytes c fresh = plain_of c ++ (switches_of c fresh ++ (replicate RESTS 0 ++ word_bytes (words_of c)))

-- ── and back ──
abbrev pub switch_at : List ℕ → ℕ → Bool
switch_at b i = eqb (get_or b i 0) 1

abbrev pub word_in : List ℕ → ℕ → ℕ
word_in b i = get_or (words (drop WORDS b)) i 0

abbrev pub setup_from : List ℕ → List ℕ → Setup
setup_from b ws = record {
  part = get_or b PART 0;
  crc = switch_at b CRC;
  address = get_or b ADDRESS 0;
  gain_code = get_or b GAIN_CODE 0;
  offset = get_or b OFFSET 0;
  floor = get_or ws FLOOR 0;
  cells = get_or b CELLS 0;
}

abbrev pub bus_at : List ℕ → Bus
bus_at b = record {
  line = record { phase = phase_of (get_or b PHASE 0) (get_or b FIRST 0) (get_or b SECOND 0); pointer = get_or b POINTER 0 };
  owed = record { sum = get_or b SUM 0; low = get_or b LOW 0 };
}

abbrev pub settings_at : List ℕ → Settings
settings_at b = record {
  adc_en = switch_at b ADC_EN;
  temp_sel = switch_at b TEMP_SEL;
  shut_b = switch_at b SHUT_B;
  delay_dis = switch_at b DELAY_DIS;
  cc_en = switch_at b CC_EN;
  protect1 = get_or b PROTECT1 0;
  protect2 = get_or b PROTECT2 0;
  protect3 = get_or b PROTECT3 0;
  ov_trip = get_or b OV_TRIP 0;
  uv_trip = get_or b UV_TRIP 0;
  cc_cfg = get_or b CC_CFG 0;
}

abbrev pub status_at : List ℕ → Status
status_at b = record {
  cc_ready = switch_at b CC_READY;
  xready = switch_at b XREADY;
  ovrd_alert = switch_at b OVRD_ALERT;
  uv = switch_at b UV;
  ov = switch_at b OV;
  scd = switch_at b SCD;
  ocd = switch_at b OCD;
}

abbrev pub shown_at : List ℕ → Shown
shown_at b =
    record { status = status_at b; cc_oneshot = switch_at b CC_ONESHOT; dsg_on = switch_at b DSG_ON; chg_on = switch_at b CHG_ON }

abbrev pub cellbal_at : List ℕ → Cellbal
cellbal_at b = record { cellbal1 = get_or b CELLBAL1 0; cellbal2 = get_or b CELLBAL2 0; cellbal3 = get_or b CELLBAL3 0 }

abbrev pub measured_from : List ℕ → List ℕ → Measured
measured_from b ws = record {
  cells = listed ws VC1 15;
  bat = get_or ws BAT 0;
  ts = listed ws TS1 3;
  cc = get_or ws CC 0;
}

abbrev pub runs_from : List ℕ → List ℕ → Runs
runs_from b ws = record { ov = get_or ws OV_RUN 0; uv = get_or ws UV_RUN 0; scd = get_or ws SCD_RUN 0; ocd = get_or ws OCD_RUN 0 }

abbrev pub registers_from : List ℕ → List ℕ → Registers
registers_from b ws = record {
  settings = settings_at b;
  shown = shown_at b;
  cellbal = cellbal_at b;
  measured = measured_from b ws;
  load_level = switch_at b LOAD_LEVEL;
  outside_level = switch_at b OUTSIDE_LEVEL;
}

abbrev pub chip_from : List ℕ → List ℕ → Chip
chip_from b ws = record {
  setup = setup_from b ws;
  normal = switch_at b NORMAL;
  bus = bus_at b;
  registers = registers_from b ws;
  runs = runs_from b ws;
}

abbrev pub setup_at : List ℕ → Setup
setup_at b = setup_from b (words (drop WORDS b))

abbrev pub measured_at : List ℕ → Measured
measured_at b = measured_from b (words (drop WORDS b))

abbrev pub runs_at : List ℕ → Runs
runs_at b = runs_from b (words (drop WORDS b))

abbrev pub registers_at : List ℕ → Registers
registers_at b = registers_from b (words (drop WORDS b))

unfoldable pub chip_at : List ℕ → Chip
chip_at b = chip_from b (words (drop WORDS b))

-- ── bytes that are a chip: the layout's version, switches 0 or 1, the phase's bytes, zeros where there is no field ──
unfoldable pub formed : List ℕ → Bool
formed b =
    eqb (get_or b VERSION 0) LAYOUT && within 1 (listed b SWITCHES SWITCHED)
    && phase_good (get_or b PHASE 0) (get_or b FIRST 0) (get_or b SECOND 0)
    && within 0 (listed b REST1 RESTS)

-- ── a chip that could stand: a setup in range, with a row of its part or none, and not the outside level 1 with SYS_STAT 0; a wiring
-- record is taken by a chip in SHIP that has none ──
unfoldable pub setup_stands : Setup → Bool
setup_stands v =
    setup_fits v.part (bit_of v.crc) v.address v.gain_code v.floor && (eqb v.cells 0 || has_row v.part v.cells)

abbrev pub level_stands : Chip → Bool
level_stands c = alert c.registers.shown.status || not c.registers.outside_level

abbrev pub fresh_stands : Chip → Bool → Bool
fresh_stands c fresh = not fresh || (not c.normal && eqb c.setup.cells 0)

unfoldable pub could_stand : Chip → Bool → Bool
could_stand c fresh = setup_stands c.setup && level_stands c && fresh_stands c fresh

-- ── what is kept ──
abbrev pub none : Chip
none = in_ship (standing 0)

abbrev pub keeps : Chip → Bool → Kept
keeps c fresh = record { good = true; chip = c; fresh = fresh }

abbrev pub no_chip : Kept
no_chip = record { good = false; chip = none; fresh = false }

-- what a call's answer says of them
abbrev pub kept_seen : Option Held → Kept
kept_seen None = no_chip
kept_seen (Some k) = keeps k.chip k.fresh

unfoldable pub kept_at : List ℕ → Kept
kept_at b =
    cond (within 0 b) (keeps none false)
    (cond (formed b && could_stand (chip_at b) (switch_at b FRESH)) (keeps (chip_at b) (switch_at b FRESH)) no_chip)

-- the same in steps: whether bytes are good, and then their chip
unfoldable pub good_at : List ℕ → Bool
good_at b = within 0 b || (formed b && could_stand (chip_at b) (switch_at b FRESH))

unfoldable pub chip_in : List ℕ → Chip
chip_in b = cond (eqb (get_or b PART 0) 0) none (chip_at b)

-- part 0: no chip yet
unfoldable pub kept_bytes : Chip → Bool → List ℕ
kept_bytes c fresh = cond (eqb c.setup.part 0) (replicate KEPT_CHIP 0) (chip_bytes c fresh)

-- the first 96 bytes of a buffer, which has room for them or stays as it was
abbrev pub kept_of : List ℕ → Kept
kept_of b = cond (ltb (length b) KEPT_CHIP) no_chip (kept_at (take KEPT_CHIP b))

abbrev pub good_of : List ℕ → Bool
good_of b = cond (ltb (length b) KEPT_CHIP) false (good_at (take KEPT_CHIP b))

abbrev pub chip_of : List ℕ → Chip
chip_of b = cond (ltb (length b) KEPT_CHIP) none (chip_in (take KEPT_CHIP b))

abbrev pub fresh_of : List ℕ → Bool
fresh_of b = cond (ltb (length b) KEPT_CHIP) false (switch_at (take KEPT_CHIP b) FRESH)

abbrev pub kept_in : Chip → Bool → List ℕ → List ℕ
kept_in c fresh old = cond (ltb (length old) KEPT_CHIP) old (kept_bytes c fresh ++ drop KEPT_CHIP old)
