-- CHIP G1 to G20: what an address reads. Assumes nothing.
use Rattle.std.specs.Prelude.{Bool, not, ◌&&◌, cond, ℕ, ◌+◌, ◌-◌, ◌*◌, ◌/◌, ◌%◌, get_or, eqb, leb, ltb}
use Rattle.constants.specs.Address.{SYS_STAT, CELLBAL1, CELLBAL2, CELLBAL3, SYS_CTRL1, SYS_CTRL2, VC1, BAT, TS1, CC, AFTER_CC}
use Rattle.constants.specs.Address.{ADCGAIN1, ADCOFFSET, ADCGAIN2}
use Rattle.constants.specs.Weight.{CC_READY, XREADY, OVRD_ALERT, UV, OV, SCD, OCD, LOAD_PRESENT, ADC_EN, TEMP_SEL, SHUT_B}
use Rattle.constants.specs.Weight.{DELAY_DIS, CC_EN, CC_ONESHOT, DSG_ON, CHG_ON}
use Rattle.events.specs.declared.Setup.{Setup}
use Rattle.events.specs.Setup.{groups, inputs}
use Rattle.bits.specs.Bit.{weighed}
use Rattle.settings.specs.declared.Settings.{Settings}
use Rattle.settings.specs.Read.{settings_byte}
use Rattle.registers.specs.declared.Status.{Status}
use Rattle.registers.specs.declared.Shown.{Shown}
use Rattle.registers.specs.declared.Cellbal.{Cellbal}
use Rattle.registers.specs.declared.Measured.{Measured}
use Rattle.registers.specs.declared.Registers.{Registers}
use Rattle.registers.specs.declared.Pair.{Pair}
use Rattle.registers.specs.Write.{five_of}

-- SYS_STAT (CHIP G3)
abbrev pub status_byte : Status → ℕ
status_byte t =
    weighed t.cc_ready CC_READY + weighed t.xready XREADY + weighed t.ovrd_alert OVRD_ALERT + weighed t.uv UV
    + weighed t.ov OV
    + weighed t.scd SCD + weighed t.ocd OCD

-- CELLBAL (CHIP G5), for the groups that the part has
unfoldable pub cellbal_byte : Setup → Cellbal → ℕ → ℕ
cellbal_byte u b a =
    cond (eqb a CELLBAL1 && leb 1 (groups u)) (five_of b.cellbal1)
    (cond (eqb a CELLBAL2 && leb 2 (groups u)) (five_of b.cellbal2)
    (cond (eqb a CELLBAL3 && leb 3 (groups u)) (five_of b.cellbal3)
    0))

-- SYS_CTRL1 (CHIP G6, G7)
abbrev pub ctrl1_of : Bool → Settings → ℕ
ctrl1_of load s = weighed load LOAD_PRESENT + weighed s.adc_en ADC_EN + weighed s.temp_sel TEMP_SEL + weighed s.shut_b SHUT_B

abbrev pub ctrl1_byte : Registers → ℕ
ctrl1_byte r = ctrl1_of (r.load_level && not r.shown.chg_on) r.settings

-- SYS_CTRL2 (CHIP G8)
abbrev pub ctrl2_of : Shown → Settings → ℕ
ctrl2_of w s =
    weighed s.delay_dis DELAY_DIS + weighed s.cc_en CC_EN + weighed w.cc_oneshot CC_ONESHOT + weighed w.dsg_on DSG_ON
    + weighed w.chg_on CHG_ON

abbrev pub ctrl2_byte : Registers → ℕ
ctrl2_byte r = ctrl2_of r.shown r.settings

unfoldable pub control_byte : Setup → Registers → ℕ → ℕ
control_byte u r a =
    cond (eqb a SYS_STAT) (status_byte r.shown.status)
    (cond (eqb a SYS_CTRL1) (ctrl1_byte r)
    (cond (eqb a SYS_CTRL2) (ctrl2_byte r)
    (cond (ltb a SYS_CTRL1) (cellbal_byte u r.cellbal a)
    (settings_byte r.settings a))))

-- a word's high byte at the even address, its low byte at the odd one (CHIP G15)
unfoldable pub half : ℕ → ℕ → ℕ
half a w = cond (eqb (a % 2) 0) (w / 256) (w % 256)

-- the words (CHIP G15); an input that the part lacks reads 0, whatever stands in its place (CHIP G1)
abbrev pub cell_at : Setup → Measured → ℕ → ℕ
cell_at u m k = cond (ltb k (inputs u)) (get_or m.cells k 0) 0

abbrev pub ts_at : Setup → Measured → ℕ → ℕ
ts_at u m k = cond (ltb k (groups u)) (get_or m.ts k 0) 0

unfoldable pub word_at : Setup → Measured → ℕ → ℕ
word_at u m a =
    cond (ltb a BAT) (cell_at u m ((a - VC1) / 2))
    (cond (ltb a TS1) m.bat
    (cond (ltb a CC) (ts_at u m ((a - TS1) / 2))
    m.cc))

-- what is from setup (CHIP G18)
unfoldable pub fixed_byte : Setup → ℕ → ℕ
fixed_byte u a =
    cond (eqb a ADCGAIN1) (u.gain_code / 8 % 4 * 4)
    (cond (eqb a ADCOFFSET) u.offset
    (cond (eqb a ADCGAIN2) (u.gain_code % 8 * 32)
    0))

unfoldable pub read_at : Setup → Registers → ℕ → ℕ
read_at u r a = cond (ltb a VC1) (control_byte u r a) (cond (ltb a AFTER_CC) (half a (word_at u r.measured a)) (fixed_byte u a))

-- what IN is told of an address: the byte that it reads, and the low byte of the word that stands there, 0 where none does
unfoldable pub pair_at : Setup → Registers → ℕ → Pair
pair_at u r a = record { here = read_at u r a; low = cond (ltb a VC1) 0 (cond (ltb a AFTER_CC) (word_at u r.measured a % 256) 0) }
