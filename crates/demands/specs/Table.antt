-- THE REGISTERS OF DOCUMENT 01 in its own numbers: the byte at each of the 256 addresses, by what the chip shows and by the rest of what
-- its registers hold; and when an event enters or leaves SHIP. Assumes nothing.
use Rattle.std.specs.Prelude.{Bool, not, ◌&&◌, ◌||◌, cond, ℕ, ◌+◌, ◌*◌, ◌-◌, ◌/◌, ◌%◌, eqb, leb, ltb, get_or}
use Rattle.events.specs.declared.Setup.{Setup}
use Rattle.events.specs.Setup.{groups, inputs}
use Rattle.events.specs.Event.{Event}
use Rattle.bits.specs.Bit.{bit}
use Rattle.bus.specs.Bus.{Store}
use Rattle.settings.specs.declared.Settings.{Settings}
use Rattle.registers.specs.declared.Status.{Status}
use Rattle.registers.specs.declared.Shown.{Shown}
use Rattle.registers.specs.declared.Cellbal.{Cellbal}
use Rattle.registers.specs.declared.Measured.{Measured}
use Rattle.registers.specs.declared.Registers.{Registers}
use Rattle.demands.specs.Moves.{is, at, value}

-- ── modes ──
-- pair (1,0) in a write of SYS_CTRL1 while (0,1) is held: SHUT_A bit 1, SHUT_B bit 0
abbrev pub ships_by : Store → Settings → Bool
ships_by w s = at 0x04 w && s.shut_b && bit (value w) 2 && not (bit (value w) 1)

-- POR and that pair enter SHIP, BOOT leaves it
abbrev pub mode_by : Event → Store → Settings → Bool → Bool
mode_by e w s normal = not (is 0x01 e || ships_by w s) && (is 0x02 e || normal)

-- ── bytes ──
-- bits at their places
abbrev pub one : Bool → ℕ → ℕ
one b w = cond b w 0

abbrev pub sys_stat : Status → ℕ
sys_stat t =
    one t.cc_ready 128 + one t.xready 32 + one t.ovrd_alert 16 + one t.uv 8 + one t.ov 4 + one t.scd 2
    + one t.ocd 1

-- LOAD_PRESENT 7 (load level 1 and CHG_ON 0), ADC_EN 4, TEMP_SEL 3, the pair: SHUT_A is never held
abbrev pub sys_ctrl1 : Shown → Registers → ℕ
sys_ctrl1 s r =
    one (r.load_level && not s.chg_on) 128 + one r.settings.adc_en 16 + one r.settings.temp_sel 8
    + one r.settings.shut_b 1

-- DELAY_DIS 7, CC_EN 6, CC_ONESHOT 5, DSG_ON 1, CHG_ON 0
abbrev pub sys_ctrl2 : Shown → Registers → ℕ
sys_ctrl2 s r =
    one r.settings.delay_dis 128 + one r.settings.cc_en 64 + one s.cc_oneshot 32 + one s.dsg_on 2
    + one s.chg_on 1

-- 0x01 to 0x03, for the groups of five inputs that the part has
abbrev pub cellbal_at : Setup → Cellbal → ℕ → ℕ
cellbal_at u b a =
    cond (leb a (groups u)) (cond (eqb a 0x01) b.cellbal1 (cond (eqb a 0x02) b.cellbal2 b.cellbal3) % 32) 0

-- 0x06 to 0x0B with the bits that they have
abbrev pub setting_at : Settings → ℕ → ℕ
setting_at s a =
    cond (eqb a 0x06) (s.protect1 / 128 * 128 + s.protect1 % 32)
    (cond (eqb a 0x07) (s.protect2 % 128)
    (cond (eqb a 0x08) (s.protect3 / 16 * 16)
    (cond (eqb a 0x09) s.ov_trip
    (cond (eqb a 0x0A) s.uv_trip
    (s.cc_cfg % 64)))))

-- the twenty words from 0x0C on: 15 cells, BAT, three thermistors, CC; an input that the part lacks reads 0
abbrev pub word_by : Setup → Measured → ℕ → ℕ
word_by u m k =
    cond (ltb k 15) (cond (ltb k (inputs u)) (get_or m.cells k 0) 0)
    (cond (ltb k 16) m.bat
    (cond (ltb k 19) (cond (ltb (k - 16) (groups u)) (get_or m.ts (k - 16) 0) 0)
    m.cc))

-- 0x50 bits 3:2 gain code 4:3; 0x51 offset; 0x59 bits 7:5 gain code 2:0; every other address 0
abbrev pub setup_at : Setup → ℕ → ℕ
setup_at u a =
    cond (eqb a 0x50) (u.gain_code / 8 % 4 * 4) (cond (eqb a 0x51) u.offset (cond (eqb a 0x59) (u.gain_code % 8 * 32) 0))

-- high byte first, at the even address
unfoldable pub byte_at : Setup → Shown → Registers → ℕ → ℕ
byte_at u s r a =
    cond (ltb a 0x01) (sys_stat s.status)
    (cond (ltb a 0x04) (cellbal_at u r.cellbal a)
    (cond (ltb a 0x05) (sys_ctrl1 s r)
    (cond (ltb a 0x06) (sys_ctrl2 s r)
    (cond (ltb a 0x0C) (setting_at r.settings a)
    (cond (ltb a 0x34)
    (cond (eqb (a % 2) 0) (word_by u r.measured ((a - 0x0C) / 2) / 256) (word_by u r.measured ((a - 0x0C) / 2) % 256))
    (setup_at u a))))))
