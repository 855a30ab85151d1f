-- CHIP G6, G8, G12 to G14 and M8: what an accepted write of v at a leaves of the settings, and whether it ships. Assumes nothing.
use Rattle.std.specs.Prelude.{Bool, not, ◌&&◌, cond, ℕ, ◌+◌, ◌*◌, ◌/◌, ◌%◌, eqb}
use Rattle.constants.specs.Address.{SYS_CTRL1, SYS_CTRL2, PROTECT1, PROTECT2, PROTECT3, OV_TRIP, UV_TRIP, CC_CFG}
use Rattle.constants.specs.Weight.{SHUT_A, SHUT_B, ADC_EN, TEMP_SEL, DELAY_DIS, CC_EN}
use Rattle.settings.specs.declared.Settings.{Settings}
use Rattle.bits.specs.Bit.{bit}
use Rattle.settings.specs.State.{with_ctrl1, with_ctrl2, with_protect1, with_protect2, with_protect3, with_ov_trip, with_uv_trip}
use Rattle.settings.specs.State.{with_cc_cfg}

-- ── the pair of SYS_CTRL1 (CHIP M7, M8) ──
abbrev pub is_shut_a : ℕ → Bool
is_shut_a v = bit v SHUT_A

abbrev pub is_shut_b : ℕ → Bool
is_shut_b v = bit v SHUT_B

-- whether the pair held is then (0,1)
abbrev pub keeps_pair : ℕ → Settings → Bool
keeps_pair v s = not s.shut_b && not (is_shut_a v) && is_shut_b v

-- whether it enters SHIP
abbrev pub ships : ℕ → ℕ → Settings → Bool
ships a v s = eqb a SYS_CTRL1 && s.shut_b && is_shut_a v && not (is_shut_b v)

-- ── the bits that a register has ──
-- 0x06: RSNS 7, SCD delay 4:3, SCD threshold 2:0
abbrev pub protect1_of : ℕ → ℕ
protect1_of v = v / 128 * 128 + v % 32

-- 0x07: OCD delay 6:4, threshold 3:0
abbrev pub protect2_of : ℕ → ℕ
protect2_of v = v % 128

-- 0x08: UV delay 7:6, OV delay 5:4
abbrev pub protect3_of : ℕ → ℕ
protect3_of v = v / 16 * 16

-- 0x0B: the low six bits
abbrev pub cc_cfg_of : ℕ → ℕ
cc_cfg_of v = v % 64

-- the write of SYS_CTRL1 by itself
abbrev pub control_with : ℕ → Settings → Settings
control_with v s = with_ctrl1 (bit v 16) (bit v 8) (keeps_pair v s) s

-- ── the write: every other address leaves them ──
unfoldable pub settings_with : ℕ → ℕ → Settings → Settings
settings_with a v s =
    cond (eqb a SYS_CTRL1) (with_ctrl1 (bit v ADC_EN) (bit v TEMP_SEL) (keeps_pair v s) s)
    (cond (eqb a SYS_CTRL2) (with_ctrl2 (bit v DELAY_DIS) (bit v CC_EN) s)
    (cond (eqb a PROTECT1) (with_protect1 (protect1_of v) s)
    (cond (eqb a PROTECT2) (with_protect2 (protect2_of v) s)
    (cond (eqb a PROTECT3) (with_protect3 (protect3_of v) s)
    (cond (eqb a OV_TRIP) (with_ov_trip v s)
    (cond (eqb a UV_TRIP) (with_uv_trip v s)
    (cond (eqb a CC_CFG) (with_cc_cfg (cc_cfg_of v) s)
    s)))))))
