-- CHIP P18: the bits of SYS_STAT that hold a drive off. Assumes nothing.
use Rattle.std.specs.Prelude.{Bool, cond, ◌||◌, ℕ, ◌+◌, eqb, Option, Some, None}
use Rattle.constants.specs.Weight.{OV, UV, SCD, OCD, XREADY, OVRD_ALERT, PIN_CHG, PIN_DSG}
use Rattle.bits.specs.Bit.{bit, weighed}

-- ── CHIP J13: OVRD_ALERT and XREADY hold both drives, OV CHG, and UV, SCD and OCD DSG ──
abbrev pub held_bit : ℕ → ℕ → ℕ
held_bit stat w = weighed (bit stat w) w

abbrev pub held_by : ℕ → ℕ → ℕ
held_by stat d =
    cond (eqb d PIN_CHG) (held_bit stat OVRD_ALERT + held_bit stat XREADY + held_bit stat OV)
    (held_bit stat OVRD_ALERT + held_bit stat XREADY + held_bit stat UV + held_bit stat SCD + held_bit stat OCD)

abbrev pub is_drive : ℕ → Bool
is_drive d = eqb d PIN_DSG || eqb d PIN_CHG

abbrev pub drive_of : ℕ → Option ℕ
drive_of d = cond (is_drive d) (Some d) None
