-- CHIP P17: by the weight of a bit of SYS_STAT, what raised it, and of OV, UV, SCD and OCD the delay and the limit that are set. Assumes
-- nothing.
use Rattle.std.specs.Prelude.{Bool, cond, ◌||◌, ℕ, eqb, Option, Some, None}
use Rattle.constants.specs.Weight.{OV, UV, SCD, OCD, XREADY, OVRD_ALERT, CC_READY}
use Rattle.events.specs.declared.Fault.{Fault}
use Rattle.events.specs.declared.Fault.TheVariants.{Ov, Uv, Scd, Ocd}
use Rattle.settings.specs.declared.Settings.{Settings}
use Rattle.limits.specs.Rule.{rule}
use Rattle.causes.specs.declared.Cause.{Cause}
use Rattle.causes.specs.declared.Cause.TheVariants.{Scans, Ticks, Pin, Level, Xready, Count}

-- ── by the bit's weight ──
abbrev pub is_judged : ℕ → Bool
is_judged b = eqb b OV || eqb b UV || eqb b SCD || eqb b OCD

-- the fault that it stands for
abbrev pub fault_of : ℕ → Option Fault
fault_of b = cond (eqb b OV) (Some Ov) (cond (eqb b UV) (Some Uv) (cond (eqb b SCD) (Some Scd) (cond (eqb b OCD) (Some Ocd) None)))

-- ── what raises a bit, as a number ──
abbrev pub by_scans : ℕ
by_scans = 1

abbrev pub by_ticks : ℕ
by_ticks = 2

abbrev pub by_pin : ℕ
by_pin = 3

abbrev pub by_level : ℕ
by_level = 4

abbrev pub by_xready : ℕ
by_xready = 5

abbrev pub by_count : ℕ
by_count = 6

abbrev pub cause_number : Cause → ℕ
cause_number Scans = by_scans
cause_number Ticks = by_ticks
cause_number Pin = by_pin
cause_number Level = by_level
cause_number Xready = by_xready
cause_number Count = by_count

abbrev pub cause_of : ℕ → Bool → ℕ
cause_of b pin =
    cond (eqb b OV || eqb b UV) by_scans
    (cond (eqb b SCD || eqb b OCD) by_ticks (cond (eqb b XREADY) by_xready (cond (eqb b CC_READY) by_count (cond pin by_pin by_level))))

abbrev pub need_of : ℕ → Settings → ℕ
need_of b s = cond (eqb b OV) (rule Ov s).need (cond (eqb b UV) (rule Uv s).need (cond (eqb b SCD) (rule Scd s).need (rule Ocd s).need))

abbrev pub limit_of : ℕ → Settings → ℕ
limit_of b s =
    cond (eqb b OV) (rule Ov s).limit (cond (eqb b UV) (rule Uv s).limit (cond (eqb b SCD) (rule Scd s).limit (rule Ocd s).limit))

-- ── the weight of one of the seven bits; 0 for another number ──
abbrev pub is_known : ℕ → Bool
is_known b = eqb b OCD || eqb b SCD || eqb b OV || eqb b UV || eqb b OVRD_ALERT || eqb b XREADY || eqb b CC_READY

abbrev pub known_bit : ℕ → ℕ
known_bit b = cond (is_known b) b 0

abbrev pub known : ℕ → Option ℕ
known b = cond (is_known b) (Some b) None
