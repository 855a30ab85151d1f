-- CHIP J9, J10, H1 and H2 as the plain engine decides: a scan or tick raises the bit of a fault where it says yes by the settings that
-- stand, and is, with those in a row before it that said yes, as many as the delay asks for. No run is kept. Assumes nothing.
use Rattle.std.specs.Prelude.{Bool, false, ◌&&◌, ℕ, ◌+◌, leb, ℤ}
use Rattle.events.specs.Fault.{Faults}
use Rattle.events.specs.declared.Fault.TheVariants.{Ov, Uv, Scd, Ocd}
use Rattle.settings.specs.declared.Settings.{Settings}
use Rattle.limits.specs.Rule.{rule, beyond}
use Rattle.plain_due.specs.Streaks.{Streaks}

-- these scans or ticks say yes, and with those in a row before they are as many as are asked for
abbrev pub due : Bool → ℕ → ℕ → ℕ → Bool
due says_yes these in_a_row_before asked_for = says_yes && leb asked_for (in_a_row_before + these)

-- ── at a scan (CHIP J2 to J4): whether some count was above the line, and some between the floor and its line ──
unfoldable pub scan_due : Settings → Bool → Bool → Streaks → Faults
scan_due s above between before =
    record {
      ov = due (s.adc_en && above) 1 before.ov (rule Ov s).need;
      uv = due (s.adc_en && between) 1 before.uv (rule Uv s).need;
      scd = false;
      ocd = false;
    }

-- ── at ticks of one value (CHIP J5, R8): what is due at one of them is due at the last ──
unfoldable pub ticks_due : Settings → ℤ → ℕ → Streaks → Faults
ticks_due s v these before =
    record {
      ov = false;
      uv = false;
      scd = due (beyond (rule Scd s) v) these before.scd (rule Scd s).need;
      ocd = due (beyond (rule Ocd s) v) these before.ocd (rule Ocd s).need;
    }
