-- CHIP J4 and J9: what an event does to the four runs and which faults it raises; and that one look over the counts,
-- or one tick's value, is enough for it. Assumes nothing.
use Rattle.std.specs.Prelude.{◌≡◌, refl, Bool, false, ◌&&◌, List, ℕ, leb, ℤ}
use Rattle.events.specs.Event.{Event, Scan, Sense}
use Rattle.events.specs.declared.Fault.{Fault}
use Rattle.events.specs.declared.Fault.TheVariants.{Ov, Uv, Scd, Ocd}
use Rattle.events.specs.Fault.{faults_of}
use Rattle.settings.specs.declared.Settings.{Settings}
use Rattle.cell_counts.specs.Scan.{some_above, some_between}
use Rattle.protection.specs.Fault.{Runs}
use Rattle.protection.specs.declared.Judged.{Judged}
use Rattle.protection.specs.Streak.{bump}
use Rattle.limits.specs.Rule.{cap, rule, over, under, beyond}
use Rattle.protection.specs.Runs.{counted, risen}

abbrev pub judged_by : ℕ → Settings → Runs → Event → Judged
judged_by floor s n e = record { runs = counted floor s n e; risen = faults_of (risen floor s n e) }

-- a run has lasted as long as fault k needs
abbrev pub lasts : Fault → Settings → ℕ → Bool
lasts k s run = leb (rule k s).need run

-- SCAN with ADC_EN 0 (CHIP J4)
unfoldable pub scan_judged : Settings → Bool → Bool → Runs → Judged
scan_judged s above between n =
    let ov : ℕ = bump (cap Ov) (s.adc_en && above) n.ov in
    let uv : ℕ = bump (cap Uv) (s.adc_en && between) n.uv in
    record {
      runs = record { ov = ov; uv = uv; scd = n.scd; ocd = n.ocd };
      risen = record { ov = lasts Ov s ov; uv = lasts Uv s uv; scd = false; ocd = false };
    }

unfoldable pub tick_judged : Settings → ℤ → Runs → Judged
tick_judged s v n =
    let scd : ℕ = bump (cap Scd) (beyond (rule Scd s) v) n.scd in
    let ocd : ℕ = bump (cap Ocd) (beyond (rule Ocd s) v) n.ocd in
    record {
      runs = record { ov = n.ov; uv = n.uv; scd = scd; ocd = ocd };
      risen = record { ov = false; uv = false; scd = lasts Scd s scd; ocd = lasts Ocd s ocd };
    }

pub scan_judged_lem : (floor : ℕ) (s : Settings) (n : Runs) (xs : List ℕ)
    → scan_judged s (some_above (rule Ov s).limit xs) (some_between floor (rule Uv s).limit xs) n ≡ judged_by floor s n (Scan xs)
unfolding scan_judged rule over under
scan_judged_lem floor s n xs = refl

pub tick_judged_lem : (floor : ℕ) (s : Settings) (n : Runs) (v : ℤ) → tick_judged s v n ≡ judged_by floor s n (Sense v)
unfolding tick_judged
tick_judged_lem floor s n v = refl
