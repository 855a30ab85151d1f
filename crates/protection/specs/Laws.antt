-- CHIP J4 and J9: laws of the runs, for every value of them. Assumes nothing.
use Rattle.std.specs.Prelude.{◌≡◌, Bool, false}
use Rattle.events.specs.declared.Fault.TheVariants.{Ov, Uv}
use Rattle.events.specs.Fault.{faults_of}
use Rattle.settings.specs.declared.Settings.{Settings}
use Rattle.protection.specs.Fault.{Runs}
use Rattle.protection.specs.Judged.{scan_judged}
use Rattle.protection.specs.TablesLaws.{ended_waits}

-- SCAN with ADC_EN 0 ends both runs, no current run, and raises nothing
pub adc_off : (s : Settings) (above between : Bool) (n : Runs) → s.adc_en ≡ false
    → scan_judged s above between n ≡ record { runs = record { ov = 0; uv = 0; scd = n.scd; ocd = n.ocd }; risen = faults_of (λ k. false) }
unfolding scan_judged
adc_off s above between n e = simp (e, ended_waits Ov s, ended_waits Uv s)
