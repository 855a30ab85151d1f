-- What a scan writes into the bytes of a chip. Assumes nothing.
use Rattle.std.specs.Prelude.{◌≡◌, Bool, cond, List, [], ◌∷◌, ℕ, length, take, set}
use Rattle.std.proofs.lemmas.List.Edits.{sets}
use Rattle.events.specs.Setup.{inputs}
use Rattle.events.specs.Event.{Scan}
use Rattle.bits.specs.Numbers.{word_bytes}
use Rattle.registers.specs.declared.Shown.{Shown}
use Rattle.registers.specs.State.{with_shown}
use Rattle.registers.specs.Judging.{bat_of, scan_kept}
use Rattle.chip.specs.declared.Chip.{Chip}
use Rattle.chip.specs.Chip.{with_registers, with_runs, normally}
use Rattle.chip_bytes_layout.specs.Place.{FRESH, ADC_EN, OV_LOW, BAT_LOW, VC1_LOW}
use Rattle.chip_bytes_layout.specs.Layout.{shown_put, switch_at}
use Rattle.chip_bytes_done.specs.declared.scan.Swept.{Swept}

-- what is measured, where it is kept
abbrev pub measured_in : Bool → List ℕ → ℕ → List ℕ → List ℕ
measured_in kept cells sum b = cond kept (sets (sets b BAT_LOW (word_bytes (bat_of sum ∷ []))) VC1_LOW (word_bytes cells)) b

-- what is shown, and no wiring record any more
abbrev pub shown_in : Shown → List ℕ → List ℕ
shown_in s b = shown_put s (set b FRESH 0)

abbrev pub swept_in : Swept → List ℕ → List ℕ
swept_in w b =
    shown_in w.shown (measured_in (switch_at b ADC_EN) w.cells w.sum (sets b OV_LOW (word_bytes (w.runs.ov ∷ w.runs.uv ∷ []))))

-- what it leaves of the chip
abbrev pub swept_chip : Swept → Chip → Chip
swept_chip w c = with_runs w.runs (with_registers (with_shown w.shown (scan_kept w.cells w.sum c.registers)) c)

pub record SweptBy (c : Chip) (counts : List ℕ) (w : Swept) : Type 0 where
  pub leaves : swept_chip w c ≡ (normally (Scan (take (inputs c.setup) counts)) c).chip
  pub scd : w.runs.scd ≡ c.runs.scd
  pub ocd : w.runs.ocd ≡ c.runs.ocd
  pub sized : length w.cells ≡ 15
