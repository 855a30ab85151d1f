-- A scan moves its runs, what is measured and what is shown, in the bytes as in the chip. Assumes nothing.
use Rattle.std.specs.Prelude.{◌≡◌, refl, Bool, true, false, cond, List, [], ◌∷◌, ◌++◌, ℕ, length, take, drop}
use Rattle.std.proofs.Common.{sym, ap, ◌∙◌, subst}
use Rattle.std.proofs.lemmas.List.Edits.{sets}
use Rattle.events.specs.Setup.{inputs}
use Rattle.events.specs.Event.{Scan}
use Rattle.bits.specs.Numbers.{word_bytes}
use Rattle.bits.specs.BytesLaws.{bit_same}
use Rattle.registers.specs.LevelLaws.{raised_calm}
use Rattle.registers.specs.Judging.{bat_of, cells_kept, scan_kept, scanned}
use Rattle.protection.specs.Runs.{risen}
use Rattle.registers.specs.declared.Shown.{Shown}
use Rattle.registers.specs.State.{with_shown, with_measured}
use Rattle.protection.specs.Fault.{Runs}
use Rattle.chip.specs.declared.Chip.{Chip}
use Rattle.chip.specs.Chip.{numbered, with_registers, with_runs}
use Rattle.chip.specs.Calm.{Calmed}
use Rattle.chip_bytes_layout.specs.Place.{FRESH, ADC_EN, OV_LOW}
use Rattle.chip_bytes_layout.specs.Layout.{plain_of, switches_of, words_of, chip_bytes, listed, switch_at, good_of, chip_of}
use Rattle.chip_bytes_layout.specs.ListedLaws.{listed_all}
use Rattle.chip_bytes_layout.specs.Did.{Awake, chip_here, Did}
use Rattle.chip_bytes_layout.proofs.DidLaws.{calm, bytes_are, chip_is, did}
use Rattle.chip_bytes_done.specs.declared.scan.Swept.{Swept}
use Rattle.chip_bytes_done.specs.Swept.{measured_in, shown_in, swept_in, swept_chip, SweptBy}

-- each part put in full bytes
runs_moved : (c : Chip) (f : Bool) (r : Runs) (rest : List ℕ) → r.scd ≡ c.runs.scd → r.ocd ≡ c.runs.ocd
    → sets (chip_bytes c f ++ rest) OV_LOW (word_bytes (r.ov ∷ r.uv ∷ [])) ≡ chip_bytes (with_runs r c) f ++ rest
unfolding chip_bytes plain_of switches_of words_of
runs_moved c f r rest s o = simp (s, o)

shown_moved : (c : Chip) (f : Bool) (s : Shown) (rest : List ℕ)
    → shown_in s (chip_bytes c f ++ rest) ≡ chip_bytes (with_registers (with_shown s c.registers) c) false ++ rest
unfolding chip_bytes plain_of switches_of words_of
shown_moved c f s rest = refl

-- the counts, one by one
abbrev with_cells : List ℕ → ℕ → Chip → Chip
with_cells cells bat c =
    with_registers
    (with_measured (record { cells = cells; bat = bat; ts = c.registers.measured.ts; cc = c.registers.measured.cc }) c.registers) c

cells_moved : (c : Chip) (f : Bool) (cells : List ℕ) (bat : ℕ) (rest : List ℕ)
    → sets (sets (chip_bytes c f ++ rest) 56 (word_bytes (bat ∷ []))) 66 (word_bytes (listed cells 0 15))
    ≡ chip_bytes (with_cells cells bat c) f ++ rest
unfolding chip_bytes plain_of switches_of words_of
cells_moved c f cells bat rest = refl

-- .. where they are kept
module _ (c : Chip) (f : Bool) (cells : List ℕ) (sum : ℕ) (rest : List ℕ) where
  abbrev putting : Bool → List ℕ → List ℕ
  putting t xs = measured_in t xs sum (chip_bytes c f ++ rest)

  abbrev keeping : Bool → List ℕ
  keeping t =
      chip_bytes
      (with_registers (with_measured (cond t (cells_kept cells sum c.registers.measured) c.registers.measured) c.registers) c) f
      ++ rest

  kept_by : (t : Bool) → putting t (listed cells 0 15) ≡ keeping t
  kept_by true = cells_moved c f cells (bat_of sum) rest
  kept_by false = refl

  kept_moved : (t : Bool) → length cells ≡ 15 → t ≡ c.registers.settings.adc_en
      → putting t cells ≡ keeping c.registers.settings.adc_en
  kept_moved t l e = ap (putting t) (sym (listed_all cells 15 l)) ∙ kept_by t ∙ ap keeping e

adc_is : (c : Chip) (f : Bool) (rest : List ℕ) → switch_at (chip_bytes c f ++ rest) ADC_EN ≡ c.registers.settings.adc_en
unfolding chip_bytes plain_of switches_of words_of
adc_is c f rest = bit_same c.registers.settings.adc_en

-- and all of them
swept_moved : (c : Chip) (f : Bool) (w : Swept) (rest : List ℕ) {counts : List ℕ} → SweptBy c counts w
    → swept_in w (chip_bytes c f ++ rest) ≡ chip_bytes (swept_chip w c) false ++ rest
swept_moved c f w rest s =
    let kept : Bool = switch_at (chip_bytes c f ++ rest) ADC_EN in
    ap (λ (b : List ℕ). shown_in w.shown (measured_in kept w.cells w.sum b)) (runs_moved c f w.runs rest s.scd s.ocd)
    ∙ ap (shown_in w.shown) (kept_moved (with_runs w.runs c) f w.cells w.sum rest kept s.sized (adc_is c f rest))
    ∙ shown_moved (with_registers (scan_kept w.cells w.sum c.registers) (with_runs w.runs c)) f w.shown rest

-- by what was read of them
pub sweeps_did : (b : List ℕ) (counts : List ℕ) {w : Swept} {new : List ℕ} → Awake b → SweptBy (chip_here b) counts w → new ≡ swept_in w b
    → good_of b ≡ true → Did b (Scan (take (inputs (chip_of b).setup) counts)) false 0 w.shown new
sweeps_did b counts {w = w} {new = new} a s m g =
    subst (λ (c : Chip). Did b (Scan (take (inputs c.setup) counts)) false 0 w.shown new) (sym (chip_is b a g))
    (did b a g (Scan (take (inputs (chip_here b).setup) counts)) (swept_chip w (chip_here b)) false 0 w.shown new refl
    (subst Calmed (sym s.leaves)
    (raised_calm
    (risen (chip_here b).setup.floor (chip_here b).registers.settings (chip_here b).runs
    (Scan (take (inputs (chip_here b).setup) counts)))
    (scanned (take (inputs (chip_here b).setup) counts) (chip_here b).registers) (calm b a g)))
    (ap (numbered 0) s.leaves)
    refl
    (m ∙ ap (swept_in w) (sym (bytes_are b a g)) ∙ swept_moved (chip_here b) (switch_at (take 96 b) FRESH) w (drop 96 b) s))
