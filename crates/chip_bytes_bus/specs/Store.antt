-- What an accepted write of a register writes into the bytes of a chip. Assumes nothing.
use Rattle.std.specs.Prelude.{◌≡◌, Bool, true, false, cond, List, [], ◌∷◌, ◌++◌, ℕ, ◌+◌, ◌-◌, set}
use Rattle.std.proofs.lemmas.List.Edits.{sets}
use Rattle.bits.specs.Bit.{bit}
use Rattle.constants.specs.Address as address
use Rattle.constants.specs.Weight as weight
use Rattle.bits.specs.Numbers.{bit_of}
use Rattle.settings.specs.declared.Settings.{Settings}
use Rattle.settings.specs.Write.{ships}
use Rattle.registers.specs.declared.Status.{Status}
use Rattle.registers.specs.declared.Shown.{Shown}
use Rattle.registers.specs.Write.{five_of, written}
use Rattle.chip.specs.declared.Chip.{Chip}
use Rattle.chip.specs.Chip.{with_registers}
use Rattle.chip.specs.Calm.{Calmed}
use Rattle.chip_bytes_layout.specs.Place.{CELLBAL1, ADC_EN, DELAY_DIS, CC_READY, CC_ONESHOT}
use Rattle.chip_bytes_layout.specs.Layout.{status_switches, chip_bytes}
use Rattle.chip_bytes_layout.specs.Did.{chip_here}

-- ── the bytes of SYS_STAT, SYS_CTRL1 and SYS_CTRL2; every other register is one byte ──
abbrev pub stat_in : Status → List ℕ → List ℕ
stat_in t b = sets b CC_READY (status_switches t)

abbrev pub pair_in : ℕ → Bool → List ℕ → List ℕ
pair_in v held b = sets b ADC_EN (bit_of (bit v weight.ADC_EN) ∷ bit_of (bit v weight.TEMP_SEL) ∷ bit_of held ∷ [])

abbrev pub driven_in : ℕ → Shown → List ℕ → List ℕ
driven_in v s b =
    sets (sets b DELAY_DIS (bit_of (bit v weight.DELAY_DIS) ∷ bit_of (bit v weight.CC_EN) ∷ [])) CC_ONESHOT
    (bit_of s.cc_oneshot ∷ bit_of s.dsg_on ∷ bit_of s.chg_on ∷ [])

-- the same by the settings and what is shown
abbrev pub control_in : Settings → List ℕ → List ℕ
control_in s b = sets b ADC_EN (bit_of s.adc_en ∷ bit_of s.temp_sel ∷ bit_of s.shut_b ∷ [])

abbrev pub drives_in : Settings → Shown → List ℕ → List ℕ
drives_in s w b =
    sets (sets b DELAY_DIS (bit_of s.delay_dis ∷ bit_of s.cc_en ∷ [])) CC_ONESHOT
    (bit_of w.cc_oneshot ∷ bit_of w.dsg_on ∷ bit_of w.chg_on ∷ [])

-- CELLBAL, by whether the part has the group
abbrev pub cellbal_in : ℕ → ℕ → Bool → List ℕ → List ℕ
cellbal_in a v has b = cond has (set b (CELLBAL1 + (a - address.CELLBAL1)) (five_of v)) b

-- ── the chip after the write ──
abbrev pub wrote_chip : ℕ → ℕ → Chip → Chip
wrote_chip a v c = with_registers (written c.setup a v c.registers) c

-- the write does not ship, leaves the outside level nothing to raise, and where the bytes are those of a chip, the new ones are those of
-- the chip after it
pub record Wrote (a v : ℕ) (b new : List ℕ) : Type 0 where
  pub stays : ships a v (chip_here b).registers.settings ≡ false
  pub calm : Calmed (chip_here b) → Calmed (wrote_chip a v (chip_here b))
  pub leaves : (fresh : Bool) (rest : List ℕ) → b ≡ chip_bytes (chip_here b) fresh ++ rest
      → new ≡ chip_bytes (wrote_chip a v (chip_here b)) fresh ++ rest

-- .. or nothing changed
abbrev pub WroteBy : ℕ → ℕ → List ℕ → Bool → List ℕ → Type 0
WroteBy a v b true new = Wrote a v b new
WroteBy a v b false new = new ≡ b
