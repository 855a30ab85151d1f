-- What a tick that raises nothing, and ticks of one value, write into the bytes of a chip. Assumes nothing.
use Rattle.std.specs.Prelude.{◌≡◌, List, [], ◌∷◌, ℕ, set, take}
use Rattle.std.proofs.lemmas.List.Edits.{sets}
use Rattle.events.specs.Fault.{among}
use Rattle.bits.specs.Numbers.{bit_of, word_bytes}
use Rattle.registers.specs.declared.Shown.{Shown}
use Rattle.registers.specs.Fault.{raised}
use Rattle.protection.specs.Fault.{Runs}
use Rattle.protection.specs.declared.Judged.{Judged}
use Rattle.constants.specs.Size.{KEPT_CHIP}
use Rattle.chip_bytes_layout.specs.Layout.{shown_at}
use Rattle.chip_bytes_layout.specs.Place.{FRESH, SCD, OCD, DSG_ON, SCD_LOW}

-- the runs that it moves, and no wiring record any more
abbrev pub runs_in : Runs → List ℕ → List ℕ
runs_in r b = sets (set b FRESH 0) SCD_LOW (word_bytes (r.scd ∷ r.ocd ∷ []))

-- what ticks can raise, and the drive that this puts off
abbrev pub raised_in : Shown → List ℕ → List ℕ
raised_in s b = set (set (set b SCD (bit_of s.status.scd)) OCD (bit_of s.status.ocd)) DSG_ON (bit_of s.dsg_on)

-- what was judged: the runs, and what rises
pub record PutBy (j : Judged) (b : List ℕ) (shown : Shown) (new : List ℕ) : Type 0 where
  pub shows : shown ≡ raised (among j.risen) (shown_at (take KEPT_CHIP b))
  pub moves : new ≡ raised_in shown (runs_in j.runs b)
