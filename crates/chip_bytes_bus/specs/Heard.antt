-- What an event of the bus writes into the bytes of a chip. Assumes nothing.
use Rattle.std.specs.Prelude.{◌≡◌, Bool, List, [], ◌∷◌, ℕ, Option, Some, None, set}
use Rattle.std.proofs.lemmas.List.Edits.{sets}
use Rattle.bus.specs.declared.Bus.{Bus}
use Rattle.bus.specs.Bus.{Store}
use Rattle.chip_bytes_layout.specs.Place.{POINTER, FRESH}
use Rattle.chip_bytes_layout.specs.Layout.{tag_of, first_of, second_of}
use Rattle.chip.specs.declared.Chip.{Chip}
use Rattle.chip_bytes_bus.specs.Store.{wrote_chip, WroteBy}

-- the bus, and no wiring record any more
abbrev pub bus_in : Bus → List ℕ → List ℕ
bus_in u b =
    sets (set b FRESH 0) POINTER
    (u.line.pointer ∷ u.owed.sum ∷ u.owed.low ∷ tag_of u.line.phase ∷ first_of u.line.phase ∷ second_of u.line.phase ∷ [])

-- the store that it asks for: none, or an accepted write
abbrev pub KeptBy : Store → List ℕ → Bool → List ℕ → Type 0
KeptBy None b done new = new ≡ b
KeptBy (Some w) b done new = WroteBy w.at w.value b done new

abbrev pub kept_chip : Store → Chip → Chip
kept_chip None c = c
kept_chip (Some w) c = wrote_chip w.at w.value c
