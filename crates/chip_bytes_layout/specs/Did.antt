-- An event done in the bytes of a chip. Assumes nothing.
use Rattle.std.specs.Prelude.{◌≡◌, Bool, true, false, List, ℕ, ◌≤◌, Option, Some, None, length, take}
use Rattle.events.specs.Event.{Event}
use Rattle.bits.specs.BytesLaws.{Bytes}
use Rattle.registers.specs.declared.Shown.{Shown}
use Rattle.chip.specs.declared.Chip.{Chip}
use Rattle.chip.specs.Answer.{Stepped, flag_of, byte_of}
use Rattle.chip.specs.Chip.{happened}
use Rattle.constants.specs.Size.{KEPT_CHIP}
use Rattle.chip_bytes_layout.specs.Place.{NORMAL}
use Rattle.chip_bytes_layout.specs.Layout.{switch_at, chip_at, good_of, chip_of, kept_in}
use Rattle.chip_bytes_layout.specs.declared.Outcome.{Outcome}

-- bytes that have room for a chip, and one in NORMAL where they are good
pub record Awake (b : List ℕ) : Type 0 where
  pub room : KEPT_CHIP ≤ length b
  pub bytes : Bytes (take KEPT_CHIP b)
  pub normal : switch_at (take KEPT_CHIP b) NORMAL ≡ true

abbrev pub AwakeBy : List ℕ → Bool → Type 0
AwakeBy b true = Awake b
AwakeBy b false = Unit

-- the chip of the first 96 bytes
abbrev pub chip_here : List ℕ → Chip
chip_here b = chip_at (take KEPT_CHIP b)

-- number 0, with a bus flag and byte
abbrev pub says : Bool → ℕ → Chip → Stepped
says flag byte c = record { chip = c; number = 0; flag = flag; byte = byte }

-- the chip that the bytes kept came to s, they keep the chip that this left, and no wiring record is taken any more
pub record Came (b : List ℕ) (s : Stepped) (flag : Bool) (byte : ℕ) (shown : Shown) (new : List ℕ) : Type 0 where
  pub left : Chip
  pub happens : says flag byte left ≡ s
  pub shows : shown ≡ left.registers.shown
  pub leaves : new ≡ kept_in left false b

-- .. where they are good; or nothing changed
abbrev pub CameBy : List ℕ → Stepped → Option Outcome → List ℕ → Type 0
CameBy b s (Some r) new = good_of b ≡ true → Came b s (flag_of r.byte) (byte_of r.byte) r.shown new
CameBy b s None new = new ≡ b

-- the event has happened to it
abbrev pub Did : List ℕ → Event → Bool → ℕ → Shown → List ℕ → Type 0
Did b e flag byte shown new = Came b (happened e (chip_of b)) flag byte shown new

abbrev pub DidBy : List ℕ → Event → Option Outcome → List ℕ → Type 0
DidBy b e r new = CameBy b (happened e (chip_of b)) r new
