-- What the events that are seldom met write into the bytes of a chip. Assumes nothing.
use Rattle.std.specs.Prelude.{◌≡◌, Bool, true, false, cond, List, [], ◌∷◌, ◌++◌, ℕ, ◌+◌, ◌*◌, Option, Some, None, set}
use Rattle.std.proofs.lemmas.List.Edits.{sets}
use Rattle.events.specs.declared.Setup.{Setup}
use Rattle.events.specs.declared.Event.{Event as Coded}
use Rattle.events.specs.Event.{Event, means, event_of}
use Rattle.bits.specs.Numbers.{word_bytes}
use Rattle.registers.specs.declared.Shown.{Shown}
use Rattle.chip.specs.declared.Chip.{Chip}
use Rattle.chip.specs.Answer.{flag_of, byte_of}
use Rattle.chip.specs.Chip.{numbered, normally}
use Rattle.chip.specs.Calm.{Calmed}
use Rattle.chip_bytes_layout.specs.Place.{CELLBAL1, CC_READY, XREADY, OVRD_ALERT, CC_ONESHOT, DSG_ON, WORDS, CC, TS1}
use Rattle.chip_bytes_layout.specs.Layout.{chip_bytes, good_of}
use Rattle.chip_bytes_layout.specs.declared.Outcome.{Outcome}
use Rattle.chip_bytes_layout.specs.Did.{chip_here, Did}

-- ── OVRD_ALERT and XREADY, which put off both drives, and COUNT ──
abbrev pub overridden_in : List ℕ → List ℕ
overridden_in b = sets (set b OVRD_ALERT 1) DSG_ON (0 ∷ 0 ∷ [])

abbrev pub readied_in : List ℕ → List ℕ
readied_in b = sets (sets (set b XREADY 1) DSG_ON (0 ∷ 0 ∷ [])) CELLBAL1 (0 ∷ 0 ∷ 0 ∷ [])

abbrev pub counting_in : ℕ → List ℕ → List ℕ
counting_in n b = set (set (sets b (WORDS + 2 * CC) (word_bytes (n ∷ []))) CC_READY 1) CC_ONESHOT 0

-- the counts of TEMP, where they are kept
abbrev pub warmed_in : Bool → List ℕ → List ℕ → List ℕ
warmed_in kept ts b = cond kept (sets b (WORDS + 2 * TS1) (word_bytes ts)) b

-- ── an event of the code, and what it leaves of the chip: where the bytes are those of a chip, the new ones are those of the chip
-- after it, and the outside level has nothing to raise ──
pub record Moved (e : Coded) (b new : List ℕ) : Type 0 where
  pub event : Event
  pub meant : (u : Setup) (xs : List ℕ) → event_of u e xs ≡ means event
  pub chip : Chip
  pub leaves : numbered 0 chip ≡ normally event (chip_here b)
  pub part : chip.setup.part ≡ (chip_here b).setup.part
  pub calm : Calmed (chip_here b) → Calmed chip
  pub bytes : (fresh : Bool) (rest : List ℕ) → b ≡ chip_bytes (chip_here b) fresh ++ rest → new ≡ chip_bytes chip fresh ++ rest

-- .. or nothing changed
abbrev pub MovedBy : Coded → List ℕ → Bool → List ℕ → Type 0
MovedBy e b true new = Moved e b new
MovedBy e b false new = new ≡ b

-- ── it has happened, as an event without counts ──
pub record Seldom (b : List ℕ) (e : Coded) (flag : Bool) (byte : ℕ) (shown : Shown) (new : List ℕ) : Type 0 where
  pub event : Event
  pub meant : (u : Setup) (xs : List ℕ) → event_of u e xs ≡ means event
  pub did : Did b event flag byte shown new

abbrev pub SeldomBy : List ℕ → Coded → Option Outcome → List ℕ → Type 0
SeldomBy b e (Some r) new = good_of b ≡ true → Seldom b e (flag_of r.byte) (byte_of r.byte) r.shown new
SeldomBy b e None new = new ≡ b
