-- One record fed to a kept chip, done in its bytes. Assumes nothing.
use Rattle.std.specs.Prelude.{◌≡◌, Bool, true, false, List, [], ◌∷◌, ℕ, ◌+◌, ◌-◌, ◌≤◌, length, get_or, take, drop}
use Rattle.std.specs.Prelude.{Option, Some, None, Ok, Err}
use Rattle.std.proofs.lemmas.List.Edits.{sets}
use Rattle.bits.specs.Bit.{weighed}
use Rattle.events.specs.declared.Event.{Event}
use Rattle.events.specs.declared.Role.TheVariants.{Happens}
use Rattle.events.specs.Role.{role_of}
use Rattle.records.specs.Frame.{framed, header_of}
use Rattle.records.specs.Record.{Payload, payload_of, counts_in}
use Rattle.registers.specs.declared.Shown.{Shown}
use Rattle.registers.specs.State.{alert}
use Rattle.registers.specs.Read.{status_byte}
use Rattle.chip.specs.declared.Chip.{Chip}
use Rattle.chip.specs.Answer.{flag_of, byte_of}
use Rattle.chip.specs.Chip.{happened_by}
use Rattle.constants.specs.Size.{KEPT_CHIP}
use Rattle.chip_bytes_layout.specs.Place.{PART}
use Rattle.chip_bytes_layout.specs.Layout.{good_of, chip_of, kept_in}
use Rattle.chip_bytes_layout.specs.declared.Outcome.{Outcome}
use Rattle.chip_bytes_layout.specs.Did.{says}
use Rattle.constants.specs.Size.{ENTRY}

-- the entry of a record that is done
abbrev pub done_bytes : Bool → ℕ → Shown → List ℕ
done_bytes flag byte s =
    0 ∷ weighed flag 1 ∷ byte ∷ status_byte s.status
    ∷ (weighed (alert s.status) 4 + weighed s.chg_on 2 + weighed s.dsg_on 1) ∷ []

abbrev pub outcome_bytes : Outcome → List ℕ
outcome_bytes r = done_bytes (flag_of r.byte) (byte_of r.byte) r.shown

-- a payload's event, one that happens to a chip that stands, has happened to the one that bytes kept, with the counts that stand beside it
pub record One (b : List ℕ) (payload : Payload) (counts : Event → List ℕ) (flag : Bool) (byte : ℕ) (shown : Shown) (new : List ℕ)
    : Type 0 where
  pub event : Event
  pub befalls : role_of event ≡ Happens
  pub is : payload ≡ Ok event
  pub left : Chip
  pub happens : says flag byte left ≡ happened_by event (counts event) (chip_of b)
  pub shows : shown ≡ left.registers.shown
  pub leaves : new ≡ kept_in left false b

-- .. where they are good; or nothing changed
abbrev pub OneBy : List ℕ → Payload → (Event → List ℕ) → Option Outcome → List ℕ → Type 0
OneBy b payload counts (Some r) new = good_of b ≡ true → One b payload counts (flag_of r.byte) (byte_of r.byte) r.shown new
OneBy b payload counts None new = new ≡ b

-- .. an event that no counts stand beside, whatever stands there
abbrev pub BareBy : List ℕ → Payload → Option Outcome → List ℕ → Type 0
BareBy b payload r new = (counts : Event → List ℕ) → OneBy b payload counts r new

-- .. with the counts of the payload's bytes
abbrev pub CountedBy : List ℕ → Payload → List ℕ → Option Outcome → List ℕ → Type 0
CountedBy b payload p r new = OneBy b payload (λ e. (counts_in e p).of) r new

-- a record's kind and payload
abbrev pub RecordBy : List ℕ → ℕ → ℕ → List ℕ → Option Outcome → List ℕ → Type 0
RecordBy b part kind p r new = CountedBy b (payload_of kind part p) p r new

-- a payload that was read of a kind, or none
abbrev pub Signal : ℕ → ℕ → List ℕ → Payload → Type 0
Signal kind part p (Ok e) = payload_of kind part p ≡ Ok e
Signal kind part p (Err why) = Unit

-- bytes that are one record and nothing else
pub record Alone (b s old chip new : List ℕ) : Type 0 where
  pub room : KEPT_CHIP ≤ length b
  pub fits : ENTRY ≤ length old
  pub kind : ℕ
  pub header : header_of s ≡ framed kind (length s)
  pub outcome : Outcome
  pub done : RecordBy b (get_or b PART 0) kind (take (length s - 4) (drop 4 s)) (Some outcome) chip
  pub wrote : new ≡ sets old 0 (outcome_bytes outcome)

abbrev pub AloneBy : List ℕ → List ℕ → List ℕ → Bool → List ℕ → List ℕ → Type 0
AloneBy b s old true chip new = Alone b s old chip new
AloneBy b s old false chip new = (chip ≡ b) × (new ≡ old)
