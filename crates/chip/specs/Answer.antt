-- What a step answers in the words of the subject, and what the code's answer is among them: the number, the bus flag and the bus byte.
-- The code's loses nothing there (proofs/AnswerLaws). Assumes nothing.
use Rattle.std.specs.Prelude.{Bool, true, false, ℕ, Option, Some, None, Result, Ok, Err}
use Rattle.constants.specs.Number.{DONE}
use Rattle.constants.specs.Refusal.{number_of}
use Rattle.constants.specs.declared.refusal.Refusal.{Refusal}
use Rattle.bus.specs.declared.Bus.{Bus}
use Rattle.bus.specs.Bus.{Store}
use Rattle.chip.specs.declared.Chip.{Chip}
use Rattle.chip.specs.declared.Stepped.{Stepped as GivenStep}
use Rattle.chip.specs.declared.Heard.{Heard as GivenHeard}

-- the next chip; the number given back; for an OUT or IN that is done the flag and the byte
pub record Stepped : Type 0 where
  pub chip : Chip
  pub number : ℕ
  pub flag : Bool
  pub byte : ℕ

-- what an event of the bus does at once: the bus after it, the flag and byte given back, and at most one accepted store, which follows
pub record Heard : Type 0 where
  pub bus : Bus
  pub flag : Bool
  pub byte : ℕ
  pub store : Store

-- ── a bus byte, or none ──
abbrev pub flag_of : Option ℕ → Bool
flag_of None = false
flag_of (Some b) = true

abbrev pub byte_of : Option ℕ → ℕ
byte_of None = 0
byte_of (Some b) = b

-- ── an answer: done, with a bus byte or none, or refused ──
abbrev pub number_in : Result (Option ℕ) Refusal → ℕ
number_in (Ok b) = DONE
number_in (Err why) = number_of why

abbrev pub flag_in : Result (Option ℕ) Refusal → Bool
flag_in (Ok b) = flag_of b
flag_in (Err why) = false

abbrev pub byte_in : Result (Option ℕ) Refusal → ℕ
byte_in (Ok b) = byte_of b
byte_in (Err why) = 0

-- ── with the chip after it, and what is heard ──
abbrev pub stepped_with : Result (Option ℕ) Refusal → Chip → Stepped
stepped_with a c = record { chip = c; number = number_in a; flag = flag_in a; byte = byte_in a }

abbrev pub as_step : GivenStep → Stepped
as_step s = stepped_with s.answer s.chip

abbrev pub as_heard : GivenHeard → Heard
as_heard h = record { bus = h.bus; flag = flag_of h.byte; byte = byte_of h.byte; store = h.store }
