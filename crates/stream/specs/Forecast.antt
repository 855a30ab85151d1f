-- CHIP P8: forecasting's one reading of doubles. Assumes nothing.
use Rattle.std.specs.Prelude.{◌≡◌, Bool, true, false, cond, ◌&&◌, not, List, ◌∷◌, ℕ, eqb, ltb, Float, length, drop, Result}
use Rattle.constants.specs.Number.{DONE, NO_ROOM}
use Rattle.constants.specs.Answer.{number_said}
use Rattle.constants.specs.declared.refusal.Refusal.{Refusal}
use Rattle.values.specs.Said.{said}
use Rattle.constants.specs.Size.{READING}
use Rattle.records.specs.Record.{read_of, number_of}
use Rattle.values.specs.declared.Reading.{Reading}
use Rattle.chip.specs.declared.Chip.{Chip}
use Rattle.chip_voltage.specs.Voltage.{Reads, forecast_number}
use Rattle.turn.specs.Entries.{last_chip}

-- of a chip: 4 asleep, 10 where no cell is connected; then 5 for room below 4
abbrev pub chip_number : Chip → ℕ → ℕ
chip_number c room = cond (eqb (forecast_number c) 0) (cond (ltb room READING) NO_ROOM DONE) (forecast_number c)

-- where no chip stands the first record's number, 9 for an empty stream
abbrev pub reading_number : List ℕ → Chip → ℕ → ℕ
reading_number s c room = cond (eqb c.setup.part 0) (number_of (read_of 0 s)) (chip_number c room)

-- whether a reading is given
abbrev pub is_put : Chip → ℕ → Bool
is_put c room = eqb (forecast_number c) 0 && not (ltb room 4)

abbrev pub is_given : Chip → ℕ → Bool
is_given c room = not (eqb c.setup.part 0) && eqb (forecast_number c) 0 && not (ltb room 4)

-- the four doubles of a chip's reading, and what was there after them
pub record Doubles (c : Chip) (old new : List Float) : Type 0 where
  pub reading : Reading
  pub is : Reads c reading
  pub wrote : new ≡ reading.least ∷ reading.greatest ∷ reading.total ∷ reading.cc ∷ drop 4 old

-- they are written where a reading is given, and else nothing is
abbrev pub Contents : Bool → Chip → List Float → List Float → Type 0
Contents true c old new = Doubles c old new
Contents false c old new = new ≡ old

-- a chip's reading put
pub record Put (c : Chip) (old : List Float) (r : Result Unit Refusal) (new : List Float) : Type 0 where
  pub answer : number_said (said r) ≡ chip_number c (length old)
  pub contents : Contents (is_put c (length old)) c old new

pub record Read4 (s : List ℕ) (old : List Float) (r : ℕ) (new : List Float) : Type 0 where
  pub answer : r ≡ reading_number s (last_chip s) (length old)
  pub contents : Contents (is_given (last_chip s) (length old)) (last_chip s) old new
