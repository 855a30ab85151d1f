-- What is asked of a chip that is kept as bytes: 26 for bytes that are no chip, 9 for no chip yet, before anything that is asked. Assumes
-- nothing.
use Rattle.std.specs.Prelude.{◌≡◌, Bool, not, ◌&&◌, cond, List, ℕ, eqb, ltb, ℤ, Float, length}
use Rattle.constants.specs.Number.{DONE, BAD_VALUE, CUT, NO_ROOM, NO_CHIP}
use Rattle.constants.specs.Answer.{Said, gives, refuses}
use Rattle.registers.specs.Read.{read_at}
use Rattle.bleed.specs.declared.Choice.{Choice}
use Rattle.smart_battery.specs.Words.{word_for}
use Rattle.chip.specs.declared.Chip.{Chip}
use Rattle.chip_voltage.specs.Voltage.{voltage_said, forecast_number}
use Rattle.chip_voltage.specs.Care.{proposal_said, pack_of, linked_total}
use Rattle.stream.specs.Forecast.{Contents}
use Rattle.chip_bytes_layout.specs.Kept.{Kept}

abbrev pub stands_number : Kept → ℕ
stands_number k = cond k.good (cond (eqb k.chip.setup.part 0) CUT DONE) NO_CHIP

abbrev pub kept_said : {A : Type 0} → Kept → Said A → Said A
kept_said k said = cond (eqb (stands_number k) 0) said (refuses (stands_number k))

-- the chip that stands
abbrev pub chip_said : Kept → Said Chip
chip_said k = kept_said k (gives k.chip)

-- 3 for an address above 0xFF
abbrev pub address_said : ℕ → Chip → Said ℕ
address_said a c = cond (ltb 255 a) (refuses BAD_VALUE) (gives (read_at c.setup c.registers a))

abbrev pub register_said : Kept → ℕ → Said ℕ
register_said k a = kept_said k (address_said a k.chip)

abbrev pub voltage_of : Kept → ℕ → Said ℤ
voltage_of k cell = kept_said k (voltage_said cell k.chip)

abbrev pub proposal_of : Kept → ℕ → Said Choice
proposal_of k margin = kept_said k (proposal_said margin k.chip)

abbrev pub word_of : Kept → ℕ → ℕ → Said ℕ
word_of k command r = kept_said k (word_for (pack_of k.chip) (linked_total k.chip) command r)

-- a number as a byte, 0 where it is too large
abbrev pub byte_or : ℕ → ℕ
byte_or n = cond (ltb n 256) n 0

-- 4 asleep, 10 where no cell is connected; then 5 for room below 4
abbrev pub read_number : Kept → ℕ → ℕ
read_number k room =
    cond (eqb (stands_number k) 0) (cond (eqb (forecast_number k.chip) 0) (cond (ltb room 4) NO_ROOM DONE) (forecast_number k.chip))
    (stands_number k)

abbrev pub is_read : Kept → ℕ → Bool
is_read k room = eqb (stands_number k) 0 && eqb (forecast_number k.chip) 0 && not (ltb room 4)

pub record ReadOf (k : Kept) (old : List Float) (r : ℕ) (new : List Float) : Type 0 where
  pub answer : r ≡ read_number k (length old)
  pub contents : Contents (is_read k (length old)) k.chip old new
