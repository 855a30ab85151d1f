-- CHIP C2: the three bytes of a reply, and what a buffer holds after it. Assumes nothing.
use Rattle.std.specs.Prelude.{◌≡◌, cond, List, [], ◌∷◌, ◌++◌, ℕ, ◌/◌, ◌%◌, ltb, length, drop}
use Rattle.constants.specs.Number.{DONE, NO_ROOM}
use Rattle.crc8.specs.Crc.{crc_on}
use Rattle.constants.specs.Answer.{Said, gives, refuses}

-- the address byte of a battery, written and read; how many bytes a reply has
abbrev pub to_battery : ℕ
to_battery = 0x16

abbrev pub from_battery : ℕ
from_battery = 0x17

abbrev pub reply_size : ℕ
reply_size = 3

-- the PEC (CHIP C2)
abbrev pub pec_of : ℕ → ℕ → ℕ → ℕ
pec_of command low high = crc_on 0 (to_battery ∷ command ∷ from_battery ∷ low ∷ high ∷ [])

-- low byte, high byte and the PEC
abbrev pub reply_bytes : ℕ → ℕ → List ℕ
reply_bytes command w = w % 256 ∷ w / 256 ∷ pec_of command (w % 256) (w / 256) ∷ []

-- 5 comes last
abbrev pub replied_number : {A : Type 0} → Said A → ℕ → ℕ
replied_number (refuses n) room = n
replied_number (gives w) room = cond (ltb room reply_size) NO_ROOM DONE

abbrev pub replied_bytes : Said ℕ → ℕ → List ℕ → List ℕ
replied_bytes (refuses n) command old = old
replied_bytes (gives w) command old = cond (ltb (length old) reply_size) old (reply_bytes command w ++ drop reply_size old)

-- the number, and the buffer: the reply and then what stood there, or where it is refused every byte as it was
pub record Replied (said : Said ℕ) (command : ℕ) (old : List ℕ) (r : ℕ) (new : List ℕ) : Type 0 where
  pub answer : r ≡ replied_number said (length old)
  pub contents : new ≡ replied_bytes said command old
