-- CHIP P6: what the quick loop is at, and what a run that is lent a buffer leaves. What the entries of a stream are stands in
-- `turn`. Assumes nothing.
use Rattle.std.specs.Prelude.{◌≡◌, ℕ, ◌*◌, List, ◌++◌, Bool, cond, length, drop, leb, ℤ, pos, Option, Result}
use Rattle.constants.specs.Number.{NO_ROOM}
use Rattle.constants.specs.Size.{ENTRY}
use Rattle.constants.specs.Answer.{minus}
use Rattle.constants.specs.declared.refusal.Refusal.{Refusal}
use Rattle.bits.specs.Bit.{weighed}
use Rattle.registers.specs.Read.{status_byte}
use Rattle.chip.specs.declared.Chip.{Chip}
use Rattle.chip.specs.Answer.{number_in, flag_in, byte_in}
use Rattle.chip.specs.Outward.{pins_of}
use Rattle.turn.specs.declared.Entry.{Entry}
use Rattle.turn.specs.Entries.{chip_from, fresh_from, entries_from, entries, bytes_of, entered}
use Rattle.stream_run.specs.declared.Face.{Face}
use Rattle.stream_run.specs.declared.Left.{Left}

abbrev pub face_of : Chip → Face
face_of c = record { stat = status_byte c.registers.shown.status; pins = pins_of c }

-- number, bus flag, bus byte; SYS_STAT, pins
abbrev pub entry_with : Result (Option ℕ) Refusal → Face → Entry
entry_with a f = record { number = number_in a; flag = weighed (flag_in a) 1; byte = byte_in a; stat = f.stat; pins = f.pins }

-- a run from any chip that is lent a buffer: what is left, and the entries that fit
pub record Ran (o : Bool) (c : Chip) (s old : List ℕ) (left : Left) (new : List ℕ) : Type 0 where
  pub chip : left.chip ≡ chip_from o c s
  pub fresh : left.fresh ≡ fresh_from o c s
  pub wrote : new ≡ entered old (entries_from o c s)

-- the answer of the C call: the count of entries, or −5 where the buffer is too short for all of them, which then keeps every byte
pub record Played (s old : List ℕ) (r : ℤ) (new : List ℕ) : Type 0 where
  pub answer : r ≡ cond (leb (ENTRY * length (entries s)) (length old)) (pos (length (entries s))) (minus NO_ROOM)
  pub contents : new
      ≡ cond (leb (ENTRY * length (entries s)) (length old)) (bytes_of (entries s) ++ drop (ENTRY * length (entries s)) old) old
