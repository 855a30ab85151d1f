-- CHIP I5 to I7: the records of a list, with the numbers 20, 21 and 5. Assumes nothing.
use Rattle.std.specs.Prelude.{◌≡◌, ℕ, zero, suc, ◌+◌, ◌*◌, List, [], ◌∷◌, ◌++◌, map, Bool, true, cond, ◌&&◌, leb, eqb, ℤ, pos, neg_ℤ}
use Rattle.std.specs.Prelude.{length}
use Rattle.constants.specs.Number.{DONE, NO_ROOM, NO_LIST, BAD_ADDRESS}
use Rattle.events.specs.declared.BusEvent.{BusEvent}
use Rattle.events.specs.declared.BusEvent.TheVariants.{Start, Out, In, Stop}
use Rattle.events.specs.declared.Event.TheVariants.{OnBus}
use Rattle.records.specs.Record.{no_counts}
use Rattle.writer.specs.Write.{record_for, written_of}
use Rattle.i2c_lists.specs.Grammar.{Message, sends, takes}
use Rattle.i2c_lists.specs.Reader.{Listing, lists, none, list_in}

-- ── the events of a message (CHIP I5) ──
-- the address byte (CHIP B3)
abbrev pub to_write : ℕ → ℕ
to_write address = 2 * address

abbrev pub to_read : ℕ → ℕ
to_read address = 2 * address + 1

abbrev pub out_of : ℕ → BusEvent
out_of b = Out b

-- all but the last are acknowledged: IN holds whether the host does not acknowledge
abbrev pub taken : ℕ → List BusEvent
taken zero = []
taken (suc n) = In (eqb n 0) ∷ taken n

abbrev pub message_events : Message → List BusEvent
message_events (sends a bs) = Start ∷ Out (to_write a) ∷ map out_of bs
message_events (takes a n) = Start ∷ Out (to_read a) ∷ taken n

abbrev pub events_of : List Message → List BusEvent
events_of [] = Stop ∷ []
events_of (m ∷ ms) = message_events m ++ events_of ms

-- their records, one after the other (CHIP I6)
abbrev pub records_of : List BusEvent → List ℕ
records_of [] = []
records_of (e ∷ es) = record_for (OnBus e) no_counts ++ records_of es

abbrev pub bytes_of : Listing → List ℕ
bytes_of (lists ms) = records_of (events_of ms)
bytes_of none = []

-- ── refusals: 20, 21, then 5 (CHIP I7) ──
abbrev pub near : ℕ → Bool
near address = leb 0x08 address && leb address 0x77

abbrev pub address_of : Message → ℕ
address_of (sends a bs) = a
address_of (takes a n) = a

abbrev pub all_near : List Message → Bool
all_near [] = true
all_near (m ∷ ms) = near (address_of m) && all_near ms

abbrev pub number_for : Listing → ℕ → ℕ
number_for none room = NO_LIST
number_for (lists ms) room = cond (all_near ms) (cond (leb (length (records_of (events_of ms))) room) DONE NO_ROOM) BAD_ADDRESS

-- the answer: how many bytes were written, or minus the number
abbrev pub answer_with : ℕ → List ℕ → ℤ
answer_with number bytes = cond (eqb number 0) (pos (length bytes)) (neg_ℤ (pos number))

-- taken whole, or nothing is written (CHIP I7): no byte after the records changes
abbrev pub contents_with : ℕ → List ℕ → List ℕ → List ℕ
contents_with number bytes old = cond (eqb number 0) (written_of bytes old) old

pub record Taken (line old : List ℕ) (r : ℤ) (new : List ℕ) : Type 0 where
  pub answer : r ≡ answer_with (number_for (list_in line) (length old)) (bytes_of (list_in line))
  pub contents : new ≡ contents_with (number_for (list_in line) (length old)) (bytes_of (list_in line)) old
