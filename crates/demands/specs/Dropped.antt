-- CHIP H8 of records: a stream as the bytes of each of its records, which of them a spoiled frame drops, and what is seen of each. Assumes
-- nothing.
use Rattle.std.specs.Prelude.{Bool, false, not, ◌&&◌, cond, List, [], ◌∷◌, ◌≡◌, ℕ, ◌+◌, eqb, length}
use Rattle.events.specs.declared.BusEvent.{BusEvent}
use Rattle.events.specs.declared.BusEvent.TheVariants.{Start, Stop, Out, In}
use Rattle.events.specs.declared.Event.{Event as Coded}
use Rattle.events.specs.declared.Event.TheVariants.{Setup, Por, Boot, Scan, Temp, Count, Sense, Pin, Load, Xready, OnBus, Level, Ticks}
use Rattle.events.specs.declared.Event.TheVariants.{Soak, Wires}
use Rattle.records.specs.declared.Read.{Read}
use Rattle.constants.specs.Refusal.{number_of}
use Rattle.records.specs.declared.Read.TheVariants.{Record, Refused, Cut}
use Rattle.bits.specs.Numbers.{le16}
use Rattle.records.specs.Record.{read_of, counts_beside}
use Rattle.bus.specs.declared.Phase.TheVariants.{Idle}
use Rattle.chip.specs.declared.Chip.{Chip}
use Rattle.chip.specs.Answer.{Stepped}
use Rattle.chip.specs.Chip.{numbered}
use Rattle.turn.specs.declared.Entry.{Entry}
use Rattle.turn.specs.Turn.{entry_of, acted}
use Rattle.demands.specs.Spoiled.{Sort, for_chips, for_resets, for_frames, for_sends, for_takes, is_sends, waiting, Mode, drops, then}
use Rattle.demands.specs.Spoiled.{phased}

-- ── one record, of a chip that stands ──
abbrev pub bus_sort : BusEvent → Sort
bus_sort Start = for_frames
bus_sort Stop = for_frames
bus_sort (Out b) = for_sends
bus_sort (In nack) = for_takes

abbrev pub code_sort : Coded → Sort
code_sort (Setup v) = for_resets
code_sort Por = for_resets
code_sort Boot = for_chips
code_sort Scan = for_chips
code_sort Temp = for_chips
code_sort (Count n) = for_chips
code_sort (Sense v) = for_chips
code_sort Pin = for_chips
code_sort (Load l) = for_chips
code_sort Xready = for_chips
code_sort (OnBus b) = bus_sort b
code_sort (Level l) = for_chips
code_sort (Ticks v n) = for_chips
code_sort (Soak v n) = for_chips
code_sort (Wires n) = for_chips

-- a refused record is no OUT, whatever its kind
abbrev pub sort_in : Read → Sort
sort_in (Record e next) = code_sort e
sort_in (Refused k next) = for_chips
sort_in Cut = for_chips

-- what it is answered, and whether a wiring record may follow
abbrev pub answer_in : Bool → Chip → List ℕ → Read → Stepped
answer_in o c r (Record e next) = acted o e (counts_beside r (Record e next)) c
answer_in o c r (Refused why next) = numbered (number_of why) c
answer_in o c r Cut = numbered 9 c

abbrev pub fresh_in : Bool → Read → ℕ → Bool
fresh_in o (Record e next) n = o && not (eqb n 0)
fresh_in o (Refused k next) n = o
fresh_in o Cut n = o

-- ── the records of a stream, of a chip of part p ──
module _ (p : ℕ) where
  unfoldable pub sort_at : List ℕ → Sort
  sort_at r = sort_in (read_of p r)

  unfoldable pub answer_at : Bool → Chip → List ℕ → Stepped
  answer_at o c r = answer_in o c r (read_of p r)

  unfoldable pub fresh_at : Bool → Chip → List ℕ → Bool
  fresh_at o c r = fresh_in o (read_of p r) (answer_at o c r).number

  -- the next OUT comes while a data byte still waits, and is not acknowledged
  unfoldable pub spoiled_at : Bool → Chip → List (List ℕ) → Bool
  spoiled_at o c [] = false
  spoiled_at o c (r ∷ rs) =
      waiting c
      && cond (is_sends (sort_at r)) (eqb (answer_at o c r).byte 1) (spoiled_at (fresh_at o c r) (answer_at o c r).chip rs)

  -- which records stay: not a data byte that a wrong CRC spoils, nor its CRC, nor any OUT or IN from there up to the next START, STOP or
  -- entry into SHIP
  unfoldable pub stay : Mode → Bool → Chip → List (List ℕ) → List Bool
  stay m o c [] = []
  stay m o c (r ∷ rs) =
      not (drops m (sort_at r) (spoiled_at (fresh_at o c r) (answer_at o c r).chip rs))
      ∷ stay
      (then m (sort_at r) (spoiled_at (fresh_at o c r) (answer_at o c r).chip rs) (answer_at o c r).chip.normal)
      (fresh_at o c r) (answer_at o c r).chip rs

-- those of a list that are marked
unfoldable pub picked : {A : Type 0} → List Bool → List A → List A
picked [] xs = []
picked (t ∷ ts) [] = []
picked (t ∷ ts) (x ∷ xs) = cond t (x ∷ picked ts xs) (picked ts xs)

-- ── what is seen of a record: its entry, and the chip after it but for the bus's phase ──
pub record Seen : Type 0 where
  pub entry : Entry
  pub after : Chip

abbrev pub seen_by : Stepped → Seen
seen_by s = record { entry = entry_of s; after = phased Idle s.chip }

unfoldable pub played_at : ℕ → Bool → Chip → List (List ℕ) → List Seen
played_at p o c [] = []
played_at p o c (r ∷ rs) = seen_by (answer_at p o c r) ∷ played_at p (fresh_at p o c r) (answer_at p o c r).chip rs

-- each is a record, whole
abbrev pub WholeRecord : List ℕ → Type 0
WholeRecord r = length r ≡ 4 + le16 r 0

abbrev pub WholeEach : List (List ℕ) → Type 0
WholeEach [] = Unit
WholeEach (r ∷ rs) = WholeRecord r × WholeEach rs
