-- CHIP R1 to R7 and N30: reading, with the numbers 1, 2, 3 and 9. Assumes nothing.
use Rattle.std.specs.Prelude.{ℕ, ◌+◌, ◌-◌, ◌*◌, ◌/◌, List, Bool, cond, ◌&&◌, length, get_or, take, drop, replicate, ltb, leb, eqb, ℤ}
use Rattle.std.specs.Prelude.{Result, Ok, Err}
use Rattle.events.specs.Setup.{setup_fits, checked_of, groups, inputs, standing}
use Rattle.events.specs.Event.{beside_of, count_most, sense_fits, ticks_most, soak_most, ticks_fit}
use Rattle.bits.specs.Numbers.{within, le16, le32, signed32, bit_of, words}
use Rattle.events.specs.declared.Setup.{Setup as SetupValues}
use Rattle.events.specs.declared.Counts.{Counts}
use Rattle.events.specs.declared.Beside.{Beside}
use Rattle.events.specs.declared.Beside.TheVariants.{Inputs, Groups, Nothing}
use Rattle.events.specs.declared.BusEvent.TheVariants.{Start, Out, In, Stop}
use Rattle.events.specs.declared.Event.{Event}
use Rattle.events.specs.declared.Event.TheVariants.{Setup, Por, Boot, Scan, Temp, Count, Sense, Pin, Load, Xready, OnBus, Level, Ticks}
use Rattle.events.specs.declared.Event.TheVariants.{Soak, Wires}
use Rattle.constants.specs.Kind.{kind_of}
use Rattle.constants.specs.Number.{DONE, CUT}
use Rattle.constants.specs.Refusal.{made, number_of as refusal_number}
use Rattle.constants.specs.declared.kind.Kind.{Kind}
use Rattle.constants.specs.declared.refusal.Refusal.{Refusal}
use Rattle.constants.specs.declared.refusal.Refusal.TheVariants.{BadKind, BadValue}
use Rattle.constants.specs.Size.{HEADER, SETUP_PAYLOAD, COUNT_PAYLOAD, SENSE_PAYLOAD, TICKS_PAYLOAD, SOAK_PAYLOAD}
use Rattle.cell_counts.specs.Scan.{padded}
use Rattle.records.specs.Kind.{SETUP}
use Rattle.records.specs.declared.Read.{Read}
use Rattle.records.specs.declared.Read.TheVariants.{Record, Refused, Cut}
use Rattle.records.specs.declared.Taken.{Taken}

-- ── each kind's payload (CHIP R3): 2 for its length, then 1 (SETUP) or 3 for a value ──
-- its event, or why it is refused
abbrev pub Payload : Type 0
Payload = Result Event Refusal

-- part, CRC, address, gain code, offset (1 each), floor (2)
abbrev pub checked_in : Result SetupValues Refusal → Payload
checked_in r = made (λ v. Setup v) r

abbrev pub setup_good : SetupValues → Bool
setup_good v = setup_fits v.part (bit_of v.crc) v.address v.gain_code v.floor && eqb v.cells 0

abbrev pub setup_in : List ℕ → Payload
setup_in b =
    cond (eqb (length b) SETUP_PAYLOAD)
    (checked_in (checked_of (get_or b 0 0) (get_or b 1 0) (get_or b 2 0) (get_or b 3 0) (get_or b 4 0) (le16 b 5)))
    (Err BadKind)

-- none
abbrev pub bare_in : Event → List ℕ → Payload
bare_in e b = cond (eqb (length b) 0) (Ok e) (Err BadKind)

-- 2 bytes for each count that is wanted, 0 to 16,383
abbrev pub counted_in : Event → ℕ → List ℕ → Payload
counted_in e wanted b =
    cond (eqb (length b) (2 * wanted)) (cond (within count_most (words b)) (Ok e) (Err BadValue)) (Err BadKind)

-- 2 bytes, raw
abbrev pub count_in : List ℕ → Payload
count_in b = cond (eqb (length b) COUNT_PAYLOAD) (Ok (Count (le16 b 0))) (Err BadKind)

-- 4 bytes signed, within ±500,000
abbrev pub value_of : ℕ → Result ℤ Refusal
value_of u = cond (sense_fits (signed32 u)) (Ok (signed32 u)) (Err BadValue)

abbrev pub sense_of : ℕ → Payload
sense_of u = cond (sense_fits (signed32 u)) (Ok (Sense (signed32 u))) (Err BadValue)

abbrev pub sense_in : List ℕ → Payload
sense_in b = cond (eqb (length b) SENSE_PAYLOAD) (sense_of (le32 b 0)) (Err BadKind)

-- TICKS and SOAK: a value as SENSE has it, and a repeat number of 2 or of 4 bytes
abbrev pub repeat_of : (ℤ → ℕ → Event) → ℕ → ℕ → ℕ → Payload
repeat_of e most u n = cond (ticks_fit most (signed32 u) n) (Ok (e (signed32 u) n)) (Err BadValue)

abbrev pub ticks_of : ℤ → ℕ → Event
ticks_of v n = Ticks v n

abbrev pub ticks_in : List ℕ → Payload
ticks_in b = cond (eqb (length b) TICKS_PAYLOAD) (repeat_of ticks_of ticks_most (le32 b 0) (le16 b 4)) (Err BadKind)

abbrev pub soak_of : ℤ → ℕ → Event
soak_of v n = Soak v n

abbrev pub soak_in : List ℕ → Payload
soak_in b = cond (eqb (length b) SOAK_PAYLOAD) (repeat_of soak_of soak_most (le32 b 0) (le32 b 4)) (Err BadKind)

-- 1 byte
abbrev pub byte_in : List ℕ → Result ℕ Refusal
byte_in b = cond (eqb (length b) 1) (Ok (get_or b 0 0)) (Err BadKind)

-- 1 byte, 0 or 1: LOAD, LEVEL, and IN, where 1 says that the host does not acknowledge
abbrev pub switch : List ℕ → Result Bool Refusal
switch b = cond (eqb (length b) 1) (cond (leb (get_or b 0 0) 1) (Ok (eqb (get_or b 0 0) 1)) (Err BadValue)) (Err BadKind)

abbrev pub switch_in : (Bool → Event) → List ℕ → Payload
switch_in e b = cond (eqb (length b) 1) (cond (leb (get_or b 0 0) 1) (Ok (e (eqb (get_or b 0 0) 1))) (Err BadValue)) (Err BadKind)

abbrev pub load_of : Bool → Event
load_of level = Load level

abbrev pub level_of : Bool → Event
level_of level = Level level

abbrev pub in_of : Bool → Event
in_of refused = OnBus (In refused)

-- 1 byte
abbrev pub out_in : List ℕ → Payload
out_in b = cond (eqb (length b) 1) (Ok (OnBus (Out (get_or b 0 0)))) (Err BadKind)

-- 1 byte: the number of cells, of any value
abbrev pub wires_in : List ℕ → Payload
wires_in b = cond (eqb (length b) 1) (Ok (Wires (get_or b 0 0))) (Err BadKind)

-- ── the kinds ──
-- the inputs, and the groups of five, of the part that stands
abbrev pub groups_at : ℕ → ℕ
groups_at part = groups (standing part)

abbrev pub inputs_at : ℕ → ℕ
inputs_at part = inputs (standing part)

-- once a part stands: a second SETUP is 2 (CHIP R2, R4)
abbrev pub event_of : Kind → ℕ → List ℕ → Payload
event_of Kind.Setup part b = Err BadKind
event_of Kind.Por part b = bare_in Por b
event_of Kind.Boot part b = bare_in Boot b
event_of Kind.Scan part b = counted_in Scan (inputs_at part) b
event_of Kind.Temp part b = counted_in Temp (groups_at part) b
event_of Kind.Count part b = count_in b
event_of Kind.Sense part b = sense_in b
event_of Kind.Pin part b = bare_in Pin b
event_of Kind.Load part b = switch_in load_of b
event_of Kind.Xready part b = bare_in Xready b
event_of Kind.Start part b = bare_in (OnBus Start) b
event_of Kind.Out part b = out_in b
event_of Kind.In part b = switch_in in_of b
event_of Kind.Stop part b = bare_in (OnBus Stop) b
event_of Kind.Level part b = switch_in level_of b
event_of Kind.Ticks part b = ticks_in b
event_of Kind.Soak part b = soak_in b
event_of Kind.Wiring part b = wires_in b

abbrev pub of_kind : Result Kind Refusal → ℕ → List ℕ → Payload
of_kind (Ok k) part b = event_of k part b
of_kind (Err why) part b = Err why

-- .. as is every unknown kind
unfoldable pub later_of : ℕ → ℕ → List ℕ → Payload
later_of kind part b = of_kind (kind_of kind) part b

-- part 0: none stands yet, and SETUP alone is first
unfoldable pub payload_of : ℕ → ℕ → List ℕ → Payload
payload_of kind part b = cond (eqb part 0) (cond (eqb kind SETUP) (setup_in b) (Err BadKind)) (later_of kind part b)

-- ── a record: the payload's length, its kind, the payload (CHIP R1) ──
abbrev pub as_read : ℕ → Payload → Read
as_read next (Ok e) = Record e next
as_read next (Err why) = Refused why next

-- the record that bytes begin with; 9 comes before all (CHIP N30)
unfoldable pub read_of : ℕ → List ℕ → Read
read_of part r =
    cond (ltb (length r) HEADER) Cut
    (cond (ltb (length r - HEADER) (le16 r 0)) Cut
    (as_read (HEADER + le16 r 0) (payload_of (le16 r 2) part (take (le16 r 0) (drop HEADER r)))))

-- the number of each answer (CHIP O4)
abbrev pub number_of : Read → ℕ
number_of (Record e next) = DONE
number_of (Refused why next) = refusal_number why
number_of Cut = CUT

-- ── the counts beside an event ──
abbrev pub no_counts : Counts
no_counts = record { many = 0; of = replicate 15 0 }

-- the numbers of a payload, at most 15
unfoldable pub counts_of : List ℕ → Counts
counts_of b = record { many = cond (ltb (length b) 30) (length b / 2) 15; of = padded 15 (words b) }

-- SCAN and TEMP alone have counts
abbrev pub counts_as : Beside → List ℕ → Counts
counts_as Inputs b = counts_of b
counts_as Groups b = counts_of b
counts_as Nothing b = no_counts

unfoldable pub counts_in : Event → List ℕ → Counts
counts_in e b = counts_as (beside_of e) b

-- the counts beside what was read at the start of r
abbrev pub counts_beside : List ℕ → Read → Counts
counts_beside r (Record e next) = counts_in e (take (next - HEADER) (drop HEADER r))
counts_beside r (Refused why next) = no_counts
counts_beside r Cut = no_counts

-- ── reading begins at any place (CHIP R6) ──
abbrev pub place_moved : ℕ → Read → Read
place_moved at (Record e next) = Record e (at + next)
place_moved at (Refused why next) = Refused why (at + next)
place_moved at Cut = Cut

abbrev pub taken_from : ℕ → List ℕ → Read → Taken
taken_from at r x = record { read = place_moved at x; counts = counts_beside r x }

unfoldable pub taken_at : ℕ → List ℕ → ℕ → Taken
taken_at part s at =
    cond (ltb (length s) at) (record { read = Cut; counts = no_counts }) (taken_from at (drop at s) (read_of part (drop at s)))
