-- CHIP R9 to R11: writing, with the numbers 1, 2, 3, 13 and 5. Assumes nothing.
use Rattle.std.specs.Prelude.{◌≡◌, ℕ, ◌/◌, ◌%◌, List, [], ◌∷◌, ◌++◌, cond, ◌&&◌, length, take, drop, leb, eqb, Result}
use Rattle.constants.specs.Number.{DONE, BAD_SETUP, BAD_KIND, BAD_VALUE, NO_ROOM, NO_ROW}
use Rattle.constants.specs.Range.{PART_MOST}
use Rattle.bits.specs.Numbers.{within, bit_of, bytes16, bytes32, bits32, word_bytes}
use Rattle.events.specs.Event.{count_most, sense_fits, ticks_most, soak_most, ticks_fit, counts_wanted, counts_fit}
use Rattle.events.specs.declared.Setup.{Setup as SetupValues}
use Rattle.events.specs.declared.Counts.{Counts}
use Rattle.events.specs.declared.BusEvent.TheVariants.{Start, Out, In, Stop}
use Rattle.events.specs.Role.{role_of}
use Rattle.events.specs.declared.Role.{Role}
use Rattle.events.specs.declared.Role.TheVariants.{Makes, Rewires, Happens}
use Rattle.events.specs.declared.Event.{Event}
use Rattle.events.specs.declared.Event.TheVariants.{Setup, Por, Boot, Scan, Temp, Count, Sense, Pin, Load, Xready, OnBus, Level, Ticks}
use Rattle.events.specs.declared.Event.TheVariants.{Soak, Wires}
use Rattle.wiring.specs.Rows.{has_row}
use Rattle.records.specs.Kind.{SETUP, POR, BOOT, SCAN, TEMP, COUNT, SENSE, PIN, LOAD, XREADY, START, OUT, IN, STOP, LEVEL, TICKS, SOAK}
use Rattle.records.specs.Kind.{WIRES}
use Rattle.records.specs.Record.{setup_good}
use Rattle.events.specs.Setup.{standing}
use Rattle.constants.specs.Answer.{Said, gives, refuses}
use Rattle.constants.specs.Refusal.{said_of}
use Rattle.constants.specs.declared.refusal.Refusal.{Refusal}

-- ── a record: the payload's length, its kind, the payload (CHIP R1) ──
abbrev pub record_of : ℕ → List ℕ → List ℕ
record_of kind b = length b % 256 ∷ length b / 256 ∷ kind % 256 ∷ kind / 256 ∷ b

-- the kind of each event
abbrev pub kind_for : Event → ℕ
kind_for (Setup v) = SETUP
kind_for Por = POR
kind_for Boot = BOOT
kind_for Scan = SCAN
kind_for Temp = TEMP
kind_for (Count n) = COUNT
kind_for (Sense v) = SENSE
kind_for Pin = PIN
kind_for (Load l) = LOAD
kind_for Xready = XREADY
kind_for (OnBus Start) = START
kind_for (OnBus (Out b)) = OUT
kind_for (OnBus (In n)) = IN
kind_for (OnBus Stop) = STOP
kind_for (Level l) = LEVEL
kind_for (Ticks v n) = TICKS
kind_for (Soak v n) = SOAK
kind_for (Wires n) = WIRES

-- part, CRC, address, gain code, offset (1 each), floor (2)
abbrev pub setup_bytes : SetupValues → List ℕ
setup_bytes v = v.part ∷ bit_of v.crc ∷ v.address ∷ v.gain_code ∷ v.offset ∷ bytes16 v.floor

-- 2 bytes for each count
abbrev pub count_bytes : Counts → List ℕ
count_bytes k = word_bytes (take k.many k.of)

-- the payload of each event
abbrev pub payload_for : Event → Counts → List ℕ
payload_for (Setup v) k = setup_bytes v
payload_for Por k = []
payload_for Boot k = []
payload_for Scan k = count_bytes k
payload_for Temp k = count_bytes k
payload_for (Count n) k = bytes16 n
payload_for (Sense v) k = bytes32 (bits32 v)
payload_for Pin k = []
payload_for (Load l) k = bit_of l ∷ []
payload_for Xready k = []
payload_for (OnBus Start) k = []
payload_for (OnBus (Out b)) k = b ∷ []
payload_for (OnBus (In n)) k = bit_of n ∷ []
payload_for (OnBus Stop) k = []
payload_for (Level l) k = bit_of l ∷ []
payload_for (Ticks v n) k = bytes32 (bits32 v) ++ bytes16 n
payload_for (Soak v n) k = bytes32 (bits32 v) ++ bytes32 n
payload_for (Wires n) k = n ∷ []

unfoldable pub record_for : Event → Counts → List ℕ
record_for e k = record_of (kind_for e) (payload_for e k)

-- ── refusals: 1, 2, then 1, 3 or 13 (CHIP R9) ──
-- the part that counts: SETUP's own for SETUP
abbrev part_as : Role → ℕ → ℕ
part_as (Makes v) part = v.part
part_as (Rewires n) part = part
part_as Happens part = part

abbrev pub part_for : Event → ℕ → ℕ
part_for e part = part_as (role_of e) part

-- the number of a value out of range
unfoldable pub value_refusal : Event → Counts → ℕ → ℕ
value_refusal (Setup v) k part = cond (setup_good v) DONE BAD_SETUP
value_refusal Por k part = DONE
value_refusal Boot k part = DONE
value_refusal Scan k part = cond (within count_most (take k.many k.of)) DONE BAD_VALUE
value_refusal Temp k part = cond (within count_most (take k.many k.of)) DONE BAD_VALUE
value_refusal (Count n) k part = DONE
value_refusal (Sense v) k part = cond (sense_fits v) DONE BAD_VALUE
value_refusal Pin k part = DONE
value_refusal (Load l) k part = DONE
value_refusal Xready k part = DONE
value_refusal (OnBus b) k part = DONE
value_refusal (Level l) k part = DONE
value_refusal (Ticks v n) k part = cond (ticks_fit ticks_most v n) DONE BAD_VALUE
value_refusal (Soak v n) k part = cond (ticks_fit soak_most v n) DONE BAD_VALUE
value_refusal (Wires n) k part = cond (has_row part n) DONE NO_ROW

-- the number that an event is refused with at a part, or 0
unfoldable pub refusal_for : Event → Counts → ℕ → ℕ
refusal_for e k part =
    cond (leb 1 (part_for e part) && leb (part_for e part) PART_MOST)
    (cond (counts_fit (counts_wanted (standing part) e) k) (value_refusal e k part) BAD_KIND)
    BAD_SETUP

-- ── then 5; no other byte than the record's is written ──
-- how many bytes, or the number of the refusal
abbrev pub Wrote : Type 0
Wrote = Said ℕ

abbrev pub wrote : Result ℕ Refusal → Wrote
wrote r = said_of (λ n. n) r

-- bytes written at the start of a buffer
abbrev pub written_of : List ℕ → List ℕ → List ℕ
written_of bytes old = bytes ++ drop (length bytes) old

pub record Writes (bytes old : List ℕ) (r : Wrote) (new : List ℕ) : Type 0 where
  pub answer : r ≡ cond (leb (length bytes) (length old)) (gives (length bytes)) (refuses NO_ROOM)
  pub contents : new ≡ cond (leb (length bytes) (length old)) (written_of bytes old) old

-- an event that is refused with a number, 0 where it is not, and its bytes
pub record Puts (number : ℕ) (bytes old : List ℕ) (r : Wrote) (new : List ℕ) : Type 0 where
  pub answer : r ≡ cond (eqb number 0) (cond (leb (length bytes) (length old)) (gives (length bytes)) (refuses NO_ROOM)) (refuses number)
  pub contents : new ≡ cond (eqb number 0) (cond (leb (length bytes) (length old)) (written_of bytes old) old) old

-- the number of each answer (CHIP O4)
abbrev pub number_of : Wrote → ℕ
number_of (gives n) = DONE
number_of (refuses k) = k
