-- CHIP.md, "Events and their records": the event of the values of each kind. 2 where their number is wrong, then 1 (SETUP), 13 (a wiring
-- record) or 3 where one is out of range. Assumes nothing.
use Rattle.std.specs.Prelude.{Bool, cond, List, map, ℕ, eqb, leb, ℤ, length}
use Rattle.events.specs.Setup.{checked_of}
use Rattle.bits.specs.Numbers.{within}
use Rattle.events.specs.Event.{count_most, sense_fits, ticks_fit}
use Rattle.events.specs.declared.BusEvent.TheVariants.{Out}
use Rattle.events.specs.declared.Event.{Event}
use Rattle.events.specs.declared.Event.TheVariants.{Count, Sense, OnBus, Wires}
use Rattle.records.specs.Record.{checked_in}
use Rattle.records.specs.Record.{Payload}
use Rattle.std.specs.Prelude.{Ok, Err}
use Rattle.constants.specs.declared.refusal.Refusal.TheVariants.{BadSetup, BadKind, BadValue, NoRow}
use Rattle.record_numbers.specs.Values.{nat_of, value_at, nat_at, byte_of, word_of}

-- part, CRC, address, gain code, offset (as a byte), floor
abbrev pub setup_by : List ℤ → Payload
setup_by vs =
    cond (eqb (length vs) 6)
    (cond (leb (nat_at vs 4) 255)
    (checked_in
    (checked_of (byte_of (nat_at vs 0)) (byte_of (nat_at vs 1)) (byte_of (nat_at vs 2)) (byte_of (nat_at vs 3)) (byte_of (nat_at vs 4))
    (word_of (nat_at vs 5))))
    (Err BadSetup))
    (Err BadKind)

-- none
abbrev pub bare_by : Event → List ℤ → Payload
bare_by e vs = cond (eqb (length vs) 0) (Ok e) (Err BadKind)

-- a count for each that is wanted
abbrev pub counted_by : Event → ℕ → List ℤ → Payload
counted_by e wanted vs =
    cond (eqb (length vs) wanted) (cond (within count_most (map nat_of vs)) (Ok e) (Err BadValue)) (Err BadKind)

-- a number of 2 bytes, raw; a byte; 0 or 1
abbrev pub one_count_by : List ℤ → Payload
one_count_by vs = cond (eqb (length vs) 1) (cond (leb (nat_at vs 0) 65535) (Ok (Count (nat_at vs 0))) (Err BadValue)) (Err BadKind)

abbrev pub out_by : List ℤ → Payload
out_by vs = cond (eqb (length vs) 1) (cond (leb (nat_at vs 0) 255) (Ok (OnBus (Out (nat_at vs 0)))) (Err BadValue)) (Err BadKind)

abbrev pub switch_by : (Bool → Event) → List ℤ → Payload
switch_by e vs = cond (eqb (length vs) 1) (cond (leb (nat_at vs 0) 1) (Ok (e (eqb (nat_at vs 0) 1))) (Err BadValue)) (Err BadKind)

-- SENSE's value; and how often it is repeated
abbrev pub sense_by : List ℤ → Payload
sense_by vs =
    cond (eqb (length vs) 1) (cond (sense_fits (value_at vs 0)) (Ok (Sense (value_at vs 0))) (Err BadValue)) (Err BadKind)

abbrev pub repeat_by : (ℤ → ℕ → Event) → ℕ → List ℤ → Payload
repeat_by e most vs =
    cond (eqb (length vs) 2)
    (cond (ticks_fit most (value_at vs 0) (nat_at vs 1)) (Ok (e (value_at vs 0) (nat_at vs 1))) (Err BadValue))
    (Err BadKind)

-- the number of cells: no part has a row for one that a byte does not hold; who writes the record judges another
abbrev pub wires_by : List ℤ → Payload
wires_by vs = cond (eqb (length vs) 1) (cond (leb (nat_at vs 0) 255) (Ok (Wires (nat_at vs 0))) (Err NoRow)) (Err BadKind)
