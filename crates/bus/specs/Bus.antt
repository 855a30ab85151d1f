-- CHIP B1 to B20. It knows no register: OUT gives the acknowledgement and at most one accepted store, IN asks for a register and is
-- told it. `Line` moves by the host's bytes alone. What depends on what a register held stands apart, in `Owed`. Assumes nothing.
use Rattle.std.specs.Prelude.{Bool, true, false, ◌&&◌, cond, ℕ, ◌+◌, ◌*◌, ◌%◌, eqb, leb, Option, Some, None}
use Rattle.constants.specs.Address.{VC1, CC}
use Rattle.crc8.specs.Crc.{byte_on}
use Rattle.events.specs.declared.Setup.{Setup}
use Rattle.bus.specs.declared.Phase.{Phase}
use Rattle.bus.specs.declared.Phase.TheVariants.{Idle, Address, Pointing, Writing, Checking, Reading, Summing}
use Rattle.bus.specs.declared.Line.{Line}
use Rattle.bus.specs.declared.Owed.{Owed}
use Rattle.bus.specs.declared.Bus.{Bus}
use Rattle.bus.specs.declared.Write.{Write}
use Rattle.bus.specs.declared.Outed.{Outed}
use Rattle.bus.specs.declared.Taken.{Taken}

-- an accepted store of a value at an address, or none
abbrev pub Store : Type 0
Store = Option Write

abbrev pub At : ℕ → ℕ → Store
At a v = Some (record { at = a; value = v })

abbrev pub line_of : Phase → ℕ → Line
line_of p a = record { phase = p; pointer = a }

abbrev pub with_line : Line → Bus → Bus
with_line l b = record { line = l; owed = b.owed }

abbrev pub with_phase : Phase → Bus → Bus
with_phase p b = with_line (line_of p b.line.pointer) b

-- CHIP B10
abbrev pub grown : ℕ → ℕ
grown a = (a + 1) % 256

-- on entering SHIP (CHIP M3)
abbrev pub idle_bus : Bus
idle_bus = record { line = line_of Idle 0; owed = record { sum = 0; low = 0 } }

-- ── START and STOP (CHIP B1, B2) ──
abbrev pub started : Line → Line
started l = line_of Address l.pointer

abbrev pub stopped : Line → Line
stopped l = line_of Idle l.pointer

-- ── OUT: the byte given back is 0 where it is acknowledged, 1 where it is not ──
abbrev pub goes : Phase → ℕ → Outed
goes p a = record { line = line_of p a; acked = true; byte = 0; store = None }

abbrev pub refuses : ℕ → Outed
refuses a = record { line = line_of Idle a; acked = false; byte = 1; store = None }

-- an accepted data byte (CHIP B10); the CRC of later ones has the data alone (CHIP B12)
abbrev pub stores : ℕ → ℕ → Outed
stores a v = record { line = line_of (Writing 0) (grown a); acked = true; byte = 0; store = At a v }

unfoldable pub addressed : Setup → ℕ → ℕ → Outed
addressed u a b =
    cond (eqb b (u.address * 2)) (goes (Pointing (byte_on 0 b)) a)
    (cond (eqb b (u.address * 2 + 1)) (goes (Reading (byte_on 0 b) false) a)
    (refuses a))

unfoldable pub fed : Setup → ℕ → ℕ → ℕ → Outed
fed u s a b = cond u.crc (goes (Checking b (byte_on s b)) a) (stores a b)

unfoldable pub checked : ℕ → ℕ → ℕ → ℕ → Outed
checked v s a b = cond (eqb b s) (stores a v) (refuses a)

abbrev pub out_in : Setup → Phase → ℕ → ℕ → Outed
out_in u Idle a b = refuses a
out_in u Address a b = addressed u a b
out_in u (Pointing s) a b = goes (Writing (byte_on s b)) b
out_in u (Writing s) a b = fed u s a b
out_in u (Checking v s) a b = checked v s a b
out_in u (Reading s k) a b = refuses a
out_in u (Summing k) a b = refuses a

unfoldable pub outed : Setup → Line → ℕ → Outed
outed u l b = out_in u l.phase l.pointer b

-- ── IN (CHIP B13 to B17); `nack`: the host does not acknowledge ──
abbrev pub is_high : ℕ → Bool
is_high a = eqb (a % 2) 0 && leb VC1 a && leb a CC

unfoldable pub after_data : Bool → ℕ → Bool → Phase
after_data crc a nack = cond nack Idle (cond crc (Summing (is_high a)) (Reading 0 (is_high a)))

unfoldable pub after_sum : Bool → Bool → Phase
after_sum k nack = cond nack Idle (Reading 0 k)

abbrev pub next_byte : Bool → ℕ → ℕ → ℕ
next_byte k low here = cond k low here

abbrev pub in_line : Setup → Line → Phase → Bool → Line
in_line u l Idle nack = l
in_line u l Address nack = l
in_line u l (Pointing s) nack = l
in_line u l (Writing s) nack = l
in_line u l (Checking v s) nack = l
in_line u l (Reading s k) nack = line_of (after_data u.crc l.pointer nack) (grown l.pointer)
in_line u l (Summing k) nack = line_of (after_sum k nack) l.pointer

unfoldable pub taken : Setup → Line → Bool → Line
taken u l nack = in_line u l l.phase nack

-- it asks for the register at its pointer and for the one after it, and is told what they read: `here` and `low`
abbrev pub in_byte : ℕ → Owed → Phase → ℕ
in_byte here o Idle = 0xFF
in_byte here o Address = 0xFF
in_byte here o (Pointing s) = 0xFF
in_byte here o (Writing s) = 0xFF
in_byte here o (Checking v s) = 0xFF
in_byte here o (Reading s k) = next_byte k o.low here
in_byte here o (Summing k) = o.sum

unfoldable pub byte_given : ℕ → Bus → ℕ
byte_given here b = in_byte here b.owed b.line.phase

-- what a data byte given leaves owed: its CRC, and the low byte of a pair (CHIP B14, B18)
unfoldable pub keeps : Owed → ℕ → Bool → ℕ → ℕ → ℕ → Owed
keeps o s k a here low = record { sum = byte_on s (next_byte k o.low here); low = cond (is_high a) low o.low }

abbrev pub in_owed : ℕ → ℕ → Owed → Phase → ℕ → Owed
in_owed here low o Idle a = o
in_owed here low o Address a = o
in_owed here low o (Pointing s) a = o
in_owed here low o (Writing s) a = o
in_owed here low o (Checking v s) a = o
in_owed here low o (Reading s k) a = keeps o s k a here low
in_owed here low o (Summing k) a = o

unfoldable pub owing : ℕ → ℕ → Bus → Owed
owing here low b = in_owed here low b.owed b.line.phase b.line.pointer

-- ── IN whole: what it asks for, and what it does once it is told ──
abbrev pub wanted_in : Phase → ℕ → Option ℕ
wanted_in Idle a = None
wanted_in Address a = None
wanted_in (Pointing s) a = None
wanted_in (Writing s) a = None
wanted_in (Checking v s) a = None
wanted_in (Reading s k) a = Some a
wanted_in (Summing k) a = None

unfoldable pub wanted : Bus → Option ℕ
wanted b = wanted_in b.line.phase b.line.pointer

abbrev pub gives : Line → Owed → ℕ → Taken
gives l o byte = record { bus = record { line = l; owed = o }; byte = byte }

abbrev pub takes : Setup → ℕ → ℕ → Bool → Bus → Taken
takes u here low nack b = gives (taken u b.line nack) (owing here low b) (byte_given here b)
