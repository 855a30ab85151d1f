-- CHIP P1 to P5: what a record makes of a chip, and the five bytes that it gives. Assumes nothing.
use Rattle.std.specs.Prelude.{ℕ, List, Bool, true, false, cond, not, ◌&&◌, ◌||◌, eqb, Result, Ok, Err}
use Rattle.constants.specs.Number.{DONE, BAD_KIND, CUT}
use Rattle.events.specs.declared.Setup.{Setup as SetupValues}
use Rattle.events.specs.declared.Counts.{Counts}
use Rattle.events.specs.Role.{role_of}
use Rattle.events.specs.declared.Role.{Role}
use Rattle.events.specs.declared.Role.TheVariants.{Makes, Rewires, Happens}
use Rattle.events.specs.declared.Event.{Event}
use Rattle.records.specs.declared.Read.{Read}
use Rattle.records.specs.declared.Read.TheVariants.{Record, Refused, Cut}
use Rattle.events.specs.Setup.{standing}
use Rattle.records.specs.Record.{read_of, counts_beside}
use Rattle.wiring.specs.Rows.{wired_with, wired_number}
use Rattle.constants.specs.Refusal.{number_of}
use Rattle.constants.specs.declared.refusal.Refusal.{Refusal}
use Rattle.bits.specs.Bit.{weighed}
use Rattle.registers.specs.Read.{status_byte}
use Rattle.chip.specs.declared.Chip.{Chip}
use Rattle.chip.specs.Answer.{Stepped}
use Rattle.chip.specs.Chip.{numbered, in_ship, stepped_by}
use Rattle.chip.specs.Outward.{pins_of}
use Rattle.turn.specs.declared.Entry.{Entry}

-- no chip yet: part 0, and with it SYS_STAT and pins 0
abbrev pub none : Chip
none = in_ship (standing 0)

-- number, bus flag, bus byte; SYS_STAT, pins
abbrev pub entry_of : Stepped → Entry
entry_of s =
    record {
      number = s.number;
      flag = weighed s.flag 1;
      byte = s.byte;
      stat = status_byte s.chip.registers.shown.status;
      pins = pins_of s.chip;
    }

-- the chip that SETUP makes
abbrev pub born_of : SetupValues → Stepped
born_of v = numbered DONE (in_ship v)

-- a wiring record makes the chip anew, with its cells, where it is taken (CHIP W1)
abbrev pub wired_as : Result SetupValues Refusal → Chip → Stepped
wired_as (Ok u) c = born_of u
wired_as (Err why) c = numbered (wired_number (Err why)) c

abbrev pub wires : Bool → ℕ → Chip → Stepped
wires fresh n c = cond fresh (wired_as (wired_with c.setup n) c) (numbered BAD_KIND c)

-- SETUP, which the reader gives only first, makes the chip; every other event happens to it. `fresh` says that only SETUP and refused
-- records stand before
abbrev pub acted_as : Bool → Role → Event → Counts → Chip → Stepped
acted_as o (Makes v) e k c = born_of v
acted_as o (Rewires n) e k c = wires o n c
acted_as o Happens e k c = stepped_by e k c

unfoldable pub acted : Bool → Event → Counts → Chip → Stepped
acted o e k c = acted_as o (role_of e) e k c

-- .. and after a record: after SETUP, which alone meets no part, and after a refused one
abbrev pub stays_fresh : Bool → Chip → Stepped → Bool
stays_fresh o c s = eqb c.setup.part 0 || (o && not (eqb s.number DONE))

-- ── what a record makes of a chip: its entry, the next chip and place, whether a wiring record may follow, and whether it is the last ──
pub record Turn : Type 0 where
  pub chip : Chip
  pub fresh : Bool
  pub entry : Entry
  pub next : ℕ
  pub last : Bool

abbrev pub turn : Stepped → Bool → ℕ → Bool → Turn
turn s fresh next last = record { chip = s.chip; fresh = fresh; entry = entry_of s; next = next; last = last }

-- of any record
abbrev pub turned : Bool → Chip → List ℕ → Read → Turn
turned o c rest (Record e next) =
    turn (acted o e (counts_beside rest (Record e next)) c) (stays_fresh o c (acted o e (counts_beside rest (Record e next)) c)) next false
turned o c rest (Refused why next) = turn (numbered (number_of why) c) o next (eqb c.setup.part 0)
turned o c rest Cut = turn (numbered CUT c) o 0 true

unfoldable pub turn_of : Bool → Chip → List ℕ → Turn
turn_of o c rest = turned o c rest (read_of c.setup.part rest)
