-- What the two calls answer and leave: a record from its kind and values, and back. Assumes nothing.
use Rattle.std.specs.Prelude.{◌≡◌, cond, List, ℕ, ◌<◌, ◌^◌, eqb, leb, ℤ, pos, length}
use Rattle.constants.specs.Number.{BAD_SETUP, NO_ROOM, CUT}
use Rattle.constants.specs.Refusal.{number_of}
use Rattle.constants.specs.Answer.{Said, gives, refuses, minus}
use Rattle.events.specs.declared.Counts.{Counts}
use Rattle.events.specs.declared.Event.{Event}
use Rattle.records.specs.Record.{read_of, counts_beside}
use Rattle.records.specs.Record.{Payload}
use Rattle.std.specs.Prelude.{Ok, Err}
use Rattle.records.specs.declared.Read.{Read}
use Rattle.records.specs.declared.Read.TheVariants.{Record, Refused, Cut}
use Rattle.writer.specs.Write.{Wrote}
use Rattle.writer.specs.Write.{record_for, refusal_for}
use Rattle.record_event.specs.Values.{part_by, event_by, counts_by}
use Rattle.record_values.specs.Named.{laid, Named, named}

-- ── writing ──
-- an event that the values mean, and what the writer refuses it with
abbrev pub written_by : ℕ → Event → Counts → Said (List ℕ)
written_by part e k = cond (eqb (refusal_for e k part) 0) (gives (record_for e k)) (refuses (refusal_for e k part))

abbrev pub meant_by : ℕ → List ℤ → Payload → Said (List ℕ)
meant_by part vs (Ok e) = written_by part e (counts_by e vs)
meant_by part vs (Err why) = refuses (number_of why)

-- as C takes what the writer answers; how many bytes it wrote is below 2 ^ 63
abbrev pub wrote_answer : Wrote → ℤ
wrote_answer (gives n) = pos n
wrote_answer (refuses n) = minus n

abbrev pub CountedFew : Wrote → Type 0
CountedFew (gives n) = n < 2 ^ 63
CountedFew (refuses n) = Unit

-- a record's bytes
unfoldable pub record_said : ℕ → ℕ → List ℤ → Said (List ℕ)
record_said kind part vs = meant_by (part_by part) vs (event_by kind part vs)

-- how many bytes were written, or minus the number that refuses it; 5 comes last
abbrev pub record_answer : Said (List ℕ) → ℕ → ℤ
record_answer (refuses n) room = minus n
record_answer (gives b) room = cond (leb (length b) room) (pos (length b)) (minus NO_ROOM)

abbrev pub record_bytes : Said (List ℕ) → List ℕ → List ℕ
record_bytes (refuses n) old = old
record_bytes (gives b) old = cond (leb (length b) (length old)) (laid b old) old

pub record Records (said : Said (List ℕ)) (old : List ℕ) (r : ℤ) (new : List ℕ) : Type 0 where
  pub answer : r ≡ record_answer said (length old)
  pub contents : new ≡ record_bytes said old

-- ── reading back ──

abbrev pub named_read : List ℕ → Read → Said Named
named_read r (Record e next) = gives (named e (counts_beside r (Record e next)))
named_read r (Refused why next) = refuses (number_of why)
named_read r Cut = refuses CUT

-- the record that bytes begin with, at the part that stands, 0 where none does yet; there is no part above 3
unfoldable pub named_said : ℕ → List ℕ → Said Named
named_said part r = cond (leb part 3) (named_read r (read_of part r)) (refuses BAD_SETUP)
