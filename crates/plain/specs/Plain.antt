-- CHIP P11: the plain engine. It decides at a scan and at ticks by what the records before them say; every other record is the base
-- engine's. The chip that it keeps has no runs. Assumes nothing.
use Rattle.std.specs.Prelude.{◌≡◌, Bool, false, cond, not, ◌&&◌, List, [], ◌∷◌, ◌++◌, ℕ, zero, suc, ◌*◌, eqb, leb, ℤ, pos, length, take}
use Rattle.std.specs.Prelude.{drop, Result, Ok, Err}
use Rattle.constants.specs.Refusal.{number_of}
use Rattle.constants.specs.declared.refusal.Refusal.{Refusal}
use Rattle.constants.specs.Number.{NO_ROOM, TOO_LONG}
use Rattle.constants.specs.Size.{ENTRY}
use Rattle.constants.specs.Answer.{minus}
use Rattle.events.specs.declared.Event.{Event}
use Rattle.events.specs.declared.Event.TheVariants.{Setup, Por, Boot, Scan, Temp, Count, Sense, Pin, Load, Xready, OnBus, Level, Ticks}
use Rattle.events.specs.declared.Event.TheVariants.{Soak, Wires}
use Rattle.events.specs.Setup.{inputs}
use Rattle.records.specs.declared.Read.{Read}
use Rattle.records.specs.declared.Read.TheVariants.{Record, Refused, Cut}
use Rattle.records.specs.Record.{read_of, counts_beside}
use Rattle.chip.specs.declared.Chip.{Chip}
use Rattle.chip.specs.Answer.{Stepped}
use Rattle.turn.specs.declared.Entry.{Entry}
use Rattle.turn.specs.Turn.{none, Turn, turn, turned}
use Rattle.turn.specs.Entries.{bytes_of, entered}
use Rattle.plain_back.specs.Said.{streaks_in, most}
use Rattle.plain.specs.Decision.{scan_done, ticks_done}

-- ── a record, with the records before it at hand ──
-- one that was decided here; a wiring record may follow it where it may stand and this one was refused (CHIP W1)
abbrev pub decided : Bool → Stepped → ℕ → Turn
decided o s next = turn s (o && not (eqb s.number 0)) next false

abbrev pub plain_done : List ℕ → Bool → Chip → List ℕ → Event → ℕ → Turn
plain_done before o c rest (Setup v) next = turned o c rest (Record (Setup v) next)
plain_done before o c rest Por next = turned o c rest (Record Por next)
plain_done before o c rest Boot next = turned o c rest (Record Boot next)
plain_done before o c rest Scan next =
    decided o (scan_done (streaks_in before) (take (inputs c.setup) (counts_beside rest (Record Scan next)).of) c) next
plain_done before o c rest Temp next = turned o c rest (Record Temp next)
plain_done before o c rest (Count n) next = turned o c rest (Record (Count n) next)
plain_done before o c rest (Sense v) next = decided o (ticks_done (streaks_in before) v 1 c) next
plain_done before o c rest Pin next = turned o c rest (Record Pin next)
plain_done before o c rest (Load l) next = turned o c rest (Record (Load l) next)
plain_done before o c rest Xready next = turned o c rest (Record Xready next)
plain_done before o c rest (OnBus b) next = turned o c rest (Record (OnBus b) next)
plain_done before o c rest (Level l) next = turned o c rest (Record (Level l) next)
plain_done before o c rest (Ticks v n) next = decided o (ticks_done (streaks_in before) v n c) next
plain_done before o c rest (Soak v n) next = decided o (ticks_done (streaks_in before) v n c) next
plain_done before o c rest (Wires n) next = turned o c rest (Record (Wires n) next)

abbrev pub plain_turned : List ℕ → Bool → Chip → List ℕ → Read → Turn
plain_turned before o c rest (Record e next) = plain_done before o c rest e next
plain_turned before o c rest (Refused k next) = turned o c rest (Refused k next)
plain_turned before o c rest Cut = turned o c rest Cut

unfoldable pub plain_turn : List ℕ → Bool → Chip → List ℕ → Turn
plain_turn before o c rest = plain_turned before o c rest (read_of c.setup.part rest)

-- ── the entries of a stream ──
abbrev pub plain_runs : ℕ → List ℕ → Bool → Chip → List ℕ → List Entry
plain_runs zero before o c r = []
plain_runs (suc f) before o c [] = []
plain_runs (suc f) before o c (b ∷ r) =
    (plain_turn before o c (b ∷ r)).entry
    ∷ cond (plain_turn before o c (b ∷ r)).last []
    (plain_runs f (before ++ take (plain_turn before o c (b ∷ r)).next (b ∷ r)) (plain_turn before o c (b ∷ r)).fresh
    (plain_turn before o c (b ∷ r)).chip (drop (plain_turn before o c (b ∷ r)).next (b ∷ r)))

unfoldable pub plain_entries : List ℕ → List Entry
plain_entries s = plain_runs (length s) [] false none s

-- a run that is lent a buffer: the entries that fit
abbrev pub Noted : List ℕ → List ℕ → List ℕ → Type 0
Noted s old new = new ≡ entered old (plain_entries s)

-- what a call answers: how many, or minus the number of a refusal
abbrev pub answered : Result ℤ Refusal → ℤ
answered (Ok n) = n
answered (Err why) = minus (number_of why)

-- the answer of the C call: −24 for a longer stream, then −5 where the entries do not fit, with nothing written; else their count, and
-- the entries
pub record PlainPlayed (s old : List ℕ) (r : ℤ) (new : List ℕ) : Type 0 where
  pub answer : r
      ≡ cond (leb (length s) most)
      (cond (leb (ENTRY * length (plain_entries s)) (length old)) (pos (length (plain_entries s))) (minus NO_ROOM))
      (minus TOO_LONG)
  pub contents : new
      ≡ cond (leb (length s) most && leb (ENTRY * length (plain_entries s)) (length old))
      (bytes_of (plain_entries s) ++ drop (ENTRY * length (plain_entries s)) old) old
