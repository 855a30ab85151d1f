-- The whole entry of each record, by the events heard before it: number, flag and byte are those that `stepped` answers, or the number
-- that the record is refused with, and of a wiring record those that its place and its row give; SYS_STAT and pins are those of the chip
-- after it. Assumes nothing.
use Rattle.std.specs.Prelude.{◌≡◌, refl, Bool, true, cond, ◌≢◌, List, [], ◌∷◌, map, ℕ, zero, suc, ◌-◌, length, drop}
use Rattle.std.proofs.Common.{sym, ap, ap₂, ◌∙◌}
use Rattle.events.specs.declared.Setup.{Setup as SetupValues}
use Rattle.events.specs.declared.Event.TheVariants.{Setup}
use Rattle.events.specs.Event.{Event}
use Rattle.records.specs.declared.Read.{Read}
use Rattle.records.specs.declared.Read.TheVariants.{Record, Refused, Cut}
use Rattle.records.specs.Record.{read_of}
use Rattle.chip.specs.declared.Chip.{Chip}
use Rattle.chip.specs.Answer.{Stepped}
use Rattle.chip.specs.Chip.{numbered, in_ship}
use Rattle.turn.specs.declared.Entry.{Entry}
use Rattle.turn.specs.Turn.{Turn, entry_of, turned}
use Rattle.turn.specs.Entries.{runs, entries}
use Rattle.turn.specs.StandingLaws.{first_entries}
use Rattle.demands.specs.Demand.{chip}
use Rattle.demands.specs.Wired.{celled}
use Rattle.demands.specs.Streams.{rest_after, heard_next}
use Rattle.demands.proofs.Streams.{answer_to, fresh_next, cells_next, Untouched, Took, took, turn_is, goes_on, a_part}

module _ (u : SetupValues) where
  -- the answers to the records of r, the first record first; `o` says that a wiring record is taken
  abbrev pub answers_by : ℕ → Bool → List ℕ → List Event → List Stepped
  answers_by zero o r past = []
  answers_by (suc f) o [] past = []
  answers_by (suc f) o (b ∷ r) past =
      answer_to u o (b ∷ r) (read_of u.part (b ∷ r)) past
      ∷ answers_by f (fresh_next u o (b ∷ r) (read_of u.part (b ∷ r)) past) (rest_after (b ∷ r) (read_of u.part (b ∷ r)))
      (heard_next u (b ∷ r) (read_of u.part (b ∷ r)) past)

  none_left : (f : ℕ) (o : Bool) (past : List Event) → answers_by f o [] past ≡ []
  none_left zero o past = refl
  none_left (suc f) o past = refl

  module _ (p : u.part ≢ 0) where
    abbrev RunsAre : ℕ → Type 0
    RunsAre f = (o : Bool) (n : ℕ) (r : List ℕ) (past : List Event) → Untouched u o past
        → runs f o (celled n (chip u past)) r ≡ map entry_of (answers_by f o r past)

    runs-turned : (f : ℕ) → RunsAre f → (o : Bool) (n : ℕ) (r : List ℕ) (past : List Event) (x : Read) → Took u o n r past x
        → cond (turned o (celled n (chip u past)) r x).last []
        (runs f (turned o (celled n (chip u past)) r x).fresh (turned o (celled n (chip u past)) r x).chip
        (drop (turned o (celled n (chip u past)) r x).next r))
        ≡ map entry_of (answers_by f (fresh_next u o r x past) (rest_after r x) (heard_next u r x past))
    runs-turned f ih o n r past (Record e next) t =
        ap₂ (λ (b : Bool) (c : Chip). runs f b c (drop next r)) t.fresh_is t.chip_is
        ∙ ih (fresh_next u o r (Record e next) past) (cells_next u o r (Record e next) past n) (drop next r)
        (heard_next u r (Record e next) past) t.untouched
    runs-turned f ih o n r past (Refused k next) t = simp (goes_on u p n past) (ih o n (drop next r) past t.untouched)
    runs-turned f ih o n r past Cut t = sym (ap (map entry_of) (none_left f o past))

    pub runs_are : (f : ℕ) → RunsAre f
    runs_are zero o n r past h = refl
    runs_are (suc f) o n [] past h = refl
    runs_are (suc f) o n (b ∷ r) past h =
        let t = took u p o n (b ∷ r) past h (read_of u.part (b ∷ r)) refl in
        ap (λ (t : Turn). t.entry ∷ cond t.last [] (runs f t.fresh t.chip (drop t.next (b ∷ r))))
        (turn_is u p o n (b ∷ r) past)
        ∙ ap₂ (λ (e : Entry) (l : List Entry). e ∷ l) t.entry_is
        (runs-turned f (λ o n r past h. runs_are f o n r past h) o n (b ∷ r) past (read_of u.part (b ∷ r)) t)

-- a stream whose first record is a SETUP, read with success as u, up to the place next: ITS ENTRIES, whole
pub entries_are : (s : List ℕ) (u : SetupValues) (next : ℕ) → read_of 0 s ≡ Record (Setup u) next
    → entries s ≡ entry_of (numbered 0 (in_ship u)) ∷ map entry_of (answers_by u (length s - 1) true (drop next s) [])
unfolding chip
entries_are s u next first =
    first_entries s u next first
    ∙ ap (λ (l : List Entry). entry_of (numbered 0 (in_ship u)) ∷ l)
    (runs_are u (a_part s u next first) (length s - 1) true u.cells (drop next s) [] (λ e. refl))
