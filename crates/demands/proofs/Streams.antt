-- CHIP H1 to H6 of streams: the chip at the end of a stream, and what each of its entries shows, are those of the events that its records
-- mean. So every claim of Demand over events is one over the bytes of a stream. Assumes nothing.
use Rattle.std.specs.Prelude.{◌≡◌, not, ◌&&◌, ◌||◌, ◌≢◌, ℕ, zero, suc, ◌-◌, eqb, length, drop}
use Rattle.std.proofs.Math.Path.{refl, sym, ap}
use Rattle.std.proofs.Common.{subst, ap₂, ◌∙◌, true≢false, arith, eq-eqb, ne_eqb}
use Rattle.std.proofs.Math.Bool.{Bool, true, false, cond}
use mathlib.Core.List.{List, [], ◌∷◌, map}
use Rattle.events.specs.declared.Setup.{Setup as SetupValues}
use Rattle.events.specs.declared.Counts.{Counts}
use Rattle.events.specs.declared.Event.{Event as Coded}
use Rattle.events.specs.declared.Event.TheVariants.{Setup, Wires}
use Rattle.events.specs.Setup.{with_cells}
use Rattle.events.specs.Event.{Event, Meant, unfit, counts_fit, meant_of, in_range}
use Rattle.wiring.specs.Rows.{has_row, wired_with}
use Rattle.std.specs.Prelude.{Ok, Err}
use Rattle.constants.specs.declared.refusal.Refusal.TheVariants.{NoRow}
use Rattle.records.specs.declared.Read.{Read}
use Rattle.constants.specs.Refusal.{number_of}
use Rattle.records.specs.declared.Read.TheVariants.{Record, Refused, Cut}
use Rattle.records.specs.Record.{read_of, counts_beside}
use Rattle.records.specs.SoundLaws.{first_setup, Meaning, is_wires, wires_by, later_means}
use Rattle.registers.specs.Read.{status_byte}
use Rattle.chip.specs.declared.Chip.{Chip}
use Rattle.chip.specs.Answer.{Stepped}
use Rattle.chip.specs.Chip.{numbered, in_ship, stepped_as}
use Rattle.chip.specs.Outward.{pins_of}
use Rattle.turn.specs.declared.Entry.{Entry}
use Rattle.turn.specs.Turn.{Turn, entry_of, wired_as, acted, stays_fresh, turned, turn_of}
use Rattle.turn.specs.Entries.{runs, stands, entries, last_chip}
use Rattle.turn.specs.StandingLaws.{acted_is, good_part, first_stands, first_entries}
use Rattle.demands.specs.Demand.{chip}
use Rattle.demands.proofs.History.{setup_is}
use Rattle.demands.specs.Refused.{refused_as}
use Rattle.demands.specs.Aside.{with_meant}
use Rattle.demands.proofs.Aside.{heard_as}
use Rattle.demands.specs.Wired.{celled, celled_in, as_cells, same_but_cells, meant_cells}
use Rattle.demands.specs.Streams.{rest_after, heard_next, heard_by, heard}

both_true : (a b : Bool) → (a && not b) ≡ true → (a ≡ true) × (b ≡ false)
both_true true true h = absurd (true≢false (sym h))
both_true true false h = (refl, refl)
both_true false b h = absurd (true≢false (sym h))

-- a wiring record, by its place and its row: it makes the chip anew with its cells, or is refused
abbrev wired_by : Bool → Bool → ℕ → Chip → Stepped
wired_by o t m c = cond o (wired_as (cond t (Ok (with_cells m c.setup)) (Err NoRow)) c) (numbered 2 c)

wired_as_lem : (o t : Bool) (n m : ℕ) (u : SetupValues) (c : Chip) → (o ≡ true → c ≡ in_ship u)
    → (wired_by o t m (celled n c) ≡ celled_in (wired_by o t m (celled n c)).chip.setup.cells (wired_by o t m c))
    × (celled (wired_by o t m (celled n c)).chip.setup.cells (wired_by o t m c).chip
    ≡ celled (wired_by o t m (celled n c)).chip.setup.cells c)
wired_as_lem true true n m u c h =
    (refl, ap (λ (d : Chip). celled m (in_ship (with_cells m d.setup))) (h refl) ∙ ap (celled m) (sym (h refl)))
wired_as_lem true false n m u c h = (refl, refl)
wired_as_lem false t n m u c h = (refl, refl)

module _ (u : SetupValues) where
  -- the events heard after each record, the first record first
  abbrev pub histories_by : ℕ → List ℕ → List Event → List (List Event)
  histories_by zero r past = []
  histories_by (suc f) [] past = []
  histories_by (suc f) (b ∷ r) past =
      heard_next u (b ∷ r) (read_of u.part (b ∷ r)) past ∷ histories_by f (rest_after (b ∷ r) (read_of u.part (b ∷ r)))
      (heard_next u (b ∷ r) (read_of u.part (b ∷ r)) past)

  -- ── what each is answered; `o` says that since SETUP only refused records came, so that a wiring record is taken (CHIP W1) ──
  abbrev pub answered : Bool → Coded → Counts → List Event → Stepped
  answered o e k past = cond (is_wires e) (acted o e k (chip u past)) (stepped_as (meant_of u e k) (chip u past))

  -- what the record at the start of r is answered, once SETUP was read as u and the past was heard
  abbrev pub answer_to : Bool → List ℕ → Read → List Event → Stepped
  answer_to o r (Record e next) past = answered o e (counts_beside r (Record e next)) past
  answer_to o r (Refused why next) past = numbered (number_of why) (chip u past)
  answer_to o r Cut past = numbered 9 (chip u past)

  -- whether the next record may be a wiring record
  abbrev pub fresh_next : Bool → List ℕ → Read → List Event → Bool
  fresh_next o r (Record e next) past = o && not (eqb (answer_to o r (Record e next) past).number 0)
  fresh_next o r (Refused k next) past = o
  fresh_next o r Cut past = o

  -- the number of cells after it, 0 for none
  abbrev pub cells_next : Bool → List ℕ → Read → List Event → ℕ → ℕ
  cells_next o r (Record e next) past n =
      cond (is_wires e) (acted o e (counts_beside r (Record e next)) (celled n (chip u past))).chip.setup.cells n
  cells_next o r (Refused k next) past n = n
  cells_next o r Cut past n = n

  abbrev pub cells_by : ℕ → Bool → ℕ → List ℕ → List Event → ℕ
  cells_by zero o n r past = n
  cells_by (suc f) o n [] past = n
  cells_by (suc f) o n (b ∷ r) past =
      cells_by f (fresh_next o (b ∷ r) (read_of u.part (b ∷ r)) past) (cells_next o (b ∷ r) (read_of u.part (b ∷ r)) past n)
      (rest_after (b ∷ r) (read_of u.part (b ∷ r))) (heard_next u (b ∷ r) (read_of u.part (b ∷ r)) past)

  -- ── one record ──
  -- while a wiring record is taken, nothing has happened
  abbrev pub Untouched : Bool → List Event → Type 0
  Untouched o past = o ≡ true → chip u past ≡ in_ship u

  pub record Took (o : Bool) (n : ℕ) (r : List ℕ) (past : List Event) (x : Read) : Type 0 where
    pub chip_is : (turned o (celled n (chip u past)) r x).chip ≡ celled (cells_next o r x past n) (chip u (heard_next u r x past))
    pub fresh_is : (turned o (celled n (chip u past)) r x).fresh ≡ fresh_next o r x past
    pub entry_is : (turned o (celled n (chip u past)) r x).entry ≡ entry_of (answer_to o r x past)
    pub untouched : Untouched (fresh_next o r x past) (heard_next u r x past)

  module _ (p : u.part ≢ 0) where
    pub goes_on : (n : ℕ) (past : List Event) → eqb (celled n (chip u past)).setup.part 0 ≡ false
    goes_on n past = ap (λ (v : SetupValues). eqb v.part 0) (setup_is u past) ∙ ne_eqb u.part 0 p

    -- by what the record does: it leaves m cells, and otherwise the chip of the events heard after it
    took_by : (o : Bool) (n m : ℕ) (r : List ℕ) (past after : List Event) (e : Coded) (next : ℕ) (s : Stepped)
        → acted o e (counts_beside r (Record e next)) (celled n (chip u past)) ≡ celled_in m s → celled m s.chip ≡ celled m (chip u after)
        → answer_to o r (Record e next) past ≡ s → cells_next o r (Record e next) past n ≡ m → heard_next u r (Record e next) past ≡ after
        → (o ≡ true → (s.number ≡ 0 → ⊥) → chip u after ≡ in_ship u) → Took o n r past (Record e next)
    took_by o n m r past after e next s is left said cells heard still =
        record {
          chip_is =
              ap (λ (t : Stepped). t.chip) is ∙ left ∙ ap (λ (m : ℕ). celled m (chip u after)) (sym cells)
              ∙ ap (λ (l : List Event). celled (cells_next o r (Record e next) past n) (chip u l)) (sym heard);
          fresh_is =
              ap (λ (t : Stepped). stays_fresh o (celled n (chip u past)) t) is
              ∙ ap (λ (b : Bool). b || (o && not (eqb s.number 0))) (goes_on n past)
              ∙ ap (λ (t : Stepped). o && not (eqb t.number 0)) (sym said);
          entry_is = ap entry_of is ∙ ap entry_of (sym said);
          untouched = λ h.
              let w = both_true o (eqb s.number 0) (ap (λ (t : Stepped). o && not (eqb t.number 0)) (sym said) ∙ h) in
              ap (chip u) heard ∙ still w.0 (λ z. true≢false (sym (eq-eqb s.number 0 z) ∙ w.1));
        }

    took_wires : (o : Bool) (n : ℕ) (r : List ℕ) (past : List Event) → Untouched o past → (m next : ℕ)
        → Took o n r past (Record (Wires m) next)
    unfolding acted wired_with meant_of
    took_wires o n r past h m next =
        let t : Bool = has_row (chip u past).setup.part m in
        let w = wired_as_lem o t n m u (chip u past) h in
        took_by o n (wired_by o t m (celled n (chip u past))).chip.setup.cells r past past (Wires m) next (wired_by o t m (chip u past))
        w.0 w.1 refl refl (unheard (counts_fit 0 (counts_beside r (Record (Wires m) next)))) (λ e z. h e)
      where
        unheard : (t : Bool) → with_meant u (cond t unfit unfit) past ≡ past
        unheard true = refl
        unheard false = refl

    took_other : (o : Bool) (n : ℕ) (r : List ℕ) (past : List Event) → Untouched o past → (e : Coded) (next : ℕ) → is_wires e ≡ false
        → read_of u.part r ≡ Record e next → Took o n r past (Record e next)
    unfolding chip
    took_other o n r past h e next w q =
        let k : Counts = counts_beside r (Record e next) in
        let m : Meaning u e k = later_means u r e next p q w in
        let same : meant_of (with_cells n (chip u past).setup) e k ≡ meant_of u e k =
        ap (λ (v : SetupValues). meant_of (with_cells n v) e k) (setup_is u past) ∙ meant_cells n u e k in
        took_by o n n r past (with_meant u (meant_of u e k) past) e next (stepped_as (meant_of u e k) (chip u past))
        (acted_is o e k (celled n (chip u past)) (subst (λ (x : Meant). in_range x ≡ true) (sym same) m)
        ∙ ap (λ (x : Meant). stepped_as x (celled n (chip u past))) same ∙ as_cells n (meant_of u e k) (chip u past))
        (ap (celled n) (heard_as u (meant_of u e k) past))
        (ap (λ (b : Bool). cond b (acted o e k (chip u past)) (stepped_as (meant_of u e k) (chip u past))) w)
        (ap (λ (b : Bool). cond b (acted o e k (celled n (chip u past))).chip.setup.cells n) w)
        refl
        (λ o z. sym (heard_as u (meant_of u e k) past) ∙ refused_as (meant_of u e k) (chip u past) z ∙ h o)

    pub took : (o : Bool) (n : ℕ) (r : List ℕ) (past : List Event) → Untouched o past → (x : Read) → read_of u.part r ≡ x
        → Took o n r past x
    took o n r past h (Record e next) q =
        wires_by (λ (e : Coded). read_of u.part r ≡ Record e next → Took o n r past (Record e next))
        (λ m q. took_wires o n r past h m next) (λ e w q. took_other o n r past h e next w q) e q
    took o n r past h (Refused k next) q = record { chip_is = refl; fresh_is = refl; entry_is = refl; untouched = h }
    took o n r past h Cut q = record { chip_is = refl; fresh_is = refl; entry_is = refl; untouched = h }

    pub turn_is : (o : Bool) (n : ℕ) (r : List ℕ) (past : List Event)
        → turn_of o (celled n (chip u past)) r ≡ turned o (celled n (chip u past)) r (read_of u.part r)
    unfolding turn_of
    turn_is o n r past = ap (λ (v : SetupValues). turned o (celled n (chip u past)) r (read_of v.part r)) (setup_is u past)

    none_heard : (f : ℕ) (past : List Event) → heard_by u f [] past ≡ past
    none_heard zero past = refl
    none_heard (suc f) past = refl

    none_after : (f : ℕ) (past : List Event) → histories_by f [] past ≡ []
    none_after zero past = refl
    none_after (suc f) past = refl

    none_wired : (f : ℕ) (o : Bool) (n : ℕ) (past : List Event) → cells_by f o n [] past ≡ n
    none_wired zero o n past = refl
    none_wired (suc f) o n past = refl

    -- ── the chip at the end ──
    abbrev StandsAre : ℕ → Type 0
    StandsAre f = (o : Bool) (n : ℕ) (r : List ℕ) (past : List Event) → Untouched o past
        → stands f o (celled n (chip u past)) r ≡ celled (cells_by f o n r past) (chip u (heard_by u f r past))

    stands-turned : (f : ℕ) → StandsAre f → (o : Bool) (n : ℕ) (r : List ℕ) (past : List Event) (x : Read) → Took o n r past x
        → cond (turned o (celled n (chip u past)) r x).last (turned o (celled n (chip u past)) r x).chip
        (stands f (turned o (celled n (chip u past)) r x).fresh (turned o (celled n (chip u past)) r x).chip
        (drop (turned o (celled n (chip u past)) r x).next r))
        ≡ celled (cells_by f (fresh_next o r x past) (cells_next o r x past n) (rest_after r x) (heard_next u r x past))
        (chip u (heard_by u f (rest_after r x) (heard_next u r x past)))
    stands-turned f ih o n r past (Record e next) t =
        ap₂ (λ (b : Bool) (c : Chip). stands f b c (drop next r)) t.fresh_is t.chip_is
        ∙ ih (fresh_next o r (Record e next) past) (cells_next o r (Record e next) past n)
        (drop next r) (heard_next u r (Record e next) past)
        t.untouched
    stands-turned f ih o n r past (Refused k next) t = simp (goes_on n past) (ih o n (drop next r) past t.untouched)
    stands-turned f ih o n r past Cut t = sym (ap₂ celled (none_wired f o n past) (ap (chip u) (none_heard f past)))

    pub stands_are : (f : ℕ) → StandsAre f
    stands_are zero o n r past h = refl
    stands_are (suc f) o n [] past h = refl
    stands_are (suc f) o n (b ∷ r) past h =
        ap (λ (t : Turn). cond t.last t.chip (stands f t.fresh t.chip (drop t.next (b ∷ r)))) (turn_is o n (b ∷ r) past)
        ∙ stands-turned f (λ o n r past h. stands_are f o n r past h) o n (b ∷ r) past (read_of u.part (b ∷ r))
        (took o n (b ∷ r) past h (read_of u.part (b ∷ r)) refl)

-- ── what an entry shows, and what a chip has to show: SYS_STAT and pins ──
abbrev pub shows : Entry → ℕ × ℕ
shows e = (e.stat, e.pins)

abbrev pub to_show : Chip → ℕ × ℕ
to_show c = (status_byte c.registers.shown.status, pins_of c)

module _ (u : SetupValues) (p : u.part ≢ 0) where
  abbrev said : List Event → ℕ × ℕ
  said past = to_show (chip u past)

  abbrev RunsShow : ℕ → Type 0
  RunsShow f = (o : Bool) (n : ℕ) (r : List ℕ) (past : List Event) → Untouched u o past
      → map shows (runs f o (celled n (chip u past)) r) ≡ map said (histories_by u f r past)

  runs-turned : (f : ℕ) → RunsShow f → (o : Bool) (n : ℕ) (r : List ℕ) (past : List Event) (x : Read) → Took u o n r past x
      → map shows
      ((turned o (celled n (chip u past)) r x).entry ∷ cond (turned o (celled n (chip u past)) r x).last []
      (runs f (turned o (celled n (chip u past)) r x).fresh (turned o (celled n (chip u past)) r x).chip
      (drop (turned o (celled n (chip u past)) r x).next r)))
      ≡ said (heard_next u r x past) ∷ map said (histories_by u f (rest_after r x) (heard_next u r x past))
  runs-turned f ih o n r past (Record e next) t =
      ap₂ (λ (b : Bool) (c : Chip). to_show c ∷ map shows (runs f b c (drop next r))) t.fresh_is t.chip_is
      ∙ ap (λ (l : List (ℕ × ℕ)). said (heard_next u r (Record e next) past) ∷ l)
      (ih (fresh_next u o r (Record e next) past) (cells_next u o r (Record e next) past n) (drop next r)
      (heard_next u r (Record e next) past) t.untouched)
  runs-turned f ih o n r past (Refused k next) t =
      simp (goes_on u p n past) (ap (λ (l : List (ℕ × ℕ)). said past ∷ l) (ih o n (drop next r) past t.untouched))
  runs-turned f ih o n r past Cut t = sym (ap (λ (l : List (List Event)). said past ∷ map said l) (none_after u p f past))

  pub runs_show : (f : ℕ) → RunsShow f
  runs_show zero o n r past h = refl
  runs_show (suc f) o n [] past h = refl
  runs_show (suc f) o n (b ∷ r) past h =
      ap (λ (t : Turn). map shows (t.entry ∷ cond t.last [] (runs f t.fresh t.chip (drop t.next (b ∷ r)))))
      (turn_is u p o n (b ∷ r) past)
      ∙ runs-turned f (λ o n r past h. runs_show f o n r past h) o n (b ∷ r) past (read_of u.part (b ∷ r))
      (took u p o n (b ∷ r) past h (read_of u.part (b ∷ r)) refl)

-- ── a stream whose first record is a SETUP, read with success as u, up to the place next ──
-- the number of cells of its wiring record, 0 where it has none
abbrev pub cells_in : SetupValues → ℕ → List ℕ → ℕ
cells_in u next s = cells_by u (length s - 1) true u.cells (drop next s) []

-- after SETUP none were heard, then those after each record
abbrev pub histories : SetupValues → ℕ → List ℕ → List (List Event)
histories u next s = [] ∷ histories_by u (length s - 1) (drop next s) []

module _ (s : List ℕ) (u : SetupValues) (next : ℕ) (first : read_of 0 s ≡ Record (Setup u) next) where
  pub a_part : u.part ≢ 0
  a_part z = omega (arith, (good_part u (first_setup s (Setup u) next first)).0, z)

  -- THE CHIP at its end is the one that these events leave, with the cells that it was wired with
  pub last_chip_lem : last_chip s ≡ chip (with_cells (cells_in u next s) u) (heard u next s)
  unfolding chip
  last_chip_lem =
      first_stands s u next first ∙ stands_are u a_part (length s - 1) true u.cells (drop next s) [] (λ e. refl)
      ∙ sym (same_but_cells (cells_in u next s) u (heard u next s))

  -- THE ENTRIES: each shows the SYS_STAT and the pins of the events heard so far
  pub entries_show : map shows (entries s) ≡ map (λ past. to_show (chip u past)) (histories u next s)
  unfolding chip
  entries_show =
      ap (map shows) (first_entries s u next first)
      ∙ ap (λ (l : List (ℕ × ℕ)). to_show (in_ship u) ∷ l) (runs_show u a_part (length s - 1) true u.cells (drop next s) [] (λ e. refl))
