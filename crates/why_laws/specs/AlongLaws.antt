-- CHIP P17: the walk of why_walk over a stream whose first record is a SETUP is that of demand 3: before each record stands the chip of the
-- events heard so far, but for its number of cells, and the streak of their verdicts. Assumes nothing.
use Rattle.std.specs.Prelude.{◌≡◌, Bool, ◌&&◌, ◌≢◌, leb, get_or, ℤ}
use Rattle.std.proofs.Math.Path.{refl, sym, ap, subst}
use Rattle.std.proofs.Common.{◌∙◌, true≢false, arith, zero-add, drop-drop, leb-true}
use Rattle.std.proofs.Math.Bool.{true, false, cond}
use mathlib.Core.List.{List, [], ◌∷◌, map}
use Prim.Native.Nat.{ℕ, zero, suc, ◌+◌, ◌-◌, ◌<◌, ◌≤◌}
use Rattle.std.proofs.Math.ListN.{length, drop}
use Rattle.std.proofs.Math.Seq.{drop-length}
use Rattle.events.specs.declared.Setup.{Setup as SetupValues}
use Rattle.events.specs.declared.Counts.{Counts}
use Rattle.events.specs.declared.Event.{Event as Coded}
use Rattle.events.specs.declared.Event.TheVariants.{Setup, Por, Boot, Scan, Temp, Count, Sense, Pin, Load, Xready, OnBus, Level, Ticks}
use Rattle.events.specs.declared.Event.TheVariants.{Soak, Wires}
use Rattle.events.specs.Event.{Event, Meant, unfit, ticks_fit, sense_fits, counts_fit, event_of, meant_of, in_range}
use Rattle.events.specs.declared.Fault.{Fault}
use Rattle.events.specs.declared.Fault.TheVariants.{Ov, Uv, Scd, Ocd}
use Rattle.records.specs.declared.Read.{Read}
use Rattle.records.specs.declared.Read.TheVariants.{Record, Refused, Cut}
use Rattle.records.specs.Record.{read_of, counts_beside}
use Rattle.bits.specs.BoolLaws.{and_left, and_right}
use Rattle.records.specs.SoundLaws.{Meaning, wires_by, later_means}
use Rattle.protection.specs.Streak.{streak}
use Rattle.chip.specs.declared.Chip.{Chip}
use Rattle.chip.specs.Core.{bare}
use Rattle.turn.specs.Turn.{Turn, none, acted, turned, turn_of}
use Rattle.turn.specs.Entries.{entries}
use Rattle.demands.specs.Demand.{chip, core, verdicts}
use Rattle.demands.proofs.History.{setup_is, core_is, awake_is, asleep_none}
use Rattle.demands.specs.Aside.{with_meant}
use Rattle.demands.specs.Wired.{celled}
use Rattle.demands.proofs.BytesLaws.{place, heard_to}
use Rattle.demands.specs.Streams.{rest_after, heard_next}
use Rattle.demands.proofs.Streams.{cells_next, histories_by, histories, Untouched, Took}
use Rattle.demands.proofs.Streams.{took, turn_is, goes_on, a_part, shows, to_show, entries_show}
use Rattle.plain_due.specs.Streaks.{streak_of, streaks_of}
use Rattle.plain_back.specs.declared.Walk.{Walk}
use Rattle.plain_back.specs.Walk.{walked_by, Tracks, tracks_walked}
use Rattle.why_scan.specs.declared.Says.{Says}
use Rattle.why_scan.specs.Scan.{says_none}
use Rattle.why_walk.specs.Says.{says_read, says_in, event_says, streak_after}
use Rattle.why_walk.specs.Standing.{advanced, standing_at}
use Rattle.why_laws.specs.StreakLaws.{repeats, says_bare, adds}

-- ── a record that was read repeats one tick at least ──
meant_in : (t : Bool) (m : Meant) → in_range (cond t m unfit) ≡ true → in_range m ≡ true
meant_in true m h = h
meant_in false m h = absurd (true≢false (sym h))

ticks_some : (most n : ℕ) (v : ℤ) → ticks_fit most v n ≡ true → 1 ≤ n
unfolding ticks_fit
ticks_some most n v h =
    leb-true 1 n (and_right (sense_fits v) (leb 1 n) (and_left (sense_fits v && leb 1 n) (leb n most) h))

some_ticks : (u : SetupValues) (e : Coded) (q : Counts) → Meaning u e q → 1 ≤ repeats e
unfolding meant_of
some_ticks u (Setup v) q m = omega arith
some_ticks u Por q m = omega arith
some_ticks u Boot q m = omega arith
some_ticks u Scan q m = omega arith
some_ticks u Temp q m = omega arith
some_ticks u (Count n) q m = omega arith
some_ticks u (Sense v) q m = omega arith
some_ticks u Pin q m = omega arith
some_ticks u (Load l) q m = omega arith
some_ticks u Xready q m = omega arith
some_ticks u (OnBus b) q m = omega arith
some_ticks u (Level l) q m = omega arith
some_ticks u (Ticks v n) q m = ticks_some _ n v (meant_in (counts_fit 0 q) (event_of u (Ticks v n) q.of) m)
some_ticks u (Soak v n) q m = ticks_some _ n v (meant_in (counts_fit 0 q) (event_of u (Soak v n) q.of) m)
some_ticks u (Wires n) q m = omega arith

streak_of_lem : (k : Fault) (f : Fault → ℕ) → streak_of k (streaks_of f) ≡ f k
streak_of_lem Ov f = refl
streak_of_lem Uv f = refl
streak_of_lem Scd f = refl
streak_of_lem Ocd f = refl

module _ (u : SetupValues) (k : Fault) where
  abbrev newest : List Event → ℕ
  newest past = streak (verdicts u k past)

  none_asleep : (j : Fault) (past : List Event) → (core u past).normal ≡ false → streak (verdicts u j past) ≡ 0
  none_asleep j past z = ap streak (asleep_none u j past z)

  -- ── a record that says nothing, and leaves the chip ──
  unsaid : (past : List Event) → streak_after says_none (chip u past).normal (newest past) ≡ newest past
  unfolding streak_after
  unsaid past = by (chip u past).normal (λ z. none_asleep k past (sym (awake_is u past) ∙ z))
    where
      by : (a : Bool) → (a ≡ false → newest past ≡ 0) → cond a (newest past) 0 ≡ newest past
      by true z = refl
      by false z = sym (z refl)

  -- ── one that was read ──
  abbrev SaysOn : ℕ → List Event → Coded → Counts → List Event → Type 0
  SaysOn n past e q after =
      streak_after (event_says (place k) (celled n (chip u past)) e q) (chip u after).normal (newest past) ≡ newest after

  other_on : (n : ℕ) (past : List Event) (e : Coded) (q : Counts) → Meaning u e q → SaysOn n past e q (with_meant u (meant_of u e q) past)
  other_on n past e q m =
      let after : List Event = with_meant u (meant_of u e q) past in
      let w : Walk = record { chip = bare u (core u past); said = streaks_of (λ j. streak (verdicts u j past)) } in
      let t : Tracks u (walked_by e q w) after = tracks_walked u past w (record { chip = refl; said = refl }) e q m in
      let says : event_says (place k) (celled n (chip u past)) e q ≡ event_says (place k) (bare u (core u past)) e q =
      says_bare (place k) n (chip u past) e q ∙ (λ i. event_says (place k) (bare (setup_is u past i) (core_is u past i)) e q) in
      let mode : (chip u after).normal ≡ (walked_by e q w).chip.normal = awake_is u after ∙ sym (ap (λ (c : Chip). c.normal) t.chip) in
      ap (λ (x : Says). streak_after x (chip u after).normal (newest past)) says
      ∙ ap (λ (x : Bool). streak_after (event_says (place k) (bare u (core u past)) e q) x (newest past)) mode
      ∙ ap (λ (x : ℕ). streak_after (event_says (place k) (bare u (core u past)) e q) (walked_by e q w).chip.normal x)
      (sym (streak_of_lem k (λ j. streak (verdicts u j past))))
      ∙ adds (bare u (core u past)) w.said
      (λ j z. streak_of_lem j (λ j. streak (verdicts u j past)) ∙ none_asleep j past z) k e q (some_ticks u e q m)
      ∙ ap (streak_of k) t.said ∙ streak_of_lem k (λ j. streak (verdicts u j after))

  wires_on : (n : ℕ) (past : List Event) (m : ℕ) (q : Counts) → SaysOn n past (Wires m) q (with_meant u (meant_of u (Wires m) q) past)
  unfolding event_says meant_of
  wires_on n past m q = by (counts_fit 0 q)
    where
      by : (t : Bool)
          → streak_after says_none (chip u (with_meant u (cond t unfit unfit) past)).normal (newest past)
          ≡ newest (with_meant u (cond t unfit unfit) past)
      by true = unsaid past
      by false = unsaid past

  module _ (p : u.part ≢ 0) where
    -- ONE RECORD of the rest r, whatever was read there
    says_on : (n : ℕ) (r : List ℕ) (past : List Event) (x : Read) → read_of u.part r ≡ x
        → streak_after (says_read (place k) (celled n (chip u past)) r x) (chip u (heard_next u r x past)).normal (newest past)
        ≡ newest (heard_next u r x past)
    says_on n r past (Record e next) h =
        wires_by (λ (e : Coded). read_of u.part r ≡ Record e next
        → SaysOn n past e (counts_beside r (Record e next)) (heard_next u r (Record e next) past))
        (λ m h. wires_on n past m (counts_beside r (Record (Wires m) next)))
        (λ e w h. other_on n past e (counts_beside r (Record e next)) (later_means u r e next p h w)) e h
    says_on n r past (Refused j next) h = unsaid past
    says_on n r past Cut h = unsaid past

    pub says_in_lem : (n : ℕ) (r : List ℕ) (past : List Event)
        → says_in (place k) (celled n (chip u past)) r ≡ says_read (place k) (celled n (chip u past)) r (read_of u.part r)
    unfolding says_in
    says_in_lem n r past = ap (λ (v : SetupValues). says_read (place k) (celled n (chip u past)) r (read_of v.part r)) (setup_is u past)

-- ── the events heard after each record, as a list ──
map-length : {A B : Type 0} (f : A → B) (l : List A) → length (map f l) ≡ length l
map-length f [] = refl
map-length f (x ∷ l) = ap suc (map-length f l)

drop_tail : {A : Type 0} (n : ℕ) (l : List A) (y : A) (ys : List A) → drop n l ≡ y ∷ ys → drop (suc n) l ≡ ys
drop_tail zero [] y ys h = absurd (omega (arith, ap length h))
drop_tail zero (x ∷ l) y ys h = tail_is x y l ys h
  where
    tail_is : {A : Type 0} (x y : A) (xs ys : List A) → ◌≡◌ {A = List A} (x ∷ xs) (y ∷ ys) → xs ≡ ys
    tail_is x y xs ys h = cc
drop_tail (suc n) [] y ys h = absurd (omega (arith, ap length h))
drop_tail (suc n) (x ∷ l) y ys h = drop_tail n l y ys h

drop_head : {A : Type 0} (n : ℕ) (l : List A) (y d : A) (ys : List A) → drop n l ≡ y ∷ ys → get_or l n d ≡ y
drop_head zero [] y d ys h = absurd (omega (arith, ap length h))
drop_head zero (x ∷ l) y d ys h = head_is x y l ys h
  where
    head_is : {A : Type 0} (x y : A) (xs ys : List A) → ◌≡◌ {A = List A} (x ∷ xs) (y ∷ ys) → x ≡ y
    head_is x y xs ys h = cc
drop_head (suc n) [] y d ys h = absurd (omega (arith, ap length h))
drop_head (suc n) (x ∷ l) y d ys h = drop_head n l y d ys h

drop_none : {A : Type 0} (n : ℕ) (l : List A) → n < length l → drop n l ≢ []
drop_none n [] h q = omega (arith, h)
drop_none zero (x ∷ l) h q = omega (arith, ap length q)
drop_none (suc n) (x ∷ l) h q = drop_none n l (omega (arith, h)) q

-- some are left to be heard: the next of them, and the rest
record More (u : SetupValues) (f : ℕ) (r : List ℕ) (past : List Event) : Type 0 where
  fuel : ℕ
  is : histories_by u f r past
      ≡ heard_next u r (read_of u.part r) past
      ∷ histories_by u fuel (rest_after r (read_of u.part r)) (heard_next u r (read_of u.part r) past)

more : (u : SetupValues) (f : ℕ) (r : List ℕ) (past : List Event) → histories_by u f r past ≢ [] → More u f r past
more u zero r past h = absurd (h refl)
more u (suc f) [] past h = absurd (h refl)
more u (suc f) (b ∷ r) past h = record { fuel = f; is = refl }

module _ (s : List ℕ) (u : SetupValues) (next : ℕ) (first : read_of 0 s ≡ Record (Setup u) next) (k : Fault) where
  abbrev b : ℕ
  b = place k

  abbrev p : u.part ≢ 0
  p = a_part s u next first

  -- BEFORE RECORD n + 1, and the events that the records so far mean
  pub record Along (n : ℕ) (past : List Event) : Type 0 where
    pub cells : ℕ
    pub chip_is : (standing_at s b (suc n)).chip ≡ celled cells (chip u past)
    pub still : Untouched u (standing_at s b (suc n)).fresh past
    pub streak_is : (standing_at s b (suc n)).streak ≡ streak (verdicts u k past)
    pub fuel : ℕ
    pub left : drop n (histories u next s) ≡ past ∷ histories_by u fuel (drop (standing_at s b (suc n)).at s) past

  -- after SETUP
  begins : turn_of false none s ≡ turned false none s (Record (Setup u) next)
  unfolding turn_of
  begins = ap (turned false none s) first

  along_first : Along 0 []
  unfolding advanced chip acted streak_after verdicts
  along_first =
      record {
        cells = u.cells;
        chip_is = ap (λ (t : Turn). t.chip) begins;
        still = λ e. refl;
        streak_is = ap (λ (t : Turn). streak_after (says_in b none s) t.chip.normal 0) begins;
        fuel = length s - 1;
        left = ap (λ (r : List ℕ). [] ∷ histories_by u (length s - 1) r [])
            (ap (λ (m : ℕ). drop m s) (sym (zero-add next))
            ∙ sym (ap (λ (t : Turn). drop (cond t.last (length s) (0 + t.next)) s) begins));
      }

  heard_length : length (histories u next s) ≡ length (entries s)
  heard_length =
      sym (map-length (λ past. to_show (chip u past)) (histories u next s)) ∙ sym (ap length (entries_show s u next first))
      ∙ map-length shows (entries s)

  -- ── one record more ──
  module _ (n : ℕ) (past : List Event) (g : Along n past) where
    abbrev r : List ℕ
    r = drop (standing_at s b (suc n)).at s

    abbrev o : Bool
    o = (standing_at s b (suc n)).fresh

    abbrev c : Chip
    c = celled g.cells (chip u past)

    abbrev x : Read
    x = read_of u.part r

    abbrev after : List Event
    after = heard_next u r x past

    turn_of_lem : turn_of o (standing_at s b (suc n)).chip r ≡ turned o c r x
    turn_of_lem = ap (λ (d : Chip). turn_of o d r) g.chip_is ∙ turn_is u p o g.cells r past

    took_it : Took u o g.cells r past x
    took_it = took u p o g.cells r past g.still x refl

    rest_is : (x : Read) → rest_after r x
        ≡ drop (cond (turned o c r x).last (length s) ((standing_at s b (suc n)).at + (turned o c r x).next)) s
    rest_is (Record e m) = drop-drop m (standing_at s b (suc n)).at s
    rest_is (Refused j m) =
        drop-drop m (standing_at s b (suc n)).at s
        ∙ sym (ap (λ (t : Bool). drop (cond t (length s) ((standing_at s b (suc n)).at + m)) s) (goes_on u p g.cells past))
    rest_is Cut = sym (drop-length s)

    along_next : suc n < length (entries s) → Along (suc n) after
    unfolding advanced
    along_next h =
        let more_is : More u g.fuel r past =
        more u g.fuel r past (λ q. drop_none (suc n) (histories u next s) (subst (λ (m : ℕ). suc n < m) (sym heard_length) h)
        (drop_tail n (histories u next s) past (histories_by u g.fuel r past) g.left ∙ q)) in
        record {
          cells = cells_next u o r x past g.cells;
          chip_is = ap (λ (t : Turn). t.chip) turn_of_lem ∙ took_it.chip_is;
          still =
              subst (λ (f : Bool). Untouched u f after) (sym (ap (λ (t : Turn). t.fresh) turn_of_lem ∙ took_it.fresh_is))
              took_it.untouched;
          streak_is =
              ap (λ (d : Chip). streak_after (says_in b d r) (turn_of o (standing_at s b (suc n)).chip r).chip.normal
              (standing_at s b (suc n)).streak)
              g.chip_is
              ∙ ap (λ (d : Chip). streak_after (says_in b c r) d.normal (standing_at s b (suc n)).streak)
              (ap (λ (t : Turn). t.chip) turn_of_lem ∙ took_it.chip_is)
              ∙ ap (λ (m : ℕ). streak_after (says_in b c r) (chip u after).normal m) g.streak_is
              ∙ ap (λ (w : Says). streak_after w (chip u after).normal (streak (verdicts u k past))) (says_in_lem u k p g.cells r past)
              ∙ says_on u k p g.cells r past x refl;
          fuel = more_is.fuel;
          left =
              drop_tail n (histories u next s) past (histories_by u g.fuel r past) g.left ∙ more_is.is
              ∙ ap (λ (q : List ℕ). after ∷ histories_by u more_is.fuel q after)
              (rest_is x ∙ sym (ap (λ (t : Turn). drop (cond t.last (length s) ((standing_at s b (suc n)).at + t.next)) s) turn_of_lem));
        }

  record Some (n : ℕ) : Type 0 where
    past : List Event
    is : Along n past

  some_along : (n : ℕ) → n < length (entries s) → Some n
  some_along zero h = record { past = []; is = along_first }
  some_along (suc n) h =
      let g = some_along n (omega (arith, h)) in record { past = after n g.past g.is; is = along_next n g.past g.is h }

  -- EVERY RECORD: after record n the chip and the streak are those of the events heard up to it
  pub along : (n : ℕ) → n < length (entries s) → Along n (heard_to s u next first n)
  along n h =
      let g = some_along n h in
      subst (Along n) (sym (drop_head n (histories u next s) g.past [] (histories_by u g.is.fuel (drop (standing_at s b (suc n)).at s)
      g.past) g.is.left)) g.is

  -- and the next record adds what it means
  pub heard_next_lem : (n : ℕ) → suc n < length (entries s) → (g : Along n (heard_to s u next first n))
      → heard_to s u next first (suc n) ≡ after n (heard_to s u next first n) g
  heard_next_lem n h g =
      let t = along_next n (heard_to s u next first n) g h in
      drop_head (suc n) (histories u next s) (after n (heard_to s u next first n) g) []
      (histories_by u t.fuel (drop (standing_at s b (suc (suc n))).at s) (after n (heard_to s u next first n) g)) t.left
