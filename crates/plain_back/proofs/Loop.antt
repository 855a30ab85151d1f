-- The walk over the records: what stands at the loop's head, each record passed, and the end. Assumes nothing.
use mathlib.Core.Path.{◌≡◌, refl, sym, ap, subst, ◌∙◌}
use mathlib.Core.Bool.{Bool, true, false, ◌&&◌, cond, true≢false}
use mathlib.Core.Logic.{⊎_elim}
use mathlib.Core.List.{List, [], ◌∷◌}
use Prim.Native.Nat.{ℕ, zero, suc, ◌+◌, ◌-◌, ◌*◌, ◌≤◌, ◌<◌, ◌^◌}
use native.Mathlib.Omega.{arith}
use native.Mathlib.Nat.{not-suc-le-zero}
use lib.IntN.{ℤ}
use lib.Dec.{leb}
use Rattle.std.specs.Prelude.{Option, Some, None}
use lib.ListN.{length, take, drop, length-drop, drop_of_length-le}
use lib.Seq.{drop-drop}
use borrow.Author.Tests.{leb-true}
use types.Run.{OneOf}
use denote.Enum.Declared.{tag_of}
use Rattle.events.specs.declared.Setup.{Setup as SetupValues}
use Rattle.events.specs.declared.Counts.{Counts}
use Rattle.events.specs.declared.Event.{Event as Coded}
use Rattle.events.specs.declared.Event.TheVariants.{Setup, Por, Boot, Scan, Temp, Count, Sense, Pin, Load, Xready, OnBus, Level, Ticks}
use Rattle.events.specs.declared.Event.TheVariants.{Soak, Wires}
use Rattle.events.specs.Event.{Event, sense_fits, ticks_fit, unfit, event_of, meant_of, counts_fit, counts_wanted, in_range}
use Rattle.events.specs.contracts.Event.{the_type as event_type}
use Rattle.records.specs.contracts.Read.{the_type as read_type}
use Rattle.records.specs.declared.Read.{Read}
use Rattle.records.specs.declared.Read.TheVariants.{Record, Refused, Cut}
use Rattle.records.specs.Record.{read_of, counts_beside}
use Rattle.records.specs.ReadingLaws.{Placed, placed}
use Rattle.bits.specs.BoolLaws.{and_right}
use Rattle.records.specs.SoundLaws.{first_setup, IsSetup, Meaning, is_wires, wires_by, later_means}
use Rattle.chip.specs.declared.Chip.{Chip}
use Rattle.chip.specs.Chip.{in_ship, stepped_by}
use Rattle.events.specs.declared.Fault.TheVariants.{Ov, Uv, Scd, Ocd}
use Rattle.protection.specs.Streak.{streak}
use Rattle.limits.specs.Rule.{rule, over, under, beyond}
use Rattle.turn.proofs.Runs.{rest_is}
use Rattle.demands.specs.Demand.{verdicts}
use Rattle.demands.specs.Aside.{with_meant}
use Rattle.demands.specs.Streams.{rest_after, heard_next, heard_by, heard}
use Rattle.demands.proofs.Streams.{a_part}
use Rattle.plain_due.specs.Streaks.{Streaks}
use Rattle.plain_back.specs.declared.Walk.{Walk}
use Rattle.plain_back.specs.declared.Passed.{Passed}
use Rattle.plain_due.specs.Streaks.{streaks_of, no_streaks}
use Rattle.plain_back.specs.Said.{verdicts_after, verdicts_in, streaks_in}
use Rattle.plain_back.specs.Moved.{moved_by}
use Rattle.plain_back.specs.Walk.{Small, goes_on, scan_in, ticks_in, scan_said, ticks_said, walked_by, passed, passed_on, Tracks, tracks_none}
use Rattle.plain_back.specs.Walk.{tracks_walked}

-- ── no streak outgrows the bytes: a record has four at least, and 16,777,216 ticks at most ──
abbrev Below : ℕ → Streaks → Type 0
Below m w = (w.ov ≤ m) × (w.uv ≤ m) × (w.scd ≤ m) × (w.ocd ≤ m)

abbrev more : ℕ
more = 16777216

below_more : (m n : ℕ) (w : Streaks) → m ≤ n → Below m w → Below n w
below_more m n w l h = (omega (arith, h.0), omega (arith, h.1), omega (arith, h.2), omega (arith, h.3))

goes_below : (b : Bool) (n m x : ℕ) → n ≤ more → x ≤ m → goes_on b n x ≤ m + more
goes_below true n m x l h = omega arith
goes_below false n m x l h = omega arith

scan_below : (c : Chip) (xs : List ℕ) (m : ℕ) (w : Streaks) → Below m w → Below (m + more) (scan_said c xs w)
unfolding scan_said
scan_below c xs m w h = by c.normal
  where
    by : (a : Bool) → Below (m + more) (cond a (scan_in c xs w) w)
    by true = (goes_below (over (rule Ov c.registers.settings) xs) 1 m w.ov (omega arith) h.0, goes_below (under c.setup.floor (rule Uv c.registers.settings) xs) 1 m w.uv (omega arith) h.1, omega (arith, h.2), omega (arith, h.3))
    by false = below_more m (m + more) w (omega arith) h

ticks_below : (c : Chip) (v : ℤ) (n m : ℕ) (w : Streaks) → n ≤ more → Below m w → Below (m + more) (ticks_said c v n w)
unfolding ticks_said
ticks_below c v n m w l h = by c.normal
  where
    by : (a : Bool) → Below (m + more) (cond a (ticks_in c v n w) w)
    by true = (omega (arith, h.0), omega (arith, h.1), goes_below (beyond (rule Scd c.registers.settings) v) n m w.scd l h.2, goes_below (beyond (rule Ocd c.registers.settings) v) n m w.ocd l h.3)
    by false = below_more m (m + more) w (omega arith) h

moved_below : (e : Coded) (k : Counts) (m : ℕ) (w : Walk) → Below m w.said → Below (m + more) (moved_by e k w).said
unfolding moved_by
moved_below e k m w h = by (stepped_by e k w.chip).chip.normal
  where
    by : (a : Bool) → Below (m + more) (cond a w.said no_streaks)
    by true = below_more m (m + more) w.said (omega arith) h
    by false = (omega arith, omega arith, omega arith, omega arith)

fit_most : (most : ℕ) (v : ℤ) (n : ℕ) → ticks_fit most v n ≡ true → n ≤ most
unfolding ticks_fit
fit_most most v n f = leb-true n most (and_right (sense_fits v && leb 1 n) (leb n most) f)

meant_range : (u : SetupValues) (e : Coded) (k : Counts) → Meaning u e k → counts_fit (counts_wanted u e) k ≡ true
unfolding meant_of
meant_range u e k m = by (counts_fit (counts_wanted u e) k) m
  where
    by : (t : Bool) → in_range (cond t (event_of u e k.of) unfit) ≡ true → t ≡ true
    by true h = refl
    by false h = absurd (true≢false (sym h))

ticks_meant : (u : SetupValues) (v : ℤ) (n : ℕ) (k : Counts) → Meaning u (Ticks v n) k → n ≤ more
unfolding meant_of
ticks_meant u v n k m =
    let f : ticks_fit 4096 v n ≡ true = simp (meant_range u (Ticks v n) k m) at m in
    omega (arith, fit_most 4096 v n f)

soak_meant : (u : SetupValues) (v : ℤ) (n : ℕ) (k : Counts) → Meaning u (Soak v n) k → n ≤ more
unfolding meant_of
soak_meant u v n k m =
    let f : ticks_fit 16777216 v n ≡ true = simp (meant_range u (Soak v n) k m) at m in
    fit_most 16777216 v n f

walked_below : (u : SetupValues) (e : Coded) (k : Counts) (m : ℕ) (w : Walk) → Meaning u e k → Below m w.said → Below (m + more) (walked_by e k w).said
unfolding walked_by
walked_below u (Setup v) k m w z h = below_more m (m + more) w.said (omega arith) h
walked_below u Por k m w z h = moved_below Por k m w h
walked_below u Boot k m w z h = moved_below Boot k m w h
walked_below u Scan k m w z h = scan_below w.chip _ m w.said h
walked_below u Temp k m w z h = moved_below Temp k m w h
walked_below u (Count n) k m w z h = moved_below (Count n) k m w h
walked_below u (Sense v) k m w z h = ticks_below w.chip v 1 m w.said (omega arith) h
walked_below u Pin k m w z h = moved_below Pin k m w h
walked_below u (Load l) k m w z h = moved_below (Load l) k m w h
walked_below u Xready k m w z h = moved_below Xready k m w h
walked_below u (OnBus b) k m w z h = moved_below (OnBus b) k m w h
walked_below u (Level l) k m w z h = moved_below (Level l) k m w h
walked_below u (Ticks v n) k m w z h = ticks_below w.chip v n m w.said (ticks_meant u v n k z) h
walked_below u (Soak v n) k m w z h = ticks_below w.chip v n m w.said (soak_meant u v n k z) h
walked_below u (Wires n) k m w z h = below_more m (m + more) w.said (omega arith) h

-- ── the events of what follows ──
heard_nil : (u : SetupValues) (f : ℕ) (past : List Event) → heard_by u f [] past ≡ past
heard_nil u zero past = refl
heard_nil u (suc f) past = refl

heard_cons : (u : SetupValues) (f : ℕ) (l : List ℕ) (past : List Event) → 0 < length l
    → heard_by u (suc f) l past ≡ heard_by u f (rest_after l (read_of u.part l)) (heard_next u l (read_of u.part l) past)
heard_cons u f [] past h = absurd (not-suc-le-zero h)
heard_cons u f (b ∷ l) past h = refl

-- a wiring record means no event of the chip
unheard : (u : SetupValues) (c : ℕ) (k : Counts) (past : List Event) → with_meant u (meant_of u (Wires c) k) past ≡ past
unfolding meant_of
unheard u c k past = by (counts_fit 0 k)
  where
    by : (t : Bool) → with_meant u (cond t unfit unfit) past ≡ past
    by true = refl
    by false = refl

-- ── what stands at the loop's head ──
pub record Walking (s : List ℕ) (next : ℕ) (w : Walk) (at : ℕ) : Type 0 where
  pub setup : SetupValues
  pub first : read_of 0 s ≡ Record (Setup setup) next
  pub past : List Event
  pub tracks : Tracks setup w past
  pub steps : ℕ
  pub whole : heard setup next s ≡ heard_by setup (length s - 1 - steps) (drop at s) past
  pub slow : 4 * steps + 4 ≤ at
  pub inside : at ≤ length s
  pub below : Below (more * at) w.said

pub walking_first : {c : Chip} {n : Streaks} (s : List ℕ) (u : SetupValues) (next : ℕ) → read_of 0 s ≡ Record (Setup u) next → c ≡ in_ship u → n ≡ no_streaks → Walking s next (record { chip = c; said = n }) next
walking_first {c} {n} s u next q h z =
    let p : Placed (length s) (Record (Setup u) next) = rw q at (placed 0 s) in
    let e : length s - 1 ≡ length s - 1 - 0 = omega arith in
    subst (λ (w : Walk). Walking s next w next) (λ i. record { chip = sym h i; said = sym z i })
    record {
      setup = u;
      first = q;
      past = [];
      tracks = tracks_none u;
      steps = 0;
      whole = ap (λ (f : ℕ). heard_by u f (drop next s) []) e;
      slow = omega (arith, p.0);
      inside = p.1;
      below = (omega arith, omega arith, omega arith, omega arith);
    }

-- ── no SETUP first: nothing is said ──
pub said_none : {n : Streaks} (s : List ℕ) (x : Read) → x ≡ read_of 0 s → OneOf (1 ∷ 2 ∷ []) (tag_of read_type x) → n ≡ no_streaks → n ≡ streaks_in s
unfolding streaks_in verdicts_in
said_none s x q o z = z ∙ by x o ∙ ap (λ (x : Read). streaks_of (λ k. streak (verdicts_after k s x))) q
  where
    by : (x : Read) → OneOf (1 ∷ 2 ∷ []) (tag_of read_type x) → no_streaks ≡ streaks_of (λ k. streak (verdicts_after k s x))
    by (Record e next) o = absurd (⊎_elim (λ h. omega arith) (λ h. omega arith) o)
    by (Refused k next) o = refl
    by Cut o = refl

no_setup : (e : Coded) → IsSetup e → OneOf (1 ∷ 2 ∷ 3 ∷ 4 ∷ 5 ∷ 6 ∷ 7 ∷ 8 ∷ 9 ∷ 10 ∷ 11 ∷ 12 ∷ 13 ∷ 14 ∷ []) (tag_of event_type e) → ⊥
no_setup (Setup v) f o = ⊎_elim (λ h. omega arith) (⊎_elim (λ h. omega arith) (⊎_elim (λ h. omega arith) (⊎_elim (λ h. omega arith) (⊎_elim (λ h. omega arith) (⊎_elim (λ h. omega arith) (⊎_elim (λ h. omega arith) (⊎_elim (λ h. omega arith) (⊎_elim (λ h. omega arith) (⊎_elim (λ h. omega arith) (⊎_elim (λ h. omega arith) (⊎_elim (λ h. omega arith) (⊎_elim (λ h. omega arith) (λ h. omega arith))))))))))))) o
no_setup Por f o = f
no_setup Boot f o = f
no_setup Scan f o = f
no_setup Temp f o = f
no_setup (Count n) f o = f
no_setup (Sense v) f o = f
no_setup Pin f o = f
no_setup (Load l) f o = f
no_setup Xready f o = f
no_setup (OnBus b) f o = f
no_setup (Level l) f o = f
no_setup (Ticks v n) f o = f
no_setup (Soak v n) f o = f
no_setup (Wires n) f o = f

pub first_other : {A : Type 0} (s : List ℕ) (x : Read) (e : Coded) (next : ℕ) → x ≡ read_of 0 s → x ≡ Record e next
    → OneOf (1 ∷ 2 ∷ 3 ∷ 4 ∷ 5 ∷ 6 ∷ 7 ∷ 8 ∷ 9 ∷ 10 ∷ 11 ∷ 12 ∷ 13 ∷ 14 ∷ []) (tag_of event_type e) → A
first_other s x e next q h o = absurd (no_setup e (first_setup s e next (sym q ∙ h)) o)

-- ── a record passed ──
module _ (s : List ℕ) (next : ℕ) (w : Walk) (at : ℕ) (g : Walking s next w at) where
  -- the walk is over: what it carries is what the records say
  ended : heard g.setup next s ≡ g.past → w.said ≡ streaks_in s
  unfolding streaks_in verdicts_in
  ended h =
      g.tracks.said
      ∙ ap (λ (past : List Event). streaks_of (λ k. streak (verdicts g.setup k past))) (sym h)
      ∙ ap (λ (x : Read). streaks_of (λ k. streak (verdicts_after k s x))) (sym g.first)

  pub walking_end : length s ≤ at → w.said ≡ streaks_in s
  walking_end h =
      ended (g.whole ∙ ap (λ (l : List ℕ). heard_by g.setup (length s - 1 - g.steps) l g.past) (drop_of_length-le s h) ∙ heard_nil g.setup (length s - 1 - g.steps) g.past)

  module _ (h : at < length s) (p : Option Passed) (q : p ≡ passed_on (take (length s - at) (drop at s)) w) where
    abbrev rest : List ℕ
    rest = drop at s

    fuel : length s - 1 - g.steps ≡ suc (length s - 1 - (g.steps + 1))
    fuel = omega (arith, g.slow)

    read_as : p ≡ passed rest w (read_of g.setup.part rest)
    unfolding passed_on
    read_as =
        q ∙ ap (λ (r : List ℕ). passed r w (read_of w.chip.setup.part r)) (rest_is s at)
        ∙ ap (λ (c : Chip). passed rest w (read_of c.setup.part rest)) g.tracks.chip

    step : heard g.setup next s
        ≡ heard_by g.setup (length s - 1 - (g.steps + 1)) (rest_after rest (read_of g.setup.part rest)) (heard_next g.setup rest (read_of g.setup.part rest) g.past)
    step =
        g.whole ∙ ap (λ (f : ℕ). heard_by g.setup f rest g.past) fuel
        ∙ heard_cons g.setup (length s - 1 - (g.steps + 1)) rest g.past (simp length-drop (omega arith))

    -- what it comes to: the end of what is whole, or the walk one record on
    abbrev Outcome : Option Passed → Type 0
    Outcome None = w.said ≡ streaks_in s
    Outcome (Some p) = Walking s next p.walk (at + p.next) × (4 ≤ p.next) × (at + p.next ≤ length s)

    -- by what was read
    abbrev Goes : Read → Type 0
    Goes x = p ≡ passed rest w x → heard g.setup next s ≡ heard_by g.setup (length s - 1 - (g.steps + 1)) (rest_after rest x) (heard_next g.setup rest x g.past)
        → Placed (length rest) x → read_of g.setup.part rest ≡ x → Outcome p

    go_on : (n : ℕ) (v : Walk) (past : List Event) → p ≡ Some (record { walk = v; next = n }) → 4 ≤ n → n ≤ length rest → Tracks g.setup v past → Below (more * at + more) v.said
        → heard g.setup next s ≡ heard_by g.setup (length s - 1 - (g.steps + 1)) (drop n rest) past → Outcome p
    go_on n v past e a b t m l =
        let i : n ≤ length s - at = subst (λ (k : ℕ). n ≤ k) (length-drop at s) b in
        subst Outcome (sym e) (
          record {
            setup = g.setup;
            first = g.first;
            past = past;
            tracks = t;
            steps = g.steps + 1;
            whole = l ∙ ap (λ (r : List ℕ). heard_by g.setup (length s - 1 - (g.steps + 1)) r past) (drop-drop n at s);
            slow = omega (arith, g.slow);
            inside = omega arith;
            below = below_more (more * at + more) (more * (at + n)) v.said (omega arith) m;
          },
          a,
          omega arith,
        )

    goes : (x : Read) → Goes x
    unfolding walked_by
    goes (Record e n) = wires_by (λ (e : Coded). Goes (Record e n)) wired other e
      where
        wired : (c : ℕ) → Goes (Record (Wires c) n)
        wired c z l a b =
            go_on n w g.past z a.0 a.1 g.tracks (below_more (more * at) (more * at + more) w.said (omega arith) g.below)
            (l ∙ ap (heard_by g.setup (length s - 1 - (g.steps + 1)) (drop n rest)) (unheard g.setup c (counts_beside rest (Record (Wires c) n)) g.past))

        other : (e : Coded) → is_wires e ≡ false → Goes (Record e n)
        other e i z l a b =
            let k : Counts = counts_beside rest (Record e n) in
            let m : Meaning g.setup e k = later_means g.setup rest e n (a_part s g.setup next g.first) b i in
            go_on n (walked_by e k w) (with_meant g.setup (meant_of g.setup e k) g.past) z a.0 a.1 (tracks_walked g.setup g.past w g.tracks e k m)
            (walked_below g.setup e k (more * at) w m g.below) l
    goes (Refused why n) = λ z l a b. go_on n w g.past z a.0 a.1 g.tracks (below_more (more * at) (more * at + more) w.said (omega arith) g.below) l
    goes Cut = λ z l a b. subst Outcome (sym z) (ended (l ∙ heard_nil g.setup (length s - 1 - (g.steps + 1)) g.past))

    went : Outcome p
    went = goes (read_of g.setup.part rest) read_as step (placed g.setup.part rest) refl

    pub walking_cut : p ≡ None → w.said ≡ streaks_in s
    walking_cut e = subst Outcome e went

    pub walking_more : (t : Passed) → p ≡ Some t → Walking s next t.walk (at + t.next) × (4 ≤ t.next) × (at + t.next ≤ length s)
    walking_more t e = subst Outcome e went

-- ── what the walk carries is small: at most 65,536 bytes ──
pub small : (s : List ℕ) (next : ℕ) (w : Walk) (at : ℕ) → Walking s next w at → length s ≤ 65536 → Small w.said
small s next w at g h = below_more (more * at) (2 ^ 40) w.said (omega (arith, g.inside, h)) g.below

-- ── a tick passed in place ──
pub tick_passes : (r : List ℕ) (w : Walk) (v : ℤ) (n : ℕ) → read_of w.chip.setup.part r ≡ Record (Sense v) n
    → Some (record { walk = record { chip = w.chip; said = ticks_said w.chip v 1 w.said }; next = n }) ≡ passed_on r w
unfolding passed_on walked_by
tick_passes r w v n q = sym (ap (passed r w) q)
