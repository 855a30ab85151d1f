-- The walk over the records: what it carries from one to the next, and that this is what the events heard so far say, with no run among
-- it: the mode, the line and the settings move by the events alone, and each verdict by those. Assumes nothing.
use Rattle.std.specs.Prelude.{◌≡◌, ◌&&◌, ℤ, take, replicate, Option, Some, None}
use Rattle.std.proofs.Math.Path.{refl, ap, subst}
use Rattle.std.proofs.Common.{sym, ◌∙◌, true≢false, arith}
use Rattle.std.proofs.Math.Bool.{Bool, true, false, cond}
use mathlib.Core.List.{List, [], ◌∷◌, ◌++◌}
use Prim.Native.Nat.{ℕ, zero, suc, ◌+◌, ◌≤◌, ◌^◌}
use Rattle.std.proofs.Math.Dec.{leb}
use borrow.Author.Tests.{leb-true}
use Rattle.events.specs.declared.Setup.{Setup as SetupValues}
use Rattle.events.specs.declared.Counts.{Counts}
use Rattle.events.specs.declared.Event.{Event as Coded}
use Rattle.events.specs.declared.Event.TheVariants.{Setup as CodedSetup, Por as CodedPor, Boot as CodedBoot, Pin as CodedPin}
use Rattle.events.specs.declared.Event.TheVariants.{Xready as CodedXready}
use Rattle.events.specs.declared.Event.TheVariants.{Scan as CodedScan, Temp as CodedTemp, Count as CodedCount, Sense as CodedSense}
use Rattle.events.specs.declared.Event.TheVariants.{Load as CodedLoad}
use Rattle.events.specs.declared.Event.TheVariants.{OnBus as CodedOnBus, Level as CodedLevel, Ticks as CodedTicks, Soak as CodedSoak}
use Rattle.events.specs.declared.Event.TheVariants.{Wires as CodedWires}
use Rattle.events.specs.Setup.{inputs}
use Rattle.events.specs.declared.Fault.{Fault}
use Rattle.events.specs.declared.Fault.TheVariants.{Ov, Uv, Scd, Ocd}
use Rattle.events.specs.Event.{Event, Por, Boot, Pin, Xready, Scan, Count, Sense, Load, OnBus, Level, fits, sense_fits, ticks_fit, Meant}
use Rattle.events.specs.Event.{means, ticks, unfit, event_of, meant_of, counts_fit, counts_wanted, in_range}
use Rattle.records.specs.declared.Read.{Read}
use Rattle.records.specs.declared.Read.TheVariants.{Record, Refused, Cut}
use Rattle.records.specs.Record.{read_of, counts_beside}
use Rattle.bits.specs.BoolLaws.{and_left, and_right}
use Rattle.records.specs.SoundLaws.{Meaning}
use Rattle.settings.specs.declared.Settings.{Settings}
use Rattle.protection.specs.Streak.{streak}
use Rattle.limits.specs.declared.Rule.{Rule}
use Rattle.limits.specs.Rule.{rule, over, under, beyond, opinion}
use Rattle.chip.specs.declared.Chip.{Chip}
use Rattle.chip.specs.Answer.{Stepped}
use Rattle.chip.specs.Chip.{numbered, in_ship, settled, normally, asleep, happened, stepped, next, stepped_as, stepped_by}
use Rattle.chip.specs.Core.{Core, core_of, bare, core_next}
use Rattle.chip.proofs.MovesLaws.{setup-next}
use Rattle.demands.specs.Demand.{core, standing, verdicts}
use Rattle.demands.proofs.History.{asleep_none}
use Rattle.demands.specs.Aside.{with_meant}
use Rattle.plain_due.specs.Streaks.{Streaks}
use Rattle.plain_back.specs.declared.Walk.{Walk}
use Rattle.plain_back.specs.Moved.{moved_to, moved_by}
use Rattle.plain_back.specs.declared.Passed.{Passed}
use Rattle.plain_back.specs.declared.Tick.{Tick}
use Rattle.plain_due.specs.Streaks.{streaks_of, no_streaks}

-- ── what one record adds ──
-- verdicts that are all alike, one at least
abbrev pub goes_on : Bool → ℕ → ℕ → ℕ
goes_on true more n = n + more
goes_on false more n = 0

abbrev pub scan_in : Chip → List ℕ → Streaks → Streaks
scan_in c xs w =
    record {
      ov = goes_on (over (rule Ov c.registers.settings) xs) 1 w.ov;
      uv = goes_on (under c.setup.floor (rule Uv c.registers.settings) xs) 1 w.uv;
      scd = w.scd;
      ocd = w.ocd;
    }

abbrev pub ticks_in : Chip → ℤ → ℕ → Streaks → Streaks
ticks_in c v more w =
    record {
      ov = w.ov;
      uv = w.uv;
      scd = goes_on (beyond (rule Scd c.registers.settings) v) more w.scd;
      ocd = goes_on (beyond (rule Ocd c.registers.settings) v) more w.ocd;
    }

-- in SHIP nothing is said
unfoldable pub scan_said : Chip → List ℕ → Streaks → Streaks
scan_said c xs w = cond c.normal (scan_in c xs w) w

unfoldable pub ticks_said : Chip → ℤ → ℕ → Streaks → Streaks
ticks_said c v more w = cond c.normal (ticks_in c v more w) w

abbrev pub scanned_by : Counts → Walk → Walk
scanned_by k w = record { chip = w.chip; said = scan_said w.chip (take (inputs w.chip.setup) k.of) w.said }

abbrev pub ticked_by : ℤ → ℕ → Walk → Walk
ticked_by v more w = record { chip = w.chip; said = ticks_said w.chip v more w.said }

unfoldable pub walked_by : Coded → Counts → Walk → Walk
walked_by (CodedSetup v) k w = w
walked_by CodedPor k w = moved_by CodedPor k w
walked_by CodedBoot k w = moved_by CodedBoot k w
walked_by CodedPin k w = moved_by CodedPin k w
walked_by CodedXready k w = moved_by CodedXready k w
walked_by CodedScan k w = scanned_by k w
walked_by CodedTemp k w = moved_by CodedTemp k w
walked_by (CodedCount n) k w = moved_by (CodedCount n) k w
walked_by (CodedSense v) k w = ticked_by v 1 w
walked_by (CodedLoad l) k w = moved_by (CodedLoad l) k w
walked_by (CodedOnBus b) k w = moved_by (CodedOnBus b) k w
walked_by (CodedLevel l) k w = moved_by (CodedLevel l) k w
walked_by (CodedTicks v n) k w = ticked_by v n w
walked_by (CodedSoak v n) k w = ticked_by v n w
walked_by (CodedWires n) k w = w

-- the record at the start of r
abbrev pub passed : List ℕ → Walk → Read → Option Passed
passed r w (Record e next) = Some (record { walk = walked_by e (counts_beside r (Record e next)) w; next = next })
passed r w (Refused why next) = Some (record { walk = w; next = next })
passed r w Cut = None

unfoldable pub passed_on : List ℕ → Walk → Option Passed
passed_on r w = passed r w (read_of w.chip.setup.part r)

-- a tick that the rest begins with
abbrev pub TickIn : ℕ → List ℕ → Option Tick → Type 0
TickIn part r (Some t) = read_of part r ≡ Record (CodedSense t.value) t.next
TickIn part r None = Unit

-- room for one more
abbrev pub Small : Streaks → Type 0
Small w = (w.ov ≤ 2 ^ 40) × (w.uv ≤ 2 ^ 40) × (w.scd ≤ 2 ^ 40) × (w.ocd ≤ 2 ^ 40)

-- ── four streaks are those that they show ──
streaks_by : {f g : Fault → ℕ} → ((k : Fault) → f k ≡ g k) → streaks_of f ≡ streaks_of g
streaks_by h = λ i. record { ov = h Ov i; uv = h Uv i; scd = h Scd i; ocd = h Ocd i }

-- one verdict more
one_more : (b : Bool) (l : List Bool) → goes_on b 1 (streak l) ≡ streak (b ∷ l)
one_more true l = omega arith
one_more false l = refl

again : (b : Bool) (n m : ℕ) → goes_on b 1 (goes_on b (suc n) m) ≡ goes_on b (suc (suc n)) m
again true n m = omega arith
again false n m = refl

ticks_again : (c : Chip) (v : ℤ) (n : ℕ) (w : Streaks) → ticks_said c v 1 (ticks_said c v (suc n) w) ≡ ticks_said c v (suc (suc n)) w
unfolding ticks_said
ticks_again c v n w = by c.normal
  where
    s : Settings
    s = c.registers.settings

    by : (a : Bool) → cond a (ticks_in c v 1 (cond a (ticks_in c v (suc n) w) w)) (cond a (ticks_in c v (suc n) w) w)
        ≡ cond a (ticks_in c v (suc (suc n)) w) w
    by true =
        λ i. record {
          ov = w.ov;
          uv = w.uv;
          scd = again (beyond (rule Scd s) v) n w.scd i;
          ocd = again (beyond (rule Ocd s) v) n w.ocd i;
        }
    by false = refl

-- ── a scan or tick leaves mode, line and settings ──
scan_core : (u : SetupValues) (xs : List ℕ) (k : Core) → core_next u (Scan xs) k ≡ k
unfolding stepped happened
scan_core u xs k = by (fits (Scan xs)) k.normal
  where
    c : Chip
    c = bare u k

    by : (f a : Bool) → core_of (cond f (cond a (settled (normally (Scan xs) c)) (asleep (Scan xs) c)) (numbered 3 c)).chip ≡ k
    by true true = refl
    by true false = refl
    by false a = refl

tick_core : (u : SetupValues) (v : ℤ) (k : Core) → core_next u (Sense v) k ≡ k
unfolding stepped happened
tick_core u v k = by (fits (Sense v)) k.normal
  where
    c : Chip
    c = bare u k

    by : (f a : Bool) → core_of (cond f (cond a (settled (normally (Sense v) c)) (asleep (Sense v) c)) (numbered 3 c)).chip ≡ k
    by true true = refl
    by true false = refl
    by false a = refl

-- an event that says nothing, whatever the rule
abbrev Silent : Event → Type 0
Silent e = (k : Fault) (floor : ℕ) (r : Rule) → opinion k floor r e ≡ []

module _ (u : SetupValues) where
  -- THE WALK carries what the events so far say
  pub record Tracks (w : Walk) (past : List Event) : Type 0 where
    pub chip : w.chip ≡ bare u (core u past)
    pub said : w.said ≡ streaks_of (λ k. streak (verdicts u k past))

  pub tracks_none : Tracks (record { chip = in_ship u; said = no_streaks }) []
  unfolding core verdicts
  tracks_none = record { chip = refl; said = refl }

  module _ (past : List Event) where
    -- ── events that say nothing ──
    silent_verdicts : (e : Event) → Silent e → (k : Fault)
        → verdicts u k (e ∷ past) ≡ cond (core u (e ∷ past)).normal (verdicts u k past) []
    unfolding verdicts
    silent_verdicts e h k =
        by (fits e) (opinion k u.floor (rule k (standing u past)) e) (h k u.floor (rule k (standing u past)))
      where
        by : (f : Bool) (l : List Bool) → l ≡ []
            → cond (core u (e ∷ past)).normal (cond f l [] ++ verdicts u k past) []
            ≡ cond (core u (e ∷ past)).normal (verdicts u k past) []
        by true l q = ap (λ (l : List Bool). cond (core u (e ∷ past)).normal (l ++ verdicts u k past) []) q
        by false l q = refl

    spell : (a : Bool)
        → cond a (streaks_of (λ k. streak (verdicts u k past))) no_streaks ≡ streaks_of (λ k. streak (cond a (verdicts u k past) []))
    spell true = refl
    spell false = refl

    tracks_moved : (e : Event) (w : Walk) → Silent e → Tracks w past → Tracks (moved_to (next e w.chip) w) (e ∷ past)
    unfolding core
    tracks_moved e w h t =
        let c : Chip = bare u (core u past) in
        record {
          chip = ap (λ (d : Chip). bare (next e d).setup (core_of (next e d))) t.chip
              ∙ ap (λ (v : SetupValues). bare v (core_of (next e c))) (setup-next e c);
          said = ap (λ (d : Chip). cond (next e d).normal w.said no_streaks) t.chip
              ∙ ap (λ (l : Streaks). cond (next e c).normal l no_streaks) t.said
              ∙ spell (next e c).normal ∙ streaks_by (λ k. ap streak (sym (silent_verdicts e h k)));
        }

    -- ── scans and ticks ──
    judged_verdicts : (e : Event) → core_next u e (core u past) ≡ core u past → fits e ≡ true → (k : Fault)
        → verdicts u k (e ∷ past) ≡ cond (core u past).normal (opinion k u.floor (rule k (standing u past)) e ++ verdicts u k past)
        (verdicts u k past)
    unfolding verdicts core
    judged_verdicts e q f k =
        ap (λ (c : Core). cond c.normal (cond (fits e) (opinion k u.floor (rule k (standing u past)) e) [] ++ verdicts u k past) []) q
        ∙ ap (λ (t : Bool). cond (core u past).normal
        (cond t (opinion k u.floor (rule k (standing u past)) e) [] ++ verdicts u k past) []) f
        ∙ by (core u past).normal (asleep_none u k past)
      where
        l : List Bool
        l = opinion k u.floor (rule k (standing u past)) e ++ verdicts u k past

        by : (a : Bool) → (a ≡ false → verdicts u k past ≡ []) → cond a l [] ≡ cond a l (verdicts u k past)
        by true z = refl
        by false z = sym (z refl)

    tracks_scan : (xs : List ℕ) (w : Walk) → fits (Scan xs) ≡ true → Tracks w past
        → Tracks (record { chip = w.chip; said = scan_said w.chip xs w.said }) (Scan xs ∷ past)
    unfolding scan_said core
    tracks_scan xs w f t =
        record {
          chip = t.chip ∙ ap (bare u) (sym (scan_core u xs (core u past)));
          said = ap (λ (d : Chip). scan_said d xs w.said) t.chip ∙ ap (scan_said c xs) t.said ∙ by (core u past).normal
              ∙ streaks_by (λ k. ap streak (sym (judged_verdicts (Scan xs) (scan_core u xs (core u past)) f k)));
        }
      where
        c : Chip
        c = bare u (core u past)

        s : Settings
        s = standing u past

        by : (a : Bool) → cond a (scan_in c xs (streaks_of (λ k. streak (verdicts u k past))))
            (streaks_of (λ k. streak (verdicts u k past)))
            ≡ streaks_of (λ k. streak (cond a (opinion k u.floor (rule k s) (Scan xs) ++ verdicts u k past) (verdicts u k past)))
        by true =
            λ i.
            record {
              ov = one_more (over (rule Ov s) xs) (verdicts u Ov past) i;
              uv = one_more (under u.floor (rule Uv s) xs) (verdicts u Uv past) i;
              scd = streak (verdicts u Scd past);
              ocd = streak (verdicts u Ocd past);
            }
        by false = refl

    tracks_tick : (v : ℤ) (w : Walk) → fits (Sense v) ≡ true → Tracks w past → Tracks (ticked_by v 1 w) (Sense v ∷ past)
    unfolding ticks_said core
    tracks_tick v w f t =
        record {
          chip = t.chip ∙ ap (bare u) (sym (tick_core u v (core u past)));
          said = ap (λ (d : Chip). ticks_said d v 1 w.said) t.chip ∙ ap (ticks_said c v 1) t.said ∙ by (core u past).normal
              ∙ streaks_by (λ k. ap streak (sym (judged_verdicts (Sense v) (tick_core u v (core u past)) f k)));
        }
      where
        c : Chip
        c = bare u (core u past)

        s : Settings
        s = standing u past

        by : (a : Bool) → cond a (ticks_in c v 1 (streaks_of (λ k. streak (verdicts u k past))))
            (streaks_of (λ k. streak (verdicts u k past)))
            ≡ streaks_of (λ k. streak (cond a (opinion k u.floor (rule k s) (Sense v) ++ verdicts u k past) (verdicts u k past)))
        by true =
            λ i.
            record {
              ov = streak (verdicts u Ov past);
              uv = streak (verdicts u Uv past);
              scd = one_more (beyond (rule Scd s) v) (verdicts u Scd past) i;
              ocd = one_more (beyond (rule Ocd s) v) (verdicts u Ocd past) i;
            }
        by false = refl

  -- every tick of a record counts
  tracks_ticks : (n : ℕ) (v : ℤ) (past : List Event) (w : Walk) → fits (Sense v) ≡ true → Tracks w past
      → Tracks (ticked_by v (suc n) w) (replicate (suc n) (Sense v) ++ past)
  tracks_ticks zero v past w f t = tracks_tick past v w f t
  tracks_ticks (suc n) v past w f t =
      let h : Tracks (ticked_by v 1 (ticked_by v (suc n) w)) (replicate (suc (suc n)) (Sense v) ++ past) =
      tracks_tick (replicate (suc n) (Sense v) ++ past) v (ticked_by v (suc n) w) f (tracks_ticks n v past w f t) in
      record { chip = h.chip; said = sym (ticks_again w.chip v n w.said) ∙ h.said }

  -- ── a record that was read: what it means, it adds ──
  meant_is : (t : Bool) (m : Meant) → in_range (cond t m unfit) ≡ true → (cond t m unfit ≡ m) × (in_range m ≡ true)
  meant_is true m h = (refl, h)
  meant_is false m h = absurd (true≢false (sym h))

  pub meant_of_lem : (e : Coded) (k : Counts) → Meaning u e k → (meant_of u e k ≡ event_of u e k.of) × (in_range (event_of u e k.of) ≡ true)
  unfolding meant_of
  meant_of_lem e k m = meant_is (counts_fit (counts_wanted u e) k) (event_of u e k.of) m

  module _ (past : List Event) (w : Walk) (t : Tracks w past) where
    by_event : (e : Coded) (k : Counts) (h : Event) → Silent h → meant_of u e k ≡ means h
        → Tracks (moved_by e k w) (with_meant u (meant_of u e k) past)
    unfolding moved_by
    by_event e k h z q =
        let c : Chip = bare u (core u past) in
        let s : stepped_by e k w.chip ≡ stepped h w.chip =
        ap (λ (d : Chip). stepped_as (meant_of d.setup e k) w.chip) t.chip ∙ ap (λ (m : Meant). stepped_as m w.chip) q in
        subst (λ (m : Meant). Tracks (moved_by e k w) (with_meant u m past)) (sym q)
        (subst (λ (x : Stepped). Tracks (moved_to x.chip w) (h ∷ past)) (sym s) (tracks_moved past h w z t))

    by_ticks : (e : Coded) (k : Counts) (most : ℕ) (v : ℤ) (n : ℕ) → meant_of u e k ≡ ticks most v n → ticks_fit most v n ≡ true
        → Tracks (ticked_by v n w) (with_meant u (meant_of u e k) past)
    unfolding ticks_fit fits
    by_ticks e k most v n q f =
        let a : sense_fits v && leb 1 n ≡ true = and_left (sense_fits v && leb 1 n) (leb n most) f in
        let g : sense_fits v ≡ true = and_left (sense_fits v) (leb 1 n) a in
        let l : 1 ≤ n = leb-true 1 n (and_right (sense_fits v) (leb 1 n) a) in
        subst (λ (m : Meant). Tracks (ticked_by v n w) (with_meant u m past)) (sym q)
        (subst (λ (b : Bool). Tracks (ticked_by v n w) (cond b (replicate n (Sense v)) [] ++ past)) (sym f) (positive n l g))
      where
        positive : (n : ℕ) → 1 ≤ n → sense_fits v ≡ true → Tracks (ticked_by v n w) (replicate n (Sense v) ++ past)
        positive zero l g = absurd (omega arith)
        positive (suc n) l g = tracks_ticks n v past w g t

    pub tracks_walked : (e : Coded) (k : Counts) → Meaning u e k → Tracks (walked_by e k w) (with_meant u (meant_of u e k) past)
    unfolding walked_by
    tracks_walked (CodedSetup v) k m = absurd (true≢false (sym (meant_of_lem (CodedSetup v) k m).1))
    tracks_walked CodedPor k m = by_event CodedPor k Por (λ k floor r. refl) (meant_of_lem CodedPor k m).0
    tracks_walked CodedBoot k m = by_event CodedBoot k Boot (λ k floor r. refl) (meant_of_lem CodedBoot k m).0
    tracks_walked CodedPin k m = by_event CodedPin k Pin (λ k floor r. refl) (meant_of_lem CodedPin k m).0
    tracks_walked CodedXready k m = by_event CodedXready k Xready (λ k floor r. refl) (meant_of_lem CodedXready k m).0
    tracks_walked CodedScan k m =
        subst (λ (m : Meant). Tracks (scanned_by k w) (with_meant u m past)) (sym (meant_of_lem CodedScan k m).0)
        (subst (λ (d : Chip). Tracks (record { chip = w.chip; said = scan_said w.chip (take (inputs d.setup) k.of) w.said })
        (Scan (take (inputs u) k.of) ∷ past)) (sym t.chip)
        (tracks_scan past (take (inputs u) k.of) w (meant_of_lem CodedScan k m).1 t))
    tracks_walked CodedTemp k m = by_event CodedTemp k _ (λ k floor r. refl) (meant_of_lem CodedTemp k m).0
    tracks_walked (CodedCount n) k m = by_event (CodedCount n) k (Count n) (λ k floor r. refl) (meant_of_lem (CodedCount n) k m).0
    tracks_walked (CodedSense v) k m =
        subst (λ (m : Meant). Tracks (ticked_by v 1 w) (with_meant u m past)) (sym (meant_of_lem (CodedSense v) k m).0)
        (tracks_tick past v w (meant_of_lem (CodedSense v) k m).1 t)
    tracks_walked (CodedLoad l) k m = by_event (CodedLoad l) k (Load l) (λ k floor r. refl) (meant_of_lem (CodedLoad l) k m).0
    tracks_walked (CodedOnBus b) k m = by_event (CodedOnBus b) k (OnBus b) (λ k floor r. refl) (meant_of_lem (CodedOnBus b) k m).0
    tracks_walked (CodedLevel l) k m = by_event (CodedLevel l) k (Level l) (λ k floor r. refl) (meant_of_lem (CodedLevel l) k m).0
    tracks_walked (CodedTicks v n) k m =
        by_ticks (CodedTicks v n) k _ v n (meant_of_lem (CodedTicks v n) k m).0 (meant_of_lem (CodedTicks v n) k m).1
    tracks_walked (CodedSoak v n) k m =
        by_ticks (CodedSoak v n) k _ v n (meant_of_lem (CodedSoak v n) k m).0 (meant_of_lem (CodedSoak v n) k m).1
    tracks_walked (CodedWires n) k m = absurd (true≢false (sym (meant_of_lem (CodedWires n) k m).1))
