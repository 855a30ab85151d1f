-- CHIP H1 to H3, the rising: over any events from power-up the mode, the settings and the runs of the chip are what the events say. Assumes
-- nothing.
use Rattle.std.specs.Prelude.{◌≡◌, true, false, ◌||◌, cond}
use Rattle.std.proofs.Math.Path.{refl, sym, ap}
use Rattle.std.proofs.Common.{◌∙◌}
use mathlib.Core.List.{List, [], ◌∷◌, ◌++◌}
use Prim.Native.Nat.{min}
use Rattle.std.proofs.Math.Nat.{min-zero}
use Rattle.events.specs.declared.Setup.{Setup}
use Rattle.events.specs.Event.{Event, fits}
use Rattle.events.specs.declared.Fault.{Fault}
use Rattle.protection.specs.Streak.{last_all, streak}
use Rattle.protection.specs.Fault.{run_of}
use Rattle.limits.specs.Rule.{cap, rule, opinion}
use Rattle.chip.specs.Core.{core_of, core_next}
use Rattle.chip.proofs.MovesLaws.{normal_is, setup-next, core_next_lem}
use Rattle.chip.specs.Calm.{Calmed}
use Rattle.chip.proofs.Calm.{ship_calm, calm_next}
use Rattle.demands.specs.Demand.{judges, chip, up, core, Awake, Accepted, said, verdicts, delay}
use Rattle.demands.specs.Told.{run_of_lem, heard, Told, next_told, accepted_judged, judging, rising}

module _ (u : Setup) where
  pub setup_is : (past : List Event) → (chip u past).setup ≡ u
  unfolding chip
  setup_is [] = refl
  setup_is (e ∷ past) = setup-next e (chip u past) ∙ setup_is past

  -- THE CORE: the mode, the line and the settings of the chip are the fold of the events
  pub core_is : (past : List Event) → core_of (chip u past) ≡ core u past
  unfolding chip core
  core_is [] = refl
  core_is (e ∷ past) = core_next_lem e (chip u past) ∙ (λ i. core_next (setup_is past i) e (core_is past i))

  pub awake_is : (past : List Event) → (chip u past).normal ≡ (core u past).normal
  awake_is past = ap (λ d. d.normal) (core_is past)

  -- THE LEVEL: the outside level 1 and SYS_STAT 0 never stand together
  pub calm_is : (past : List Event) → Calmed (chip u past)
  unfolding chip
  calm_is [] = ship_calm u
  calm_is (e ∷ past) = calm_next e (chip u past) (calm_is past)

  -- what the chip hears is what the events say
  heard_is : (k : Fault) (past : List Event) (e : Event) → heard k e (chip u past) ≡ said u k past e
  heard_is k past e = λ i. cond (fits e) (opinion k (setup_is past i).floor (rule k (core_is past i).settings) e) []

  pub asleep_none : (k : Fault) (past : List Event) → (core u past).normal ≡ false → verdicts u k past ≡ []
  unfolding verdicts
  asleep_none k [] z = refl
  asleep_none k (e ∷ past) z = rw z

  -- THE RUNS: the run of k is the streak of the verdicts, cut at the longest delay
  pub runs_are : (k : Fault) (past : List Event) → run_of k (chip u past).runs ≡ min (cap k) (streak (verdicts u k past))
  unfolding chip verdicts
  runs_are k [] = run_of_lem (λ k. 0) k ∙ sym (min-zero (cap k))
  runs_are k (e ∷ past) =
      next_told k (verdicts u k past) e (chip u past) (runs_are k past, λ z. asleep_none k past (sym (awake_is past) ∙ z))
      ∙ (λ i. min (cap k) (streak (cond (core_is (e ∷ past) i).normal (heard_is k past e i ++ verdicts u k past) [])))

  told : (k : Fault) (past : List Event) → Told k (verdicts u k past) (chip u past)
  told k past = (runs_are k past, λ z. asleep_none k past (sym (awake_is past) ∙ z))

  -- an accepted event that judges k leaves mode, line and settings
  pub accepted_fits : (k : Fault) (past : List Event) (e : Event) → judges k e ≡ true → Accepted u past e → fits e ≡ true
  accepted_fits k past e j n = (accepted_judged k e (chip u past) j n).0

  pub accepted_awake : (k : Fault) (past : List Event) (e : Event) → judges k e ≡ true → Accepted u past e → Awake u past
  accepted_awake k past e j n = sym (awake_is past) ∙ (accepted_judged k e (chip u past) j n).1

  pub judging_core : (k : Fault) (past : List Event) (e : Event) → judges k e ≡ true → Accepted u past e → core u (e ∷ past) ≡ core u past
  unfolding chip
  judging_core k past e j n =
      sym (core_is (e ∷ past))
      ∙ ap (λ s. core_of s.chip) (normal_is e (chip u past) (accepted_fits k past e j n) (accepted_judged k e (chip u past) j n).1)
      ∙ (judging k e (chip u past) j).1
      ∙ core_is past

  -- what is due after it, by what stood before it
  pub verdicts_are : (k : Fault) (past : List Event) (e : Event) → judges k e ≡ true → Accepted u past e
      → verdicts u k (e ∷ past) ≡ opinion k u.floor (rule k (core u past).settings) e ++ verdicts u k past
  unfolding verdicts
  verdicts_are k past e j n = rw (judging_core k past e j n, accepted_awake k past e j n, accepted_fits k past e j n)

  pub delay_is : (k : Fault) (past : List Event) (e : Event) → judges k e ≡ true → Accepted u past e → delay u k (e ∷ past) ≡ delay u k past
  delay_is k past e j n = ap (λ c. (rule k c.settings).need) (judging_core k past e j n)

  -- THE RISING
  pub rises : (k : Fault) (past : List Event) (e : Event) → judges k e ≡ true → Accepted u past e
      → up u k (e ∷ past) ≡ up u k past || last_all (delay u k (e ∷ past)) (verdicts u k (e ∷ past))
  unfolding chip
  rises k past e j n =
      rising k (verdicts u k past) e (chip u past) (told k past) (accepted_fits k past e j n) (accepted_judged k e (chip u past) j n).1 j
      ∙ (λ i. up u k past
      || last_all (rule k (core_is past i).settings).need
      (opinion k (setup_is past i).floor (rule k (core_is past i).settings) e ++ verdicts u k past))
      ∙ sym (λ i. up u k past || last_all (delay_is k past e j n i) (verdicts_are k past e j n i))
