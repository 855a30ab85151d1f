-- CHIP J12, refused events left aside: the events that were done, by themselves, leave the same chip and the same verdicts. And the same
-- of the code's events, whose counts may not fit. Assumes nothing.
use Rattle.std.specs.Prelude.{◌≡◌, Bool, eqb, ℤ, replicate}
use Rattle.std.proofs.Math.Path.{refl, sym, ap}
use Rattle.std.proofs.Common.{◌∙◌, true≢false, eq-eqb}
use Rattle.std.proofs.Math.Bool.{true, false, cond}
use mathlib.Core.List.{List, [], ◌∷◌, ◌++◌}
use Prim.Native.Nat.{ℕ, zero, suc}
use Rattle.events.specs.declared.Setup.{Setup}
use Rattle.events.specs.declared.Counts.{Counts}
use Rattle.events.specs.declared.Event.{Event as Coded}
use Rattle.events.specs.Event.{Event, Sense, fits, ticks_fit, Meant, means, ticks, unfit, meant_of}
use Rattle.events.specs.declared.Fault.{Fault}
use Rattle.limits.specs.Rule.{rule, opinion}
use Rattle.chip.specs.declared.Chip.{Chip}
use Rattle.chip.specs.Chip.{numbered, in_ship, stepped, next, ticked, stepped_as, stepped_by}
use Rattle.chip.specs.Core.{core_of, core_next}
use Rattle.chip.proofs.MovesLaws.{normal_is}
use Rattle.chip.proofs.RepeatLaws.{senses, record_senses}
use Rattle.demands.specs.Demand.{chip, core, verdicts}
use Rattle.demands.specs.Refused.{normal_done, refused}
use Rattle.demands.proofs.History.{setup_is, core_is, awake_is, asleep_none}
use Rattle.demands.specs.Aside.{with_meant}

module _ (u : Setup) where
  abbrev pub is_done : List Event → Event → Bool
  is_done past e = eqb (stepped e (chip u past)).number 0

  -- the events that were done
  unfoldable pub done : List Event → List Event
  done [] = []
  done (e ∷ past) = cond (is_done past e) (e ∷ done past) (done past)

  pub refuses : (past : List Event) (e : Event) → is_done past e ≡ false → (stepped e (chip u past)).number ≡ 0 → ⊥
  refuses past e h n = true≢false (sym (eq-eqb (stepped e (chip u past)).number 0 n) ∙ h)

  pub aside : (past : List Event) → chip u (done past) ≡ chip u past
  unfolding chip done
  aside [] = refl
  aside (e ∷ past) = by (is_done past e) refl (aside past)
    where
      by : (b : Bool) → is_done past e ≡ b → chip u (done past) ≡ chip u past
          → chip u (cond b (e ∷ done past) (done past)) ≡ next e (chip u past)
      by true h same = ap (next e) same
      by false h same = same ∙ sym (refused e (chip u past) (refuses past e h))

  core_aside : (past : List Event) → core u (done past) ≡ core u past
  core_aside past = sym (core_is u (done past)) ∙ ap core_of (aside past) ∙ core_is u past

  -- a refused event adds no verdict and ends no spell
  done_awake : (past : List Event) (e : Event) → is_done past e ≡ false → (core u past).normal ≡ true → fits e ≡ true → ⊥
  done_awake past e h a f =
      refuses past e h (ap (λ s. s.number) (normal_is e (chip u past) f (awake_is u past ∙ a)) ∙ normal_done e (chip u past))

  refused_core : (past : List Event) (e : Event) → is_done past e ≡ false → core u (e ∷ past) ≡ core u past
  unfolding chip
  refused_core past e h = sym (core_is u (e ∷ past)) ∙ ap core_of (refused e (chip u past) (refuses past e h)) ∙ core_is u past

  refused_silent : (k : Fault) (past : List Event) (e : Event) → is_done past e ≡ false → verdicts u k (e ∷ past) ≡ verdicts u k past
  unfolding verdicts
  refused_silent k past e h = rw (refused_core past e h) (by (core u past).normal (fits e) (done_awake past e h) (asleep_none u k past))
    where
      by : (a f : Bool) → (a ≡ true → f ≡ true → ⊥) → (a ≡ false → verdicts u k past ≡ [])
          → cond a (cond f (opinion k u.floor (rule k (core u past).settings) e) [] ++ verdicts u k past) [] ≡ verdicts u k past
      by true true n s = absurd (n refl refl)
      by true false n s = refl
      by false f n s = sym (s refl)

  pub verdicts_aside : (k : Fault) (past : List Event) → verdicts u k (done past) ≡ verdicts u k past
  unfolding done verdicts core
  verdicts_aside k [] = refl
  verdicts_aside k (e ∷ past) = by (is_done past e) refl (verdicts_aside k past)
    where
      said_aside : verdicts u k (done past) ≡ verdicts u k past → verdicts u k (e ∷ done past) ≡ verdicts u k (e ∷ past)
      said_aside same =
          λ i. cond (core_next u e (core_aside past i)).normal
          (cond (fits e) (opinion k u.floor (rule k (core_aside past i).settings) e) [] ++ same i) []

      by : (b : Bool) → is_done past e ≡ b → verdicts u k (done past) ≡ verdicts u k past
          → verdicts u k (cond b (e ∷ done past) (done past)) ≡ verdicts u k (e ∷ past)
      by true h same = said_aside same
      by false h same = same ∙ sym (refused_silent k past e h)

  -- ── the code's events, each with the counts beside it ──
  abbrev pub CodeEvent : Type 0
  CodeEvent = Coded × Counts

  unfoldable pub chip_by : List CodeEvent → Chip
  chip_by [] = in_ship u
  chip_by (g ∷ past) = (stepped_by g.0 g.1 (chip_by past)).chip

  ticks_heard : (n : ℕ) (v : ℤ) (past : List Event) → senses n v (chip u past) ≡ chip u (replicate n (Sense v) ++ past)
  unfolding chip
  ticks_heard zero v past = refl
  ticks_heard (suc n) v past = ap (next (Sense v)) (ticks_heard n v past)

  pub heard_as : (m : Meant) (past : List Event) → (stepped_as m (chip u past)).chip ≡ chip u (with_meant u m past)
  unfolding chip
  heard_as (means e) past = refl
  heard_as (ticks most v n) past = by (ticks_fit most v n) refl
    where
      by : (t : Bool) → ticks_fit most v n ≡ t
          → (stepped_as (ticks most v n) (chip u past)).chip ≡ chip u (cond t (replicate n (Sense v)) [] ++ past)
      by true f = record_senses most n v (chip u past) f ∙ ticks_heard n v past
      by false f = ap (λ (t : Bool). (cond t (ticked n v (chip u past)) (numbered 3 (chip u past))).chip) f
  heard_as unfit past = refl

  -- what they mean, those that do not fit the part left out
  unfoldable pub meant : List CodeEvent → List Event
  meant [] = []
  meant (g ∷ past) = with_meant u (meant_of u g.0 g.1) (meant past)

  -- so every claim over the events of the definitions is one over the events of the code
  pub coded : (past : List CodeEvent) → chip_by past ≡ chip u (meant past)
  unfolding chip_by chip meant
  coded [] = refl
  coded (g ∷ past) =
      (λ i. (stepped_as (meant_of (coded past i).setup g.0 g.1) (coded past i)).chip)
      ∙ (λ i. (stepped_as (meant_of (setup_is u (meant past) i) g.0 g.1) (chip u (meant past))).chip)
      ∙ heard_as (meant_of u g.0 g.1) (meant past)
