-- CHIP P17, H1, H2: a bit that rises in a record rises at one of its events, and is due there. Assumes nothing.
use Rattle.std.specs.Prelude.{◌≡◌, refl, Bool, true, false, cond, ◌||◌, List, [], ◌∷◌, ◌++◌, ℕ, zero, suc, eqb, ℤ, replicate}
use Rattle.std.proofs.Common.{sym, ap, ◌∙◌, true≢false, eqb-true, eq-eqb}
use Rattle.events.specs.declared.Setup.{Setup}
use Rattle.events.specs.Event.{Event, Sense, Meant, means, ticks, unfit, ticks_fit, events_in}
use Rattle.events.specs.declared.Fault.{Fault}
use Rattle.registers.specs.Fault.{bit_of}
use Rattle.protection.specs.Streak.{last_all}
use Rattle.protection.specs.StreakLaws.{last_all_is}
use Rattle.limits.specs.Rule.{rule}
use Rattle.chip.specs.declared.Chip.{Chip}
use Rattle.chip.specs.Chip.{stepped}
use Rattle.chip.specs.Core.{Core, core_of}
use Rattle.demands.specs.Demand.{judges, chip, up, Accepted, verdicts, delay, Due}
use Rattle.demands.specs.Refused.{refused}
use Rattle.demands.proofs.History.{core_is, delay_is, rises}
use Rattle.demands.proofs.Theorem.{nothing_else_raises}

module _ (u : Setup) (k : Fault) where
  -- ── one event ──
  -- a refused one leaves the chip
  stays : (past : List Event) (e : Event) → ((stepped e (chip u past)).number ≡ 0 → ⊥) → chip u (e ∷ past) ≡ chip u past
  unfolding chip
  stays past e h = refused e (chip u past) h

  pub record RisesAt (past : List Event) (e : Event) : Type 0 where
    pub judged : judges k e ≡ true
    pub taken : Accepted u past e
    pub due : Due u k (e ∷ past)

  taken_by : (past : List Event) (e : Event) (t : Bool) → eqb (stepped e (chip u past)).number 0 ≡ t → up u k past ≡ false
      → up u k (e ∷ past) ≡ true → Accepted u past e
  taken_by past e true q d r = eqb-true (stepped e (chip u past)).number 0 q
  taken_by past e false q d r =
      absurd (true≢false (
      sym r ∙ ap (λ (c : Chip). bit_of k c.registers.shown.status)
      (stays past e (λ z. true≢false (sym (eq-eqb (stepped e (chip u past)).number 0 z) ∙ q))) ∙ d
      ))

  judged_by : (past : List Event) (e : Event) (t : Bool) → judges k e ≡ t → up u k past ≡ false → up u k (e ∷ past) ≡ true
      → judges k e ≡ true
  judged_by past e true j d r = j
  judged_by past e false j d r = absurd (true≢false (sym r ∙ nothing_else_raises u k past e j d))

  rises_at : (past : List Event) (e : Event) → up u k past ≡ false → up u k (e ∷ past) ≡ true → RisesAt past e
  rises_at past e d r =
      let j : judges k e ≡ true = judged_by past e (judges k e) refl d r in
      let a : Accepted u past e = taken_by past e (eqb (stepped e (chip u past)).number 0) refl d r in
      let l : last_all (delay u k (e ∷ past)) (verdicts u k (e ∷ past)) ≡ true =
      sym (ap (λ (t : Bool). t || last_all (delay u k (e ∷ past)) (verdicts u k (e ∷ past))) d) ∙ sym (rises u k past e j a) ∙ r in
      record { judged = j; taken = a; due = (last_all_is (delay u k (e ∷ past)) (verdicts u k (e ∷ past))).0 l }

  -- one that judges k moves no delay
  same_delay : (past : List Event) (e : Event) (t : Bool) → eqb (stepped e (chip u past)).number 0 ≡ t → judges k e ≡ true
      → delay u k (e ∷ past) ≡ delay u k past
  same_delay past e true q j = delay_is u k past e j (eqb-true (stepped e (chip u past)).number 0 q)
  same_delay past e false q j =
      ap (λ (c : Core). (rule k c.settings).need)
      (sym (core_is u (e ∷ past))
      ∙ ap core_of (stays past e (λ z. true≢false (sym (eq-eqb (stepped e (chip u past)).number 0 z) ∙ q))) ∙ core_is u past)

  -- ── the events of one record: all of them judge k, or none does ──
  abbrev pub Alike : Bool → List Event → Type 0
  Alike t [] = Unit
  Alike t (e ∷ es) = (judges k e ≡ t) × Alike t es

  delays : (es past : List Event) (t : Bool) → Alike t es → t ≡ true → delay u k (es ++ past) ≡ delay u k past
  delays [] past t a h = refl
  delays (e ∷ es) past t a h =
      same_delay (es ++ past) e (eqb (stepped e (chip u (es ++ past))).number 0) refl (a.0 ∙ h) ∙ delays es past t a.1 h

  -- THE RISING EVENT among those of a record, newest first: before it the bit is down, with it the newest verdicts, as many as the delay
  -- that stood before the record, are all true
  pub record RisesIn (es past : List Event) : Type 0 where
    pub newer : List Event
    pub event : Event
    pub older : List Event
    pub split : es ≡ newer ++ event ∷ older
    pub down_before : up u k (older ++ past) ≡ false
    pub at : RisesAt (older ++ past) event
    pub same : delay u k (event ∷ older ++ past) ≡ delay u k past

  rises_by : (e : Event) (es past : List Event) (t v : Bool) → Alike t (e ∷ es) → up u k (es ++ past) ≡ v
      → (up u k (es ++ past) ≡ true → RisesIn es past) → up u k (e ∷ es ++ past) ≡ true → RisesIn (e ∷ es) past
  rises_by e es past t true a d i r =
      let g = i d in
      record {
        newer = e ∷ g.newer;
        event = g.event;
        older = g.older;
        split = ap (λ (l : List Event). e ∷ l) g.split;
        down_before = g.down_before;
        at = g.at;
        same = g.same;
      }
  rises_by e es past t false a d i r =
      let g = rises_at (es ++ past) e d r in
      record {
        newer = [];
        event = e;
        older = es;
        split = refl;
        down_before = d;
        at = g;
        same = same_delay (es ++ past) e (eqb (stepped e (chip u (es ++ past))).number 0) refl g.judged
            ∙ delays es past t a.1 (sym a.0 ∙ g.judged);
      }

  pub rises_in : (es past : List Event) (t : Bool) → Alike t es → up u k past ≡ false → up u k (es ++ past) ≡ true → RisesIn es past
  rises_in [] past t a d r = absurd (true≢false (sym r ∙ d))
  rises_in (e ∷ es) past t a d r = rises_by e es past t (up u k (es ++ past)) a refl (λ q. rises_in es past t a.1 d q) r

  ticks_alike_lem : (n : ℕ) (v : ℤ) → Alike (judges k (Sense v)) (replicate n (Sense v))
  ticks_alike_lem zero v = tt
  ticks_alike_lem (suc n) v = (refl, ticks_alike_lem n v)

  abbrev pub alike_by : Meant → Bool
  alike_by (means e) = judges k e
  alike_by (ticks most v n) = judges k (Sense v)
  alike_by unfit = false

  pub meant_alike : (m : Meant) → Alike (alike_by m) (events_in m)
  meant_alike (means e) = (refl, tt)
  meant_alike (ticks most v n) = by (ticks_fit most v n)
    where
      by : (t : Bool) → Alike (judges k (Sense v)) (cond t (replicate n (Sense v)) [])
      by true = ticks_alike_lem n v
      by false = tt
  meant_alike unfit = tt
