-- CHIP H2 of repeated ticks (CHIP R8): every tick of a record is a verdict, by the settings that stand, and after the
-- record a current bit is up exactly when it was up before or is due by these verdicts. Assumes nothing.
use Rattle.std.specs.Prelude.{◌≡◌, refl, Bool, true, false, ◌||◌, List, [], ◌∷◌, ◌++◌, ℕ, zero, suc, ◌≤◌, ℤ, replicate}
use Rattle.std.proofs.Common.{sym, ap₂, ◌∙◌, arith}
use Rattle.std.proofs.Math.Path.{ap}
use Rattle.events.specs.declared.Setup.{Setup}
use Rattle.events.specs.Event.{Event, Sense, fits, sense_fits}
use Rattle.events.specs.declared.Fault.{Fault}
use Rattle.events.specs.declared.Fault.TheVariants.{Ov, Uv, Scd, Ocd}
use Rattle.protection.specs.Streak.{last_all}
use Rattle.limits.specs.Rule.{rule, beyond, opinion}
use Rattle.protection.specs.TablesLaws.{need_fair}
use Rattle.chip.specs.Answer.{Stepped}
use Rattle.chip.specs.Core.{Core}
use Rattle.chip.proofs.MovesLaws.{normal_is}
use Rattle.demands.specs.Demand.{of_cells, judges, chip, up, core, standing, Awake, Accepted, verdicts, delay}
use Rattle.demands.proofs.History.{awake_is, judging_core, verdicts_are, rises}

-- what was all true is all true of fewer, and of one more that is true
fewer : (d : ℕ) (l : List Bool) → last_all (suc d) l ≡ true → last_all d l ≡ true
fewer zero l h = refl
fewer (suc d) [] h = h
fewer (suc d) (true ∷ l) h = fewer d l h
fewer (suc d) (false ∷ l) h = h

one_more : (d : ℕ) (b : Bool) (l : List Bool) → last_all (suc d) (b ∷ l) ≡ true → last_all (suc d) (b ∷ b ∷ l) ≡ true
one_more d true l h = fewer d (true ∷ l) h
one_more d false l h = h

stays : (d n : ℕ) (b : Bool) (l : List Bool) → 1 ≤ d → last_all d (replicate (suc n) b ++ l) ≡ true
    → last_all d (replicate (suc (suc n)) b ++ l) ≡ true
stays zero n b l h q = absurd (omega arith)
stays (suc d) n b l h q = one_more d b (replicate n b ++ l) q

absorbs : (a b c : Bool) → (b ≡ true → c ≡ true) → (a || b) || c ≡ a || c
absorbs true b c h = refl
absorbs false true c h = sym (h refl)
absorbs false false c h = refl

module _ (u : Setup) (k : Fault) (v : ℤ) (past : List Event) (current : of_cells k ≡ false) (awake : Awake u past)
    (fit : sense_fits v ≡ true) where
  abbrev after : ℕ → List Event
  after n = replicate n (Sense v) ++ past

  -- what each tick says of k
  abbrev verdict : Bool
  verdict = beyond (rule k (standing u past)) v

  judged : judges k (Sense v) ≡ true
  judged = by k current
    where
      by : (k : Fault) → of_cells k ≡ false → judges k (Sense v) ≡ true
      by Ov h = sym h
      by Uv h = sym h
      by Scd h = refl
      by Ocd h = refl

  said_of : (k : Fault) → of_cells k ≡ false → (c : Core)
      → opinion k u.floor (rule k c.settings) (Sense v) ≡ beyond (rule k c.settings) v ∷ []
  said_of Ov h c = cc
  said_of Uv h c = cc
  said_of Scd h c = refl
  said_of Ocd h c = refl

  -- each is accepted, and moves no setting
  taken_at : (later : List Event) → core u later ≡ core u past → Accepted u later (Sense v)
  unfolding fits
  taken_at later same =
      ap (λ (s : Stepped). s.number)
      (normal_is (Sense v) (chip u later) fit (awake_is u later ∙ ap (λ (c : Core). c.normal) same ∙ awake))

  same_core : (n : ℕ) → core u (after n) ≡ core u past
  same_core zero = refl
  same_core (suc n) = judging_core u k (after n) (Sense v) judged (taken_at (after n) (same_core n)) ∙ same_core n

  accepted : (n : ℕ) → Accepted u (after n) (Sense v)
  accepted n = taken_at (after n) (same_core n)

  -- EVERY TICK COUNTS: n ticks are n verdicts of this waking spell
  pub each_tick : (n : ℕ) → verdicts u k (after n) ≡ replicate n verdict ++ verdicts u k past
  each_tick zero = refl
  each_tick (suc n) =
      verdicts_are u k (after n) (Sense v) judged (accepted n)
      ∙ ap₂ ◌++◌
      (ap (λ (c : Core). opinion k u.floor (rule k c.settings) (Sense v)) (same_core n) ∙ said_of k current (core u past))
      (each_tick n)

  -- AFTER THE RECORD: the bit is up exactly when it was up before, or the newest verdicts, every tick counted, are all true
  same_delay : (n : ℕ) → delay u k (after n) ≡ delay u k past
  same_delay n = ap (λ (c : Core). (rule k c.settings).need) (same_core n)

  abbrev pub due : ℕ → Bool
  due n = last_all (delay u k past) (replicate n verdict ++ verdicts u k past)

  one_tick : (n : ℕ) → up u k (after (suc n)) ≡ up u k (after n) || due (suc n)
  one_tick n =
      rises u k (after n) (Sense v) judged (accepted n)
      ∙ ap₂ (λ d l. up u k (after n) || last_all d l) (same_delay (suc n)) (each_tick (suc n))

  pub record_rises : (n : ℕ) → up u k (after (suc n)) ≡ up u k past || due (suc n)
  record_rises zero = one_tick 0
  record_rises (suc n) =
      one_tick (suc n) ∙ ap (λ (t : Bool). t || due (suc (suc n))) (record_rises n)
      ∙ absorbs (up u k past) (due (suc n)) (due (suc (suc n)))
      (stays (delay u k past) n verdict (verdicts u k past) (need_fair k (standing u past)).least)
