-- The rules of the delay tables, each one computed test over all codes: no delay is longer than the cap, so that a run that
-- stops there loses nothing, and none is 0, so that a run that ended raises nothing. Assumes nothing.
use Rattle.std.specs.Prelude.{◌≡◌, refl, Bool, true, false, ◌&&◌, cond, List, [], ◌∷◌, ℕ, zero, suc, ◌≤◌, ◌<◌, min, length, get_or, leb}
use Rattle.std.proofs.Common.{arith, leb-true}
use Rattle.std.proofs.lemmas.Bool.{lt-leb}
use Rattle.bits.specs.BoolLaws.{and_left, and_right}
use Rattle.events.specs.declared.Fault.{Fault}
use Rattle.events.specs.declared.Fault.TheVariants.{Ov, Uv, Scd, Ocd}
use Rattle.settings.specs.declared.Settings.{Settings}
use Rattle.protection.specs.Streak.{last_all, streak}
use Rattle.protection.specs.StreakLaws.{counts}
use Rattle.limits.specs.Rule.{delay_table, delay_code, short, cap, rule}

-- each delay is at least 1 and at most the cap
abbrev pub fair : ℕ → List ℕ → Bool
fair most [] = true
fair most (x ∷ xs) = leb 1 x && (leb x most && fair most xs)

pub delays_fair : (k : Fault) → fair (cap k) (1 ∷ delay_table k) ≡ true
delays_fair Ov = refl
delays_fair Uv = refl
delays_fair Scd = refl
delays_fair Ocd = refl

-- each code has its delay
pub code_there : (k : Fault) (s : Settings) → delay_code k s < length (delay_table k)
code_there Ov s = omega arith
code_there Uv s = omega arith
code_there Scd s = omega arith
code_there Ocd s = omega arith

pub record Fair (most x : ℕ) : Type 0 where
  pub least : 1 ≤ x
  pub capped : x ≤ most

fair_at : (most : ℕ) (xs : List ℕ) (i : ℕ) → i < length xs → fair most xs ≡ true → Fair most (get_or xs i 0)
fair_at most [] i h e = absurd (omega arith)
fair_at most (x ∷ xs) zero h e =
    record {
      least = leb-true 1 x (and_left (leb 1 x) _ e);
      capped = leb-true x most (and_left (leb x most) (fair most xs) (and_right (leb 1 x) _ e));
    }
fair_at most (x ∷ xs) (suc i) h e =
    fair_at most xs i (omega arith) (and_right (leb x most) (fair most xs) (and_right (leb 1 x) _ e))

pub need_fair : (k : Fault) (s : Settings) → Fair (cap k) (rule k s).need
unfolding rule
need_fair k s = by (short k s)
  where
    by : (b : Bool) → Fair (cap k) (cond b 1 (get_or (delay_table k) (delay_code k s) 0))
    by true = fair_at (cap k) (1 ∷ delay_table k) 0 (omega arith) (delays_fair k)
    by false =
        fair_at (cap k) (delay_table k) (delay_code k s) (code_there k s)
        (and_right (leb 1 (cap k)) _ (and_right (leb 1 1) _ (delays_fair k)))

-- a run that ended raises nothing
pub ended_waits : (k : Fault) (s : Settings) → leb (rule k s).need 0 ≡ false
ended_waits k s = lt-leb (rule k s).need 0 (omega (arith, (need_fair k s).least))

-- a run that stops at its longest delay tells of each fault, under any settings, whether the newest verdicts that it needs are all true
pub run_tells : (k : Fault) (s : Settings) (l : List Bool) → leb (rule k s).need (min (cap k) (streak l)) ≡ last_all (rule k s).need l
run_tells k s l = counts (rule k s).need (cap k) l (need_fair k s).capped
