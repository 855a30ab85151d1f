-- CHIP R8: ticks of one value, one after the other, and what they come to without counting them one by one: the runs by
-- their number, and what is due at the last of them, since what was due at one stays due at the next. Assumes nothing.
use Rattle.std.specs.Prelude.{◌≡◌, ◌≢◌, refl, Bool, true, false, ◌&&◌, cond, ℕ, zero, suc, ◌+◌, ◌≤◌, min, ltb, ℤ, replicate}
use Rattle.std.proofs.Common.{ap, sym, ◌∙◌, true≢false, arith, le-leb, leb-true, lt-ltb}
use Rattle.events.specs.declared.Fault.{Fault}
use Rattle.events.specs.declared.Fault.TheVariants.{Scd, Ocd}
use Rattle.events.specs.Fault.{faults_of}
use Rattle.settings.specs.declared.Settings.{Settings}
use Rattle.protection.specs.Fault.{Runs}
use Rattle.protection.specs.declared.Judged.{Judged}
use Rattle.protection.specs.Streak.{bumps}
use Rattle.limits.specs.Rule.{cap, rule, beyond}
use Rattle.protection.specs.Judged.{lasts, tick_judged}

-- that many ticks, each judged after the one before it; what rises is what the last one raises
unfoldable pub ticks_judged : ℕ → Settings → ℤ → Runs → Judged
ticks_judged zero s v n = record { runs = n; risen = faults_of (λ k. false) }
ticks_judged (suc m) s v n = tick_judged s v (ticks_judged m s v n).runs

-- ── a run after n verdicts that are all alike ──
abbrev pub alike : ℕ → Bool → ℕ → ℕ → ℕ
alike cap b n run = bumps cap (replicate n b) run

-- over: n longer, up to the cap; not over: ended
pub alike_over : (cap n run : ℕ) → alike cap true (suc n) run ≡ min cap (run + suc n)
alike_over cap zero run = omega arith
alike_over cap (suc n) run = let h : alike cap true (suc n) run ≡ min cap (run + suc n) = alike_over cap n run in omega (arith, h)

pub alike_not : (cap n run : ℕ) → alike cap false (suc n) run ≡ 0
alike_not cap n run = refl

-- so by their number
pub alike_more : (most n run : ℕ) (b : Bool) → n ≢ 0 → alike most b n run ≡ cond b (min most (run + n)) 0
alike_more most zero run b h = absurd (h refl)
alike_more most (suc n) run true h = alike_over most n run
alike_more most (suc n) run false h = refl

-- what is due at one of them is due at the next
pub due_stays : (k : Fault) (s : Settings) (b : Bool) (n run : ℕ) → lasts k s (alike (cap k) b (suc n) run) ≡ true
    → lasts k s (alike (cap k) b (suc (suc n)) run) ≡ true
due_stays k s true n run h =
    let l : (rule k s).need ≤ min (cap k) (run + suc n) =
    leb-true (rule k s).need _ (ap (lasts k s) (sym (alike_over (cap k) n run)) ∙ h) in
    ap (lasts k s) (alike_over (cap k) (suc n) run) ∙ le-leb (rule k s).need _ (omega arith)
due_stays k s false n run h = h

-- ── so one look is enough ──
abbrev pub runs_alike : ℕ → Settings → ℤ → Runs → Runs
runs_alike m s v n =
    record {
      ov = n.ov;
      uv = n.uv;
      scd = alike (cap Scd) (beyond (rule Scd s) v) m n.scd;
      ocd = alike (cap Ocd) (beyond (rule Ocd s) v) m n.ocd;
    }

pub ticks_runs : (m : ℕ) (s : Settings) (v : ℤ) (n : Runs) → (ticks_judged m s v n).runs ≡ runs_alike m s v n
unfolding ticks_judged tick_judged
ticks_runs zero s v n = refl
ticks_runs (suc m) s v n = ap (λ (r : Runs). (tick_judged s v r).runs) (ticks_runs m s v n)

abbrev pub ticks_alike : ℕ → Settings → ℤ → Runs → Judged
ticks_alike m s v n =
    record {
      runs = runs_alike m s v n;
      risen = record {
        ov = false;
        uv = false;
        scd = ltb 0 m && lasts Scd s (runs_alike m s v n).scd;
        ocd = ltb 0 m && lasts Ocd s (runs_alike m s v n).ocd;
      };
    }

pub ticks_alike_lem : (m : ℕ) (s : Settings) (v : ℤ) (n : Runs) → ticks_judged m s v n ≡ ticks_alike m s v n
unfolding ticks_judged tick_judged
ticks_alike_lem zero s v n = refl
ticks_alike_lem (suc m) s v n = simp (ticks_runs m s v n, lt-ltb 0 (suc m) (omega arith))

-- what they raise, and what one more raises
due_scd : (m : ℕ) (s : Settings) (v : ℤ) (n : Runs)
    → (ticks_judged (suc m) s v n).risen.scd ≡ lasts Scd s (alike (cap Scd) (beyond (rule Scd s) v) (suc m) n.scd)
unfolding ticks_judged tick_judged
due_scd m s v n = ap (λ (r : Runs). (tick_judged s v r).risen.scd) (ticks_runs m s v n)

due_ocd : (m : ℕ) (s : Settings) (v : ℤ) (n : Runs)
    → (ticks_judged (suc m) s v n).risen.ocd ≡ lasts Ocd s (alike (cap Ocd) (beyond (rule Ocd s) v) (suc m) n.ocd)
unfolding ticks_judged tick_judged
due_ocd m s v n = ap (λ (r : Runs). (tick_judged s v r).risen.ocd) (ticks_runs m s v n)

pub scd_stays : (m : ℕ) (s : Settings) (v : ℤ) (n : Runs) → (ticks_judged m s v n).risen.scd ≡ true
    → (ticks_judged (suc m) s v n).risen.scd ≡ true
unfolding ticks_judged
scd_stays zero s v n h = absurd (true≢false (sym h))
scd_stays (suc m) s v n h = due_scd (suc m) s v n ∙ due_stays Scd s (beyond (rule Scd s) v) m n.scd (sym (due_scd m s v n) ∙ h)

pub ocd_stays : (m : ℕ) (s : Settings) (v : ℤ) (n : Runs) → (ticks_judged m s v n).risen.ocd ≡ true
    → (ticks_judged (suc m) s v n).risen.ocd ≡ true
unfolding ticks_judged
ocd_stays zero s v n h = absurd (true≢false (sym h))
ocd_stays (suc m) s v n h = due_ocd (suc m) s v n ∙ due_stays Ocd s (beyond (rule Ocd s) v) m n.ocd (sym (due_ocd m s v n) ∙ h)
