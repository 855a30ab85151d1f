-- What the plain engine decides: in the words of CHIP H1 and H2, by the verdicts of the records before, with no counter named; and
-- as the base engine decides whose runs are what those records say. Assumes nothing.
use Rattle.std.specs.Prelude.{◌≡◌, Bool, ◌&&◌, List, ◌∷◌, ◌++◌, ℕ, suc, ◌+◌, ◌≤◌, ◌<◌, min, leb, ltb, ℤ, replicate}
use Rattle.std.proofs.Math.Path.{refl, ap}
use Rattle.std.proofs.Common.{sym, ◌∙◌, arith, le-leb, leb-true, leb-false, lt-ltb}
use Rattle.std.proofs.Math.Bool.{true, false, cond}
use Rattle.std.proofs.lemmas.Bool.{lt-leb}
use Rattle.events.specs.Fault.{Faults}
use Rattle.events.specs.Event.{Scan, Sense}
use Rattle.events.specs.declared.Fault.{Fault}
use Rattle.events.specs.declared.Fault.TheVariants.{Ov, Uv, Scd, Ocd}
use Rattle.events.specs.Fault.{among}
use Rattle.cell_counts.specs.Scan.{some_above, some_between}
use Rattle.settings.specs.declared.Settings.{Settings}
use Rattle.registers.specs.declared.Shown.{Shown}
use Rattle.registers.specs.State.{with_shown}
use Rattle.registers.specs.Fault.{raised}
use Rattle.registers.specs.Judging.{scanned}
use Rattle.protection.specs.Fault.{Runs}
use Rattle.protection.specs.declared.Judged.{Judged}
use Rattle.protection.specs.Streak.{last_all, streak}
use Rattle.protection.specs.StreakLaws.{bumps-streak}
use Rattle.protection.specs.Fault.{runs_of}
use Rattle.limits.specs.Rule.{cap, rule, over, under, beyond}
use Rattle.protection.specs.Runs.{risen}
use Rattle.protection.specs.Judged.{lasts}
use Rattle.protection.specs.Repeat.{ticks_judged, alike, alike_over, ticks_alike_lem}
use Rattle.protection.specs.TablesLaws.{need_fair, ended_waits, run_tells}
use Rattle.chip.specs.declared.Chip.{Chip}
use Rattle.chip.specs.Answer.{Stepped}
use Rattle.chip.specs.Chip.{numbered, with_registers, watched, settled, normally, asleep, happened, ticking, ticked}
use Rattle.chip.specs.Parts.{raised_by, tick_parts}
use Rattle.chip.specs.Calm.{Calmed}
use Rattle.chip.proofs.Calm.{calm_tick}
use Rattle.chip.proofs.RepeatLaws.{ticking_is}
use Rattle.plain_due.specs.Streaks.{Streaks}
use Rattle.plain_due.specs.Streaks.{streak_of}
use Rattle.plain_due.specs.Decision.{due, scan_due, ticks_due}
use Rattle.plain_back.specs.Said.{verdicts_in, streaks_in}
use Rattle.plain.specs.Decision.{scan_shown, ticks_shown, scan_done, ticks_done}
use Rattle.plain.specs.AsideLaws.{unrun, unrun_in}

-- the runs that a base engine would have: how many in a row say yes, cut at the longest delay
abbrev pub runs_from : Streaks → Runs
runs_from w = runs_of (λ k. min (cap k) (streak_of k w))

-- ── as many as are asked for: by number, as runs tell ──
due_run : (k : Fault) (s : Settings) (b : Bool) (m n : ℕ)
    → due b (suc m) n (rule k s).need ≡ lasts k s (alike (cap k) b (suc m) (min (cap k) n))
due_run k s true m n = by (leb (rule k s).need (n + suc m)) refl ∙ ap (lasts k s) (sym (alike_over (cap k) m (min (cap k) n)))
  where
    by : (t : Bool) → leb (rule k s).need (n + suc m) ≡ t
        → leb (rule k s).need (n + suc m) ≡ leb (rule k s).need (min (cap k) (min (cap k) n + suc m))
    by true e =
        let l : (rule k s).need ≤ n + suc m = leb-true _ _ e in
        let f : (rule k s).need ≤ cap k = (need_fair k s).capped in
        e ∙ sym (le-leb (rule k s).need (min (cap k) (min (cap k) n + suc m)) (omega arith))
    by false e =
        let l : n + suc m < (rule k s).need = leb-false _ _ e in
        e ∙ sym (lt-leb (rule k s).need (min (cap k) (min (cap k) n + suc m)) (omega arith))
due_run k s false m n = sym (ended_waits k s)

-- .. and by the verdicts: as many of the newest as the delay asks for are there and each is yes
pub due_verdicts : (k : Fault) (s : Settings) (b : Bool) (m : ℕ) (l : List Bool)
    → due b (suc m) (streak l) (rule k s).need ≡ last_all (rule k s).need (replicate (suc m) b ++ l)
due_verdicts k s b m l =
    due_run k s b m (streak l) ∙ ap (lasts k s) (bumps-streak (cap k) (replicate (suc m) b) l) ∙ run_tells k s (replicate (suc m) b ++ l)

-- ── WHAT IT DECIDES: a scan raises OV (UV) exactly where the newest verdicts of this waking spell, its own included and as many as the
-- delay now set, are there and all true ──
pub decides : (floor : ℕ) (s : Settings) (xs : List ℕ) (before : List ℕ)
    → scan_due s (some_above (rule Ov s).limit xs) (some_between floor (rule Uv s).limit xs) (streaks_in before)
    ≡ record {
      ov = last_all (rule Ov s).need (over (rule Ov s) xs ∷ verdicts_in Ov before);
      uv = last_all (rule Uv s).need (under floor (rule Uv s) xs ∷ verdicts_in Uv before);
      scd = false;
      ocd = false;
    }
unfolding scan_due streaks_in rule over under
decides floor s xs before =
    λ i.
    record {
      ov = due_verdicts Ov s (over (rule Ov s) xs) 0 (verdicts_in Ov before) i;
      uv = due_verdicts Uv s (under floor (rule Uv s) xs) 0 (verdicts_in Uv before) i;
      scd = false;
      ocd = false;
    }

-- .. and of ticks of one value every one counts
pub decides_ticks : (m : ℕ) (s : Settings) (v : ℤ) (before : List ℕ)
    → ticks_due s v (suc m) (streaks_in before)
    ≡ record {
      ov = false;
      uv = false;
      scd = last_all (rule Scd s).need (replicate (suc m) (beyond (rule Scd s) v) ++ verdicts_in Scd before);
      ocd = last_all (rule Ocd s).need (replicate (suc m) (beyond (rule Ocd s) v) ++ verdicts_in Ocd before);
    }
unfolding ticks_due streaks_in
decides_ticks m s v before =
    λ i.
    record {
      ov = false;
      uv = false;
      scd = due_verdicts Scd s (beyond (rule Scd s) v) m (verdicts_in Scd before) i;
      ocd = due_verdicts Ocd s (beyond (rule Ocd s) v) m (verdicts_in Ocd before) i;
    }

-- ── what a base engine with those runs raises ──
scan_risen : (floor : ℕ) (s : Settings) (w : Streaks) (xs : List ℕ) (k : Fault)
    → among (scan_due s (some_above (rule Ov s).limit xs) (some_between floor (rule Uv s).limit xs) w) k
    ≡ risen floor s (runs_from w) (Scan xs) k
unfolding scan_due rule over under
scan_risen floor s w xs Ov = due_run Ov s (over (rule Ov s) xs) 0 w.ov
scan_risen floor s w xs Uv = due_run Uv s (under floor (rule Uv s) xs) 0 w.uv
scan_risen floor s w xs Scd = refl
scan_risen floor s w xs Ocd = refl

ticks_risen : (m : ℕ) (s : Settings) (v : ℤ) (w : Streaks) → ticks_due s v (suc m) w ≡ (ticks_judged (suc m) s v (runs_from w)).risen
unfolding ticks_due
ticks_risen m s v w =
    (λ i. record { ov = false; uv = false; scd = told Scd i; ocd = told Ocd i })
    ∙ sym (ap (λ (j : Judged). j.risen) (ticks_alike_lem (suc m) s v (runs_from w)))
  where
    told : (k : Fault)
        → due (beyond (rule k s) v) (suc m) (streak_of k w) (rule k s).need
        ≡ ltb 0 (suc m) && lasts k s (alike (cap k) (beyond (rule k s) v) (suc m) (min (cap k) (streak_of k w)))
    told k =
        due_run k s (beyond (rule k s) v) m (streak_of k w)
        ∙ ap (λ (b : Bool). b && lasts k s (alike (cap k) (beyond (rule k s) v) (suc m) (min (cap k) (streak_of k w))))
        (sym (lt-ltb 0 (suc m) (omega arith)))

raised_by_lem : {f g : Fault → Bool} → ((k : Fault) → f k ≡ g k) → (s : Shown) → raised f s ≡ raised g s
raised_by_lem h s = λ i. raised (λ k. h k i) s

-- ── SO A SCAN and ticks are the base engine's, on a chip that has those runs, but for the runs ──
module _ (w : Streaks) (c : Chip) (q : runs_from w ≡ c.runs) where
  abbrev s : Settings
  s = c.registers.settings

  pub scan_same : (xs : List ℕ) → scan_done w xs (unrun c) ≡ unrun_in (happened (Scan xs) c)
  unfolding scan_done happened
  scan_same xs = by c.normal
    where
      by : (a : Bool)
          → cond a (numbered 0 (scan_shown w xs (unrun c))) (numbered 4 (unrun c))
          ≡ unrun_in (cond a (settled (normally (Scan xs) c)) (asleep (Scan xs) c))
      by true =
          ap (λ (r : Shown). numbered 0 (watched (with_registers (with_shown r (scanned xs c.registers)) (unrun c))))
          (raised_by_lem (λ k. scan_risen c.setup.floor s w xs k ∙ ap (λ (n : Runs). risen c.setup.floor s n (Scan xs) k) q)
          c.registers.shown)
      by false = refl

  pub tick_same : (v : ℤ) → ticks_done w v 1 (unrun c) ≡ unrun_in (happened (Sense v) c)
  unfolding ticks_done happened ticks_judged
  tick_same v = by c.normal
    where
      by : (a : Bool)
          → cond a (numbered 0 (ticks_shown w v 1 (unrun c))) (numbered 4 (unrun c))
          ≡ unrun_in (cond a (settled (normally (Sense v) c)) (asleep (Sense v) c))
      by true =
          ap (λ (f : Faults). numbered 0 (watched (raised_by f (unrun c))))
          (ticks_risen 0 s v w ∙ ap (λ (n : Runs). (ticks_judged 1 s v n).risen) q)
          ∙ ap (λ (x : Stepped). unrun_in (settled x)) (tick_parts v c)
      by false = refl

  pub ticks_same : (m : ℕ) (v : ℤ) → Calmed c → ticks_done w v (suc m) (unrun c) ≡ unrun_in (ticked (suc m) v c)
  unfolding ticks_done
  ticks_same m v k = by c.normal refl
    where
      j : Judged
      j = ticks_judged (suc m) s v c.runs

      by : (a : Bool) → c.normal ≡ a
          → cond a (numbered 0 (ticks_shown w v (suc m) (unrun c))) (numbered 4 (unrun c))
          ≡ unrun_in (cond a (numbered 0 (ticking (suc m) v c)) (numbered 4 c))
      by true a =
          ap (λ (f : Faults). numbered 0 (watched (raised_by f (unrun c))))
          (ticks_risen m s v w ∙ ap (λ (n : Runs). (ticks_judged (suc m) s v n).risen) q)
          ∙ ap (λ (d : Chip). numbered 0 (unrun d)) (sym (ticking_is (suc m) v c a k ∙ calm_tick j.risen j.runs c k))
      by false a = refl
