-- CHIP P17, J2, J3: of OV and UV the input that is named is outside by the limit that stood, no lower one is, and the count that is given
-- is its own: of the scan at which the bit rose. Assumes nothing.
use Rattle.std.specs.Prelude.{◌≡◌, Bool, true, false, cond, not, List, [], ◌∷◌, ◌++◌, ℕ, zero, suc, ◌-◌, ◌≤◌, length, get_or}
use Rattle.std.proofs.Math.Path.{refl}
use Rattle.std.proofs.Common.{sym, ap, subst, ◌∙◌, true≢false, arith, length-append}
use Rattle.events.specs.declared.Setup.{Setup as SetupValues}
use Rattle.events.specs.declared.Counts.{Counts}
use Rattle.events.specs.declared.Event.{Event as Coded}
use Rattle.events.specs.declared.Event.TheVariants.{Setup, Por, Boot, Scan, Temp, Count, Sense, Pin, Load, Xready, OnBus, Level, Ticks}
use Rattle.events.specs.declared.Event.TheVariants.{Soak, Wires}
use Rattle.events.specs.Event.{Event, Scan as Scanned, unfit, counts_fit, counts_wanted, event_of, meant_of}
use Rattle.events.specs.declared.Fault.{Fault}
use Rattle.events.specs.declared.Fault.TheVariants.{Ov, Uv, Scd, Ocd}
use Rattle.bits.specs.BoolLaws.{and_left, and_right}
use Rattle.settings.specs.declared.Settings.{Settings}
use Rattle.cell_counts.specs.Scan.{some}
use Rattle.protection.specs.Streak.{last_all}
use Rattle.protection.specs.StreakLaws.{last_all_is}
use Rattle.limits.specs.Rule.{rule, over, under, opinion}
use Rattle.protection.specs.TablesLaws.{need_fair}
use Rattle.chip.specs.Core.{bare}
use Rattle.demands.specs.Demand.{of_cells, judges, core, standing, verdicts, delay}
use Rattle.demands.proofs.History.{verdicts_are}
use Rattle.demands.proofs.BytesLaws.{place}
use Rattle.why_scan.specs.declared.Says.{Says}
use Rattle.why_scan.specs.Scan.{is_outside, lowest, says_scan}
use Rattle.why_walk.specs.Says.{scan_says}
use Rattle.why_laws.specs.LowestLaws.{LowestAt, lowest_is, lowest-some}
use Rattle.why_laws.specs.DueLaws.{Alike, alike_by, RisesAt}

-- what is outside, for a fault of the cells
abbrev pub outside_of : Fault → ℕ → ℕ → ℕ → Bool
outside_of Ov floor limit x = is_outside true floor limit x
outside_of Uv floor limit x = is_outside false floor limit x
outside_of Scd floor limit x = false
outside_of Ocd floor limit x = false

-- one event alone
pub single : {A : Type 0} (a e : A) (newer older : List A) → a ∷ [] ≡ newer ++ e ∷ older → (e ≡ a) × (older ≡ [])
single a e [] older h = (cc, cc)
single a e (x ∷ newer) older h = absurd (omega (arith, ap length h, length-append newer (e ∷ older)))

first_true : (d : ℕ) (v : Bool) (l : List Bool) → 1 ≤ d → last_all d (v ∷ l) ≡ true → v ≡ true
first_true zero v l h e = absurd (omega (arith, h))
first_true (suc d) v l h e = and_left v (last_all d l) e

module _ (u : SetupValues) (k : Fault) (cells : of_cells k ≡ true) where
  -- ── only a SCAN means what judges a fault of the cells ──
  pub of_member : (t : Bool) (es newer older : List Event) (e : Event) → Alike u k t es → es ≡ newer ++ e ∷ older → judges k e ≡ t
  of_member t es [] older e a q = (subst (Alike u k t) q a).0
  of_member t es (x ∷ newer) older e a q = of_member t (newer ++ e ∷ older) newer older e (subst (Alike u k t) q a).1 refl

  no_tick : not (of_cells k) ≡ true → ⊥
  no_tick h = true≢false (sym h ∙ ap not cells)

  pub record OnlyScan (e : Coded) (q : Counts) : Type 0 where
    pub is : e ≡ Scan
    pub fit : counts_fit (counts_wanted u e) q ≡ true

  none : (e : Coded) (q : Counts) → ◌≡◌ {A = Bool} false true → OnlyScan e q
  none e q h = absurd (true≢false (sym h))

  scan_by : (e : Coded) (q : Counts) (t : Bool) → counts_fit (counts_wanted u e) q ≡ t
      → alike_by u k (cond t (event_of u e q.of) unfit) ≡ true → OnlyScan e q
  scan_by e q false f h = none e q h
  scan_by (Setup v) q true f h = none (Setup v) q h
  scan_by Por q true f h = none Por q h
  scan_by Boot q true f h = none Boot q h
  scan_by Scan q true f h = record { is = refl; fit = f }
  scan_by Temp q true f h = none Temp q h
  scan_by (Count n) q true f h = none (Count n) q h
  scan_by (Sense v) q true f h = absurd (no_tick h)
  scan_by Pin q true f h = none Pin q h
  scan_by (Load l) q true f h = none (Load l) q h
  scan_by Xready q true f h = none Xready q h
  scan_by (OnBus x) q true f h = none (OnBus x) q h
  scan_by (Level l) q true f h = none (Level l) q h
  scan_by (Ticks v n) q true f h = absurd (no_tick h)
  scan_by (Soak v n) q true f h = absurd (no_tick h)
  scan_by (Wires n) q true f h = none (Wires n) q h

  pub only_scan : (e : Coded) (q : Counts) → alike_by u k (meant_of u e q) ≡ true → OnlyScan e q
  unfolding meant_of
  only_scan e q h = scan_by e q (counts_fit (counts_wanted u e) q) refl h

  -- ── the scan at which it rose ──
  module _ (past : List Event) (xs : List ℕ) (at : RisesAt u k past (Scanned xs)) where
    abbrev s : Settings
    s = standing u past

    verdict_so : (v : Bool) → opinion k u.floor (rule k s) (Scanned xs) ≡ v ∷ [] → v ≡ true
    verdict_so v q =
        first_true (delay u k (Scanned xs ∷ past)) v (verdicts u k past) (need_fair k (standing u (Scanned xs ∷ past))).least
        (ap (last_all (delay u k (Scanned xs ∷ past)))
        (sym (verdicts_are u k past (Scanned xs) at.judged at.taken ∙ ap (λ (l : List Bool). l ++ verdicts u k past) q))
        ∙ (last_all_is (delay u k (Scanned xs ∷ past)) (verdicts u k (Scanned xs ∷ past))).1 at.due)

  -- THE INPUT
  pub record Names (past : List Event) (w : Says) : Type 0 where
    pub counts : List ℕ
    pub lowest_at : LowestAt (outside_of k u.floor (rule k (standing u past)).limit) counts 1 w.input
    pub value_is : w.value ≡ get_or counts (w.input - 1) 0

names_by : (u : SetupValues) (k : Fault) (cells : of_cells k ≡ true) (past : List Event) (xs : List ℕ) (w : Says) (on : Bool)
    → some (outside_of k u.floor (rule k (standing u past)).limit) xs ≡ true
    → w ≡ says_scan on (outside_of k u.floor (rule k (standing u past)).limit) xs → Names u k cells past w
names_by u k cells past xs w on h q =
    let such : ℕ → Bool = outside_of k u.floor (rule k (standing u past)).limit in
    subst (Names u k cells past) (sym q)
    (record {
      counts = xs;
      lowest_at = lowest_is such 0 xs h;
      value_is = ap (λ (t : Bool). cond t (get_or xs (lowest such 1 xs - 1) 0) 0) (lowest-some such 0 xs ∙ h);
    })

pub names_scan : (u : SetupValues) (k : Fault) (cells : of_cells k ≡ true) (past : List Event) (xs : List ℕ) → RisesAt u k past (Scanned xs)
    → Names u k cells past (scan_says (place k) (bare u (core u past)) xs)
unfolding scan_says over under rule
names_scan u Ov cells past xs at =
    names_by u Ov cells past xs _ (standing u past).adc_en
    (and_right (standing u past).adc_en _ (verdict_so u Ov cells past xs at (over (rule Ov (standing u past)) xs) refl)) refl
names_scan u Uv cells past xs at =
    names_by u Uv cells past xs _ (standing u past).adc_en
    (and_right (standing u past).adc_en _ (verdict_so u Uv cells past xs at (under u.floor (rule Uv (standing u past)) xs) refl)) refl
names_scan u Scd cells past xs at = absurd (true≢false (sym cells))
names_scan u Ocd cells past xs at = absurd (true≢false (sym cells))
