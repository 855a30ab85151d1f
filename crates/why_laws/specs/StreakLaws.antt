-- CHIP P17: the streak that the walk of why_walk carries is that of demand 3: how many of the newest verdicts on the fault, of the waking
-- spell in which the records so far end, are true. Assumes nothing.
use Rattle.std.specs.Prelude.{◌≡◌, true, false, ◌&&◌, List, eqb, take, ℤ}
use Rattle.std.proofs.Math.Path.{refl, sym, ap}
use Rattle.std.proofs.Common.{◌∙◌, arith, ne_eqb}
use Rattle.std.proofs.Math.Bool.{Bool, cond}
use Prim.Native.Nat.{ℕ, zero, suc, ◌+◌, ◌≤◌}
use Rattle.events.specs.declared.Counts.{Counts}
use Rattle.events.specs.declared.Event.{Event as Coded}
use Rattle.events.specs.declared.Event.TheVariants.{Setup, Por, Boot, Scan, Temp, Count, Sense, Pin, Load, Xready, OnBus, Level, Ticks}
use Rattle.events.specs.declared.Event.TheVariants.{Soak, Wires}
use Rattle.events.specs.Setup.{inputs}
use Rattle.events.specs.declared.Fault.{Fault}
use Rattle.events.specs.declared.Fault.TheVariants.{Ov, Uv, Scd, Ocd}
use Rattle.settings.specs.declared.Settings.{Settings}
use Rattle.limits.specs.Rule.{rule, over, under, beyond}
use Rattle.chip.specs.declared.Chip.{Chip}
use Rattle.chip.specs.Chip.{stepped_by}
use Rattle.chip.specs.Core.{core_of, bare}
use Rattle.demands.proofs.BytesLaws.{place}
use Rattle.demands.specs.Wired.{celled}
use Rattle.plain_due.specs.Streaks.{Streaks}
use Rattle.plain_due.specs.Streaks.{streak_of, no_streaks}
use Rattle.plain_back.specs.declared.Walk.{Walk}
use Rattle.plain_back.specs.Moved.{moved_by}
use Rattle.plain_back.specs.Walk.{goes_on, scan_in, ticks_in, scan_said, ticks_said, walked_by}
use Rattle.why_scan.specs.Scan.{says_scan}
use Rattle.why_walk.specs.Says.{scan_says, ticks_say, event_says, streak_after}
use Rattle.why_laws.specs.LowestLaws.{above_some, between_some}

-- the number of cells says nothing, nor anything else than the setup and the settings
pub says_bare : (b n : ℕ) (c : Chip) (e : Coded) (k : Counts) → event_says b (celled n c) e k ≡ event_says b (bare c.setup (core_of c)) e k
unfolding event_says scan_says ticks_say inputs
says_bare b n c (Setup v) k = refl
says_bare b n c Por k = refl
says_bare b n c Boot k = refl
says_bare b n c Scan k = refl
says_bare b n c Temp k = refl
says_bare b n c (Count m) k = refl
says_bare b n c (Sense v) k = refl
says_bare b n c Pin k = refl
says_bare b n c (Load l) k = refl
says_bare b n c Xready k = refl
says_bare b n c (OnBus x) k = refl
says_bare b n c (Level l) k = refl
says_bare b n c (Ticks v m) k = refl
says_bare b n c (Soak v m) k = refl
says_bare b n c (Wires m) k = refl

-- the ticks of a record
abbrev pub repeats : Coded → ℕ
repeats (Setup v) = 1
repeats Por = 1
repeats Boot = 1
repeats Scan = 1
repeats Temp = 1
repeats (Count m) = 1
repeats (Sense v) = 1
repeats Pin = 1
repeats (Load l) = 1
repeats Xready = 1
repeats (OnBus x) = 1
repeats (Level l) = 1
repeats (Ticks v n) = n
repeats (Soak v n) = n
repeats (Wires m) = 1

-- ── what a record adds to a streak ──
-- verdicts that are all alike
one_by : (v : Bool) (more n : ℕ) → cond v (n + more) 0 ≡ goes_on v more n
one_by true more n = refl
one_by false more n = refl

silent : (k : Fault) (a : Bool) (w : Streaks) → cond a (streak_of k w) 0 ≡ streak_of k (cond a w no_streaks)
silent Ov true w = refl
silent Uv true w = refl
silent Scd true w = refl
silent Ocd true w = refl
silent Ov false w = refl
silent Uv false w = refl
silent Scd false w = refl
silent Ocd false w = refl

-- a fault that the record does not judge
aside : (a : Bool) (n : ℕ) → (a ≡ false → n ≡ 0) → cond a n 0 ≡ n
aside true n z = refl
aside false n z = sym (z refl)

-- one that it judges
judged : (a v t : Bool) (more n : ℕ) → v ≡ t → (a ≡ false → n ≡ 0) → cond a (cond v (n + more) 0) 0 ≡ cond a (goes_on t more n) n
judged true v t more n e z = ap (λ (v : Bool). cond v (n + more) 0) e ∙ one_by t more n
judged false v t more n e z = sym (z refl)

in_ov : (a : Bool) (w v : Streaks) → cond a w.ov v.ov ≡ (cond a w v).ov
in_ov true w v = refl
in_ov false w v = refl

in_uv : (a : Bool) (w v : Streaks) → cond a w.uv v.uv ≡ (cond a w v).uv
in_uv true w v = refl
in_uv false w v = refl

in_scd : (a : Bool) (w v : Streaks) → cond a w.scd v.scd ≡ (cond a w v).scd
in_scd true w v = refl
in_scd false w v = refl

in_ocd : (a : Bool) (w v : Streaks) → cond a w.ocd v.ocd ≡ (cond a w v).ocd
in_ocd true w v = refl
in_ocd false w v = refl

not_zero : (n : ℕ) → eqb (suc n) 0 ≡ false
not_zero n = ne_eqb (suc n) 0 (λ z. omega (arith, z))

same_cond : (a : Bool) (n : ℕ) → cond a n n ≡ n
same_cond true n = refl
same_cond false n = refl

module _ (c : Chip) (w : Streaks) (asleep : (k : Fault) → c.normal ≡ false → streak_of k w ≡ 0) where
  abbrev a : Bool
  a = c.normal

  -- a scan
  scan_adds : (k : Fault) (xs : List ℕ) → streak_after (scan_says (place k) c xs) c.normal (streak_of k w) ≡ streak_of k (scan_said c xs w)
  unfolding streak_after scan_says scan_said over under rule
  scan_adds Ov xs =
      let s : Settings = c.registers.settings in
      judged a _ (over (rule Ov s) xs) 1 w.ov (ap (λ (t : Bool). s.adc_en && t) (above_some c.setup.floor (rule Ov s).limit xs))
      (asleep Ov) ∙ in_ov a (scan_in c xs w) w
  scan_adds Uv xs =
      let s : Settings = c.registers.settings in
      judged a _ (under c.setup.floor (rule Uv s) xs) 1 w.uv
      (ap (λ (t : Bool). s.adc_en && t) (between_some c.setup.floor (rule Uv s).limit xs)) (asleep Uv)
      ∙ in_uv a (scan_in c xs w) w
  scan_adds Scd xs = aside a w.scd (asleep Scd) ∙ sym (same_cond a w.scd) ∙ in_scd a (scan_in c xs w) w
  scan_adds Ocd xs = aside a w.ocd (asleep Ocd) ∙ sym (same_cond a w.ocd) ∙ in_ocd a (scan_in c xs w) w

  -- ticks, one at least
  ticks_add : (k : Fault) (v : ℤ) (n : ℕ)
      → streak_after (ticks_say (place k) c v (suc n)) c.normal (streak_of k w) ≡ streak_of k (ticks_said c v (suc n) w)
  unfolding streak_after ticks_say ticks_said
  ticks_add Ov v n = aside a w.ov (asleep Ov) ∙ sym (same_cond a w.ov) ∙ in_ov a (ticks_in c v (suc n) w) w
  ticks_add Uv v n = aside a w.uv (asleep Uv) ∙ sym (same_cond a w.uv) ∙ in_uv a (ticks_in c v (suc n) w) w
  ticks_add Scd v n =
      let t : Bool = beyond (rule Scd c.registers.settings) v in
      ap (λ (z : Bool). cond a (cond z w.scd (cond t (w.scd + suc n) 0)) 0) (not_zero n)
      ∙ judged a t t (suc n) w.scd refl (asleep Scd) ∙ in_scd a (ticks_in c v (suc n) w) w
  ticks_add Ocd v n =
      let t : Bool = beyond (rule Ocd c.registers.settings) v in
      ap (λ (z : Bool). cond a (cond z w.ocd (cond t (w.ocd + suc n) 0)) 0) (not_zero n)
      ∙ judged a t t (suc n) w.ocd refl (asleep Ocd) ∙ in_ocd a (ticks_in c v (suc n) w) w

  abbrev w0 : Walk
  w0 = record { chip = c; said = w }

  -- ONE RECORD: the streak goes on as plain_back's does
  abbrev Adds : Fault → Coded → Counts → Type 0
  Adds k e q =
      streak_after (event_says (place k) c e q) (walked_by e q w0).chip.normal (streak_of k w) ≡ streak_of k (walked_by e q w0).said

  pub adds : (k : Fault) (e : Coded) (q : Counts) → 1 ≤ repeats e → Adds k e q
  unfolding streak_after event_says walked_by moved_by
  adds k (Setup v) q h = same_said k
    where
      same_said : (k : Fault) → cond a (streak_of k w) 0 ≡ streak_of k w
      same_said k = aside a (streak_of k w) (asleep k)
  adds k Por q h = silent k (stepped_by Por q c).chip.normal w
  adds k Boot q h = silent k (stepped_by Boot q c).chip.normal w
  adds k Scan q h = scan_adds k (take (inputs c.setup) q.of)
  adds k Temp q h = silent k (stepped_by Temp q c).chip.normal w
  adds k (Count n) q h = silent k (stepped_by (Count n) q c).chip.normal w
  adds k (Sense v) q h = ticks_add k v 0
  adds k Pin q h = silent k (stepped_by Pin q c).chip.normal w
  adds k (Load l) q h = silent k (stepped_by (Load l) q c).chip.normal w
  adds k Xready q h = silent k (stepped_by Xready q c).chip.normal w
  adds k (OnBus x) q h = silent k (stepped_by (OnBus x) q c).chip.normal w
  adds k (Level l) q h = silent k (stepped_by (Level l) q c).chip.normal w
  adds k (Ticks v zero) q h = absurd (omega (arith, h))
  adds k (Ticks v (suc n)) q h = ticks_add k v n
  adds k (Soak v zero) q h = absurd (omega (arith, h))
  adds k (Soak v (suc n)) q h = ticks_add k v n
  adds k (Wires n) q h = aside a (streak_of k w) (asleep k)
