-- What one event does to the run of a fault: it counts the verdicts of the waking spell, cut at the longest delay. Assumes nothing.
use Rattle.std.specs.Prelude.{◌≡◌, refl, Bool, true, false, ◌||◌, cond, List, [], ◌++◌, ℕ, min, leb}
use Rattle.std.proofs.Common.{sym, ap, ◌∙◌}
use Rattle.std.proofs.Math.Bool.{or_comm}
use Rattle.std.proofs.Math.Nat.{min-zero}
use Rattle.events.specs.declared.Setup.{Setup}
use Rattle.events.specs.declared.BusEvent.{BusEvent}
use Rattle.events.specs.declared.BusEvent.TheVariants.{Start, Stop, Out, In}
use Rattle.events.specs.Event.{Event, Por, Boot, Pin, Xready, Scan, Temp, Count, Sense, Load, OnBus, Level, fits}
use Rattle.events.specs.declared.Fault.{Fault}
use Rattle.events.specs.declared.Fault.TheVariants.{Ov, Uv, Scd, Ocd}
use Rattle.registers.specs.Fault.{bit_of, raised}
use Rattle.bus.specs.Bus.{outed}
use Rattle.registers.specs.declared.Shown.{Shown}
use Rattle.registers.specs.LevelLaws.{level_bit}
use Rattle.protection.specs.Streak.{last_all, streak, bumps}
use Rattle.protection.specs.StreakLaws.{bumps-streak}
use Rattle.protection.specs.Fault.{run_of, runs_of}
use Rattle.limits.specs.declared.Rule.{Rule}
use Rattle.limits.specs.Rule.{cap, rule, opinion}
use Rattle.protection.specs.Runs.{some_opinion, run_after, risen}
use Rattle.protection.specs.TablesLaws.{run_tells}
use Rattle.chip.specs.declared.Chip.{Chip}
use Rattle.chip.specs.Chip.{numbered, in_ship, on_bus, settled, normally, asleep, happened, stepped, next}
use Rattle.chip.specs.Core.{core_of}
use Rattle.chip.proofs.MovesLaws.{normal_is, next_by, stored_by, asleep_by}
use Rattle.demands.specs.Demand.{judges}

-- ── four values are those that they show ──
pub run_of_lem : (f : Fault → ℕ) (k : Fault) → run_of k (runs_of f) ≡ f k
run_of_lem f Ov = refl
run_of_lem f Uv = refl
run_of_lem f Scd = refl
run_of_lem f Ocd = refl

bit_raised : (r : Fault → Bool) (s : Shown) (k : Fault) → bit_of k (raised r s).status ≡ r k || bit_of k s.status
bit_raised r s Ov = refl
bit_raised r s Uv = refl
bit_raised r s Scd = refl
bit_raised r s Ocd = refl

-- ── one event and the run of k ──
-- what the event says of k on this chip
abbrev pub heard : Fault → Event → Chip → List Bool
heard k e c = cond (fits e) (opinion k c.setup.floor (rule k c.registers.settings) e) []

module _ (k : Fault) (l : List Bool) where
  -- the run of this chip counts the verdicts l, and in SHIP there are none
  abbrev pub Tells : Chip → List Bool → Type 0
  Tells d w = run_of k d.runs ≡ min (cap k) (streak (cond d.normal w []))

  abbrev pub Told : Chip → Type 0
  Told c = (run_of k c.runs ≡ min (cap k) (streak l)) × (c.normal ≡ false → l ≡ [])

  none_told : (u : Setup) (w : List Bool) → Tells (in_ship u) w
  none_told u w = run_of_lem (λ k. 0) k ∙ sym (min-zero (cap k))

  -- an event that says nothing and moves neither mode nor runs
  still_told : (c : Chip) → Told c → Tells c l
  still_told c h = by c.normal h.1
    where
      by : (a : Bool) → (a ≡ false → l ≡ []) → run_of k c.runs ≡ min (cap k) (streak (cond a l []))
      by true z = h.0
      by false z = rw (z refl) at h.0

  -- in SHIP whatever it says
  sleeps : (c : Chip) (w : List Bool) → Told c → c.normal ≡ false → Tells c w
  sleeps c w h z = rw z (rw (h.1 z) at h.0)

  judged_told : (e : Event) (c : Chip) → Told c → c.normal ≡ true
      → run_of k (runs_of (run_after c.setup.floor c.registers.settings c.runs e))
      ≡ min (cap k) (streak (cond c.normal (opinion k c.setup.floor (rule k c.registers.settings) e ++ l) []))
  judged_told e c h a =
      rw a (
      run_of_lem (run_after c.setup.floor c.registers.settings c.runs e) k
      ∙ ap (bumps (cap k) (opinion k c.setup.floor (rule k c.registers.settings) e)) h.0
      ∙ bumps-streak (cap k) (opinion k c.setup.floor (rule k c.registers.settings) e) l
      )

  bus_told : (b : BusEvent) (c : Chip) → Told c → c.normal ≡ true → Tells (on_bus b c).chip l
  bus_told Start c h a = still_told c h
  bus_told Stop c h a = still_told c h
  bus_told (Out b) c h a =
      stored_by (λ d. Tells d l) (outed c.setup c.bus.line b).line (outed c.setup c.bus.line b).store c
      (λ t. still_told c h) (λ a v t s. none_told c.setup l) (λ a v t s. still_told c h)
  bus_told (In nack) c h a = still_told c h

  normal_told : (e : Event) (c : Chip) → Told c → c.normal ≡ true
      → Tells (normally e c).chip (opinion k c.setup.floor (rule k c.registers.settings) e ++ l)
  normal_told Por c h a = none_told c.setup l
  normal_told Boot c h a = still_told c h
  normal_told Pin c h a = still_told c h
  normal_told Xready c h a = still_told c h
  normal_told (Scan xs) c h a = judged_told (Scan xs) c h a
  normal_told (Temp xs) c h a = still_told c h
  normal_told (Count n) c h a = still_told c h
  normal_told (Sense v) c h a = judged_told (Sense v) c h a
  normal_told (Load x) c h a = still_told c h
  normal_told (OnBus b) c h a = bus_told b c h a
  normal_told (Level x) c h a = still_told c h

  pub next_told : (e : Event) (c : Chip) → Told c → Tells (next e c) (heard k e c ++ l)
  next_told e c h =
      next_by (λ d. Tells d (heard k e c ++ l)) e c
      (λ f a. rw f (normal_told e c h a))
      (λ f a. asleep_by (λ d. Tells d (heard k e c ++ l)) e c (none_told c.setup (heard k e c ++ l)) (λ w. rw (f, w) h.0)
      (sleeps c (heard k e c ++ l) h a))
      (λ f. rw f (still_told c h))

-- ── an accepted event that judges k says one thing of it, moves no setting, and raises ──
pub says_one : (k : Fault) (floor : ℕ) (r : Rule) (e : Event) → some_opinion (opinion k floor r e) ≡ judges k e
says_one k floor r Por = refl
says_one k floor r Boot = refl
says_one k floor r Pin = refl
says_one k floor r Xready = refl
says_one Ov floor r (Scan xs) = refl
says_one Uv floor r (Scan xs) = refl
says_one Scd floor r (Scan xs) = refl
says_one Ocd floor r (Scan xs) = refl
says_one k floor r (Temp xs) = refl
says_one k floor r (Count n) = refl
says_one Ov floor r (Sense v) = refl
says_one Uv floor r (Sense v) = refl
says_one Scd floor r (Sense v) = refl
says_one Ocd floor r (Sense v) = refl
says_one k floor r (Load l) = refl
says_one k floor r (OnBus b) = refl
says_one k floor r (Level l) = refl

-- in SHIP it is refused
judged_asleep : (k : Fault) (e : Event) (c : Chip) → judges k e ≡ true → (asleep e c).number ≡ 4
judged_asleep k Por c j = cc
judged_asleep k Boot c j = cc
judged_asleep k Pin c j = refl
judged_asleep k Xready c j = refl
judged_asleep k (Scan xs) c j = refl
judged_asleep k (Temp xs) c j = refl
judged_asleep k (Count n) c j = refl
judged_asleep k (Sense v) c j = refl
judged_asleep k (Load l) c j = refl
judged_asleep k (OnBus b) c j = cc
judged_asleep k (Level l) c j = refl

pub accepted_judged : (k : Fault) (e : Event) (c : Chip) → judges k e ≡ true → (stepped e c).number ≡ 0
    → (fits e ≡ true) × (c.normal ≡ true)
unfolding stepped happened
accepted_judged k e c j n = by (fits e) c.normal n
  where
    by : (f a : Bool) → (cond f (cond a (settled (normally e c)) (asleep e c)) (numbered 3 c)).number ≡ 0 → (f ≡ true) × (a ≡ true)
    by true true n = (refl, refl)
    by true false n = let four : (asleep e c).number ≡ 4 = judged_asleep k e c j in (cc, cc)
    by false a n = (cc, cc)

pub judging : (k : Fault) (e : Event) (c : Chip) → judges k e ≡ true
    → ((normally e c).chip.registers.shown ≡ raised (risen c.setup.floor c.registers.settings c.runs e) c.registers.shown)
    × (core_of (normally e c).chip ≡ core_of c)
judging k Por c j = (cc, cc)
judging k Boot c j = (cc, cc)
judging k Pin c j = (cc, cc)
judging k Xready c j = (cc, cc)
judging k (Scan xs) c j = (refl, refl)
judging k (Temp xs) c j = (cc, cc)
judging k (Count n) c j = (cc, cc)
judging k (Sense v) c j = (refl, refl)
judging k (Load l) c j = (cc, cc)
judging k (OnBus b) c j = (cc, cc)
judging k (Level l) c j = (cc, cc)

-- so the bit of k is then up exactly if it was, or if the newest verdicts, as many as are needed, are all true
pub rising : (k : Fault) (l : List Bool) (e : Event) (c : Chip) → Told k l c → fits e ≡ true → c.normal ≡ true → judges k e ≡ true
    → bit_of k (next e c).registers.shown.status
    ≡ bit_of k c.registers.shown.status
    || last_all (rule k c.registers.settings).need (opinion k c.setup.floor (rule k c.registers.settings) e ++ l)
rising k l e c h f a j =
    ap (λ s. bit_of k s.chip.registers.shown.status) (normal_is e c f a)
    ∙ level_bit k (normally e c).chip.registers.outside_level (normally e c).chip.registers.shown
    ∙ ap (λ s. bit_of k s.status) (judging k e c j).0
    ∙ bit_raised (risen c.setup.floor c.registers.settings c.runs e) c.registers.shown k
    ∙ or_comm (risen c.setup.floor c.registers.settings c.runs e k) (bit_of k c.registers.shown.status)
    ∙ ap (◌||◌ (bit_of k c.registers.shown.status)) told
  where
    op : List Bool
    op = opinion k c.setup.floor (rule k c.registers.settings) e

    told : risen c.setup.floor c.registers.settings c.runs e k ≡ last_all (rule k c.registers.settings).need (op ++ l)
    told =
        rw (says_one k c.setup.floor (rule k c.registers.settings) e ∙ j) (
        ap (λ n. leb (rule k c.registers.settings).need (bumps (cap k) op n)) h.0
        ∙ ap (leb (rule k c.registers.settings).need) (bumps-streak (cap k) op l)
        ∙ run_tells k c.registers.settings (op ++ l)
        )
