-- CHIP H5 and H6, the latch: what any one event does to the bit of a fault and to its drive, by what it writes. Assumes nothing.
use Rattle.std.specs.Prelude.{◌≡◌, refl, Bool, true, false, not, ◌&&◌, ◌||◌, cond, ℕ, eqb}
use Rattle.std.proofs.Common.{sym, ap, subst, ◌∙◌, true≢false, eqb-true}
use Rattle.std.proofs.Math.Bool.{and-false}
use Rattle.events.specs.declared.Setup.{Setup}
use Rattle.events.specs.declared.BusEvent.{BusEvent}
use Rattle.events.specs.declared.BusEvent.TheVariants.{Start, Stop, Out, In}
use Rattle.events.specs.Event.{Event, Por, Boot, Pin, Xready, Scan, Temp, Count, Sense, Load, OnBus, Level, fits}
use Rattle.events.specs.declared.Fault.{Fault}
use Rattle.events.specs.declared.Fault.TheVariants.{Ov, Uv, Scd, Ocd}
use Rattle.registers.specs.Fault.{bit_of, drive_of, raised, overridden, readied, counting}
use Rattle.bus.specs.Bus.{Store}
use Rattle.bus.specs.declared.Outed.{Outed}
use Rattle.bus.specs.Bus.{At}
use Rattle.std.specs.Prelude.{None}
use Rattle.bus.specs.Bus.{outed}
use Rattle.registers.specs.declared.Status.{Status}
use Rattle.registers.specs.declared.Shown.{Shown}
use Rattle.registers.specs.State.{dark, alert, with_status}
use Rattle.registers.specs.Write.{status_of, without, holds_chg, holds_dsg, driven, shown_with}
use Rattle.registers.specs.Judging.{pulled_at}
use Rattle.limits.specs.Rule.{rule}
use Rattle.protection.specs.Runs.{risen}
use Rattle.chip.specs.declared.Chip.{Chip}
use Rattle.chip.specs.Chip.{stored, on_bus, normally, next}
use Rattle.chip.specs.Core.{Core, core_of}
use Rattle.chip.proofs.MovesLaws.{next_by, stored_by, asleep_by}
use Rattle.demands.specs.Demand.{judges, wrote, clears, enables}
use Rattle.demands.specs.Told.{says_one}

-- ── Bools ──
pub or_left : (a b : Bool) → a ≡ true → a || b ≡ true
or_left a b h = rw h

pub or_right : (a b : Bool) → b ≡ true → a || b ≡ true
or_right true b h = refl
or_right false b h = h

pub cut : (u m d : Bool) → u && d ≡ false → (u && not m) && d ≡ false
cut true true d h = refl
cut true false d h = h
cut false m d h = refl

rise : (u r d q : Bool) → u && d ≡ false → (r ≡ true → q ≡ true) → (r || u) && (not q && d) ≡ false
rise u true d q h i = rw (i refl)
rise u false d true h i = and-false u
rise u false d false h i = h

rekindled : {A : Type 0} (q d u : Bool) → d ≡ false → not q && d ≡ true → A
rekindled true d u h p = absurd (true≢false (sym p))
rekindled false d u h p = absurd (true≢false (sym p ∙ h))

guard : (u a q : Bool) → (u ≡ true → q ≡ true) → u && (a && not q) ≡ false
guard true a q i = rw (i refl) (and-false a)
guard false a q i = refl

granted : (a q u : Bool) → (u ≡ true → q ≡ true) → a && not q ≡ true → (a ≡ true) × (u ≡ false)
granted true true u i h = (refl, cc)
granted true false true i h = (refl, sym (i refl))
granted true false false i h = (refl, refl)
granted false q u i h = (h, cc)

-- ── what the latch asks of one event ──
-- The bit goes from u to u' and its drive from d to d'; `jud`: the event judges the fault; `clr`: it writes a one to the bit; `ask`: it
-- is a write that asks for the drive; `on`: it leaves the chip in NORMAL.
pub record Kept (jud clr ask on u d u' d' : Bool) : Type 0 where
  pub only : jud ≡ false → u ≡ false → u' ≡ false
  pub stays : on ≡ true → u ≡ true → clr ≡ false → u' ≡ true
  pub down : clr ≡ true → u' ≡ false
  pub back : d ≡ false → d' ≡ true → (ask ≡ true) × (u ≡ false)
  pub off : u && d ≡ false → u' && d' ≡ false

module _ {jud clr ask on u d u' d' : Bool} where
  ended : on ≡ false → u' ≡ false → d' ≡ false → Kept jud clr ask on u d u' d'
  ended a p q = record { only = λ x y. p; stays = λ x y z. cc; down = λ x. p; back = λ x y. (cc, cc); off = λ x. rw p }

  left : clr ≡ false → u' ≡ u → d' ≡ d → Kept jud clr ask on u d u' d'
  left n p q = record { only = λ x y. cc; stays = λ x y z. cc; down = λ x. cc; back = λ x y. (cc, cc); off = λ x. rw (p, q) x }

  put_off : clr ≡ false → u' ≡ u → d' ≡ false → Kept jud clr ask on u d u' d'
  put_off n p q = record { only = λ x y. cc; stays = λ x y z. cc; down = λ x. cc; back = λ x y. (cc, cc); off = λ x. rw q (and-false u') }

  cleared : u' ≡ u && not clr → d' ≡ d → Kept jud clr ask on u d u' d'
  cleared p q =
      record {
        only = λ x y. p ∙ rw y;
        stays = λ x y z. p ∙ rw (y, z);
        down = λ x. p ∙ rw x (and-false u);
        back = λ x y. (cc, cc);
        off = λ x. rw (p, q) (cut u clr d x);
      }

  rose : (r q : Bool) → clr ≡ false → u' ≡ r || u → d' ≡ not q && d → (r ≡ true → q ≡ true) → (jud ≡ false → r ≡ false)
      → Kept jud clr ask on u d u' d'
  rose r q c p e i n =
      record {
        only = λ x y. p ∙ rw (n x, y);
        stays = λ x y z. p ∙ or_right r u y;
        down = λ x. cc;
        back = λ x y. rekindled q d u x (sym e ∙ y);
        off = λ x. rw (p, e) (rise u r d q x i);
      }

  -- and then its drive off
  quieter : Kept jud clr ask on u d u' d' → Kept jud clr ask on u d u' false
  quieter h =
      record { only = h.only; stays = h.stays; down = h.down; back = λ x y. absurd (true≢false (sym y)); off = λ x. and-false u' }

  asked : (q : Bool) → clr ≡ false → u' ≡ u → d' ≡ ask && not q → (u ≡ true → q ≡ true) → Kept jud clr ask on u d u' d'
  asked q n p e i =
      record {
        only = λ x y. cc;
        stays = λ x y z. cc;
        down = λ x. cc;
        back = λ x y. granted ask q u i (sym e ∙ y);
        off = λ x. rw (p, e) (guard u ask q i);
      }

-- ── and which of these each event does ──
unfoldable pub Keeps : Fault → Event → Store → Bool → Shown → Shown → Type 0
Keeps k e w on s t = Kept (judges k e) (clears k w) (enables k w) on (bit_of k s.status) (drive_of k s) (bit_of k t.status) (drive_of k t)

same : (k : Fault) (x : Event) (w : Store) (on : Bool) (s : Shown) → clears k w ≡ false → Keeps k x w on s s
unfolding Keeps
same k x w on s n = left n refl refl

-- entering SHIP
darkens : (k : Fault) (x : Event) (w : Store) (s : Shown) → Keeps k x w false s dark
unfolding Keeps
darkens Ov x w s = ended refl refl refl
darkens Uv x w s = ended refl refl refl
darkens Scd x w s = ended refl refl refl
darkens Ocd x w s = ended refl refl refl

raises : (k : Fault) (x : Event) (on : Bool) (r : Fault → Bool) (s : Shown) → (judges k x ≡ false → r k ≡ false)
    → Keeps k x None on s (raised r s)
unfolding Keeps
raises Ov x on r s n = rose (r Ov) (r Ov) refl refl refl (λ h. h) n
raises Uv x on r s n = rose (r Uv) (r Uv || r Scd || r Ocd) refl refl refl (λ h. search (or_left, or_right)) n
raises Scd x on r s n = rose (r Scd) (r Uv || r Scd || r Ocd) refl refl refl (λ h. search (or_left, or_right)) n
raises Ocd x on r s n = rose (r Ocd) (r Uv || r Scd || r Ocd) refl refl refl (λ h. search (or_left, or_right)) n

-- PIN, XREADY and COUNT
puts_off : (k : Fault) (x : Event) (on : Bool) (s : Shown)
    → Keeps k x None on s (overridden s) × Keeps k x None on s (readied s) × Keeps k x None on s (counting s)
unfolding Keeps
puts_off Ov x on s = (put_off refl refl refl, put_off refl refl refl, left refl refl refl)
puts_off Uv x on s = (put_off refl refl refl, put_off refl refl refl, left refl refl refl)
puts_off Scd x on s = (put_off refl refl refl, put_off refl refl refl, left refl refl refl)
puts_off Ocd x on s = (put_off refl refl refl, put_off refl refl refl, left refl refl refl)

-- the two writes
clearing : (k : Fault) (x : Event) (a v : ℕ) (on : Bool) (s : Shown) → a ≡ 0x00
    → Keeps k x (At a v) on s (with_status (without (status_of v) s.status) s)
unfolding Keeps
clearing Ov x a v on s e = rw e (cleared refl refl)
clearing Uv x a v on s e = rw e (cleared refl refl)
clearing Scd x a v on s e = rw e (cleared refl refl)
clearing Ocd x a v on s e = rw e (cleared refl refl)

driving : (k : Fault) (x : Event) (a v : ℕ) (on : Bool) (s : Shown) → a ≡ 0x05 → Keeps k x (At a v) on s (driven v s)
unfolding Keeps
driving Ov x a v on s e = rw e (asked (holds_chg s.status) refl refl refl (λ h. search (or_left, or_right)))
driving Uv x a v on s e = rw e (asked (holds_dsg s.status) refl refl refl (λ h. search (or_left, or_right) depth 8))
driving Scd x a v on s e = rw e (asked (holds_dsg s.status) refl refl refl (λ h. search (or_left, or_right) depth 8))
driving Ocd x a v on s e = rw e (asked (holds_dsg s.status) refl refl refl (λ h. search (or_left, or_right) depth 8))

pub by_cond : {A : Type 0} (P : A → Type 0) (b : Bool) (x y : A) → (b ≡ true → P x) → (b ≡ false → P y) → P (cond b x y)
by_cond P true x y p q = p refl
by_cond P false x y p q = q refl

writes : (k : Fault) (x : Event) (a v : ℕ) (on : Bool) (s : Shown) → Keeps k x (At a v) on s (shown_with a v s)
unfolding shown_with
writes k x a v on s =
    by_cond (Keeps k x (At a v) on s) (eqb a 0x00) (with_status (without (status_of v) s.status) s) (cond (eqb a 0x05) (driven v s) s)
    (λ h. clearing k x a v on s (eqb-true a 0x00 h))
    (λ h. by_cond (Keeps k x (At a v) on s) (eqb a 0x05) (driven v s) s (λ i. driving k x a v on s (eqb-true a 0x05 i))
    (λ i. same k x (At a v) on s (rw h)))

-- ── and then the outside level ──
over_keeps : (k : Fault) (x : Event) (w : Store) (on : Bool) (s t : Shown) → Keeps k x w on s t → Keeps k x w on s (overridden t)
unfolding Keeps
over_keeps Ov x w on s t h = quieter h
over_keeps Uv x w on s t h = quieter h
over_keeps Scd x w on s t h = quieter h
over_keeps Ocd x w on s t h = quieter h

level_keeps : (k : Fault) (x : Event) (w : Store) (on l : Bool) (s t : Shown) → Keeps k x w on s t → Keeps k x w on s (pulled_at l t)
level_keeps k x w on l s t h =
    by_cond (Keeps k x w on s) l (cond (alert t.status) t (overridden t)) t
    (λ i. by_cond (Keeps k x w on s) (alert t.status) t (overridden t) (λ j. h) (λ j. over_keeps k x w on s t h)) (λ i. h)

-- ── each event ──
pub when_true : {A : Type 0} (b : Bool) (x y : A) → b ≡ true → cond b x y ≡ x
when_true b x y h = rw h

-- an event that does not judge k raises nothing of it
unjudged : (k : Fault) (e : Event) (c : Chip) → judges k e ≡ false → risen c.setup.floor c.registers.settings c.runs e k ≡ false
unjudged k e c h = rw (says_one k c.setup.floor (rule k c.registers.settings) e ∙ h)

-- e moves c to d
abbrev Holds : Fault → Event → Chip → Chip → Type 0
Holds k e c d = Keeps k e (wrote c.setup (core_of c) e) d.normal c.registers.shown d.registers.shown

module _ (k : Fault) (e : Event) (c : Chip) where
  stays_as : (w : Store) → clears k w ≡ false → Keeps k e w c.normal c.registers.shown c.registers.shown
  stays_as w n = same k e w c.normal c.registers.shown n

  judged_keeps : Keeps k e None c.normal c.registers.shown
      (raised (risen c.setup.floor c.registers.settings c.runs e) c.registers.shown)
  judged_keeps =
      raises k e c.normal (risen c.setup.floor c.registers.settings c.runs e) c.registers.shown (unjudged k e c)

  store_keeps : (o : Outed)
      → Keeps k e o.store (stored o.line o.store c).normal c.registers.shown (stored o.line o.store c).registers.shown
  store_keeps o =
      stored_by (λ d. Keeps k e o.store d.normal c.registers.shown d.registers.shown) o.line o.store c
      (λ t. stays_as o.store (ap (clears k) t))
      (λ x v t s. darkens k e o.store c.registers.shown)
      (λ x v t s. subst (λ w. Keeps k e w c.normal c.registers.shown (shown_with x v c.registers.shown)) (sym t)
      (writes k e x v c.normal c.registers.shown))

bus_keeps : (k : Fault) (b : BusEvent) (c : Chip) → c.normal ≡ true → Holds k (OnBus b) c (on_bus b c).chip
bus_keeps k Start c a = stays_as k (OnBus Start) c None refl
bus_keeps k Stop c a = stays_as k (OnBus Stop) c None refl
bus_keeps k (Out b) c a =
    subst (λ w. Keeps k (OnBus (Out b)) w (stored o.line o.store c).normal c.registers.shown
    (stored o.line o.store c).registers.shown)
    (sym (when_true c.normal o.store None a)) (store_keeps k (OnBus (Out b)) c o)
  where
    o : Outed
    o = outed c.setup c.bus.line b
bus_keeps k (In nack) c a = stays_as k (OnBus (In nack)) c None refl

normal_keeps : (k : Fault) (e : Event) (c : Chip) → c.normal ≡ true → Holds k e c (normally e c).chip
normal_keeps k Por c a = darkens k Por None c.registers.shown
normal_keeps k Boot c a = stays_as k Boot c None refl
normal_keeps k Pin c a =
    by_cond (Keeps k Pin None c.normal c.registers.shown) (alert c.registers.shown.status) c.registers.shown
    (overridden c.registers.shown)
    (λ h. stays_as k Pin c None refl) (λ h. (puts_off k Pin c.normal c.registers.shown).0)
normal_keeps k Xready c a = (puts_off k Xready c.normal c.registers.shown).1
normal_keeps k (Scan xs) c a = judged_keeps k (Scan xs) c
normal_keeps k (Temp xs) c a = stays_as k (Temp xs) c None refl
normal_keeps k (Count n) c a =
    by_cond (Keeps k (Count n) None c.normal c.registers.shown)
    (c.registers.settings.cc_en || c.registers.shown.cc_oneshot) (counting c.registers.shown) c.registers.shown
    (λ h. (puts_off k (Count n) c.normal c.registers.shown).2) (λ h. stays_as k (Count n) c None refl)
normal_keeps k (Sense v) c a = judged_keeps k (Sense v) c
normal_keeps k (Load l) c a = stays_as k (Load l) c None refl
normal_keeps k (OnBus b) c a = bus_keeps k b c a
normal_keeps k (Level l) c a = stays_as k (Level l) c None refl

-- in SHIP, and out of range, nothing is written
pub wrote_asleep : (u : Setup) (c : Core) (e : Event) → c.normal ≡ false → wrote u c e ≡ None
wrote_asleep u c Por a = refl
wrote_asleep u c Boot a = refl
wrote_asleep u c Pin a = refl
wrote_asleep u c Xready a = refl
wrote_asleep u c (Scan xs) a = refl
wrote_asleep u c (Temp xs) a = refl
wrote_asleep u c (Count n) a = refl
wrote_asleep u c (Sense v) a = refl
wrote_asleep u c (Load l) a = refl
wrote_asleep u c (OnBus Start) a = refl
wrote_asleep u c (OnBus Stop) a = refl
wrote_asleep u c (OnBus (Out b)) a = rw a
wrote_asleep u c (OnBus (In nack)) a = refl
wrote_asleep u c (Level l) a = refl

pub wrote_unfit : (u : Setup) (c : Core) (e : Event) → fits e ≡ false → wrote u c e ≡ None
unfolding fits
wrote_unfit u c Por f = refl
wrote_unfit u c Boot f = refl
wrote_unfit u c Pin f = refl
wrote_unfit u c Xready f = refl
wrote_unfit u c (Scan xs) f = refl
wrote_unfit u c (Temp xs) f = refl
wrote_unfit u c (Count n) f = refl
wrote_unfit u c (Sense v) f = refl
wrote_unfit u c (Load l) f = refl
wrote_unfit u c (OnBus b) f = cc
wrote_unfit u c (Level l) f = refl

pub next_keeps : (k : Fault) (e : Event) (c : Chip) → Holds k e c (next e c)
next_keeps k e c =
    next_by (Holds k e c) e c
    (λ f a. level_keeps k e w (normally e c).chip.normal (normally e c).chip.registers.outside_level c.registers.shown
    (normally e c).chip.registers.shown (normal_keeps k e c a))
    (λ f a. let n : clears k w ≡ false = ap (clears k) (wrote_asleep c.setup (core_of c) e a) in
    asleep_by (Holds k e c) e c (darkens k e w c.registers.shown)
    (λ b. level_keeps k e w true c.registers.outside_level c.registers.shown c.registers.shown
    (same k e w true c.registers.shown n)) (stays_as k e c w n))
    (λ f. stays_as k e c w (ap (clears k) (wrote_unfit c.setup (core_of c) e f)))
  where
    w : Store
    w = wrote c.setup (core_of c) e

-- ── ALERT ──
pub alert_up : (k : Fault) (t : Status) → bit_of k t ≡ true → alert t ≡ true
alert_up Ov t u = search (or_left, or_right) depth 8
alert_up Uv t u = search (or_left, or_right) depth 8
alert_up Scd t u = search (or_left, or_right) depth 8
alert_up Ocd t u = search (or_left, or_right) depth 8
