-- WHAT MOVES SYS_STAT AND THE DRIVES, proved: they are what Moves says of one event, over any events from power-up. Assumes nothing.
use Rattle.std.specs.Prelude.{◌≡◌, refl, Bool, true, false, not, ◌&&◌, ◌||◌, List, ◌∷◌, ℕ, eqb}
use Rattle.std.proofs.Common.{sym, subst, ◌∙◌, true≢false, arith}
use Rattle.std.proofs.Math.Path.{ap}
use Rattle.std.proofs.Math.Bool.{cond, and-false, and-true}
use Rattle.events.specs.declared.Setup.{Setup}
use Rattle.events.specs.declared.BusEvent.{BusEvent}
use Rattle.events.specs.declared.BusEvent.TheVariants.{Start, Stop, Out, In}
use Rattle.events.specs.Event.{Event, Por, Boot, Pin, Xready, Scan, Temp, Count, Sense, Load, OnBus, Level, fits}
use Rattle.events.specs.declared.Fault.{Fault}
use Rattle.bus.specs.Bus.{Store, At}
use Rattle.std.specs.Prelude.{None}
use Rattle.bus.specs.declared.Outed.{Outed}
use Rattle.bus.specs.Bus.{outed}
use Rattle.registers.specs.declared.Shown.{Shown}
use Rattle.registers.specs.declared.Registers.{Registers}
use Rattle.registers.specs.State.{dark, reset, alert}
use Rattle.registers.specs.Fault.{raised, overridden, readied, counting}
use Rattle.registers.specs.Write.{shown_with}
use Rattle.registers.specs.Judging.{pulled_at}
use Rattle.protection.specs.Runs.{risen}
use Rattle.chip.specs.declared.Chip.{Chip}
use Rattle.chip.specs.Chip.{on_bus, normally, next}
use Rattle.chip.specs.Calm.{Calmed}
use Rattle.chip.specs.Core.{core_of}
use Rattle.chip.proofs.MovesLaws.{next_by, stored_by, asleep_by}
use Rattle.demands.specs.Demand.{wrote, chip, core, shown, standing, outside}
use Rattle.demands.proofs.History.{setup_is, core_is, calm_is}
use Rattle.demands.proofs.Ship.{in_ship_is}
use Rattle.demands.specs.Latch.{when_true, wrote_unfit}
use Rattle.demands.specs.Moves.{is, moved, heard, leveled, rose}
use Rattle.demands.proofs.MovesLaws.{apart, normal_by}

-- a write
write_heard : (a v : ℕ) (b : ℕ) (en : Bool) (s : Shown) → shown_with a v s ≡ heard (OnBus (Out b)) (At a v) en (λ k. false) s
unfolding shown_with
write_heard a v b en s = by (eqb a 0) (eqb a 5) refl refl
  where
    by : (p q : Bool) → eqb a 0 ≡ p → eqb a 5 ≡ q → shown_with a v s ≡ heard (OnBus (Out b)) (At a v) en (λ k. false) s
    by true q i j = simp (i, apart a 0 5 (λ h. omega (arith, h)) i)
    by false true i j = simp (i, j, and-true)
    by false false i j = simp (i, j, and-true)

-- PIN, XREADY, COUNT, and what judges
pin_heard : (f en : Bool) (s : Shown) → fits Pin ≡ true → pulled_at true s ≡ heard Pin None en (λ k. false) s
pin_heard f en s h = by (alert s.status) refl
  where
    by : (t : Bool) → alert s.status ≡ t → pulled_at true s ≡ heard Pin None en (λ k. false) s
    by true e = simp (h, e, and-true)
    by false e = simp (h, e, and-true)

xready_heard : (en : Bool) (s : Shown) → fits Xready ≡ true → readied s ≡ heard Xready None en (λ k. false) s
xready_heard en s h = simp (h, and-true)

count_heard : (n : ℕ) (en : Bool) (s : Shown) → fits (Count n) ≡ true
    → cond (en || s.cc_oneshot) (counting s) s ≡ heard (Count n) None en (λ k. false) s
count_heard n en s h = by en s.cc_oneshot refl
  where
    by : (c t : Bool) → s.cc_oneshot ≡ t → cond (c || s.cc_oneshot) (counting s) s ≡ heard (Count n) None c (λ k. false) s
    by true t e = simp (h, and-true)
    by false true e = simp (h, e, and-true)
    by false false e =
        simp (h, e, and-true)
        (ap (λ (t : Bool). record { status = s.status; cc_oneshot = t; dsg_on = s.dsg_on; chg_on = s.chg_on }) e)

judged_heard : (e : Event) (en : Bool) (r : Fault → Bool) (s : Shown) → is 0x05 e ≡ false → is 0x07 e ≡ false → is 0x09 e ≡ false
    → raised r s ≡ heard e None en r s
judged_heard e en r s five seven nine = simp (five, seven, nine, and-true)

-- the level looked at once more does nothing where it has been looked at
leveled_is : (l : Bool) (s : Shown) → pulled_at l s ≡ leveled l s
leveled_is true s = by (alert s.status)
  where
    by : (t : Bool) → cond t s (overridden s) ≡ cond (not t) (overridden s) s
    by true = refl
    by false = refl
leveled_is false s = refl

calm_leveled : (l : Bool) (s : Shown) → (l ≡ true → alert s.status ≡ true) → leveled l s ≡ s
calm_leveled true s h = simp (h refl)
calm_leveled false s h = refl

module _ (c : Chip) where
  abbrev rises : Event → Fault → Bool
  rises e k = fits e && risen c.setup.floor c.registers.settings c.runs e k

  abbrev hears : Event → Store → Shown
  hears e w = heard e w c.registers.settings.cc_en (rises e) c.registers.shown

  -- before the level is looked at
  abbrev Shows : Event → Store → Chip → Type 0
  Shows e w d = d.registers.shown ≡ cond d.normal (hears e w) dark

  awake_shows : (e : Event) (w : Store) (s : Shown) → c.normal ≡ true → s ≡ hears e w → s ≡ cond c.normal (hears e w) dark
  awake_shows e w s a h = h ∙ sym (when_true c.normal (hears e w) dark a)

  plain : (e : Event) → c.normal ≡ true → is 0x05 e ≡ false → is 0x07 e ≡ false → is 0x09 e ≡ false → ((k : Fault) → rises e k ≡ false)
      → c.registers.shown ≡ cond c.normal (hears e None) dark
  plain e a five seven nine none = awake_shows e None c.registers.shown a (simp (five, seven, nine, none, and-true))

  bus_shows : (b : BusEvent) → fits (OnBus b) ≡ true → c.normal ≡ true
      → Shows (OnBus b) (wrote c.setup (core_of c) (OnBus b)) (on_bus b c).chip
  bus_shows Start f a = plain (OnBus Start) a refl refl refl (λ k. simp f)
  bus_shows Stop f a = plain (OnBus Stop) a refl refl refl (λ k. simp f)
  bus_shows (Out b) f a =
      subst (λ w. Shows (OnBus (Out b)) w (on_bus (Out b) c).chip) (sym (when_true c.normal o.store None a))
      (stored_by (Shows (OnBus (Out b)) o.store) o.line o.store c
      (λ t. plain (OnBus (Out b)) a refl refl refl (λ k. simp f) ∙ ap (λ w. cond c.normal (hears (OnBus (Out b)) w) dark) (sym t))
      (λ x y t h. refl)
      (λ x y t h. awake_shows (OnBus (Out b)) o.store _ a
      (write_heard x y b c.registers.settings.cc_en c.registers.shown
      ∙ (simp f) ∙ ap (λ w. hears (OnBus (Out b)) w) (sym t))))
    where
      o : Outed
      o = outed c.setup c.bus.line b
  bus_shows (In nack) f a = plain (OnBus (In nack)) a refl refl refl (λ k. simp f)

  normal_shows : (e : Event) → fits e ≡ true → c.normal ≡ true → Shows e (wrote c.setup (core_of c) e) (normally e c).chip
  normal_shows Por f a = refl
  normal_shows Boot f a = plain Boot a refl refl refl (λ k. simp f)
  normal_shows Pin f a = awake_shows Pin None _ a (pin_heard true c.registers.settings.cc_en c.registers.shown f ∙ (simp f))
  normal_shows Xready f a =
      awake_shows Xready None _ a (xready_heard c.registers.settings.cc_en c.registers.shown f ∙ (simp f))
  normal_shows (Scan xs) f a =
      awake_shows (Scan xs) None _ a
      (judged_heard (Scan xs) c.registers.settings.cc_en (risen c.setup.floor c.registers.settings c.runs (Scan xs))
      c.registers.shown refl refl refl ∙ (simp f))
  normal_shows (Temp xs) f a = plain (Temp xs) a refl refl refl (λ k. simp f)
  normal_shows (Count n) f a =
      awake_shows (Count n) None _ a (count_heard n c.registers.settings.cc_en c.registers.shown f ∙ (simp f))
  normal_shows (Sense v) f a =
      awake_shows (Sense v) None _ a
      (judged_heard (Sense v) c.registers.settings.cc_en (risen c.setup.floor c.registers.settings c.runs (Sense v))
      c.registers.shown refl refl refl ∙ (simp f))
  normal_shows (Load l) f a = plain (Load l) a refl refl refl (λ k. simp f)
  normal_shows (OnBus b) f a = bus_shows b f a
  normal_shows (Level l) f a = plain (Level l) a refl refl refl (λ k. simp f)

  -- and after it is
  abbrev Ends : Event → Store → Chip → Type 0
  Ends e w d = d.registers.shown ≡ cond d.normal (leveled d.registers.outside_level (hears e w)) dark

  ends_by : (on l : Bool) (s t : Shown) → (on ≡ false → l ≡ false) → s ≡ cond on t dark → pulled_at l s ≡ cond on (leveled l t) dark
  ends_by true l s t h p = ap (pulled_at l) p ∙ leveled_is l t
  ends_by false true s t h p = absurd (true≢false (h refl))
  ends_by false false s t h p = p

  unheard : (e : Event) (w : Store) → w ≡ None → fits e ≡ false → hears e w ≡ c.registers.shown
  unheard e w n f = ap (λ t. hears e t) n ∙ simp (f, and-false, and-true)

  -- the level is 0 where the event ships
  ships_level : (e : Event) → fits e ≡ true → c.normal ≡ true → (normally e c).chip.normal ≡ false
      → (normally e c).chip.registers.outside_level ≡ false
  ships_level e f a z =
      ap (λ (r : Registers). r.outside_level) (normal_by c e f a)
      ∙ ap (λ (t : Bool). (cond t
      (moved c.setup e (wrote c.setup (core_of c) e) c.registers.shown.cc_oneshot c.registers) reset
      ).outside_level) z

  booted : hears Boot None ≡ c.registers.shown
  booted = simp (and-true, and-false)

  next_shows : (e : Event) → Calmed c → (c.normal ≡ false → c.registers ≡ reset) → Ends e (wrote c.setup (core_of c) e) (next e c)
  next_shows e m z =
      next_by (Ends e w) e c
      (λ f a. ends_by (normally e c).chip.normal (normally e c).chip.registers.outside_level (normally e c).chip.registers.shown
      (hears e w) (ships_level e f a) (normal_shows e f a))
      (λ f a. asleep_by (Ends e w) e c refl
      (λ b. leveled_is l c.registers.shown
      ∙ sym (ap (leveled l) (ap (λ x. hears x (wrote c.setup (core_of c) x)) b ∙ booted)))
      (stays c.normal refl (λ t. absurd (true≢false (sym t ∙ a)))))
      (λ f. stays c.normal refl (λ t. unheard e w (wrote_unfit c.setup (core_of c) e f) f))
    where
      w : Store
      w = wrote c.setup (core_of c) e

      l : Bool
      l = c.registers.outside_level

      stays : (t : Bool) → c.normal ≡ t → (c.normal ≡ true → hears e w ≡ c.registers.shown)
          → c.registers.shown ≡ cond t (leveled l (hears e w)) dark
      stays true h k = sym (ap (leveled l) (k h) ∙ calm_leveled l c.registers.shown m)
      stays false h k = ap (λ (r : Registers). r.shown) (z h)

module _ (u : Setup) where
  -- SYS_STAT AND THE DRIVES: in NORMAL what is heard, and then the outside level; in SHIP all down
  pub shown_moves : (past : List Event) (e : Event) → shown u (e ∷ past)
      ≡ cond (core u (e ∷ past)).normal
      (leveled (outside u (e ∷ past)) (heard e (wrote u (core u past) e) (standing u past).cc_en (rose u past e) (shown u past))) dark
  unfolding chip
  shown_moves past e =
      next_shows (chip u past) e (calm_is u past) (λ z. ap (λ (d : Chip). d.registers) (in_ship_is u past z))
      ∙ (λ i. cond (core_is u (e ∷ past) i).normal
      (leveled (outside u (e ∷ past)) (heard e (wrote (setup_is u past i) (core_is u past i) e) (core_is u past i).settings.cc_en
      (λ k. fits e && risen (setup_is u past i).floor (core_is u past i).settings (chip u past).runs e k) (shown u past))) dark)
