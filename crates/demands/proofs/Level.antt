-- CHIP L1 to L4 over any events from power-up: what the outside level is, when OVRD_ALERT is up by it, and how a clearing write is read
-- that finds it up again. Assumes nothing.
use Rattle.std.specs.Prelude.{◌≡◌, Bool, not, ◌&&◌, ◌||◌, cond, ◌⊎◌, ℕ, eqb}
use Rattle.std.proofs.Math.Path.{refl, ap}
use Rattle.std.proofs.Common.{sym, ◌∙◌, true≢false, inl, inr}
use Rattle.std.proofs.Math.Bool.{true, false}
use mathlib.Core.List.{List, [], ◌∷◌, ◌++◌}
use Rattle.bits.specs.BoolLaws.{and_left}
use Rattle.events.specs.declared.Setup.{Setup}
use Rattle.events.specs.declared.BusEvent.{BusEvent}
use Rattle.events.specs.declared.BusEvent.TheVariants.{Start, Stop, Out, In}
use Rattle.events.specs.Event.{Event, Por, Boot, Pin, Xready, Scan, Temp, Count, Sense, Load, OnBus, Level, fits}
use Rattle.bus.specs.Bus.{Store, At}
use Rattle.std.specs.Prelude.{None}
use Rattle.bus.specs.Bus.{outed}
use Rattle.registers.specs.declared.Status.{Status}
use Rattle.registers.specs.declared.Shown.{Shown}
use Rattle.registers.specs.State.{alert, with_status}
use Rattle.bits.specs.Bit.{bit}
use Rattle.registers.specs.Write.{status_of, without, driven, shown_with}
use Rattle.registers.specs.Fault.{overridden, counting}
use Rattle.registers.specs.Judging.{pulled_at}
use Rattle.chip.specs.declared.Chip.{Chip}
use Rattle.chip.specs.Answer.{Stepped}
use Rattle.chip.specs.Chip.{with_normal, stored_at, stored, on_bus, watched, normally, next}
use Rattle.chip.specs.Core.{core_of}
use Rattle.chip.proofs.MovesLaws.{normal_is, next_by, stored_by, asleep_by}
use Rattle.demands.specs.Demand.{wrote, chip, shown, outside, alerted, core, Awake, StaysAwake}
use Rattle.demands.proofs.History.{setup_is, core_is, awake_is, calm_is}
use Rattle.demands.proofs.Ship.{in_ship_is}
use Rattle.demands.specs.Latch.{by_cond}
use Rattle.demands.specs.Latches.{ovrd_alert_bit}
use Rattle.demands.proofs.Latches.{clears_at, up_at, UnclearedAt, bit_latches, ovrd_holds_both}

-- ── the level ──
-- its own event puts it anew, every other one leaves it
abbrev pub level_after : Event → Bool → Bool
level_after Por x = x
level_after Boot x = x
level_after Pin x = x
level_after Xready x = x
level_after (Scan xs) x = x
level_after (Temp xs) x = x
level_after (Count n) x = x
level_after (Sense v) x = x
level_after (Load l) x = x
level_after (OnBus b) x = x
level_after (Level l) x = l

unfit_level : (e : Event) (x : Bool) → fits e ≡ false → level_after e x ≡ x
unfolding fits
unfit_level Por x f = refl
unfit_level Boot x f = refl
unfit_level Pin x f = refl
unfit_level Xready x f = refl
unfit_level (Scan xs) x f = refl
unfit_level (Temp xs) x f = refl
unfit_level (Count n) x f = refl
unfit_level (Sense v) x f = refl
unfit_level (Load l) x f = refl
unfit_level (OnBus b) x f = refl
unfit_level (Level l) x f = absurd (true≢false f)

all : (w x : Bool) → w ≡ true → x ≡ (w && w && x)
all true x h = refl
all false x h = absurd (true≢false (sym h))

none : (w x : Bool) → false ≡ (w && false && x)
none true x = refl
none false x = refl

slept : (w y x : Bool) → w ≡ false → false ≡ (w && y && x)
slept false y x h = refl
slept true y x h = absurd (true≢false h)

-- ── one event: the level stands in NORMAL alone, before the event and after it ──
abbrev Leveled : Event → Chip → Chip → Type 0
Leveled e c d = d.registers.outside_level ≡ (c.normal && d.normal && level_after e c.registers.outside_level)

bus_leveled : (b : BusEvent) (c : Chip) → c.normal ≡ true → Leveled (OnBus b) c (on_bus b c).chip
bus_leveled Start c a = all c.normal c.registers.outside_level a
bus_leveled Stop c a = all c.normal c.registers.outside_level a
bus_leveled (Out b) c a =
    stored_by (Leveled (OnBus (Out b)) c) (outed c.setup c.bus.line b).line (outed c.setup c.bus.line b).store c
    (λ t. all c.normal c.registers.outside_level a) (λ x v t s. none c.normal c.registers.outside_level)
    (λ x v t s. all c.normal c.registers.outside_level a)
bus_leveled (In nack) c a = all c.normal c.registers.outside_level a

normal_leveled : (e : Event) (c : Chip) → c.normal ≡ true → Leveled e c (normally e c).chip
normal_leveled Por c a = none c.normal c.registers.outside_level
normal_leveled Boot c a = all c.normal c.registers.outside_level a
normal_leveled Pin c a = all c.normal c.registers.outside_level a
normal_leveled Xready c a = all c.normal c.registers.outside_level a
normal_leveled (Scan xs) c a = all c.normal c.registers.outside_level a
normal_leveled (Temp xs) c a = all c.normal c.registers.outside_level a
normal_leveled (Count n) c a = all c.normal c.registers.outside_level a
normal_leveled (Sense v) c a = all c.normal c.registers.outside_level a
normal_leveled (Load l) c a = all c.normal c.registers.outside_level a
normal_leveled (OnBus b) c a = bus_leveled b c a
normal_leveled (Level l) c a = all c.normal l a

-- of a chip that has no level in SHIP
next_leveled : (e : Event) (c : Chip) → (c.normal ≡ false → c.registers.outside_level ≡ false) → Leveled e c (next e c)
next_leveled e c z =
    next_by (Leveled e c) e c (λ f a. normal_leveled e c a)
    (λ f a. asleep_by (Leveled e c) e c (slept c.normal false (level_after e x) a)
    (λ b. z a ∙ slept c.normal true (level_after e x) a) (z a ∙ slept c.normal c.normal (level_after e x) a))
    (λ f. stays c.normal refl ∙ ap (λ (y : Bool). c.normal && c.normal && y) (sym (unfit_level e x f)))
  where
    x : Bool
    x = c.registers.outside_level

    stays : (w : Bool) → c.normal ≡ w → x ≡ (c.normal && c.normal && x)
    stays true h = all c.normal x h
    stays false h = z h ∙ slept c.normal c.normal x h

-- ── what an event leaves shown ──
-- the OUT that writes v to SYS_STAT
clearing_shown : (b v : ℕ) (c : Chip) → c.normal ≡ true → (outed c.setup c.bus.line b).store ≡ At 0x00 v
    → (next (OnBus (Out b)) c).registers.shown
    ≡ pulled_at c.registers.outside_level (with_status (without (status_of v) c.registers.shown.status) c.registers.shown)
unfolding fits stored_at shown_with
clearing_shown b v c a s =
    ap (λ (t : Stepped). t.chip.registers.shown) (normal_is (OnBus (Out b)) c refl a)
    ∙ ap (λ (t : Store). (watched (stored (outed c.setup c.bus.line b).line t c)).registers.shown) s

-- the level's own event
level_shown : (l : Bool) (c : Chip) → c.normal ≡ true → (next (Level l) c).registers.shown ≡ pulled_at l c.registers.shown
unfolding fits
level_shown l c a = ap (λ (t : Stepped). t.chip.registers.shown) (normal_is (Level l) c refl a)

-- ── OVRD_ALERT rises at PIN, or by the level ──
abbrev ovrd_of : Shown → Bool
ovrd_of s = s.status.ovrd_alert

abbrev Pinned : Event → Chip → Chip → Type 0
Pinned e c d = ovrd_of c.registers.shown ≡ false → ovrd_of d.registers.shown ≡ true → e ≡ Pin

clash : {A : Type 0} (b : Bool) → b ≡ false → b ≡ true → A
clash b p q = absurd (true≢false (sym q ∙ p))

written_pins : (e : Event) (a v : ℕ) (s : Shown) → ovrd_of s ≡ false → ovrd_of (shown_with a v s) ≡ true → e ≡ Pin
unfolding shown_with
written_pins e a v s p =
    by_cond (λ t. ovrd_of t ≡ true → e ≡ Pin) (eqb a 0x00) (with_status (without (status_of v) s.status) s)
    (cond (eqb a 0x05) (driven v s) s)
    (λ h q. clash (ovrd_of s) p (and_left (ovrd_of s) (not (bit v 16)) q))
    (λ h. by_cond (λ t. ovrd_of t ≡ true → e ≡ Pin) (eqb a 0x05) (driven v s) s (λ i q. clash (ovrd_of s) p q)
    (λ i q. clash (ovrd_of s) p q))

bus_pins : (b : BusEvent) (c : Chip) → Pinned (OnBus b) c (on_bus b c).chip
bus_pins Start c p q = clash (ovrd_of c.registers.shown) p q
bus_pins Stop c p q = clash (ovrd_of c.registers.shown) p q
bus_pins (Out b) c p q =
    stored_by (Pinned (OnBus (Out b)) c) (outed c.setup c.bus.line b).line (outed c.setup c.bus.line b).store c
    (λ t p q. clash (ovrd_of c.registers.shown) p q) (λ x v t s p q. absurd (true≢false (sym q)))
    (λ x v t s p q. written_pins (OnBus (Out b)) x v c.registers.shown p q) p q
bus_pins (In nack) c p q = clash (ovrd_of c.registers.shown) p q

normal_pins : (e : Event) (c : Chip) → Pinned e c (normally e c).chip
normal_pins Por c p q = absurd (true≢false (sym q))
normal_pins Boot c p q = clash (ovrd_of c.registers.shown) p q
normal_pins Pin c p q = refl
normal_pins Xready c p q = clash (ovrd_of c.registers.shown) p q
normal_pins (Scan xs) c p q = clash (ovrd_of c.registers.shown) p q
normal_pins (Temp xs) c p q = clash (ovrd_of c.registers.shown) p q
normal_pins (Count n) c p q =
    by_cond (λ s. ovrd_of s ≡ true → Count n ≡ Pin) (c.registers.settings.cc_en || c.registers.shown.cc_oneshot)
    (counting c.registers.shown) c.registers.shown
    (λ h q. clash (ovrd_of c.registers.shown) p q) (λ h q. clash (ovrd_of c.registers.shown) p q) q
normal_pins (Sense v) c p q = clash (ovrd_of c.registers.shown) p q
normal_pins (Load l) c p q = clash (ovrd_of c.registers.shown) p q
normal_pins (OnBus b) c p q = bus_pins b c p q
normal_pins (Level l) c p q = clash (ovrd_of c.registers.shown) p q

abbrev Rose : Event → Chip → Chip → Type 0
Rose e c d = ovrd_of c.registers.shown ≡ false → ovrd_of d.registers.shown ≡ true → (e ≡ Pin) ⊎ (d.registers.outside_level ≡ true)

level_rose : (e : Event) (c d : Chip) → Pinned e c d → Rose e c (watched d)
level_rose e c d f p = by d.registers.outside_level refl
  where
    by : (l : Bool) → d.registers.outside_level ≡ l → ovrd_of (pulled_at l d.registers.shown) ≡ true
        → (e ≡ Pin) ⊎ (d.registers.outside_level ≡ true)
    by true h q = inr h
    by false h q = inl (f p q)

next_rose : (e : Event) (c : Chip) → Rose e c (next e c)
next_rose e c =
    next_by (Rose e c) e c (λ f a. level_rose e c (normally e c).chip (normal_pins e c))
    (λ f a. asleep_by (Rose e c) e c (λ p q. absurd (true≢false (sym q)))
    (λ b. level_rose e c (with_normal true c) (λ p q. clash (ovrd_of c.registers.shown) p q))
    (λ p q. clash (ovrd_of c.registers.shown) p q))
    (λ f p q. clash (ovrd_of c.registers.shown) p q)

-- ── over any events from power-up ──
module _ (u : Setup) where
  -- THE LEVEL, of the events alone: the last one that came in this waking spell, and 0 before one came; an event that leaves the chip in
  -- SHIP ends the spell
  unfoldable pub leveled : List Event → Bool
  leveled [] = false
  leveled (e ∷ past) = (core u past).normal && (core u (e ∷ past)).normal && level_after e (leveled past)

  pub level_is : (past : List Event) → outside u past ≡ leveled past
  unfolding chip leveled
  level_is [] = refl
  level_is (e ∷ past) =
      next_leveled e (chip u past) (λ z. ap (λ (c : Chip). c.registers.outside_level) (in_ship_is u past z))
      ∙ (λ i. awake_is u past i && awake_is u (e ∷ past) i && level_after e (level_is past i))

  -- in SHIP it is 0
  pub level_in_ship : (past : List Event) → (core u past).normal ≡ false → outside u past ≡ false
  level_in_ship past z = ap (λ (c : Chip). c.registers.outside_level) (in_ship_is u past (awake_is u past ∙ z))

  -- ALERT: while the level is 1 it is up after every event, clearing writes and refused events included
  pub level_alerts : (past : List Event) → outside u past ≡ true → alerted u past ≡ true
  level_alerts past h = calm_is u past h

  -- .. and where no other bit is up OVRD_ALERT is, and both drives are off
  pub level_holds : (past : List Event) → outside u past ≡ true
      → (let t : Status = (shown u past).status in t.cc_ready || t.xready || t.uv || t.ov || t.scd || t.ocd) ≡ false
      → (up_at u ovrd_alert_bit past ≡ true) × ((shown u past).chg_on ≡ false) × ((shown u past).dsg_on ≡ false)
  level_holds past h n =
      let t : Status = (shown u past).status in
      let o : up_at u ovrd_alert_bit past ≡ true =
      alone t.cc_ready t.xready t.ovrd_alert t.uv t.ov t.scd t.ocd n (level_alerts past h) in
      (o, (ovrd_holds_both u past o).0, (ovrd_holds_both u past o).1)
    where
      alone : (a b c d e f g : Bool) → (a || b || d || e || f || g) ≡ false → (a || b || c || d || e || f || g) ≡ true → c ≡ true
      alone a b true d e f g n h = refl
      alone true b false d e f g n h = absurd (true≢false n)
      alone false true false d e f g n h = absurd (true≢false n)
      alone false false false d e f g n h = absurd (true≢false (sym h ∙ n))

  -- OVRD_ALERT rises at PIN, or with the level at 1, and at nothing else
  pub ovrd_rises_only : (past : List Event) (e : Event) → up_at u ovrd_alert_bit past ≡ false → up_at u ovrd_alert_bit (e ∷ past) ≡ true
      → (e ≡ Pin) ⊎ (outside u (e ∷ past) ≡ true)
  unfolding chip
  ovrd_rises_only past e p q = next_rose e (chip u past) p q

  -- its own event: where SYS_STAT is 0 and it is 1, OVRD_ALERT rises and both drives go off; else it leaves what is shown
  pub level_comes : (l : Bool) (past : List Event) → Awake u past → shown u (Level l ∷ past) ≡ pulled_at l (shown u past)
  unfolding chip
  level_comes l past a = level_shown l (chip u past) (awake_is u past ∙ a)

  -- A CLEARING WRITE: the ones lower their bits; then, the level 1 and no bit left, OVRD_ALERT is up and both drives off at the end of
  -- its own event
  pub clears_to : (b v : ℕ) (past : List Event) → wrote u (core u past) (OnBus (Out b)) ≡ At 0x00 v
      → shown u (OnBus (Out b) ∷ past)
      ≡ pulled_at (outside u past) (with_status (without (status_of v) (shown u past).status) (shown u past))
  unfolding chip
  clears_to b v past w = clearing_shown b v (chip u past) f.0 f.1
    where
      of_chip : wrote (chip u past).setup (core_of (chip u past)) (OnBus (Out b)) ≡ At 0x00 v
      of_chip = (λ i. wrote (setup_is u past i) (core_is u past i) (OnBus (Out b))) ∙ w

      by : (a : Bool) (t : Store) → cond a t None ≡ At 0x00 v → (a ≡ true) × (t ≡ At 0x00 v)
      by true t h = (refl, h)
      by false t h = (cc, cc)

      f : ((chip u past).normal ≡ true) × ((outed (chip u past).setup (chip u past).bus.line b).store ≡ At 0x00 v)
      f = by (chip u past).normal (outed (chip u past).setup (chip u past).bus.line b).store of_chip

  pub clears_in_vain : (b v : ℕ) (past : List Event) → wrote u (core u past) (OnBus (Out b)) ≡ At 0x00 v → outside u past ≡ true
      → alert (without (status_of v) (shown u past).status) ≡ false
      → shown u (OnBus (Out b) ∷ past) ≡ overridden (with_status (without (status_of v) (shown u past).status) (shown u past))
  clears_in_vain b v past w l n = clears_to b v past w ∙ up (outside u past) (alert (without (status_of v) (shown u past).status)) l n
    where
      s : Shown
      s = with_status (without (status_of v) (shown u past).status) (shown u past)

      up : (l a : Bool) → l ≡ true → a ≡ false → cond l (cond a s (overridden s)) s ≡ overridden s
      up true true l n = absurd (true≢false n)
      up true false l n = refl
      up false a l n = absurd (true≢false (sym l))

  -- UP THROUGHOUT. Each later write of a one to OVRD_ALERT finds it up again at the end of its own event
  unfoldable pub UpAgain : List Event → List Event → Type 0
  UpAgain [] past = Unit
  UpAgain (e ∷ later) past =
      UpAgain later past × (clears_at ovrd_alert_bit (wrote u (core u (later ++ past)) e) ≡ true
      → up_at u ovrd_alert_bit (e ∷ later ++ past) ≡ true)

  awake_last : (later past : List Event) → StaysAwake u later past → Awake u (later ++ past)
  unfolding StaysAwake
  awake_last [] past a = a
  awake_last (e ∷ later) past a = a.1

  stays_up : (later past : List Event) → up_at u ovrd_alert_bit past ≡ true → StaysAwake u later past → UpAgain later past
      → up_at u ovrd_alert_bit (later ++ past) ≡ true
  unfolding StaysAwake UpAgain UnclearedAt
  stays_up [] past p a h = p
  stays_up (e ∷ later) past p a h = by (clears_at ovrd_alert_bit (wrote u (core u (later ++ past)) e)) refl (stays_up later past p a.0 h.0)
    where
      by : (t : Bool) → clears_at ovrd_alert_bit (wrote u (core u (later ++ past)) e) ≡ t → up_at u ovrd_alert_bit (later ++ past) ≡ true
          → up_at u ovrd_alert_bit (e ∷ later ++ past) ≡ true
      by true c v = h.1 c
      by false c v = (bit_latches u ovrd_alert_bit (e ∷ []) (later ++ past) v (awake_last later past a.0, a.1) (tt, c)).0

  -- .. so over these events ALERT is up and both drives are off, as if none had been written
  pub up_throughout : (later past : List Event) → up_at u ovrd_alert_bit past ≡ true → StaysAwake u later past → UpAgain later past
      → (up_at u ovrd_alert_bit (later ++ past) ≡ true) × (alerted u (later ++ past) ≡ true) × ((shown u (later ++ past)).chg_on ≡ false)
      × ((shown u (later ++ past)).dsg_on ≡ false)
  unfolding StaysAwake UnclearedAt
  up_throughout later past p a h =
      let v : up_at u ovrd_alert_bit (later ++ past) ≡ true = stays_up later past p a h in (
        v,
        (bit_latches u ovrd_alert_bit [] (later ++ past) v (awake_last later past a) tt).1,
        (ovrd_holds_both u (later ++ past) v).0,
        (ovrd_holds_both u (later ++ past) v).1,
      )
