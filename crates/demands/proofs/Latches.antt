-- CHIP H5 and H6, the latch of every bit of SYS_STAT: a bit that is up stays up, keeps ALERT up and the drives that it puts off off;
-- OVRD_ALERT and XREADY put off both. A write of a one lowers a bit, but OVRD_ALERT only where the outside level is 0 (CHIP L3). The
-- words stand in specs/Latches. Assumes nothing.
use Rattle.std.specs.Prelude.{◌≡◌, Bool, true, false, not, ◌&&◌, ◌||◌, cond, ℕ, eqb}
use Rattle.std.proofs.Math.Path.{refl}
use Rattle.std.proofs.Common.{sym, ap, subst, ◌∙◌, true≢false, eqb-true}
use Rattle.std.proofs.Math.Bool.{and-false}
use mathlib.Core.List.{List, [], ◌∷◌, ◌++◌}
use Rattle.events.specs.declared.Setup.{Setup}
use Rattle.events.specs.declared.BusEvent.{BusEvent}
use Rattle.events.specs.declared.BusEvent.TheVariants.{Start, Stop, Out, In}
use Rattle.events.specs.Event.{Event, Por, Boot, Pin, Xready, Scan, Temp, Count, Sense, Load, OnBus, Level}
use Rattle.events.specs.declared.Fault.{Fault}
use Rattle.events.specs.declared.Fault.TheVariants.{Ov, Uv, Scd, Ocd}
use Rattle.bits.specs.Bit.{bit}
use Rattle.bus.specs.Bus.{Store}
use Rattle.bus.specs.declared.Outed.{Outed}
use Rattle.bus.specs.Bus.{At}
use Rattle.std.specs.Prelude.{Some, None}
use Rattle.bus.specs.Bus.{outed}
use Rattle.registers.specs.declared.Status.{Status}
use Rattle.registers.specs.declared.Shown.{Shown}
use Rattle.registers.specs.State.{dark, alert, with_status}
use Rattle.registers.specs.Write.{status_of, without, holds_chg, holds_dsg, driven, shown_with}
use Rattle.registers.specs.Judging.{pulled_at}
use Rattle.registers.specs.Fault.{bit_of, raised, overridden, readied, counting}
use Rattle.protection.specs.Runs.{risen}
use Rattle.chip.specs.declared.Chip.{Chip}
use Rattle.chip.specs.Chip.{stored, on_bus, normally, next}
use Rattle.chip.specs.Core.{core_of}
use Rattle.chip.proofs.MovesLaws.{next_by, stored_by, asleep_by}
use Rattle.demands.specs.Demand.{wrote, clears, chip, shown, outside, drive, alerted, core, StaysAwake, Asked}
use Rattle.demands.proofs.Ship.{in_ship_is}
use Rattle.demands.proofs.History.{setup_is, core_is, awake_is}
use Rattle.demands.proofs.Theorem.{asked_since}
use Rattle.demands.specs.Latch.{Keeps, next_keeps, alert_up, or_left, or_right, cut, by_cond, when_true, wrote_asleep}
use Rattle.demands.specs.Latch.{wrote_unfit}
use Rattle.demands.specs.Latches.{StatusBit, cc_ready_bit, fault_bit, ovrd_alert_bit, xready_bit, driven_at, holds_up}

abbrev pub bit_at : StatusBit → Status → Bool
bit_at cc_ready_bit t = t.cc_ready
bit_at xready_bit t = t.xready
bit_at ovrd_alert_bit t = t.ovrd_alert
bit_at (fault_bit k) t = bit_of k t

-- a one written to the bit
abbrev pub clears_at : StatusBit → Store → Bool
clears_at b None = false
clears_at b (Some w) = eqb w.at 0x00 && bit_at b (status_of w.value)

-- ── what the latch asks of one event: as in Latch, of any bit; `hld`: the outside level may hold it up ──
pub record Latched (clr hld on u d u' d' : Bool) : Type 0 where
  pub stays : on ≡ true → u ≡ true → clr ≡ false → u' ≡ true
  pub down : clr ≡ true → hld ≡ false → u' ≡ false
  pub off : u && d ≡ false → u' && d' ≡ false

module _ {clr hld on u d u' d' : Bool} where
  ended : on ≡ false → u' ≡ false → Latched clr hld on u d u' d'
  ended a p = record { stays = λ x y z. absurd (true≢false (sym x ∙ a)); down = λ x y. p; off = λ x. rw p }

  -- the bit as it was, and no drive that was off comes on while it is up
  kept : clr ≡ false → u' ≡ u → (u && d ≡ false → u && d' ≡ false) → Latched clr hld on u d u' d'
  kept n p q = record { stays = λ x y z. p ∙ y; down = λ x y. absurd (true≢false (sym x ∙ n)); off = λ x. rw p (q x) }

  rose : clr ≡ false → u' ≡ true → d' ≡ false → Latched clr hld on u d u' d'
  rose n p q = record { stays = λ x y z. p; down = λ x y. absurd (true≢false (sym x ∙ n)); off = λ x. rw q (and-false u') }

  cleared : u' ≡ u && not clr → d' ≡ d → Latched clr hld on u d u' d'
  cleared p q = record { stays = λ x y z. p ∙ rw (y, z); down = λ x y. p ∙ rw x (and-false u); off = λ x. rw (p, q) (cut u clr d x) }

unfoldable pub Latching : StatusBit → Store → Bool → Bool → Shown → Shown → Type 0
Latching b w l on s t = Latched (clears_at b w) (holds_up b l) on (bit_at b s.status) (driven_at b s) (bit_at b t.status) (driven_at b t)

-- CC_READY, XREADY and OVRD_ALERT; the four faults' bits are Latch's
pub data Other : StatusBit → Type 0 where
  ready : Other cc_ready_bit
  xready : Other xready_bit
  ovrd : Other ovrd_alert_bit

same : (b : StatusBit) (w : Store) (l on : Bool) (s : Shown) → clears_at b w ≡ false → Latching b w l on s s
unfolding Latching
same b w l on s n = kept n refl (λ x. x)

darkens : {b : StatusBit} → Other b → (w : Store) (l : Bool) (s : Shown) → Latching b w l false s dark
unfolding Latching
darkens ready w l s = ended refl refl
darkens xready w l s = ended refl refl
darkens ovrd w l s = ended refl refl

-- fewer drives are on
thinner : (u a b x y : Bool) → u && (a || b) ≡ false → u && ((x && a) || (y && b)) ≡ false
thinner false a b x y h = refl
thinner true true b x y h = absurd (true≢false h)
thinner true false true x y h = absurd (true≢false h)
thinner true false false true true h = refl
thinner true false false true false h = refl
thinner true false false false true h = refl
thinner true false false false false h = refl

raises : {b : StatusBit} → Other b → (l on : Bool) (r : Fault → Bool) (s : Shown) → Latching b None l on s (raised r s)
unfolding Latching
raises ready l on r s = kept refl refl (λ x. x)
raises xready l on r s =
    kept refl refl (λ x. thinner s.status.xready s.chg_on s.dsg_on (not (r Ov)) (not (r Uv || r Scd || r Ocd)) x)
raises ovrd l on r s =
    kept refl refl (λ x. thinner s.status.ovrd_alert s.chg_on s.dsg_on (not (r Ov)) (not (r Uv || r Scd || r Ocd)) x)

-- PIN, XREADY and COUNT
puts_off : {b : StatusBit} → Other b → (l on : Bool) (s : Shown)
    → Latching b None l on s (overridden s) × Latching b None l on s (readied s) × Latching b None l on s (counting s)
unfolding Latching
puts_off ready l on s = (kept refl refl (λ x. x), kept refl refl (λ x. x), rose refl refl refl)
puts_off xready l on s = (kept refl refl (λ x. and-false s.status.xready), rose refl refl refl, kept refl refl (λ x. x))
puts_off ovrd l on s = (rose refl refl refl, kept refl refl (λ x. and-false s.status.ovrd_alert), kept refl refl (λ x. x))

-- the two writes
clearing : {b : StatusBit} → Other b → (a v : ℕ) (l on : Bool) (s : Shown) → a ≡ 0x00
    → Latching b (At a v) l on s (with_status (without (status_of v) s.status) s)
unfolding Latching
clearing ready a v l on s e = rw e (cleared refl refl)
clearing xready a v l on s e = rw e (cleared refl refl)
clearing ovrd a v l on s e = rw e (cleared refl refl)

-- while either bit is up no write turns a drive on
none_of : (m n p q : Bool) → m ≡ true → n ≡ true → (p && not m) || (q && not n) ≡ false
none_of m n p q a b = rw (a, b) (by p q)
  where
    by : (p q : Bool) → (p && false) || (q && false) ≡ false
    by true true = refl
    by true false = refl
    by false true = refl
    by false false = refl

held : (u m n p q : Bool) → (u ≡ true → m ≡ true) → (u ≡ true → n ≡ true) → u && ((p && not m) || (q && not n)) ≡ false
held true m n p q f g = none_of m n p q (f refl) (g refl)
held false m n p q f g = refl

driving : {b : StatusBit} → Other b → (a v : ℕ) (l on : Bool) (s : Shown) → a ≡ 0x05 → Latching b (At a v) l on s (driven v s)
unfolding Latching
driving ready a v l on s e = rw e (kept refl refl (λ x. x))
driving xready a v l on s e =
    rw e (kept refl refl
    (λ x. held s.status.xready (holds_chg s.status) (holds_dsg s.status) (bit v 1) (bit v 2)
    (λ h. search (or_left, or_right) depth 8) (λ h. search (or_left, or_right) depth 8)))
driving ovrd a v l on s e =
    rw e (kept refl refl
    (λ x. held s.status.ovrd_alert (holds_chg s.status) (holds_dsg s.status) (bit v 1) (bit v 2)
    (λ h. search (or_left, or_right) depth 8) (λ h. search (or_left, or_right) depth 8)))

writes : {b : StatusBit} → Other b → (a v : ℕ) (l on : Bool) (s : Shown) → Latching b (At a v) l on s (shown_with a v s)
unfolding shown_with
writes {b} o a v l on s =
    by_cond (Latching b (At a v) l on s) (eqb a 0x00) (with_status (without (status_of v) s.status) s) (cond (eqb a 0x05) (driven v s) s)
    (λ h. clearing o a v l on s (eqb-true a 0x00 h))
    (λ h. by_cond (Latching b (At a v) l on s) (eqb a 0x05) (driven v s) s (λ i. driving o a v l on s (eqb-true a 0x05 i))
    (λ i. same b (At a v) l on s (rw h)))

-- ── and then the outside level ──
over_held : (w : Store) (on : Bool) (s t : Shown) → Latching ovrd_alert_bit w true on s (overridden t)
unfolding Latching
over_held w on s t = record { stays = λ x y z. refl; down = λ x y. absurd (true≢false y); off = λ x. refl }

over_keeps : {b : StatusBit} → Other b → (w : Store) (on : Bool) (s t : Shown) → Latching b w true on s t
    → Latching b w true on s (overridden t)
unfolding Latching
over_keeps ready w on s t h = record { stays = h.stays; down = h.down; off = h.off }
over_keeps xready w on s t h = record { stays = h.stays; down = h.down; off = λ x. and-false t.status.xready }
over_keeps ovrd w on s t h = over_held w on s t

level_keeps : {b : StatusBit} → Other b → (w : Store) (l on : Bool) (s t : Shown) → Latching b w l on s t
    → Latching b w l on s (pulled_at l t)
level_keeps o w false on s t h = h
level_keeps {b} o w true on s t h =
    by_cond (Latching b w true on s) (alert t.status) t (overridden t) (λ i. h) (λ i. over_keeps o w on s t h)

-- ── each event ──
-- e moves c to d
abbrev Holds : StatusBit → Event → Chip → Chip → Type 0
Holds b e c d =
    Latching b (wrote c.setup (core_of c) e) d.registers.outside_level d.normal c.registers.shown d.registers.shown

module _ {b : StatusBit} (other : Other b) where
  stays_as : (w : Store) (c : Chip) → clears_at b w ≡ false
      → Latching b w c.registers.outside_level c.normal c.registers.shown c.registers.shown
  stays_as w c n = same b w c.registers.outside_level c.normal c.registers.shown n

  judged_keeps : (e : Event) (c : Chip)
      → Latching b None c.registers.outside_level c.normal c.registers.shown
      (raised (risen c.setup.floor c.registers.settings c.runs e) c.registers.shown)
  judged_keeps e c =
      raises other c.registers.outside_level c.normal (risen c.setup.floor c.registers.settings c.runs e)
      c.registers.shown

  store_keeps : (c : Chip) (o : Outed)
      → Latching b o.store (stored o.line o.store c).registers.outside_level (stored o.line o.store c).normal
      c.registers.shown (stored o.line o.store c).registers.shown
  store_keeps c o =
      stored_by (λ d. Latching b o.store d.registers.outside_level d.normal c.registers.shown d.registers.shown)
      o.line o.store c
      (λ t. stays_as o.store c (ap (clears_at b) t))
      (λ x v t s. darkens other o.store false c.registers.shown)
      (λ x v t s. subst
      (λ w. Latching b w c.registers.outside_level c.normal c.registers.shown (shown_with x v c.registers.shown))
      (sym t) (writes other x v c.registers.outside_level c.normal c.registers.shown))

  bus_keeps : (e : BusEvent) (c : Chip) → c.normal ≡ true → Holds b (OnBus e) c (on_bus e c).chip
  bus_keeps Start c a = stays_as None c refl
  bus_keeps Stop c a = stays_as None c refl
  bus_keeps (Out v) c a =
      let o : Outed = outed c.setup c.bus.line v in
      subst (λ w. Latching b w (stored o.line o.store c).registers.outside_level (stored o.line o.store c).normal
      c.registers.shown (stored o.line o.store c).registers.shown) (sym (when_true c.normal o.store None a))
      (store_keeps c o)
  bus_keeps (In nack) c a = stays_as None c refl

  normal_keeps : (e : Event) (c : Chip) → c.normal ≡ true → Holds b e c (normally e c).chip
  normal_keeps Por c a = darkens other None false c.registers.shown
  normal_keeps Boot c a = stays_as None c refl
  normal_keeps Pin c a =
      by_cond (Latching b None c.registers.outside_level c.normal c.registers.shown) (alert c.registers.shown.status)
      c.registers.shown (overridden c.registers.shown)
      (λ h. stays_as None c refl) (λ h. (puts_off other c.registers.outside_level c.normal c.registers.shown).0)
  normal_keeps Xready c a = (puts_off other c.registers.outside_level c.normal c.registers.shown).1
  normal_keeps (Scan xs) c a = judged_keeps (Scan xs) c
  normal_keeps (Temp xs) c a = stays_as None c refl
  normal_keeps (Count n) c a =
      by_cond (Latching b None c.registers.outside_level c.normal c.registers.shown)
      (c.registers.settings.cc_en || c.registers.shown.cc_oneshot) (counting c.registers.shown) c.registers.shown
      (λ h. (puts_off other c.registers.outside_level c.normal c.registers.shown).2) (λ h. stays_as None c refl)
  normal_keeps (Sense v) c a = judged_keeps (Sense v) c
  normal_keeps (Load l) c a = stays_as None c refl
  normal_keeps (OnBus e) c a = bus_keeps e c a
  normal_keeps (Level l) c a = same b None l c.normal c.registers.shown refl

  other_keeps : (e : Event) (c : Chip) → Holds b e c (next e c)
  other_keeps e c =
      let w : Store = wrote c.setup (core_of c) e in
      next_by (Holds b e c) e c
      (λ f a. level_keeps other w (normally e c).chip.registers.outside_level (normally e c).chip.normal c.registers.shown
      (normally e c).chip.registers.shown (normal_keeps e c a))
      (λ f a. let n : clears_at b w ≡ false = ap (clears_at b) (wrote_asleep c.setup (core_of c) e a) in
      asleep_by (Holds b e c) e c (darkens other w false c.registers.shown)
      (λ h. level_keeps other w c.registers.outside_level true c.registers.shown c.registers.shown
      (same b w c.registers.outside_level true c.registers.shown n)) (stays_as w c n))
      (λ f. stays_as w c (ap (clears_at b) (wrote_unfit c.setup (core_of c) e f)))

-- the four faults' bits, by Latch
same_clears : (k : Fault) (w : Store) → clears_at (fault_bit k) w ≡ clears k w
same_clears k None = refl
same_clears k (Some w) = refl

fault_keeps : (k : Fault) (e : Event) (c : Chip) → Holds (fault_bit k) e c (next e c)
unfolding Latching Keeps
fault_keeps k e c =
    let h = next_keeps k e c in
    let z : clears_at (fault_bit k) (wrote c.setup (core_of c) e) ≡ clears k (wrote c.setup (core_of c) e) =
    same_clears k (wrote c.setup (core_of c) e) in
    record { stays = λ x y n. h.stays x y (sym z ∙ n); down = λ x y. h.down (sym z ∙ x); off = h.off }

pub latching : (b : StatusBit) (e : Event) (c : Chip) → Holds b e c (next e c)
latching cc_ready_bit e c = other_keeps ready e c
latching xready_bit e c = other_keeps xready e c
latching ovrd_alert_bit e c = other_keeps ovrd e c
latching (fault_bit k) e c = fault_keeps k e c

pub alert_at : (b : StatusBit) (t : Status) → bit_at b t ≡ true → alert t ≡ true
alert_at cc_ready_bit t h = search (or_left, or_right) depth 8
alert_at xready_bit t h = search (or_left, or_right) depth 8
alert_at ovrd_alert_bit t h = search (or_left, or_right) depth 8
alert_at (fault_bit k) t h = alert_up k t h

-- ── over any events from power-up ──
module _ (u : Setup) where
  abbrev pub up_at : StatusBit → List Event → Bool
  up_at b past = bit_at b (shown u past).status

  abbrev pub on_at : StatusBit → List Event → Bool
  on_at b past = driven_at b (shown u past)

  -- none of the later events writes a one to the bit
  unfoldable pub UnclearedAt : StatusBit → List Event → List Event → Type 0
  UnclearedAt b [] past = Unit
  UnclearedAt b (e ∷ later) past = UnclearedAt b later past × (clears_at b (wrote u (core u (later ++ past)) e) ≡ false)

  one : (b : StatusBit) (past : List Event) (e : Event)
      → Latching b (wrote u (core u past) e) (outside u (e ∷ past)) (core u (e ∷ past)).normal (shown u past) (shown u (e ∷ past))
  unfolding chip
  one b past e =
      rw (← core_is u (e ∷ past))
      (subst (λ w. Latching b w (outside u (e ∷ past)) (next e (chip u past)).normal (shown u past) (shown u (e ∷ past)))
      (λ i. wrote (setup_is u past i) (core_is u past i) e) (latching b e (chip u past)))

  off_while_up : (b : StatusBit) (past : List Event) → up_at b past && on_at b past ≡ false
  unfolding chip Latching
  off_while_up cc_ready_bit [] = refl
  off_while_up xready_bit [] = refl
  off_while_up ovrd_alert_bit [] = refl
  off_while_up (fault_bit Ov) [] = refl
  off_while_up (fault_bit Uv) [] = refl
  off_while_up (fault_bit Scd) [] = refl
  off_while_up (fault_bit Ocd) [] = refl
  off_while_up b (e ∷ past) = (one b past e).off (off_while_up b past)

  stays_up : (b : StatusBit) (later past : List Event) → up_at b past ≡ true → StaysAwake u later past → UnclearedAt b later past
      → up_at b (later ++ past) ≡ true
  unfolding StaysAwake UnclearedAt Latching
  stays_up b [] past p a h = p
  stays_up b (e ∷ later) past p a h = (one b (later ++ past) e).stays a.1 (stays_up b later past p a.0 h.0) h.1

  -- A BIT THAT IS UP stays up, keeps ALERT up and its drives off, over any events that neither write a one to it nor ship nor reset
  pub bit_latches : (b : StatusBit) (later past : List Event) → up_at b past ≡ true → StaysAwake u later past → UnclearedAt b later past
      → (up_at b (later ++ past) ≡ true) × (alerted u (later ++ past) ≡ true) × (on_at b (later ++ past) ≡ false)
  bit_latches b later past p a h =
      let v : up_at b (later ++ past) ≡ true = stays_up b later past p a h in
      (v, alert_at b (shown u (later ++ past)).status v, rw v at (off_while_up b (later ++ past)))

  -- it goes down by a write of a one to it; OVRD_ALERT where the outside level is 0
  pub bit_lowers : (b : StatusBit) (past : List Event) (e : Event) → clears_at b (wrote u (core u past) e) ≡ true
      → holds_up b (outside u (e ∷ past)) ≡ false
      → up_at b (e ∷ past) ≡ false
  unfolding Latching
  bit_lowers b past e h g = (one b past e).down h g

  -- .. and on entering SHIP
  pub bit_down_in_ship : (b : StatusBit) (past : List Event) → (core u past).normal ≡ false → up_at b past ≡ false
  bit_down_in_ship b past a = ap (λ c. bit_at b c.registers.shown.status) (in_ship_is u past (awake_is u past ∙ a)) ∙ dark_down b
    where
      dark_down : (b : StatusBit) → bit_at b dark.status ≡ false
      dark_down cc_ready_bit = refl
      dark_down xready_bit = refl
      dark_down ovrd_alert_bit = refl
      dark_down (fault_bit Ov) = refl
      dark_down (fault_bit Uv) = refl
      dark_down (fault_bit Scd) = refl
      dark_down (fault_bit Ocd) = refl

  -- neither drive is on
  neither : (a b : Bool) → a || b ≡ false → (a ≡ false) × (b ≡ false)
  neither false b h = (refl, h)
  neither true b h = (h, absurd (true≢false h))

  -- OVRD_ALERT and XREADY hold both drives off
  pub ovrd_holds_both : (past : List Event) → up_at ovrd_alert_bit past ≡ true
      → ((shown u past).chg_on ≡ false) × ((shown u past).dsg_on ≡ false)
  ovrd_holds_both past p = neither (shown u past).chg_on (shown u past).dsg_on (rw p at (off_while_up ovrd_alert_bit past))

  pub xready_holds_both : (past : List Event) → up_at xready_bit past ≡ true
      → ((shown u past).chg_on ≡ false) × ((shown u past).dsg_on ≡ false)
  xready_holds_both past p = neither (shown u past).chg_on (shown u past).dsg_on (rw p at (off_while_up xready_bit past))

  -- a drive that either held comes on again only if some event since then is a write that asks for it
  drive_off : (k : Fault) (past : List Event) → ((shown u past).chg_on ≡ false) × ((shown u past).dsg_on ≡ false) → drive u k past ≡ false
  drive_off Ov past h = h.0
  drive_off Uv past h = h.1
  drive_off Scd past h = h.1
  drive_off Ocd past h = h.1

  pub ovrd_on_only_asked : (k : Fault) (later past : List Event) → up_at ovrd_alert_bit past ≡ true → drive u k (later ++ past) ≡ true
      → Asked u k later past
  ovrd_on_only_asked k later past p o = asked_since u k later past (drive_off k past (ovrd_holds_both past p)) o

  pub xready_on_only_asked : (k : Fault) (later past : List Event) → up_at xready_bit past ≡ true → drive u k (later ++ past) ≡ true
      → Asked u k later past
  xready_on_only_asked k later past p o = asked_since u k later past (drive_off k past (xready_holds_both past p)) o
