-- CHIP H1 to H6 as they are read: the events from power-up, what each says of a fault, what is due, and the claims that Theorem proves of
-- every setup. Said of the events alone, as they come: bus bytes and CRCs, counts, ticks. No run and no counter is named here. Events stand
-- newest first: `e ∷ past` is `past` and then `e`; `later ++ past` is `past` and then `later`. Assumes nothing.
use Rattle.std.specs.Prelude.{◌≡◌, Bool, true, false, not, ◌&&◌, cond, List, [], ◌∷◌, ◌++◌, ◌↔◌, ℕ, take, replicate, eqb}
use Rattle.std.proofs.Math.Logic.{◌∨₁◌}
use Rattle.events.specs.declared.Setup.{Setup}
use Rattle.events.specs.declared.BusEvent.{BusEvent}
use Rattle.events.specs.declared.BusEvent.TheVariants.{Start, Stop, Out, In}
use Rattle.events.specs.Event.{Event, Por, Boot, Pin, Xready, Scan, Temp, Count, Sense, Load, OnBus, Level, fits}
use Rattle.events.specs.declared.Fault.{Fault}
use Rattle.events.specs.declared.Fault.TheVariants.{Ov, Uv, Scd, Ocd}
use Rattle.bus.specs.Bus.{Store}
use Rattle.std.specs.Prelude.{Some, None}
use Rattle.bus.specs.Bus.{outed}
use Rattle.settings.specs.declared.Settings.{Settings}
use Rattle.bits.specs.Bit.{bit}
use Rattle.registers.specs.declared.Shown.{Shown}
use Rattle.registers.specs.State.{alert}
use Rattle.registers.specs.Write.{status_of}
use Rattle.registers.specs.Fault.{bit_of, drive_of}
use Rattle.limits.specs.Rule.{rule, opinion}
use Rattle.chip.specs.declared.Chip.{Chip}
use Rattle.chip.specs.Chip.{in_ship, stepped, next}
use Rattle.chip.specs.Core.{Core, core_of, core_next}

-- ── what an event is to a fault ──
-- a SCAN judges OV and UV, a tick judges SCD and OCD
abbrev pub of_cells : Fault → Bool
of_cells Ov = true
of_cells Uv = true
of_cells Scd = false
of_cells Ocd = false

abbrev pub judges : Fault → Event → Bool
judges k Por = false
judges k Boot = false
judges k Pin = false
judges k Xready = false
judges k (Scan xs) = of_cells k
judges k (Temp xs) = false
judges k (Count n) = false
judges k (Sense v) = not (of_cells k)
judges k (Load l) = false
judges k (OnBus b) = false
judges k (Level l) = false

-- the accepted store that an event makes: with CRC on at the CRC byte, else at the data byte
abbrev pub wrote : Setup → Core → Event → Store
wrote u c Por = None
wrote u c Boot = None
wrote u c Pin = None
wrote u c Xready = None
wrote u c (Scan xs) = None
wrote u c (Temp xs) = None
wrote u c (Count n) = None
wrote u c (Sense v) = None
wrote u c (Load l) = None
wrote u c (OnBus Start) = None
wrote u c (OnBus Stop) = None
wrote u c (OnBus (Out b)) = cond c.normal (outed u c.line b).store None
wrote u c (OnBus (In nack)) = None
wrote u c (Level l) = None

-- a one written to the bit of k in SYS_STAT; a one written to its drive in SYS_CTRL2
abbrev pub clears : Fault → Store → Bool
clears k None = false
clears k (Some w) = eqb w.at 0x00 && bit_of k (status_of w.value)

abbrev pub asks : Fault → ℕ → Bool
asks Ov v = bit v 1
asks Uv v = bit v 2
asks Scd v = bit v 2
asks Ocd v = bit v 2

abbrev pub enables : Fault → Store → Bool
enables k None = false
enables k (Some w) = eqb w.at 0x05 && asks k w.value

-- host traffic
abbrev pub traffic : List BusEvent → List Event
traffic [] = []
traffic (b ∷ bs) = OnBus b ∷ traffic bs

module _ (u : Setup) where
  -- ── the chip after these events, from setup on: it is in SHIP ──
  unfoldable pub chip : List Event → Chip
  chip [] = in_ship u
  chip (e ∷ past) = next e (chip past)

  abbrev pub shown : List Event → Shown
  shown past = (chip past).registers.shown

  -- the outside level (CHIP L1)
  abbrev pub outside : List Event → Bool
  outside past = (chip past).registers.outside_level

  -- the bit of k in SYS_STAT, its drive, and ALERT
  abbrev pub up : Fault → List Event → Bool
  up k past = bit_of k (shown past).status

  abbrev pub drive : Fault → List Event → Bool
  drive k past = drive_of k (shown past)

  abbrev pub alerted : List Event → Bool
  alerted past = alert (shown past).status

  abbrev pub Accepted : List Event → Event → Type 0
  Accepted past e = (stepped e (chip past)).number ≡ 0

  -- ── the mode, the bus's line and the settings after these events: the events alone move them (`core_is`: they are the chip's) ──
  unfoldable pub core : List Event → Core
  core [] = core_of (in_ship u)
  core (e ∷ past) = core_next u e (core past)

  abbrev pub standing : List Event → Settings
  standing past = (core past).settings

  abbrev pub Awake : List Event → Type 0
  Awake past = (core past).normal ≡ true

  -- ── verdicts ──
  -- what the event e says of fault k, by the settings that stand when it comes; one that is out of range says nothing
  abbrev pub said : Fault → List Event → Event → List Bool
  said k past e = cond (fits e) (opinion k u.floor (rule k (standing past)) e) []

  -- the verdicts on k of this waking spell, newest first: an event that leaves the chip in SHIP ends the spell
  unfoldable pub verdicts : Fault → List Event → List Bool
  verdicts k [] = []
  verdicts k (e ∷ past) = cond (core (e ∷ past)).normal (said k past e ++ verdicts k past) []

  -- the scans or ticks that k takes, by the delay now set
  abbrev pub delay : Fault → List Event → ℕ
  delay k past = (rule k (standing past)).need

  -- the newest verdicts, as many as the delay now set, are there and are all true
  abbrev pub Due : Fault → List Event → Type 0
  Due k past = take (delay k past) (verdicts k past) ≡ replicate (delay k past) true

  -- ── what leaves a bit, a drive or a spell alone ──
  -- the chip is awake after each of the later events: none ships or resets
  unfoldable pub StaysAwake : List Event → List Event → Type 0
  StaysAwake [] past = Awake past
  StaysAwake (e ∷ later) past = StaysAwake later past × Awake (e ∷ later ++ past)

  -- none of the later events judges k
  unfoldable pub Unjudged : Fault → List Event → Type 0
  Unjudged k [] = Unit
  Unjudged k (e ∷ later) = Unjudged k later × (judges k e ≡ false)

  -- none of the later events writes a one to the bit of k
  unfoldable pub Uncleared : Fault → List Event → List Event → Type 0
  Uncleared k [] past = Unit
  Uncleared k (e ∷ later) past = Uncleared k later past × (clears k (wrote u (core (later ++ past)) e) ≡ false)

  -- some later event is a write that asks for the drive of k and finds its bit down
  pub record Asked (k : Fault) (later past : List Event) : Type 0 where
    pub newer : List Event
    pub event : Event
    pub older : List Event
    pub split : later ≡ newer ++ event ∷ older
    pub asks_it : enables k (wrote u (core (older ++ past)) event) ≡ true
    pub finds_down : up k (older ++ past) ≡ false

  -- ── THE CLAIMS ──
  -- 1. Rising. After an accepted SCAN the bit OV (UV) is up exactly when it was up before, or the newest verdicts of this waking spell,
  -- this scan's included and as many as the delay now set, are there and all true, each by the settings that stood at its scan. SCD and
  -- OCD at a tick likewise.
  abbrev pub Rises : Type 0
  Rises = (k : Fault) (past : List Event) (e : Event) → judges k e ≡ true → Accepted past e
      → (up k (e ∷ past) ≡ true) ↔ ((up k past ≡ true) ∨₁ Due k (e ∷ past))

  -- .. and no other event raises it.
  abbrev pub NothingElseRaises : Type 0
  NothingElseRaises = (k : Fault) (past : List Event) (e : Event) → judges k e ≡ false → up k past ≡ false → up k (e ∷ past) ≡ false

  -- 2. Not postponed. Events that do not judge k, and do not ship or reset, leave its verdicts; so where they leave its rule as it was
  -- (that it is measured, its limit, its delay) the next scan or tick finds due what it would have found due without them.
  abbrev pub NotPostponed : Type 0
  NotPostponed = (k : Fault) (later past : List Event) (e : Event) → judges k e ≡ true → Accepted past e
      → Unjudged k later → StaysAwake later past → rule k (standing (later ++ past)) ≡ rule k (standing past)
      → Due k (e ∷ later ++ past) ↔ Due k (e ∷ past)

  -- Host traffic is such, clearing writes included, unless it ships the chip.
  abbrev pub TrafficPostponesNothing : Type 0
  TrafficPostponesNothing = (k : Fault) (bs : List BusEvent) (past : List Event) (e : Event) → judges k e ≡ true → Accepted past e
      → Awake (traffic bs ++ past) → rule k (standing (traffic bs ++ past)) ≡ rule k (standing past)
      → Due k (e ∷ traffic bs ++ past) ↔ Due k (e ∷ past)

  -- 3. Latched. A bit that is up stays up, keeps ALERT up and its drive off, over any events that neither write a one to it nor ship nor
  -- reset.
  abbrev pub Latches : Type 0
  Latches = (k : Fault) (later past : List Event) → up k past ≡ true → StaysAwake later past → Uncleared k later past
      → (up k (later ++ past) ≡ true) × (alerted (later ++ past) ≡ true) × (drive k (later ++ past) ≡ false)

  -- It goes down by a write of a one to it, and on entering SHIP.
  abbrev pub Lowers : Type 0
  Lowers = (k : Fault) (past : List Event) (e : Event) → clears k (wrote u (core past) e) ≡ true → up k (e ∷ past) ≡ false

  abbrev pub DownInShip : Type 0
  DownInShip = (k : Fault) (past : List Event) → (core past).normal ≡ false → up k past ≡ false

  -- After a time at which the bit was up its drive is on only if some event since then is a write that asks for it and finds the bit down.
  abbrev pub OnAgainOnlyAsked : Type 0
  OnAgainOnlyAsked = (k : Fault) (later past : List Event) → up k past ≡ true → drive k (later ++ past) ≡ true → Asked k later past

  pub record ThirdDemand : Type 0 where
    pub rises : Rises
    pub nothing_else_raises : NothingElseRaises
    pub not_postponed : NotPostponed
    pub traffic_postpones_nothing : TrafficPostponesNothing
    pub latches : Latches
    pub lowers : Lowers
    pub down_in_ship : DownInShip
    pub on_again_only_asked : OnAgainOnlyAsked
