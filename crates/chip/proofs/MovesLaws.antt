-- What one event does to the parts of the chip, whatever the others hold. Assumes nothing.
use Rattle.std.specs.Prelude.{◌≡◌, refl, Bool, true, false, cond, ℕ, Some, None}
use Rattle.events.specs.declared.BusEvent.{BusEvent}
use Rattle.events.specs.declared.BusEvent.TheVariants.{Start, Stop, Out, In}
use Rattle.events.specs.Event.{Event, Por, Boot, Pin, Xready, Scan, Temp, Count, Sense, Load, OnBus, Level, fits}
use Rattle.bus.specs.declared.Line.{Line}
use Rattle.bus.specs.Bus.{Store, At, outed}
use Rattle.settings.specs.Write.{ships}
use Rattle.chip.specs.declared.Chip.{Chip}
use Rattle.chip.specs.Chip.{numbered, with_normal, in_ship, line_moved, accepted, stored_at, stored, on_bus, watched, settled}
use Rattle.chip.specs.Chip.{normally, asleep, happened, stepped, next}
use Rattle.chip.specs.Core.{core_of, bare, core_next}

-- ── an accepted event in NORMAL; in SHIP; a value out of range ──
pub normal_is : (e : Event) (c : Chip) → fits e ≡ true → c.normal ≡ true → stepped e c ≡ settled (normally e c)
unfolding stepped happened
normal_is e c f a = rw (f, a)

-- a property of the next chip, by these three
pub next_by : (P : Chip → Type 0) (e : Event) (c : Chip)
    → (fits e ≡ true → c.normal ≡ true → P (watched (normally e c).chip))
    → (fits e ≡ true → c.normal ≡ false → P (asleep e c).chip)
    → (fits e ≡ false → P c)
    → P (next e c)
unfolding stepped happened
next_by P e c n s r = by (fits e) c.normal n s r
  where
    by : (f a : Bool) → (f ≡ true → a ≡ true → P (watched (normally e c).chip)) → (f ≡ true → a ≡ false → P (asleep e c).chip)
        → (f ≡ false → P c)
        → P (cond f (cond a (settled (normally e c)) (asleep e c)) (numbered 3 c)).chip
    by true true n s r = n refl refl
    by true false n s r = s refl refl
    by false a n s r = r refl

-- and one of a chip that a store leaves
pub stored_by : (P : Chip → Type 0) (l : Line) (t : Store) (c : Chip)
    → (t ≡ None → P (line_moved l c))
    → ((a v : ℕ) → t ≡ At a v → ships a v c.registers.settings ≡ true → P (in_ship c.setup))
    → ((a v : ℕ) → t ≡ At a v → ships a v c.registers.settings ≡ false → P (accepted l a v c))
    → P (stored l t c)
unfolding stored_at
stored_by P l None c n s k = n refl
stored_by P l (Some w) c n s k = by (ships w.at w.value c.registers.settings) (s w.at w.value refl) (k w.at w.value refl)
  where
    by : (b : Bool) → (b ≡ true → P (in_ship c.setup)) → (b ≡ false → P (accepted l w.at w.value c))
        → P (cond b (in_ship c.setup) (accepted l w.at w.value c))
    by true s k = s refl
    by false s k = k refl

-- ── the setup never moves ──
setup_bus : (b : BusEvent) (c : Chip) → (on_bus b c).chip.setup ≡ c.setup
setup_bus Start c = refl
setup_bus Stop c = refl
setup_bus (Out b) c =
    stored_by (λ d. d.setup ≡ c.setup) (outed c.setup c.bus.line b).line (outed c.setup c.bus.line b).store c
    (λ t. refl) (λ a v t h. refl) (λ a v t h. refl)
setup_bus (In nack) c = refl

setup_normal : (e : Event) (c : Chip) → (normally e c).chip.setup ≡ c.setup
setup_normal Por c = refl
setup_normal Boot c = refl
setup_normal Pin c = refl
setup_normal Xready c = refl
setup_normal (Scan xs) c = refl
setup_normal (Temp xs) c = refl
setup_normal (Count n) c = refl
setup_normal (Sense v) c = refl
setup_normal (Load l) c = refl
setup_normal (OnBus b) c = setup_bus b c
setup_normal (Level l) c = refl

-- in SHIP the chip enters SHIP anew, wakes, or stays as it is
pub asleep_by : (P : Chip → Type 0) (e : Event) (c : Chip) → P (in_ship c.setup) → (e ≡ Boot → P (watched (with_normal true c))) → P c
    → P (asleep e c).chip
asleep_by P Por c i w s = i
asleep_by P Boot c i w s = w refl
asleep_by P Pin c i w s = s
asleep_by P Xready c i w s = s
asleep_by P (Scan xs) c i w s = s
asleep_by P (Temp xs) c i w s = s
asleep_by P (Count n) c i w s = s
asleep_by P (Sense v) c i w s = s
asleep_by P (Load l) c i w s = s
asleep_by P (OnBus Start) c i w s = s
asleep_by P (OnBus Stop) c i w s = s
asleep_by P (OnBus (Out b)) c i w s = s
asleep_by P (OnBus (In nack)) c i w s = s
asleep_by P (Level l) c i w s = s

pub setup-next : (e : Event) (c : Chip) → (next e c).setup ≡ c.setup
setup-next e c =
    next_by (λ d. d.setup ≡ c.setup) e c (λ f a. setup_normal e c)
    (λ f a. asleep_by (λ d. d.setup ≡ c.setup) e c refl (λ w. refl) refl) (λ f. refl)

-- ── the core moves by itself: two chips with one setup and one core go on with one core ──
abbrev Agree : Chip → Chip → Type 0
Agree c d = core_of c ≡ core_of d

core_stored : (l : Line) (t : Store) (c : Chip) → Agree (stored l t c) (stored l t (bare c.setup (core_of c)))
unfolding stored_at
core_stored l None c = refl
core_stored l (Some w) c = by (ships w.at w.value c.registers.settings)
  where
    by : (b : Bool)
        → Agree (cond b (in_ship c.setup) (accepted l w.at w.value c))
        (cond b (in_ship c.setup) (accepted l w.at w.value (bare c.setup (core_of c))))
    by true = refl
    by false = refl

core_normal : (e : Event) (c : Chip) → Agree (normally e c).chip (normally e (bare c.setup (core_of c))).chip
core_normal Por c = refl
core_normal Boot c = refl
core_normal Pin c = refl
core_normal Xready c = refl
core_normal (Scan xs) c = refl
core_normal (Temp xs) c = refl
core_normal (Count n) c = refl
core_normal (Sense v) c = refl
core_normal (Load l) c = refl
core_normal (OnBus Start) c = refl
core_normal (OnBus Stop) c = refl
core_normal (OnBus (Out b)) c = core_stored (outed c.setup c.bus.line b).line (outed c.setup c.bus.line b).store c
core_normal (OnBus (In nack)) c = refl
core_normal (Level l) c = refl

core_asleep : (e : Event) (c : Chip) → Agree (asleep e c).chip (asleep e (bare c.setup (core_of c))).chip
core_asleep Por c = refl
core_asleep Boot c = refl
core_asleep Pin c = refl
core_asleep Xready c = refl
core_asleep (Scan xs) c = refl
core_asleep (Temp xs) c = refl
core_asleep (Count n) c = refl
core_asleep (Sense v) c = refl
core_asleep (Load l) c = refl
core_asleep (OnBus Start) c = refl
core_asleep (OnBus Stop) c = refl
core_asleep (OnBus (Out b)) c = refl
core_asleep (OnBus (In nack)) c = refl
core_asleep (Level l) c = refl

pub core_next_lem : (e : Event) (c : Chip) → core_of (next e c) ≡ core_next c.setup e (core_of c)
unfolding stepped happened
core_next_lem e c = by (fits e) c.normal
  where
    alone : Chip
    alone = bare c.setup (core_of c)

    by : (f a : Bool)
        → Agree (cond f (cond a (settled (normally e c)) (asleep e c)) (numbered 3 c)).chip
        (cond f (cond a (settled (normally e alone)) (asleep e alone)) (numbered 3 alone)).chip
    by true true = core_normal e c
    by true false = core_asleep e c
    by false a = refl
