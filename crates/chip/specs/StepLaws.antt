-- CHIP M4, M6, N30, J9 and B18 as they are read, of one event and any chip: out of range 3 before asleep 4, BOOT, the bus asleep, what a
-- SCAN or a tick is judged to be is counted and shown, and what a read keeps. Assumes nothing.
use Rattle.std.specs.Prelude.{◌≡◌, refl, Bool, true, false, cond, List, ℕ, ◌+◌, ◌%◌, ℤ}
use Rattle.std.proofs.Common.{sym, ap, ◌∙◌, true≢false}
use Rattle.events.specs.declared.BusEvent.TheVariants.{Start, Stop, Out, In}
use Rattle.events.specs.Event.{Event, Boot, Scan, Sense, OnBus, fits, ticks_fit, ticks}
use Rattle.events.specs.declared.Fault.{Fault}
use Rattle.bus.specs.declared.Phase.TheVariants.{Reading}
use Rattle.bus.specs.Bus.{is_high, keeps, owing}
use Rattle.registers.specs.Fault.{bit_of}
use Rattle.registers.specs.DrivesLaws.{rises}
use Rattle.registers.specs.LevelLaws.{level_bit}
use Rattle.protection.specs.Runs.{counted, risen}
use Rattle.chip.specs.declared.Chip.{Chip}
use Rattle.chip.specs.Answer.{Stepped}
use Rattle.chip.specs.Chip.{reads, on_bus, numbered, watched, settled, normally, asleep, happened, stepped, next, ticking, stepped_as}

-- ── NUMBERS ──
-- out of range: 3, and the chip as it was
pub out_of_range : (e : Event) (c : Chip) → fits e ≡ false → stepped e c ≡ record { chip = c; number = 3; flag = false; byte = 0 }
unfolding stepped
out_of_range e c f = simp f

-- kinds 0014 and 0017: 3 out of range, then 4 asleep, then that many ticks
pub ticks-number : (most : ℕ) (v : ℤ) (n : ℕ) (c : Chip)
    → (stepped_as (ticks most v n) c).number ≡ cond (ticks_fit most v n) (cond c.normal 0 4) 3
ticks-number most v n c = by (ticks_fit most v n) c.normal
  where
    by : (f a : Bool) → (cond f (cond a (numbered 0 (ticking n v c)) (numbered 4 c)) (numbered 3 c)).number ≡ cond f (cond a 0 4) 3
    by true true = refl
    by true false = refl
    by false a = refl

-- ── ASLEEP ──
-- BOOT wakes; awake it does nothing, but that the outside level is looked at (CHIP M4, L2)
boot_by : (c : Chip) (t : Bool) → c.normal ≡ t → next Boot c ≡ (cond t (settled (normally Boot c)) (asleep Boot c)).chip
unfolding stepped happened fits
boot_by c t h = ap (λ (w : Bool). (cond w (settled (normally Boot c)) (asleep Boot c)).chip) h

pub boot_wakes : (c : Chip) → c.normal ≡ false → (next Boot c).normal ≡ true
boot_wakes c h = ap (λ (d : Chip). d.normal) (boot_by c false h)

pub boot_awake : (c : Chip) → c.normal ≡ true → next Boot c ≡ watched c
boot_awake c h = boot_by c true h

-- CHIP M6: START and STOP do nothing, no OUT is acknowledged, every IN gives 0xFF, and the chip stays as it is
pub asleep_bus : (c : Chip) → c.normal ≡ false
    → (stepped (OnBus Start) c ≡ record { chip = c; number = 0; flag = false; byte = 0 })
    × (stepped (OnBus Stop) c ≡ record { chip = c; number = 0; flag = false; byte = 0 })
    × ((b : ℕ) → stepped (OnBus (Out b)) c ≡ record { chip = c; number = 0; flag = true; byte = 1 })
    × ((nack : Bool) → stepped (OnBus (In nack)) c ≡ record { chip = c; number = 0; flag = true; byte = 0xFF })
unfolding stepped happened fits
asleep_bus c h = (
  ap (λ (w : Bool). cond w (settled (normally (OnBus Start) c)) (asleep (OnBus Start) c)) h,
  ap (λ (w : Bool). cond w (settled (normally (OnBus Stop) c)) (asleep (OnBus Stop) c)) h,
  λ b. ap (λ (w : Bool). cond w (settled (normally (OnBus (Out b)) c)) (asleep (OnBus (Out b)) c)) h,
  λ nack. ap (λ (w : Bool). cond w (settled (normally (OnBus (In nack)) c)) (asleep (OnBus (In nack)) c)) h,
)

-- ── JUDGING: awake, a SCAN or a tick in range leaves its verdict in the runs, and the bit that rises is up ──
pub data Judges : Event → Type 0 where
  scan : (xs : List ℕ) → Judges (Scan xs)
  tick : (v : ℤ) → Judges (Sense v)

awake : (e : Event) (c : Chip) → fits e ≡ true → c.normal ≡ true → next e c ≡ (settled (normally e c)).chip
unfolding stepped happened
awake e c f a = ap (λ (s : Stepped). s.chip) (by (fits e) c.normal f a)
  where
    by : (p q : Bool) → p ≡ true → q ≡ true
        → cond p (cond q (settled (normally e c)) (asleep e c)) (numbered 3 c) ≡ settled (normally e c)
    by true true f a = refl
    by true false f a = absurd (true≢false (sym a))
    by false q f a = absurd (true≢false (sym f))

pub runs-counted : {e : Event} → Judges e → (c : Chip) → fits e ≡ true → c.normal ≡ true
    → (next e c).runs ≡ counted c.setup.floor c.registers.settings c.runs e
runs-counted (scan xs) c f a = ap (λ (d : Chip). d.runs) (awake (Scan xs) c f a)
runs-counted (tick v) c f a = ap (λ (d : Chip). d.runs) (awake (Sense v) c f a)

pub risen-shown : {e : Event} → Judges e → (k : Fault) (c : Chip) → fits e ≡ true → c.normal ≡ true
    → risen c.setup.floor c.registers.settings c.runs e k ≡ true → bit_of k (next e c).registers.shown.status ≡ true
risen-shown (scan xs) k c f a r =
    ap (λ (d : Chip). bit_of k d.registers.shown.status) (awake (Scan xs) c f a)
    ∙ level_bit k c.registers.outside_level (normally (Scan xs) c).chip.registers.shown
    ∙ rises k (risen c.setup.floor c.registers.settings c.runs (Scan xs)) c.registers.shown r
risen-shown (tick v) k c f a r =
    ap (λ (d : Chip). bit_of k d.registers.shown.status) (awake (Sense v) c f a)
    ∙ level_bit k c.registers.outside_level (normally (Sense v) c).chip.registers.shown
    ∙ rises k (risen c.setup.floor c.registers.settings c.runs (Sense v)) c.registers.shown r

-- ── READING: the high byte of a pair keeps what the address after it reads then (CHIP B18) ──
pub low_kept : (nack k : Bool) (s a : ℕ) (c : Chip) → c.bus.line.phase ≡ Reading s k → c.bus.line.pointer ≡ a → is_high a ≡ true
    → (on_bus (In nack) c).chip.bus.owed.low ≡ reads c ((a + 1) % 256)
unfolding owing keeps
low_kept nack k s a c p q h = simp (p, q, h)
