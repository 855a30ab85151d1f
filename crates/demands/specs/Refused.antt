-- CHIP N31: a refused event leaves the chip as it stood, whatever its number; of the definitions' events and of the code's. Assumes
-- nothing.
use Rattle.std.specs.Prelude.{◌≡◌, refl, Bool, true, false, cond}
use Rattle.events.specs.declared.Counts.{Counts}
use Rattle.events.specs.declared.BusEvent.TheVariants.{Start, Stop, Out, In}
use Rattle.events.specs.declared.Event.{Event as Coded}
use Rattle.events.specs.Event.{Event, Por, Boot, Pin, Xready, Scan, Temp, Count, Sense, Load, OnBus, Level, fits, ticks_fit, Meant}
use Rattle.events.specs.Event.{means, ticks, unfit, meant_of}
use Rattle.chip.specs.declared.Chip.{Chip}
use Rattle.chip.specs.Chip.{numbered, settled, normally, asleep, happened, stepped, next, ticking, stepped_as, stepped_by}

-- in NORMAL nothing in range is refused
pub normal_done : (e : Event) (c : Chip) → (normally e c).number ≡ 0
normal_done Por c = refl
normal_done Boot c = refl
normal_done Pin c = refl
normal_done Xready c = refl
normal_done (Scan xs) c = refl
normal_done (Temp xs) c = refl
normal_done (Count n) c = refl
normal_done (Sense v) c = refl
normal_done (Load l) c = refl
normal_done (OnBus Start) c = refl
normal_done (OnBus Stop) c = refl
normal_done (OnBus (Out b)) c = refl
normal_done (OnBus (In nack)) c = refl
normal_done (Level l) c = refl

asleep_refused : (e : Event) (c : Chip) → ((asleep e c).number ≡ 0 → ⊥) → (asleep e c).chip ≡ c
asleep_refused Por c h = absurd (h refl)
asleep_refused Boot c h = absurd (h refl)
asleep_refused Pin c h = refl
asleep_refused Xready c h = refl
asleep_refused (Scan xs) c h = refl
asleep_refused (Temp xs) c h = refl
asleep_refused (Count n) c h = refl
asleep_refused (Sense v) c h = refl
asleep_refused (Load l) c h = refl
asleep_refused (OnBus Start) c h = refl
asleep_refused (OnBus Stop) c h = refl
asleep_refused (OnBus (Out b)) c h = refl
asleep_refused (OnBus (In nack)) c h = refl
asleep_refused (Level l) c h = refl

-- number 4, of an event whose values are in range, which the code's methods speak of
pub refused_happened : (e : Event) (c : Chip) → ((happened e c).number ≡ 0 → ⊥) → (happened e c).chip ≡ c
unfolding happened
refused_happened e c h = by c.normal h
  where
    by : (a : Bool) → ((cond a (settled (normally e c)) (asleep e c)).number ≡ 0 → ⊥)
        → (cond a (settled (normally e c)) (asleep e c)).chip ≡ c
    by true h = absurd (h (normal_done e c))
    by false h = asleep_refused e c h

pub in_range_lem : (e : Event) (c : Chip) → fits e ≡ true → stepped e c ≡ happened e c
unfolding stepped
in_range_lem e c f = rw f

-- numbers 3 and 4, of any event
pub refused : (e : Event) (c : Chip) → ((stepped e c).number ≡ 0 → ⊥) → next e c ≡ c
unfolding stepped
refused e c h = by (fits e) h
  where
    by : (f : Bool) → ((cond f (happened e c) (numbered 3 c)).number ≡ 0 → ⊥) → (cond f (happened e c) (numbered 3 c)).chip ≡ c
    by true h = refused_happened e c h
    by false h = refl

-- and 2, of what the code's event means
pub refused_as : (m : Meant) (c : Chip) → ((stepped_as m c).number ≡ 0 → ⊥) → (stepped_as m c).chip ≡ c
refused_as (means e) c h = refused e c h
refused_as (ticks most v n) c h = in_ticks (ticks_fit most v n) c.normal h
  where
    in_ticks : (f a : Bool) → ((cond f (cond a (numbered 0 (ticking n v c)) (numbered 4 c)) (numbered 3 c)).number ≡ 0 → ⊥)
        → (cond f (cond a (numbered 0 (ticking n v c)) (numbered 4 c)) (numbered 3 c)).chip ≡ c
    in_ticks true true h = absurd (h refl)
    in_ticks true false h = refl
    in_ticks false a h = refl
refused_as unfit c h = refl

pub refused_by : (e : Coded) (k : Counts) (c : Chip) → ((stepped_by e k c).number ≡ 0 → ⊥) → (stepped_by e k c).chip ≡ c
refused_by e k c = refused_as (meant_of c.setup e k) c
