-- CHIP.md, "Numbers given back", of a chip that stands: which number each kind of event gives, asleep and awake, and which kinds have no
-- value out of range. Assumes nothing.
use Rattle.std.specs.Prelude.{◌≡◌, refl, Bool, true, false, not, ◌&&◌, ◌||◌, cond, ℕ, eqb, leb}
use Rattle.std.proofs.Common.{◌∙◌}
use Rattle.events.specs.declared.BusEvent.TheVariants.{Start, Stop, Out, In}
use Rattle.events.specs.Event.{Event, Por, Boot, Pin, Xready, Scan, Temp, Count, Sense, Load, OnBus, Level, fits}
use Rattle.chip.specs.declared.Chip.{Chip}
use Rattle.chip.specs.Chip.{numbered, settled, normally, asleep, happened, stepped}
use Rattle.demands.specs.Refused.{normal_done}
use Rattle.demands.specs.Moves.{kind_of}

-- kinds 0003 to 0009, and 0015
abbrev pub sleeps : ℕ → Bool
sleeps k = (leb 0x03 k && leb k 0x09) || eqb k 0x15

asleep_is : (e : Event) (c : Chip) → (asleep e c).number ≡ cond (sleeps (kind_of e)) 4 0
asleep_is Por c = refl
asleep_is Boot c = refl
asleep_is Pin c = refl
asleep_is Xready c = refl
asleep_is (Scan xs) c = refl
asleep_is (Temp xs) c = refl
asleep_is (Count n) c = refl
asleep_is (Sense v) c = refl
asleep_is (Load l) c = refl
asleep_is (OnBus Start) c = refl
asleep_is (OnBus Stop) c = refl
asleep_is (OnBus (Out b)) c = refl
asleep_is (OnBus (In nack)) c = refl
asleep_is (Level l) c = refl

-- THE NUMBER of any event: 3 out of range, then asleep 4 for these kinds and no other, else 0
pub number_is : (e : Event) (c : Chip) → (stepped e c).number ≡ cond (fits e) (cond (c.normal || not (sleeps (kind_of e))) 0 4) 3
unfolding stepped happened
number_is e c = by (fits e) c.normal
  where
    other : (t : Bool) → ◌≡◌ {A = ℕ} (cond t 4 0) (cond (not t) 0 4)
    other true = refl
    other false = refl

    by : (f a : Bool) → (cond f (cond a (settled (normally e c)) (asleep e c)) (numbered 3 c)).number
        ≡ cond f (cond (a || not (sleeps (kind_of e))) 0 4) 3
    by true true = normal_done e c
    by true false = asleep_is e c ∙ other (sleeps (kind_of e))
    by false a = refl

-- nothing else is out of range
pub rest_fits : (e : Event) → (eqb (kind_of e) 0x03 || eqb (kind_of e) 0x04 || eqb (kind_of e) 0x06) ≡ false → fits e ≡ true
unfolding fits
rest_fits Por h = refl
rest_fits Boot h = refl
rest_fits Pin h = refl
rest_fits Xready h = refl
rest_fits (Scan xs) h = cc
rest_fits (Temp xs) h = cc
rest_fits (Count n) h = refl
rest_fits (Sense v) h = cc
rest_fits (Load l) h = refl
rest_fits (OnBus b) h = refl
rest_fits (Level l) h = refl
