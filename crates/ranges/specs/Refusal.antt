-- CHIP O5: the number, 2 or 3, of what an event made by hand means to a chip that stands, and the same as a refusal. Assumes nothing.
use Rattle.std.specs.Prelude.{◌≡◌, refl, Bool, true, false, ℕ, cond, Result, Ok, Err}
use Rattle.constants.specs.Number.{DONE, BAD_KIND, BAD_VALUE}
use Rattle.constants.specs.Refusal.{number_of}
use Rattle.constants.specs.declared.refusal.Refusal.{Refusal}
use Rattle.constants.specs.declared.refusal.Refusal.TheVariants.{BadKind, BadValue}
use Rattle.events.specs.Event.{fits, ticks_fit, Meant, means, ticks, unfit}

-- 2 for one that means none, 3 for a value out of range, or 0
abbrev pub refusal_of : Meant → ℕ
refusal_of (means e) = cond (fits e) DONE BAD_VALUE
refusal_of (ticks most v n) = cond (ticks_fit most v n) DONE BAD_VALUE
refusal_of unfit = BAD_KIND

abbrev pub valued : Bool → Result Unit Refusal
valued good = cond good (Ok tt) (Err BadValue)

abbrev pub refused : Meant → Result Unit Refusal
refused (means e) = valued (fits e)
refused (ticks most v n) = valued (ticks_fit most v n)
refused unfit = Err BadKind

-- the number of each answer
abbrev pub refused_number : Result Unit Refusal → ℕ
refused_number (Ok t) = DONE
refused_number (Err why) = number_of why

pub refused_is : (m : Meant) → refused_number (refused m) ≡ refusal_of m
refused_is (means e) = by (fits e)
  where
    by : (t : Bool) → refused_number (valued t) ≡ cond t DONE BAD_VALUE
    by true = refl
    by false = refl
refused_is (ticks most v n) = by (ticks_fit most v n)
  where
    by : (t : Bool) → refused_number (valued t) ≡ cond t DONE BAD_VALUE
    by true = refl
    by false = refl
refused_is unfit = refl
