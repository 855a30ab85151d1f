-- The number of a cause settles the cause. Assumes nothing.
use Rattle.std.specs.Prelude.{◌≡◌, refl, ℕ, List, [], ◌∷◌, get_or}
use Rattle.std.proofs.Common.{sym, ap, ◌∙◌}
use Rattle.causes.specs.declared.Cause.{Cause}
use Rattle.causes.specs.declared.Cause.TheVariants.{Scans, Ticks, Pin, Level, Xready, Count}
use Rattle.causes.specs.Cause.{cause_number}

abbrev cause_at : ℕ → Cause
cause_at n = get_or (Scans ∷ Scans ∷ Ticks ∷ Pin ∷ Level ∷ Xready ∷ Count ∷ []) n Scans

again : (a : Cause) → cause_at (cause_number a) ≡ a
again Scans = refl
again Ticks = refl
again Pin = refl
again Level = refl
again Xready = refl
again Count = refl

pub same_cause : (a b : Cause) → cause_number a ≡ cause_number b → a ≡ b
same_cause a b h = sym (again a) ∙ ap cause_at h ∙ again b
