-- CHIP O2: any two answers that a promise for C allows are the same, and so is what they leave in what was
-- lent. Assumes nothing.
use Rattle.std.specs.Prelude.{◌≡◌, refl, Result, Ok, Err, Bool, true, false, List, ◌∷◌, ℕ, ℤ, Float, length, drop}
use Rattle.std.proofs.Common.{sym, ap, ◌∙◌}
use Rattle.constants.specs.Answer.{number_said}
use Rattle.constants.specs.declared.refusal.Refusal.{Refusal}
use Rattle.constants.proofs.RefusalLaws.{no_zero, same_refusal}
use Rattle.values.specs.Said.{said}
use Rattle.values.specs.SameLaws.{same_reading}
use Rattle.values.specs.declared.Reading.{Reading}
use Rattle.chip.specs.declared.Chip.{Chip}
use Rattle.turn.specs.Entries.{last_chip}
use Rattle.stream_run.specs.Stream.{Played}
use Rattle.stream.specs.Forecast.{is_given, is_put, Contents, Put, Read4}

-- two that equal a third
both : {A : Type 0} {a b c : A} → a ≡ c → b ≡ c → a ≡ b
both p q = p ∙ sym q

pub same_played : {s old new new' : List ℕ} {r r' : ℤ} → Played s old r new → Played s old r' new' → (r ≡ r') × (new ≡ new')
same_played p q = (both p.answer q.answer, both p.contents q.contents)

same_contents : (t : Bool) (c : Chip) (old new new' : List Float) → Contents t c old new → Contents t c old new' → new ≡ new'
same_contents true c old new new' p q =
    p.wrote
    ∙ ap (λ (r : Reading). r.least ∷ r.greatest ∷ r.total ∷ r.cc ∷ drop 4 old) (same_reading p.reading q.reading p.is q.is)
    ∙ sym q.wrote
same_contents false c old new new' p q = both p q

pub same_read4 : {s : List ℕ} {old new new' : List Float} {r r' : ℕ} → Read4 s old r new → Read4 s old r' new' → (r ≡ r') × (new ≡ new')
same_read4 {s} {old} {new} {new'} p q =
    (both p.answer q.answer, same_contents (is_given (last_chip s) (length old)) (last_chip s) old new new' p.contents q.contents)

-- a result with no value is settled by its number
same_number : (r t : Result Unit Refusal) → number_said (said r) ≡ number_said (said t) → r ≡ t
same_number (Ok x) (Ok y) e = refl
same_number (Ok x) (Err why) e = absurd (no_zero why (sym e))
same_number (Err why) (Ok y) e = absurd (no_zero why e)
same_number (Err why) (Err other) e = ap Err (same_refusal why other e)

pub same_put : {c : Chip} {old new new' : List Float} {r r' : Result Unit Refusal} → Put c old r new → Put c old r' new'
    → (r ≡ r') × (new ≡ new')
same_put {c} {old} {new} {new'} {r} {r'} p q =
    (same_number r r' (both p.answer q.answer), same_contents (is_put c (length old)) c old new new' p.contents q.contents)
