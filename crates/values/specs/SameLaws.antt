-- CHIP O2: any two answers that a promise allows are the same. What an answer says settles it. Assumes nothing.
use Rattle.std.specs.Prelude.{◌≡◌, refl, List, ℕ, ℤ, Result}
use Rattle.std.proofs.Common.{sym, ap, ◌∙◌}
use Rattle.constants.proofs.RefusalLaws.{same_said}
use Rattle.constants.specs.declared.refusal.Refusal.{Refusal}
use Rattle.values.specs.Said.{said, said_voltage}
use Rattle.values.specs.Forecast.{IsReading}
use Rattle.values.specs.declared.Reading.{Reading}
use Rattle.values.specs.declared.Microvolts.{Microvolts}

-- two answers that say the same are the same, where some answer can be told from what it says
pub settled : {A B : Type 0} (said : A → B) (told : B → A) → ((a : A) → told (said a) ≡ a) → (a b : A) → said a ≡ said b → a ≡ b
settled said told back a b e = sym (back a) ∙ ap told e ∙ back b

pub same_voltage : (a b : Result Microvolts Refusal) → said_voltage a ≡ said_voltage b → a ≡ b
same_voltage = same_said (λ (v : Microvolts). v.0) (λ (z : ℤ). record { 0 = z }) (λ v. refl)

pub same_resistance : (a b : Result ℕ Refusal) → said a ≡ said b → a ≡ b
same_resistance = same_said (λ (n : ℕ). n) (λ (n : ℕ). n) (λ n. refl)

pub same_temperature : (a b : Result ℤ Refusal) → said a ≡ said b → a ≡ b
same_temperature = same_said (λ (z : ℤ). z) (λ (z : ℤ). z) (λ z. refl)

pub same_code : (a b : Result ℕ Refusal) → said a ≡ said b → a ≡ b
same_code = same_resistance

-- a reading is settled by what was asked
pub same_reading : {code offset many cc : ℕ} {counts : List ℕ} (a b : Reading)
    → IsReading code offset many counts cc a → IsReading code offset many counts cc b → a ≡ b
same_reading a b p q = λ j. record {
  least = (p.least.nearest ∙ sym q.least.nearest) j;
  greatest = (p.greatest.nearest ∙ sym q.greatest.nearest) j;
  total = (p.total.nearest ∙ sym q.total.nearest) j;
  cc = (p.current.nearest ∙ sym q.current.nearest) j;
}
