-- CHIP O2: any two answers about voltages, proposals, words and replies that a promise allows are the same. Assumes nothing.
use Rattle.std.specs.Prelude.{◌≡◌, refl, List, ℕ, Result, Ok, Err}
use Rattle.std.proofs.Common.{sym, ap, ◌∙◌}
use Rattle.constants.specs.Answer.{Said}
use Rattle.constants.specs.declared.refusal.Refusal.{Refusal}
use Rattle.constants.proofs.RefusalLaws.{same_refusal, same_said, no_zero}
use Rattle.values.specs.Said.{said, said_voltage}
use Rattle.values.specs.SameLaws.{same_voltage, same_code, same_reading}
use Rattle.values.specs.declared.Microvolts.{Microvolts}
use Rattle.values.specs.declared.Reading.{Reading}
use Rattle.bleed.specs.declared.Choice.{Choice}
use Rattle.smart_battery.specs.Reply.{Replied}
use Rattle.chip.specs.declared.Chip.{Chip}
use Rattle.chip_voltage.specs.Voltage.{Forecasts}

pub same_cell : (a b : Result Microvolts Refusal) → said_voltage a ≡ said_voltage b → a ≡ b
same_cell = same_voltage

-- the number settles the refusal, and the registers the reading
pub same_forecast : (c : Chip) (a b : Result Reading Refusal) → Forecasts c a → Forecasts c b → a ≡ b
same_forecast c (Ok r) (Ok t) p q = ap Ok (same_reading r t p.1 q.1)
same_forecast c (Ok r) (Err why) p q = absurd (no_zero why (q ∙ p.0))
same_forecast c (Err why) (Ok r) p q = absurd (no_zero why (p ∙ q.0))
same_forecast c (Err why) (Err other) p q = ap Err (same_refusal why other (p ∙ sym q))

pub same_word : (s : Said ℕ) (v w : Result ℕ Refusal) → said v ≡ s → said w ≡ s → v ≡ w
same_word s v w p q = same_code v w (p ∙ sym q)

pub same_proposal : (s : Said Choice) (v w : Result Choice Refusal) → said v ≡ s → said w ≡ s → v ≡ w
same_proposal s v w p q = same_said (λ (c : Choice). c) (λ (c : Choice). c) (λ c. refl) v w (p ∙ sym q)

pub same_reply : (s : Said ℕ) (command : ℕ) (old : List ℕ) (r t : ℕ) (new other : List ℕ) → Replied s command old r new
    → Replied s command old t other → (r ≡ t) × (new ≡ other)
same_reply s command old r t new other p q = (p.answer ∙ sym q.answer, p.contents ∙ sym q.contents)
