-- What the code's answers say, as number and value (CHIP O4). Assumes nothing.
use Rattle.std.specs.Prelude.{ℕ, ℤ, cond, ltb, Result, Ok, Err}
use Rattle.constants.specs.Answer.{Said}
use Rattle.constants.specs.Range.{COUNT_MOST, GAIN_CODE_MOST}
use Rattle.constants.specs.Refusal.{said_of}
use Rattle.constants.specs.declared.refusal.Refusal.{Refusal}
use Rattle.constants.specs.declared.refusal.Refusal.TheVariants.{BadSetup, BadValue}
use Rattle.values.specs.declared.Microvolts.{Microvolts}

-- a value as it is, or the number of the refusal
abbrev pub said : {A : Type 0} → Result A Refusal → Said A
said r = said_of (λ v. v) r

-- a voltage in microvolts
abbrev pub said_voltage : Result Microvolts Refusal → Said ℤ
said_voltage r = said_of (λ v. v.0) r

-- what refuses a gain code, and a count
abbrev pub gain_fits : ℕ → Result Unit Refusal
gain_fits code = cond (ltb GAIN_CODE_MOST code) (Err BadSetup) (Ok tt)

abbrev pub count_fits : ℕ → Result ℕ Refusal
count_fits count = cond (ltb COUNT_MOST count) (Err BadValue) (Ok count)
