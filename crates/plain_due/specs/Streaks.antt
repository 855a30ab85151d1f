-- For each fault a number: how many of the newest verdicts are true. Assumes nothing.
use Rattle.std.specs.Prelude.{ℕ}
use Rattle.events.specs.declared.PerFault.{PerFault}
use Rattle.events.specs.declared.Fault.{Fault}
use Rattle.events.specs.Fault.{of_fault, per_fault}

abbrev pub Streaks : Type 0
Streaks = PerFault ℕ

abbrev pub streak_of : Fault → Streaks → ℕ
streak_of k w = of_fault k w

abbrev pub streaks_of : (Fault → ℕ) → Streaks
streaks_of f = per_fault f

abbrev pub no_streaks : Streaks
no_streaks = streaks_of (λ k. 0)
