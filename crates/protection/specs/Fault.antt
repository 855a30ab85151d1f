-- The runs of the four faults that wait for a delay. Assumes nothing.
use Rattle.std.specs.Prelude.{ℕ}
use Rattle.events.specs.declared.PerFault.{PerFault}
use Rattle.events.specs.declared.Fault.{Fault}
use Rattle.events.specs.Fault.{of_fault, per_fault}

abbrev pub Runs : Type 0
Runs = PerFault ℕ

abbrev pub run_of : Fault → Runs → ℕ
run_of k n = of_fault k n

abbrev pub runs_of : (Fault → ℕ) → Runs
runs_of f = per_fault f

-- all runs end
abbrev pub no_runs : Runs
no_runs = runs_of (λ k. 0)
