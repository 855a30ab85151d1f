-- The four faults that wait for a delay, and one of a kind for each. Assumes nothing.
use Rattle.std.specs.Prelude.{Bool}
use Rattle.events.specs.declared.PerFault.{PerFault}
use Rattle.events.specs.declared.Fault.{Fault}
use Rattle.events.specs.declared.Fault.TheVariants.{Ov, Uv, Scd, Ocd}

-- what is held for one fault, and what is held for all
abbrev pub of_fault : {T : Type 0} → Fault → PerFault T → T
of_fault Ov p = p.ov
of_fault Uv p = p.uv
of_fault Scd p = p.scd
of_fault Ocd p = p.ocd

abbrev pub per_fault : {T : Type 0} → (Fault → T) → PerFault T
per_fault f = record { ov = f Ov; uv = f Uv; scd = f Scd; ocd = f Ocd }

-- the answer for one fault, and the answers for all
abbrev pub Faults : Type 0
Faults = PerFault Bool

abbrev pub among : Faults → Fault → Bool
among f k = of_fault k f

abbrev pub faults_of : (Fault → Bool) → Faults
faults_of r = per_fault r
