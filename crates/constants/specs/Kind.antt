-- The kinds of records, and the numbers that stand for them (CHIP R2, R3). Assumes nothing.
use Rattle.std.specs.Prelude.{ℕ, cond, eqb, Result, Ok, Err}
use Rattle.constants.specs.declared.kind.Kind.{Kind}
use Rattle.constants.specs.declared.refusal.Refusal.{Refusal}
use Rattle.constants.specs.declared.refusal.Refusal.TheVariants.{BadKind}

abbrev pub code_of : Kind → ℕ
code_of Kind.Setup = 0x0000
code_of Kind.Por = 0x0001
code_of Kind.Boot = 0x0002
code_of Kind.Scan = 0x0003
code_of Kind.Temp = 0x0004
code_of Kind.Count = 0x0005
code_of Kind.Sense = 0x0006
code_of Kind.Pin = 0x0007
code_of Kind.Load = 0x0008
code_of Kind.Xready = 0x0009
code_of Kind.Start = 0x0010
code_of Kind.Out = 0x0011
code_of Kind.In = 0x0012
code_of Kind.Stop = 0x0013
code_of Kind.Ticks = 0x0014
code_of Kind.Level = 0x0015
code_of Kind.Wiring = 0x0016
code_of Kind.Soak = 0x0017

-- every other number is unknown
abbrev pub kind_of : ℕ → Result Kind Refusal
kind_of code =
    cond (eqb code 0x0000) (Ok Kind.Setup)
    (cond (eqb code 0x0001) (Ok Kind.Por)
    (cond (eqb code 0x0002) (Ok Kind.Boot)
    (cond (eqb code 0x0003) (Ok Kind.Scan)
    (cond (eqb code 0x0004) (Ok Kind.Temp)
    (cond (eqb code 0x0005) (Ok Kind.Count)
    (cond (eqb code 0x0006) (Ok Kind.Sense)
    (cond (eqb code 0x0007) (Ok Kind.Pin)
    (cond (eqb code 0x0008) (Ok Kind.Load)
    (cond (eqb code 0x0009) (Ok Kind.Xready)
    (cond (eqb code 0x0010) (Ok Kind.Start)
    (cond (eqb code 0x0011) (Ok Kind.Out)
    (cond (eqb code 0x0012) (Ok Kind.In)
    (cond (eqb code 0x0013) (Ok Kind.Stop)
    (cond (eqb code 0x0014) (Ok Kind.Ticks)
    (cond (eqb code 0x0015) (Ok Kind.Level)
    (cond (eqb code 0x0016) (Ok Kind.Wiring)
    (cond (eqb code 0x0017) (Ok Kind.Soak)
    (Err BadKind))))))))))))))))))
