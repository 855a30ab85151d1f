-- The numbers of the kinds are one to one: a kind's number is read as that kind, and is the one that records have for it. Assumes nothing.
use Rattle.std.specs.Prelude.{◌≡◌, refl, Ok}
use Rattle.constants.specs.declared.kind.Kind.{Kind}
use Rattle.constants.specs.Kind.{code_of, kind_of}
use Rattle.records.specs.Kind.{SETUP, POR, BOOT, SCAN, TEMP, COUNT, SENSE, PIN, LOAD, XREADY, START, OUT, IN, STOP, TICKS, LEVEL, WIRES}
use Rattle.records.specs.Kind.{SOAK}

pub code_back : (k : Kind) → kind_of (code_of k) ≡ Ok k
code_back Kind.Setup = refl
code_back Kind.Por = refl
code_back Kind.Boot = refl
code_back Kind.Scan = refl
code_back Kind.Temp = refl
code_back Kind.Count = refl
code_back Kind.Sense = refl
code_back Kind.Pin = refl
code_back Kind.Load = refl
code_back Kind.Xready = refl
code_back Kind.Start = refl
code_back Kind.Out = refl
code_back Kind.In = refl
code_back Kind.Stop = refl
code_back Kind.Ticks = refl
code_back Kind.Level = refl
code_back Kind.Wiring = refl
code_back Kind.Soak = refl

pub codes_are : (code_of Kind.Setup ≡ SETUP) × (code_of Kind.Por ≡ POR) × (code_of Kind.Boot ≡ BOOT) × (code_of Kind.Scan ≡ SCAN)
    × (code_of Kind.Temp ≡ TEMP) × (code_of Kind.Count ≡ COUNT) × (code_of Kind.Sense ≡ SENSE) × (code_of Kind.Pin ≡ PIN)
    × (code_of Kind.Load ≡ LOAD) × (code_of Kind.Xready ≡ XREADY) × (code_of Kind.Start ≡ START) × (code_of Kind.Out ≡ OUT)
    × (code_of Kind.In ≡ IN) × (code_of Kind.Stop ≡ STOP) × (code_of Kind.Ticks ≡ TICKS) × (code_of Kind.Level ≡ LEVEL)
    × (code_of Kind.Wiring ≡ WIRES) × (code_of Kind.Soak ≡ SOAK)
codes_are = (refl, refl, refl, refl, refl, refl, refl, refl, refl, refl, refl, refl, refl, refl, refl, refl, refl, refl)
