-- A cell above 255 is no cell, as 0 is none. Assumes nothing.
use mathlib.Core.Path.{◌≡◌, refl}
use mathlib.Core.Bool.{Bool, true, false, cond, and-false}
use Prim.Native.Nat.{ℕ, ◌≤◌}
use native.Mathlib.Omega.{arith}
use lib.Dec.{ltb}
use borrow.Author.Tests.{ltb-false, lt-leb}
use Rattle.wiring.specs.Rows.{pack_cells}
use Rattle.wiring.proofs.Numbered.{few_cells}
use Rattle.chip.specs.declared.Chip.{Chip}
use Rattle.chip_voltage.specs.Voltage.{voltage_said}
use Rattle.chip_c.specs.Asked.{byte_or}

cell_by : (n : ℕ) (c : Chip) (t : Bool) → ltb n 256 ≡ t → voltage_said (cond t n 0) c ≡ voltage_said n c
unfolding voltage_said
cell_by n c true e = refl
cell_by n c false e =
    let h : 256 ≤ n = ltb-false n 256 e in
    let few : pack_cells c.setup ≤ 15 = few_cells c.setup in
    simp (lt-leb n (pack_cells c.setup) (omega arith), and-false)

pub cell_wide : (n : ℕ) (c : Chip) → voltage_said (byte_or n) c ≡ voltage_said n c
cell_wide n c = cell_by n c (ltb n 256) refl
