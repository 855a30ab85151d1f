-- CHIP W4, the setup that a row stands for. That its cells are numbered so is proved in proofs/Numbered. Assumes nothing.
use Rattle.std.specs.Prelude.{ℕ}
use Rattle.events.specs.declared.Setup.{Setup}
use Rattle.events.specs.Setup.{setup_of, with_cells}

-- a part with a number of cells, as a setup
abbrev pub setup_at : ℕ → ℕ → Setup
setup_at part cells = with_cells cells (setup_of part 0 0 0 0 0)
