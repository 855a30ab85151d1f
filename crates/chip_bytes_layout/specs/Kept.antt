-- What bytes keep: whether they are a chip, that chip, and whether a wiring record is still taken. Assumes nothing.
use Rattle.std.specs.Prelude.{Bool}
use Rattle.chip.specs.declared.Chip.{Chip}

pub record Kept : Type 0 where
  pub good : Bool
  pub chip : Chip
  pub fresh : Bool
