-- LOAD: by the mode, what its definition says.
use Rattle.std.proofs.Common.{ap, ◌∙◌}
use Rattle.registers.specs.declared.Registers.{Registers}
use Rattle.chip.specs.Chip.{happened}
use Rattle.chip.specs.Parts.{moved_to}
use Rattle.chip.proofs.Chip.load.Goals as goal

pub returns : goal.returns
unfolding happened
returns c = c.moved.ensures ∙ ap (λ (r : Registers). moved_to r c.args.self) c.loaded.ensures
