-- POR: the same in both modes.
use Rattle.std.proofs.Common.{ap, ◌∙◌}
use Rattle.chip.specs.Chip.{numbered}
use Rattle.chip.proofs.Modes.{in_either}
use Rattle.chip.proofs.Chip.por.Goals as goal

pub returns : goal.returns
returns c = in_either c.args.self (c.done.ensures ∙ ap (numbered 0) c.in_ship.ensures)
