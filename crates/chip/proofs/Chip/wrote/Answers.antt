-- A write ships or is accepted, as the settings say.
use Rattle.std.proofs.Common.{refl, ◌∙◌}
use Rattle.chip.proofs.Modes.{wrote-ships, wrote_stays}
use Rattle.chip.proofs.Chip.wrote.Goals as goal

pub returns-then-ships : goal.returns-then-ships
returns-then-ships c = wrote-ships _ _ _ c.ships.ensures c.if-ships.true c.in_ship.ensures

pub returns : goal.returns
returns c = c.watched.ensures ∙ wrote_stays _ _ _ c.ships.ensures c.if-ships.false c.write-self.ensures refl
