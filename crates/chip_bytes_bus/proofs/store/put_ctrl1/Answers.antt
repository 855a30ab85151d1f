-- Where it does not ship.
use Rattle.std.proofs.Common.{sym, ◌∙◌}
use Rattle.chip_bytes_layout.specs.Layout.{settings_at}
use Rattle.chip_bytes_layout.proofs.Bytes.{of_first}
use Rattle.chip_bytes_bus.specs.StoreLaws.{ctrl1_by}
use Rattle.chip_bytes_bus.proofs.store.put_ctrl1.Goals as goal

pub returns : goal.returns
returns c = ctrl1_by c.args.out.now c.args.v (of_first settings_at c.told-out c.settings_at-s.ensures) (sym c.ships.ensures ∙ c.if-ships.false) c.write.ensures c.put_control.ensures
