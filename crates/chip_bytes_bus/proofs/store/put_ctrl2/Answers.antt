-- What was shown decides.
use Rattle.std.proofs.Common.{ap, ◌∙◌}
use Rattle.settings.specs.Write.{settings_with}
use Rattle.registers.specs.Write.{shown_with}
use Rattle.chip_bytes_layout.specs.Layout.{settings_at, shown_at}
use Rattle.chip_bytes_layout.proofs.Bytes.{of_first}
use Rattle.chip_bytes_bus.specs.StoreLaws.{ctrl2_by}
use Rattle.chip_bytes_bus.proofs.store.put_ctrl2.Goals as goal

pub returns : goal.returns
returns c = ctrl2_by c.args.out.now c.args.v (c.write-s.ensures ∙ ap (settings_with 0x05 c.args.v) (of_first settings_at c.told-out c.settings_at.ensures))
    (c.write-shown.ensures ∙ ap (shown_with 0x05 c.args.v) (of_first shown_at c.told-out c.shown_at.ensures)) c.put_driven.ensures
