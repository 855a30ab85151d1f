-- Where it raises nothing.
use Rattle.std.proofs.Common.{ap, refl, set, sym, ◌∙◌}
use Rattle.chip_bytes_write.proofs.Stores.{byte_is}
use Rattle.chip_bytes_layout.specs.Layout.{status_at}
use Rattle.chip_bytes_layout.proofs.Bytes.{of_first}
use Rattle.chip_bytes_done.specs.SeldomLaws.{level_moves}
use Rattle.chip_bytes_done.proofs.seldom.put_level.Goals as goal

pub returns : goal.returns
returns c = level_moves c.args.out.now c.args.level (of_first status_at c.told-out refl) refl (sym c.raises.ensures ∙ c.if-raises.false)
    (ap (set c.args.out.now 40) (c.from.ensures ∙ byte_is c.args.level))
