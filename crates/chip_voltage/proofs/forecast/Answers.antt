-- The reading: of the counts of the connected cells (Packed).
use Rattle.std.proofs.Common.{arith, true, ◌≡◌}
use Rattle.std.proofs.lemmas.Grind.{common_steps}
use Rattle.chip_voltage.specs.PackedLaws.{pack_reads, given_number}
use Rattle.chip_voltage.proofs.forecast.Goals as goal

pub returns : goal.returns
returns c = let k = c.args.chip in
    let normal : k.normal ≡ true = grind (arith, common_steps) in (
      given_number k c.link-pack.result c.link-pack.ensures normal c.if-pack-eq0.false,
      pack_reads k c.link-pack.result c.forecast.result c.link-pack.ensures c.forecast.ensures,
    )
