-- By whether a chip stands; what has room for one begins with 96 bytes.
use Rattle.chip_bytes_write.proofs.Stores.{in_none, in_some}
use Rattle.chip_bytes_write.proofs.encode.Goals as goal

pub returns-then-chip-eq0 : goal.returns-then-chip-eq0
returns-then-chip-eq0 c = let first = c.in-Some.ensures.cases in
    in_none c.args.chip c.args.fresh c.args.out.now first.enough first.same c.if-chip-eq0.true (c.fill.ensures.after (λ y e. e))

pub returns-else-chip-eq0 : goal.returns-else-chip-eq0
returns-else-chip-eq0 c = let first = c.in-Some.ensures.cases in
    in_some c.args.chip c.args.fresh c.args.out.now first.enough first.same c.if-chip-eq0.false c.put_chip.ensures
