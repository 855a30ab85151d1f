-- By whether the part has the group.
use Rattle.std.proofs.Common.{ap, false, le-leb, refl, set, true, ℕ, ◌+◌, ◌%◌}
use borrow.Author.Tests.{lt-leb}
use Rattle.chip_bytes_layout.specs.Layout.{setup_at}
use Rattle.chip_bytes_layout.proofs.Bytes.{of_first}
use Rattle.chip_bytes_bus.specs.StoreLaws.{wrote_cellbal}
use Rattle.chip_bytes_bus.proofs.store.put_cellbal.Goals as goal

pub returns-then-a-groups : goal.returns-then-a-groups
returns-then-a-groups c = wrote_cellbal c.args.out.now c.args.v c.args.a true c.requires.0 c.requires.1 (of_first setup_at c.told-out c.setup_at.ensures) c.groups.ensures (le-leb _ _ c.if-a-groups.true)
    (ap (λ (n : ℕ). set c.args.out.now (18 + n) (c.args.v % 32)) c.from.ensures)

pub returns-else-a-groups : goal.returns-else-a-groups
returns-else-a-groups c = wrote_cellbal c.args.out.now c.args.v c.args.a false c.requires.0 c.requires.1 (of_first setup_at c.told-out c.setup_at.ensures) c.groups.ensures (lt-leb _ _ c.if-a-groups.false) refl
