-- In NORMAL, over the first 96 bytes.
use Rattle.std.proofs.Common.{List, None, Some, ap, length, not, subst, sym, take, ℕ, ◌≡◌}
use Rattle.chip_bytes_layout.specs.Layout.{chip_at}
use Rattle.events.specs.Setup.{inputs}
use Rattle.events.specs.Event.{Scan}
use Rattle.chip.specs.declared.Chip.{Chip}
use Rattle.chip.specs.Chip.{happened}
use Rattle.chip_bytes_layout.proofs.Bytes.{as_first, awake}
use Rattle.chip_bytes_layout.proofs.DidLaws.{came_first, same_first, sized_first}
use Rattle.chip_bytes_done.specs.Swept.{SweptBy}
use Rattle.chip_bytes_done.specs.SweptLaws.{sweeps_did}
use Rattle.chip_bytes_done.proofs.scan.scanned.Goals as goal

pub returns-then-not-awake_at : goal.returns-then-not-awake_at
returns-then-not-awake_at c = let f = c.in_ok-b.ensures.cases in same_first c.args.bytes.now f.enough f.same

pub returns : goal.returns
returns c = let f = c.in_ok-b.ensures.cases in
    let l : length c.in_ok-b.b.now ≡ 96 = sized_first c.args.bytes.now f.enough f.same in
    came_first c.args.bytes.now f.enough f.same (λ (x : Chip). happened (Scan (take (inputs x.setup) c.args.counts)) x)
    (Some (record { byte = None; shown = c.sweep-swept.result.shown })) c.put_swept.new.out
    (sweeps_did c.in_ok-b.b.now c.args.counts (awake l c.awake_at.ensures (ap not c.if-not-awake_at.false))
    (subst (λ (x : List ℕ). SweptBy (chip_at x) c.args.counts c.sweep-swept.result) (sym (as_first l)) c.sweep-swept.ensures) c.put_swept.ensures)
