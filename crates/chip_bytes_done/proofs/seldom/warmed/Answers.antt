-- In NORMAL, over the first 96 bytes.
use Rattle.std.proofs.Common.{None, Some, ap, length, length-set, not, refl, set, take, ◌∙◌, ◌≡◌}
use Rattle.events.specs.Setup.{groups}
use Rattle.events.specs.Event.{Temp}
use Rattle.chip.specs.declared.Chip.{Chip}
use Rattle.chip.specs.Chip.{happened}
use Rattle.chip_bytes_layout.specs.Layout.{setup_at, shown_at}
use Rattle.chip_bytes_layout.proofs.Bytes.{awake, of_first}
use Rattle.chip_bytes_layout.proofs.DidLaws.{came_first, same_first, sized_first}
use Rattle.chip_bytes_done.specs.SeldomLaws.{warms_did}
use Rattle.chip_bytes_done.proofs.seldom.warmed.Goals as goal

pub returns-then-not-awake_at : goal.returns-then-not-awake_at
returns-then-not-awake_at c = let f = c.in_ok-b.ensures.cases in same_first c.args.bytes.now f.enough f.same

pub returns : goal.returns
returns c = let f = c.in_ok-b.ensures.cases in
    let l : length c.in_ok-b.b.now ≡ 96 = sized_first c.args.bytes.now f.enough f.same in
    let m : length (set c.put_temp.new.out 23 0) ≡ 96 = length-set c.put_temp.new.out 23 0 ∙ c.put_temp.array_long in
    came_first c.args.bytes.now f.enough f.same (λ (x : Chip). happened (Temp (take (groups x.setup) c.args.counts)) x)
    (Some (record { byte = None; shown = c.shown_at.result })) (set c.put_temp.new.out 23 0)
    (warms_did c.in_ok-b.b.now c.put_temp.new.out c.args.counts (awake l c.awake_at.ensures (ap not c.if-not-awake_at.false)) (of_first setup_at l c.setup_at.ensures) c.groups.ensures
    c.three-ts.ensures c.put_temp.ensures refl (of_first shown_at m c.shown_at.ensures))
