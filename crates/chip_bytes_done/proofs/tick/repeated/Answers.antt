-- In NORMAL, over the first 96 bytes.
use Rattle.std.proofs.Common.{None, Some, ap, length, not, of_z, rules, to_z, w32, ℤ, ◌∙◌, ◌≡◌}
use Rattle.chip.specs.declared.Chip.{Chip}
use Rattle.chip.specs.Chip.{ticked}
use Rattle.protection.specs.Repeat.{ticks_judged}
use Rattle.chip_bytes_layout.specs.Layout.{runs_at, settings_at}
use Rattle.chip_bytes_layout.proofs.Bytes.{awake, of_first}
use Rattle.chip_bytes_layout.proofs.DidLaws.{came_first, same_first, sized_first}
use Rattle.chip_bytes_done.specs.TickLaws.{repeats_came}
use Rattle.chip_bytes_done.proofs.tick.repeated.Goals as goal

pub returns-then-not-awake_at : goal.returns-then-not-awake_at
returns-then-not-awake_at c = let f = c.in_ok-b.ensures.cases in same_first c.args.bytes.now f.enough f.same

pub returns : goal.returns
returns c = let f = c.in_ok-b.ensures.cases in
    let l : length c.in_ok-b.b.now ≡ 96 = sized_first c.args.bytes.now f.enough f.same in
    let y : to_z w32 (of_z w32 c.args.value) ≡ c.args.value = search rules in
    came_first c.args.bytes.now f.enough f.same (λ (x : Chip). ticked c.args.repeat c.args.value x)
    (Some (record { byte = None; shown = c.put_judged.result })) c.put_judged.new.out
    (repeats_came c.in_ok-b.b.now c.args.value c.args.repeat (awake l c.awake_at.ensures (ap not c.if-not-awake_at.false)) (of_first runs_at l c.runs_at.ensures)
    (of_first settings_at l c.settings_at.ensures) (c.ticked-judged.ensures ∙ ap (λ (z : ℤ). ticks_judged c.args.repeat c.settings_at.result z c.runs_at.result) y)
    c.put_judged.ensures)
