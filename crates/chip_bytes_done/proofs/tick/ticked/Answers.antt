-- Test by test, over the first 96 bytes.
use Rattle.std.proofs.Common.{None, Some, ap, length, not, of_z, rules, to_z, w32, ℤ, ◌∙◌, ◌≡◌}
use Rattle.events.specs.Event.{Sense}
use Rattle.protection.specs.Judged.{tick_judged}
use Rattle.chip_bytes_layout.specs.Layout.{runs_at, settings_at, shown_at}
use Rattle.chip_bytes_layout.proofs.Bytes.{awake, of_first}
use Rattle.chip_bytes_layout.proofs.DidLaws.{did_first, same_first, sized_first}
use Rattle.chip_bytes_done.specs.TickLaws.{ticks_did, rises_did}
use Rattle.chip_bytes_done.proofs.tick.ticked.Goals as goal

pub returns-then-not-awake_at : goal.returns-then-not-awake_at
returns-then-not-awake_at c = let f = c.in_ok-b.ensures.cases in same_first c.args.bytes.now f.enough f.same

pub returns-then-judged : goal.returns-then-judged
returns-then-judged c = let f = c.in_ok-b.ensures.cases in
    let l : length c.in_ok-b.b.now ≡ 96 = sized_first c.args.bytes.now f.enough f.same in
    let y : to_z w32 (of_z w32 c.args.value) ≡ c.args.value = search rules in
    did_first c.args.bytes.now f.enough f.same (Sense c.args.value) (Some (record { byte = None; shown = c.put_judged.result })) c.put_judged.new.out
    (rises_did c.in_ok-b.b.now c.args.value (awake l c.awake_at.ensures (ap not c.if-not-awake_at.false)) (of_first runs_at l c.runs_at.ensures)
    (of_first settings_at l c.settings_at.ensures) (c.sensed-judged.ensures ∙ ap (λ (z : ℤ). tick_judged c.settings_at.result z c.runs_at.result) y) c.put_judged.ensures)

pub returns : goal.returns
returns c = let f = c.in_ok-b.ensures.cases in
    let l : length c.in_ok-b.b.now ≡ 96 = sized_first c.args.bytes.now f.enough f.same in
    let y : to_z w32 (of_z w32 c.args.value) ≡ c.args.value = search rules in
    did_first c.args.bytes.now f.enough f.same (Sense c.args.value) (Some (record { byte = None; shown = c.shown_at-shown.result })) c.put_runs.new.out
    (ticks_did c.in_ok-b.b.now c.args.value (awake l c.awake_at.ensures (ap not c.if-not-awake_at.false)) (of_first runs_at l c.runs_at.ensures)
    (of_first settings_at l c.settings_at.ensures) (c.sensed-judged.ensures ∙ ap (λ (z : ℤ). tick_judged c.settings_at.result z c.runs_at.result) y)
    (simp (c.if-judged.false, c.if-judged-2.false)) (of_first shown_at l c.shown_at-shown.ensures) c.put_runs.ensures)
