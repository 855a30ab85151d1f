-- Test by test, over the first 96 bytes.
use Rattle.std.proofs.Common.{Bool, None, Some, ap, length, length-set, not, refl, set, subst, ◌∙◌, ◌≡◌}
use Rattle.chip_bytes_layout.specs.Layout.{shown_at}
use Rattle.chip_bytes_layout.proofs.Bytes.{awake, of_first, up}
use Rattle.chip_bytes_layout.proofs.DidLaws.{same_first, sized_first}
use Rattle.chip_bytes_done.specs.Seldom.{MovedBy}
use Rattle.chip_bytes_done.specs.SeldomLaws.{moved_did, seldom_first}
use Rattle.chip_bytes_done.proofs.seldom.happened.Goals as goal

pub returns-then-not-awake_at : goal.returns-then-not-awake_at
returns-then-not-awake_at c = let f = c.in_ok-b.ensures.cases in same_first c.args.bytes.now f.enough f.same

pub returns-then-not-put_event : goal.returns-then-not-put_event
returns-then-not-put_event c = let f = c.in_ok-b.ensures.cases in
    seldom_first c.args.bytes.now c.in_ok-b.b.now f.enough f.same c.args.event None c.put_event.new.out c.if-not-put_event.ensures

pub returns : goal.returns
returns c = let f = c.in_ok-b.ensures.cases in
    let l : length c.in_ok-b.b.now ≡ 96 = sized_first c.args.bytes.now f.enough f.same in
    let m : length (set c.put_event.new.out 23 0) ≡ 96 = length-set c.put_event.new.out 23 0 ∙ c.put_event.array_long in
    seldom_first c.args.bytes.now c.in_ok-b.b.now f.enough f.same c.args.event (Some (record { byte = None; shown = c.shown_at.result })) (set c.put_event.new.out 23 0)
    (moved_did c.in_ok-b.b.now c.put_event.new.out c.args.event (awake l c.awake_at.ensures (ap not c.if-not-awake_at.false))
    (subst (λ (t : Bool). MovedBy c.args.event c.in_ok-b.b.now t c.put_event.new.out) (up c.put_event.result (ap not c.if-not-put_event.false)) c.put_event.ensures)
    refl (of_first shown_at m c.shown_at.ensures))
