-- Test by test, over the first 96 bytes.
use Rattle.std.proofs.Common.{Bool, List, Some, ap, drop, length, not, subst, ℕ, ◌++◌, ◌∙◌, ◌≡◌}
use Rattle.events.specs.Event.{OnBus}
use Rattle.chip.specs.Parts.{heard_of}
use Rattle.chip_bytes_layout.specs.Layout.{chip_at, shown_at}
use Rattle.chip_bytes_layout.proofs.Bytes.{awake, of_first, up}
use Rattle.chip_bytes_layout.proofs.DidLaws.{did_first, same_first, sized_first}
use Rattle.chip_bytes_bus.specs.Heard.{KeptBy}
use Rattle.chip_bytes_bus.specs.HeardLaws.{hears_did, kept_not}
use Rattle.chip_bytes_bus.proofs.heard.Goals as goal

pub returns-then-not-awake_at : goal.returns-then-not-awake_at
returns-then-not-awake_at c = let f = c.in_ok-b.ensures.cases in same_first c.args.bytes.now f.enough f.same

pub returns-then-not-put_store : goal.returns-then-not-put_store
returns-then-not-put_store c = let f = c.in_ok-b.ensures.cases in
    ap (λ (l : List ℕ). l ++ drop 96 c.args.bytes.now) (kept_not c.heard_at-heard.result.store c.in_ok-b.b.now c.put_store.new.out c.if-not-put_store.ensures)
    ∙ same_first c.args.bytes.now f.enough f.same

pub returns : goal.returns
returns c = let f = c.in_ok-b.ensures.cases in
    let l : length c.in_ok-b.b.now ≡ 96 = sized_first c.args.bytes.now f.enough f.same in
    did_first c.args.bytes.now f.enough f.same (OnBus c.args.event) (Some (record { byte = c.heard_at-heard.result.byte; shown = c.shown_at.result })) c.put_bus.new.out
    (hears_did c.in_ok-b.b.now c.args.event c.put_store.new.out (awake l c.awake_at.ensures (ap not c.if-not-awake_at.false))
    (of_first (λ (b : List ℕ). heard_of c.args.event (chip_at b)) l c.heard_at-heard.ensures)
    (subst (λ (t : Bool). KeptBy c.heard_at-heard.result.store c.in_ok-b.b.now t c.put_store.new.out) (up c.put_store.result (ap not c.if-not-put_store.false)) c.put_store.ensures)
    c.put_bus.ensures (of_first shown_at c.put_bus.array_long c.shown_at.ensures))
