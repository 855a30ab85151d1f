-- Test by test: the room, the bytes, a piece too long for one record, one record by itself; else it is played.
use Rattle.std.proofs.Common.{ap, not, refl, sym, ◌∙◌}
use Rattle.chip_bytes_layout.specs.Layout.{kept_of}
use Rattle.chip_bytes_layout.proofs.GoodLaws.{good_is}
use Rattle.feed.proofs.Calls.{fed_bad}
use Rattle.feed.proofs.Ones.{fed_alone, up, down}
use Rattle.feed.proofs.toralinge_feed.Goals as goal

pub returns-then-not-good : goal.returns-then-not-good
returns-then-not-good c = fed_bad c.args.chip.now (kept_of c.args.chip.now) refl c.args.records.now c.args.entries.now c.if-chip-lt-KEPT_CHIP.false
    (sym (good_is c.args.chip.now) ∙ sym c.good.ensures ∙ down c.good.result (ap not c.if-not-good.true))

pub returns-then-done : goal.returns-then-done
returns-then-done c = fed_alone c.args.chip.now c.args.records.now c.args.entries.now c.done.result c.done.new.chip c.done.new.entries
    (sym c.good.ensures ∙ up c.good.result (ap not c.if-not-good.false)) c.if-done.true c.done.ensures
