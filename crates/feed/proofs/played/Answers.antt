-- By the room of the entries; the chip is read from good bytes.
use Rattle.std.proofs.Common.{arith, false, length, ltb, refl, sym, ◌*◌, ◌∙◌, ◌≡◌}
use Rattle.chip_bytes_layout.specs.Layout.{keeps}
use Rattle.feed.proofs.Calls.{fed_full, fed_done}
use Rattle.feed.proofs.Ones.{good_calm, good_kept}
use Rattle.feed.proofs.played.Goals as goal
use Rattle.feed.proofs.played.Goals.{Else-lacks}

-- from where all entries fit
module _ (c : Else-lacks) where
  abbrev room : ltb (length c.args.entries.now) (5 * c.count_from-n.result) ≡ false
  room = sym c.lacks.ensures ∙ c.if-lacks.false

pub returns-then-lacks : goal.returns-then-lacks
returns-then-lacks c = fed_full c.args.chip.now (keeps c.chip_of-stood.result c.fresh_of-fresh.result) (good_kept c.args.chip.now c.requires.1 c.chip_of-stood.ensures c.fresh_of-fresh.ensures) c.args.records.now c.args.entries.now c.requires.0 c.count_from-n.result refl c.count_from-n.ensures
    (sym c.lacks.ensures ∙ c.if-lacks.true)

pub run_from-left-requires : goal.run_from-left-requires
run_from-left-requires c = good_calm c.args.chip.now c.requires.1 c.chip_of-stood.ensures

pub returns : goal.returns
returns c = fed_done c.args.chip.now (keeps c.chip_of-stood.result c.fresh_of-fresh.result) (good_kept c.args.chip.now c.requires.1 c.chip_of-stood.ensures c.fresh_of-fresh.ensures) c.args.records.now c.args.entries.now c.requires.0 c.count_from-n.result refl c.count_from-n.ensures
    (room (goal.at.returns c).Else-lacks) (omega (arith, c.well_formed)) c.run_from-left.result c.run_from-left.new.out c.encode.new.out c.run_from-left.ensures c.encode.ensures
