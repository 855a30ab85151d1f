-- Part by part, each by its callee.
use Rattle.chip_bytes_done.proofs.Parts.{sweep_is}
use Rattle.chip_bytes_done.proofs.scan.sweep.Goals as goal

pub returns : goal.returns
returns c = sweep_is c.args.b.now c.args.counts c.setup_at.ensures c.settings_at-s.ensures c.looked_at-looked.ensures c.runs_at.ensures c.scanned-judged.ensures c.shown_at.ensures
    c.raised.ensures
