-- SCAN in NORMAL: one look stores, sums and judges.
use Rattle.std.proofs.Common.{◌∙◌}
use Rattle.limits.specs.Rule.{rule}
use Rattle.chip.proofs.Judged.{scan_done}
use Rattle.chip.proofs.Chip.scanned.Goals as goal

pub returns : goal.returns
unfolding rule
returns c = scan_done c.args.self _ c.look-looked.result c.scanned-judged.result c.scanned-stored.result (c.look-looked.ensures ∙ simp (c.inputs.ensures, c.under_line-under.ensures, c.over_line-over.ensures)) c.scanned-judged.ensures c.scanned-stored.ensures (simp c.raised-self.ensures)
