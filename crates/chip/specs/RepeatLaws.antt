-- CHIP R8: what ticks of one value leave, said once over their number: m and then n are m + n, they are as many SENSE, and the chip
-- after them has the runs by their number and shows what is due at the last; the outside level is looked at after each, and finds
-- nothing to raise after the first. The laws stand in proofs/RepeatLaws. Assumes nothing.
use Rattle.protection.specs.declared.Judged.{Judged}
use Rattle.chip.specs.declared.Chip.{Chip}
use Rattle.chip.specs.Chip.{with_runs}
use Rattle.chip.specs.Parts.{raised_by}

-- the runs after n ticks, and what is due at the last, put to the chip
abbrev pub ticked_by : Judged → Chip → Chip
ticked_by j c = raised_by j.risen (with_runs j.runs c)
