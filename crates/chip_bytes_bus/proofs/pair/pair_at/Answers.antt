-- A word by its place.
use Rattle.std.proofs.Common.{le-ltb, lt-ltb}
use Rattle.registers.specs.Read.{half, read_at, pair_at}
use Rattle.chip_bytes_bus.proofs.pair.pair_at.Goals as goal

pub returns-then-a-lt-AFTER_CC : goal.returns-then-a-lt-AFTER_CC
unfolding half read_at pair_at
returns-then-a-lt-AFTER_CC c = simp (le-ltb _ _ c.if-a-lt-VC1.false, lt-ltb _ _ c.if-a-lt-AFTER_CC.true, c.half_of.ensures, c.half_of-then-a-lt-AFTER_CC.ensures, c.word_at-word.ensures)
