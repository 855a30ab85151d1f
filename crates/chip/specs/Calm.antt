-- CHIP L2, the word: the outside level 1 and SYS_STAT 0 do not stand together. Its laws are those of proofs/Calm. Assumes nothing.
use Rattle.registers.specs.LevelLaws.{Calm}
use Rattle.chip.specs.declared.Chip.{Chip}

abbrev pub Calmed : Chip → Type 0
Calmed c = Calm c.registers
