-- What leaves the chip by its pins (CHIP G20). Assumes nothing.
use Rattle.std.specs.Prelude.{ℕ, ◌+◌}
use Rattle.constants.specs.Weight.{PIN_ALERT, PIN_CHG, PIN_DSG}
use Rattle.bits.specs.Bit.{weighed}
use Rattle.registers.specs.State.{alert}
use Rattle.chip.specs.declared.Chip.{Chip}

-- ALERT 4, CHG 2, DSG 1
abbrev pub pins_of : Chip → ℕ
pins_of c =
    weighed (alert c.registers.shown.status) PIN_ALERT + weighed c.registers.shown.chg_on PIN_CHG
    + weighed c.registers.shown.dsg_on PIN_DSG
