-- CHIP E1 to E5 and C1 to C6 of a chip: what is proposed and replied, and the numbers that refuse it. Assumes nothing.
use Rattle.std.specs.Prelude.{not, ◌&&◌, cond, List, ℕ, eqb, leb, ℤ, length, get_or}
use Rattle.constants.specs.Number.{BAD_VALUE, ASLEEP, NOT_CONNECTED}
use Rattle.wiring.specs.Rows.{linked_bits}
use Rattle.constants.specs.Answer.{Said, gives, refuses}
use Rattle.values.specs.Forecast.{total_of}
use Rattle.bleed.specs.declared.Choice.{Choice}
use Rattle.bleed.specs.Excess.{proposed}
use Rattle.smart_battery.specs.declared.Pack.{Pack}
use Rattle.chip.specs.declared.Chip.{Chip}
use Rattle.chip_voltage.specs.Voltage.{linked_counts}

-- the counts now in the cell registers, and the inputs that have a cell connected (CHIP W7)
abbrev pub cells_of : Chip → List ℕ
cells_of c = c.registers.measured.cells

abbrev pub linked_of : Chip → ℕ
linked_of c = linked_bits c.setup (cells_of c)

-- CHIP E1 and E5
unfoldable pub proposal_said : ℕ → Chip → Said Choice
proposal_said margin c =
    cond (leb 1 margin && leb margin 16383)
    (cond c.normal (cond (eqb (linked_of c) 0) (refuses NOT_CONNECTED) (gives (proposed (cells_of c) (linked_of c) margin)))
    (refuses ASLEEP))
    (refuses BAD_VALUE)

-- what a reply is made of: TEMP_SEL, the count of TS1, whether some cell is connected, CC
abbrev pub pack_of : Chip → Pack
pack_of c =
    record {
      normal = c.normal;
      external = c.registers.settings.temp_sel;
      warmth = get_or c.registers.measured.ts 0 0;
      connected = not (eqb (linked_of c) 0);
      cc = c.registers.measured.cc;
    }

-- the total µV of the connected cells, which the total double is of too
unfoldable pub linked_total : Chip → ℤ
linked_total c = total_of c.setup.gain_code c.setup.offset (length (linked_counts c)) (linked_counts c)
