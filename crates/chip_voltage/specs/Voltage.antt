-- What leaves the chip as a voltage: a cell's (CHIP V9), and forecasting's reading (CHIP V10). By CHIP V3 registers hold bare counts,
-- and the offset enters here and nowhere else. Assumes nothing.
use Rattle.std.specs.Prelude.{◌≡◌, ◌&&◌, cond, ℕ, ◌-◌, eqb, leb, ℤ, List, length, Result, Ok, Err}
use Rattle.constants.specs.Number.{DONE, ASLEEP, NO_CELL, NOT_CONNECTED}
use Rattle.wiring.specs.Rows.{pack_cells, input_of, connected, linked_inputs}
use Rattle.wiring.specs.Kept.{picked}
use Rattle.registers.specs.Read.{cell_at}
use Rattle.constants.specs.Answer.{Said, gives, refuses}
use Rattle.constants.specs.declared.refusal.Refusal.{Refusal}
use Rattle.constants.specs.declared.refusal.Refusal.TheVariants.{Asleep}
use Rattle.values.specs.Said.{said}
use Rattle.values.specs.Values.{cell_microvolts}
use Rattle.values.specs.Forecast.{IsReading}
use Rattle.values.specs.declared.Reading.{Reading}
use Rattle.chip.specs.declared.Chip.{Chip}

-- the counts of the connected cells (CHIP W7), the lowest first
abbrev pub linked_counts : Chip → List ℕ
linked_counts c = picked c.registers.measured.cells (linked_inputs c.setup c.registers.measured.cells)

-- a sleeping chip refuses
abbrev pub awake : Chip → Result Unit Refusal
awake c = cond c.normal (Ok tt) (Err Asleep)

-- CHIP V9
unfoldable pub voltage_said : ℕ → Chip → Said ℤ
voltage_said n c =
    cond c.normal
    (cond (leb 1 n && leb n (pack_cells c.setup))
    (cond (connected c.setup c.registers.measured.cells (input_of c.setup n))
    (gives (cell_microvolts c.setup.gain_code c.setup.offset
    (cell_at c.setup c.registers.measured (input_of c.setup n - 1))))
    (refuses NOT_CONNECTED))
    (refuses NO_CELL))
    (refuses ASLEEP)

-- least, greatest and total µV of the connected cells, and CC in hundredths, of the registers
abbrev pub Reads : Chip → Reading → Type 0
Reads c r = IsReading c.setup.gain_code c.setup.offset (length (linked_counts c)) (linked_counts c) c.registers.measured.cc r

-- the number of a reading (CHIP V10)
abbrev pub forecast_number : Chip → ℕ
forecast_number c = cond c.normal (cond (eqb (length (linked_counts c)) 0) NOT_CONNECTED DONE) ASLEEP

abbrev pub ForecastSaid : Chip → Said Reading → Type 0
ForecastSaid c (gives r) = (forecast_number c ≡ DONE) × Reads c r
ForecastSaid c (refuses n) = n ≡ forecast_number c

abbrev pub Forecasts : Chip → Result Reading Refusal → Type 0
Forecasts c r = ForecastSaid c (said r)
