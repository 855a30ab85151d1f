-- CHIP J1, J4 and J14 to J18: what the events of a chip in NORMAL leave in the registers. Assumes nothing.
use Rattle.std.specs.Prelude.{Bool, true, ◌||◌, cond, List, ℕ, ◌/◌, ◌%◌}
use Rattle.cell_counts.specs.Scan.{total, padded, cell_places, ts_places}
use Rattle.registers.specs.declared.Shown.{Shown}
use Rattle.registers.specs.declared.Measured.{Measured}
use Rattle.registers.specs.declared.Registers.{Registers}
use Rattle.registers.specs.State.{no_cellbal, with_shown, with_cellbal, with_measured, alert}
use Rattle.registers.specs.Fault.{overridden, readied, counting}

-- ── SCAN (CHIP J1, J4) ──
-- BAT is a word of 16 bits: counts up to 16,383 never fill it, and the sum of larger ones is cut to it
abbrev pub bat_of : ℕ → ℕ
bat_of sum = sum / 4 % 65536

abbrev pub cells_kept : List ℕ → ℕ → Measured → Measured
cells_kept cells sum m = record { cells = cells; bat = bat_of sum; ts = m.ts; cc = m.cc }

abbrev pub cells_of : List ℕ → Measured → Measured
cells_of xs m = cells_kept (padded cell_places xs) (total xs) m

abbrev pub scan_kept : List ℕ → ℕ → Registers → Registers
scan_kept cells sum r = with_measured (cond r.settings.adc_en (cells_kept cells sum r.measured) r.measured) r

abbrev pub scanned : List ℕ → Registers → Registers
scanned xs r = with_measured (cond r.settings.adc_en (cells_of xs r.measured) r.measured) r

-- ── TEMP (CHIP J17) ──
abbrev pub ts_kept : List ℕ → Measured → Measured
ts_kept ts m = record { cells = m.cells; bat = m.bat; ts = ts; cc = m.cc }

abbrev pub ts_of : List ℕ → Measured → Measured
ts_of xs m = ts_kept (padded ts_places xs) m

abbrev pub temp_kept : List ℕ → Registers → Registers
temp_kept ts r = with_measured (cond r.settings.adc_en (ts_kept ts r.measured) r.measured) r

abbrev pub warmed : List ℕ → Registers → Registers
warmed xs r = with_measured (cond r.settings.adc_en (ts_of xs r.measured) r.measured) r

-- ── COUNT (CHIP J16) ──
abbrev pub cc_of : ℕ → Measured → Measured
cc_of n m = record { cells = m.cells; bat = m.bat; ts = m.ts; cc = n }

abbrev pub coulombs : ℕ → Registers → Registers
coulombs n r =
    let on : Bool = r.settings.cc_en || r.shown.cc_oneshot in
    with_shown (cond on (counting r.shown) r.shown) (with_measured (cond on (cc_of n r.measured) r.measured) r)

-- ── ALERT pulled up from outside: where SYS_STAT is 0 OVRD_ALERT rises ──
abbrev pub pulled_at : Bool → Shown → Shown
pulled_at l s = cond l (cond (alert s.status) s (overridden s)) s

-- PIN: for a moment (CHIP J14)
abbrev pub pulled : Registers → Registers
pulled r = with_shown (pulled_at true r.shown) r

-- the outside level: after every event that leaves the chip in NORMAL (CHIP L2)
abbrev pub pulled_by_level : Registers → Registers
pulled_by_level r = with_shown (pulled_at r.outside_level r.shown) r

-- ── XREADY (CHIP J15) ──
abbrev pub unready : Registers → Registers
unready r = with_cellbal no_cellbal (with_shown (readied r.shown) r)
