-- A scan and ticks as the plain engine does them: what is due is shown. No run is kept. Assumes nothing.
use Rattle.std.specs.Prelude.{cond, List, ℕ, ℤ}
use Rattle.constants.specs.Number.{DONE, ASLEEP}
use Rattle.events.specs.Fault.{Faults}
use Rattle.events.specs.declared.Fault.TheVariants.{Ov, Uv}
use Rattle.cell_counts.specs.Scan.{some_above, some_between}
use Rattle.settings.specs.declared.Settings.{Settings}
use Rattle.registers.specs.Judging.{scanned}
use Rattle.limits.specs.Rule.{rule}
use Rattle.chip.specs.declared.Chip.{Chip}
use Rattle.chip.specs.Answer.{Stepped}
use Rattle.chip.specs.Chip.{numbered, with_registers, watched}
use Rattle.chip.specs.Parts.{raised_by}
use Rattle.plain_due.specs.Streaks.{Streaks}
use Rattle.plain_due.specs.Decision.{scan_due, ticks_due}

-- ── what is due is shown and puts off its drive, then the outside level is looked at (CHIP J13, L2) ──
abbrev pub shows : Faults → Chip → Chip
shows f c = watched (raised_by f c)

abbrev pub scan_shown : Streaks → List ℕ → Chip → Chip
scan_shown before xs c =
    let s : Settings = c.registers.settings in
    shows (scan_due s (some_above (rule Ov s).limit xs) (some_between c.setup.floor (rule Uv s).limit xs) before)
    (with_registers (scanned xs c.registers) c)

abbrev pub ticks_shown : Streaks → ℤ → ℕ → Chip → Chip
ticks_shown before v these c = shows (ticks_due c.registers.settings v these before) c

-- ── asleep 4 (CHIP M5) ──
unfoldable pub scan_done : Streaks → List ℕ → Chip → Stepped
scan_done before xs c = cond c.normal (numbered DONE (scan_shown before xs c)) (numbered ASLEEP c)

unfoldable pub ticks_done : Streaks → ℤ → ℕ → Chip → Stepped
ticks_done before v these c = cond c.normal (numbered DONE (ticks_shown before v these c)) (numbered ASLEEP c)
