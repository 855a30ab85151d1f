-- What an event that says nothing of the four faults leaves of the walk over the records. Assumes nothing.
use Rattle.std.specs.Prelude.{cond}
use Rattle.events.specs.declared.Counts.{Counts}
use Rattle.events.specs.declared.Event.{Event as Coded}
use Rattle.chip.specs.declared.Chip.{Chip}
use Rattle.chip.specs.Chip.{stepped_by}
use Rattle.chip.specs.Core.{core_of, bare}
use Rattle.plain_due.specs.Streaks.{no_streaks}
use Rattle.plain_back.specs.declared.Walk.{Walk}

-- any other event moves mode, line and settings, and ends the spell where it leaves the chip in SHIP
abbrev pub moved_to : Chip → Walk → Walk
moved_to c w = record { chip = bare c.setup (core_of c); said = cond c.normal w.said no_streaks }

unfoldable pub moved_by : Coded → Counts → Walk → Walk
moved_by e k w = moved_to (stepped_by e k w.chip).chip w
