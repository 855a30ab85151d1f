-- What verdicts depend on: the mode, the bus's line and the settings. They move by the events alone: `core_next` asks the chip that has
-- nothing else. Assumes nothing.
use Rattle.std.specs.Prelude.{Bool}
use Rattle.events.specs.declared.Setup.{Setup}
use Rattle.events.specs.Event.{Event}
use Rattle.bus.specs.declared.Line.{Line}
use Rattle.bus.specs.Bus.{with_line, idle_bus}
use Rattle.settings.specs.declared.Settings.{Settings}
use Rattle.registers.specs.State.{reset, with_settings}
use Rattle.protection.specs.Fault.{no_runs}
use Rattle.chip.specs.declared.Chip.{Chip}
use Rattle.chip.specs.Chip.{next}

pub record Core : Type 0 where
  pub normal : Bool
  pub line : Line
  pub settings : Settings

abbrev pub core_of : Chip → Core
core_of c = record { normal = c.normal; line = c.bus.line; settings = c.registers.settings }

-- the chip with this core, and with every bit, drive, count, owed byte and run as after a reset
abbrev pub bare : Setup → Core → Chip
bare u k =
    record { setup = u; normal = k.normal; bus = with_line k.line idle_bus; registers = with_settings k.settings reset; runs = no_runs }

abbrev pub core_next : Setup → Event → Core → Core
core_next u e k = core_of (next e (bare u k))
