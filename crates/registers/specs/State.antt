-- CHIP G1 to G20: what the registers hold, by who may move it. Assumes nothing.
use Rattle.std.specs.Prelude.{Bool, false, ◌||◌, replicate}
use Rattle.settings.specs.declared.Settings.{Settings}
use Rattle.settings.specs.State.{reset_settings}
use Rattle.cell_counts.specs.Scan.{cell_places, ts_places}
use Rattle.registers.specs.declared.Status.{Status}
use Rattle.registers.specs.declared.Shown.{Shown}
use Rattle.registers.specs.declared.Cellbal.{Cellbal}
use Rattle.registers.specs.declared.Measured.{Measured}
use Rattle.registers.specs.declared.Registers.{Registers}

-- ── resets ──
abbrev pub no_status : Status
no_status = record { cc_ready = false; xready = false; ovrd_alert = false; uv = false; ov = false; scd = false; ocd = false }

abbrev pub dark : Shown
dark = record { status = no_status; cc_oneshot = false; dsg_on = false; chg_on = false }

abbrev pub no_cellbal : Cellbal
no_cellbal = record { cellbal1 = 0; cellbal2 = 0; cellbal3 = 0 }

abbrev pub nothing : Measured
nothing = record { cells = replicate cell_places 0; bat = 0; ts = replicate ts_places 0; cc = 0 }

abbrev pub reset : Registers
reset = record {
  settings = reset_settings;
  shown = dark;
  cellbal = no_cellbal;
  measured = nothing;
  load_level = false;
  outside_level = false;
}

-- ── one part put anew ──
abbrev pub with_settings : Settings → Registers → Registers
with_settings s r =
    record {
      settings = s;
      shown = r.shown;
      cellbal = r.cellbal;
      measured = r.measured;
      load_level = r.load_level;
      outside_level = r.outside_level;
    }

abbrev pub with_shown : Shown → Registers → Registers
with_shown s r =
    record {
      settings = r.settings;
      shown = s;
      cellbal = r.cellbal;
      measured = r.measured;
      load_level = r.load_level;
      outside_level = r.outside_level;
    }

abbrev pub with_cellbal : Cellbal → Registers → Registers
with_cellbal b r =
    record {
      settings = r.settings;
      shown = r.shown;
      cellbal = b;
      measured = r.measured;
      load_level = r.load_level;
      outside_level = r.outside_level;
    }

abbrev pub with_measured : Measured → Registers → Registers
with_measured m r =
    record {
      settings = r.settings;
      shown = r.shown;
      cellbal = r.cellbal;
      measured = m;
      load_level = r.load_level;
      outside_level = r.outside_level;
    }

abbrev pub with_load_level : Bool → Registers → Registers
with_load_level l r =
    record {
      settings = r.settings;
      shown = r.shown;
      cellbal = r.cellbal;
      measured = r.measured;
      load_level = l;
      outside_level = r.outside_level;
    }

abbrev pub with_outside_level : Bool → Registers → Registers
with_outside_level l r =
    record {
      settings = r.settings;
      shown = r.shown;
      cellbal = r.cellbal;
      measured = r.measured;
      load_level = r.load_level;
      outside_level = l;
    }

abbrev pub with_status : Status → Shown → Shown
with_status t s = record { status = t; cc_oneshot = s.cc_oneshot; dsg_on = s.dsg_on; chg_on = s.chg_on }

-- ALERT (CHIP G20)
abbrev pub alert : Status → Bool
alert t = t.cc_ready || t.xready || t.ovrd_alert || t.uv || t.ov || t.scd || t.ocd
