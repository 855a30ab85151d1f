-- CHIP G2 to G11: what an accepted write of v at a does. Each part says its own registers; every other address leaves it.
-- Assumes nothing.
use Rattle.std.specs.Prelude.{Bool, not, ◌&&◌, ◌||◌, cond, ℕ, ◌%◌, eqb, leb}
use Rattle.constants.specs.Address.{SYS_STAT, CELLBAL1, CELLBAL2, CELLBAL3, SYS_CTRL2}
use Rattle.constants.specs.Weight.{CC_READY, XREADY, OVRD_ALERT, UV, OV, SCD, OCD, CC_EN, CC_ONESHOT, DSG_ON, CHG_ON}
use Rattle.events.specs.declared.Setup.{Setup}
use Rattle.events.specs.Setup.{groups}
use Rattle.bits.specs.Bit.{bit}
use Rattle.settings.specs.Write.{settings_with}
use Rattle.registers.specs.declared.Status.{Status}
use Rattle.registers.specs.declared.Shown.{Shown}
use Rattle.registers.specs.declared.Cellbal.{Cellbal}
use Rattle.registers.specs.declared.Registers.{Registers}
use Rattle.registers.specs.State.{with_status}

-- ── SYS_STAT (CHIP G4) ──
abbrev pub status_of : ℕ → Status
status_of v =
    record {
      cc_ready = bit v CC_READY;
      xready = bit v XREADY;
      ovrd_alert = bit v OVRD_ALERT;
      uv = bit v UV;
      ov = bit v OV;
      scd = bit v SCD;
      ocd = bit v OCD;
    }

abbrev pub without : Status → Status → Status
without ones t =
    record {
      cc_ready = t.cc_ready && not ones.cc_ready;
      xready = t.xready && not ones.xready;
      ovrd_alert = t.ovrd_alert && not ones.ovrd_alert;
      uv = t.uv && not ones.uv;
      ov = t.ov && not ones.ov;
      scd = t.scd && not ones.scd;
      ocd = t.ocd && not ones.ocd;
    }

-- ── SYS_CTRL2 (CHIP G9 to G11) ──
abbrev pub holds_chg : Status → Bool
holds_chg t = t.ov || t.ovrd_alert || t.xready

abbrev pub holds_dsg : Status → Bool
holds_dsg t = t.uv || t.ocd || t.scd || t.ovrd_alert || t.xready

-- what CC_ONESHOT and the drives become
abbrev pub driven : ℕ → Shown → Shown
driven v s =
    record {
      status = s.status;
      cc_oneshot = bit v CC_ONESHOT && not (bit v CC_EN) && not s.status.cc_ready;
      dsg_on = bit v DSG_ON && not (holds_dsg s.status);
      chg_on = bit v CHG_ON && not (holds_chg s.status);
    }

unfoldable pub shown_with : ℕ → ℕ → Shown → Shown
shown_with a v s = cond (eqb a SYS_STAT) (with_status (without (status_of v) s.status) s) (cond (eqb a SYS_CTRL2) (driven v s) s)

-- ── CELLBAL (CHIP G5), for the groups that the part has ──
abbrev pub five_of : ℕ → ℕ
five_of v = v % 32

unfoldable pub cellbal_with : Setup → ℕ → ℕ → Cellbal → Cellbal
cellbal_with u a v b =
    cond (eqb a CELLBAL1 && leb 1 (groups u)) (record { cellbal1 = five_of v; cellbal2 = b.cellbal2; cellbal3 = b.cellbal3 })
    (cond (eqb a CELLBAL2 && leb 2 (groups u)) (record { cellbal1 = b.cellbal1; cellbal2 = five_of v; cellbal3 = b.cellbal3 })
    (cond (eqb a CELLBAL3 && leb 3 (groups u)) (record { cellbal1 = b.cellbal1; cellbal2 = b.cellbal2; cellbal3 = five_of v })
    b))

-- ── the whole: what is measured, and the load level and the outside level, no write moves ──
abbrev pub written : Setup → ℕ → ℕ → Registers → Registers
written u a v r =
    record {
      settings = settings_with a v r.settings;
      shown = shown_with a v r.shown;
      cellbal = cellbal_with u a v r.cellbal;
      measured = r.measured;
      load_level = r.load_level;
      outside_level = r.outside_level;
    }
