-- CHIP J13: what a fault raises and puts off. Assumes nothing.
use Rattle.std.specs.Prelude.{Bool, true, false, not, ◌&&◌, ◌||◌}
use Rattle.events.specs.declared.Fault.{Fault}
use Rattle.events.specs.declared.Fault.TheVariants.{Ov, Uv, Scd, Ocd}
use Rattle.registers.specs.declared.Status.{Status}
use Rattle.registers.specs.declared.Shown.{Shown}

abbrev pub bit_of : Fault → Status → Bool
bit_of Ov t = t.ov
bit_of Uv t = t.uv
bit_of Scd t = t.scd
bit_of Ocd t = t.ocd

-- ── the four faults ──
abbrev pub drive_of : Fault → Shown → Bool
drive_of Ov s = s.chg_on
drive_of Uv s = s.dsg_on
drive_of Scd s = s.dsg_on
drive_of Ocd s = s.dsg_on

abbrev pub raised : (Fault → Bool) → Shown → Shown
raised r s =
    record {
      status =
          record {
            cc_ready = s.status.cc_ready;
            xready = s.status.xready;
            ovrd_alert = s.status.ovrd_alert;
            uv = r Uv || s.status.uv;
            ov = r Ov || s.status.ov;
            scd = r Scd || s.status.scd;
            ocd = r Ocd || s.status.ocd;
          };
      cc_oneshot = s.cc_oneshot;
      dsg_on = not (r Uv || r Scd || r Ocd) && s.dsg_on;
      chg_on = not (r Ov) && s.chg_on;
    }

-- OVRD_ALERT and XREADY, which put off both
abbrev pub overridden : Shown → Shown
overridden s =
    record {
      status =
          record {
            cc_ready = s.status.cc_ready;
            xready = s.status.xready;
            ovrd_alert = true;
            uv = s.status.uv;
            ov = s.status.ov;
            scd = s.status.scd;
            ocd = s.status.ocd;
          };
      cc_oneshot = s.cc_oneshot;
      dsg_on = false;
      chg_on = false;
    }

abbrev pub readied : Shown → Shown
readied s =
    record {
      status =
          record {
            cc_ready = s.status.cc_ready;
            xready = true;
            ovrd_alert = s.status.ovrd_alert;
            uv = s.status.uv;
            ov = s.status.ov;
            scd = s.status.scd;
            ocd = s.status.ocd;
          };
      cc_oneshot = s.cc_oneshot;
      dsg_on = false;
      chg_on = false;
    }

-- CC_READY (CHIP J16)
abbrev pub counting : Shown → Shown
counting s =
    record {
      status =
          record {
            cc_ready = true;
            xready = s.status.xready;
            ovrd_alert = s.status.ovrd_alert;
            uv = s.status.uv;
            ov = s.status.ov;
            scd = s.status.scd;
            ocd = s.status.ocd;
          };
      cc_oneshot = false;
      dsg_on = s.dsg_on;
      chg_on = s.chg_on;
    }
