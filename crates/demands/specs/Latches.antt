-- CHIP H5 and H6, the latch of every bit of SYS_STAT: a bit that is up stays up, keeps ALERT up and the drives that it puts off off;
-- OVRD_ALERT and XREADY put off both. A write of a one lowers a bit, but OVRD_ALERT only where the outside level is 0 (CHIP L3). The
-- laws stand in proofs/Latches. Assumes nothing.
use Rattle.std.specs.Prelude.{Bool, false, ◌||◌}
use Rattle.events.specs.declared.Fault.{Fault}
use Rattle.registers.specs.declared.Shown.{Shown}
use Rattle.registers.specs.Fault.{drive_of}

-- ── the seven bits ──
pub data StatusBit : Type 0 where
  cc_ready_bit xready_bit ovrd_alert_bit : StatusBit
  fault_bit : Fault → StatusBit

-- whether a drive is on that the bit puts off: CC_READY puts off none, OVRD_ALERT and XREADY both
abbrev pub driven_at : StatusBit → Shown → Bool
driven_at cc_ready_bit s = false
driven_at xready_bit s = s.chg_on || s.dsg_on
driven_at ovrd_alert_bit s = s.chg_on || s.dsg_on
driven_at (fault_bit k) s = drive_of k s

-- whether the outside level may hold the bit up
abbrev pub holds_up : StatusBit → Bool → Bool
holds_up cc_ready_bit l = false
holds_up xready_bit l = false
holds_up ovrd_alert_bit l = l
holds_up (fault_bit k) l = false
