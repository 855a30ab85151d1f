-- CHIP G9, G10, J13 and J16 as they are read: a drive is held by its own bits and put off by its own faults alone, and COUNT is taken with
-- CC_EN or CC_ONESHOT 1 and else does nothing. Assumes nothing.
use Rattle.std.specs.Prelude.{◌≡◌, Bool, true, false, ℕ}
use Rattle.std.proofs.Math.Bool.{or-true}
use Rattle.events.specs.declared.Fault.{Fault}
use Rattle.events.specs.declared.Fault.TheVariants.{Ov, Uv, Scd, Ocd}
use Rattle.bits.specs.Bit.{bit}
use Rattle.registers.specs.declared.Shown.{Shown}
use Rattle.registers.specs.declared.Registers.{Registers}
use Rattle.registers.specs.Write.{driven}
use Rattle.registers.specs.Fault.{raised}
use Rattle.registers.specs.Judging.{coulombs}

-- a write of SYS_CTRL2 that asks for a drive and finds its bits down puts it on
pub charge_stored : (v : ℕ) (s : Shown) → bit v 1 ≡ true → s.status.ov ≡ false → s.status.ovrd_alert ≡ false
    → s.status.xready ≡ false → (driven v s).chg_on ≡ true
charge_stored v s ask o p x = simp (ask, o, p, x)

pub discharge_stored : (v : ℕ) (s : Shown) → bit v 2 ≡ true → s.status.uv ≡ false → s.status.ocd ≡ false → s.status.scd ≡ false
    → s.status.ovrd_alert ≡ false → s.status.xready ≡ false → (driven v s).dsg_on ≡ true
discharge_stored v s ask u o d p x = simp (ask, u, o, d, p, x)

-- the other drive's faults leave it
pub charge_kept : (f : Fault → Bool) (s : Shown) → f Ov ≡ false → (raised f s).chg_on ≡ s.chg_on
charge_kept f s o = simp o

pub discharge_kept : (f : Fault → Bool) (s : Shown) → f Uv ≡ false → f Scd ≡ false → f Ocd ≡ false → (raised f s).dsg_on ≡ s.dsg_on
discharge_kept f s u d o = simp (u, d, o)

-- the reading is stored, CC_READY rises and CC_ONESHOT ends
abbrev pub Counted : ℕ → Registers → Type 0
Counted n r = (r.measured.cc ≡ n) × (r.shown.status.cc_ready ≡ true) × (r.shown.cc_oneshot ≡ false)

pub counts_enabled : (n : ℕ) (r : Registers) → r.settings.cc_en ≡ true → Counted n (coulombs n r)
counts_enabled n r e = (simp e, simp e, simp e)

pub counts_once : (n : ℕ) (r : Registers) → r.shown.cc_oneshot ≡ true → Counted n (coulombs n r)
counts_once n r e = (simp (e, or-true), simp (e, or-true), simp (e, or-true))

pub counts_nothing : (n : ℕ) (r : Registers) → r.settings.cc_en ≡ false → r.shown.cc_oneshot ≡ false → coulombs n r ≡ r
counts_nothing n r e s = simp (e, s)
