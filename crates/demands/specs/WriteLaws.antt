-- CHIP.md, "Registers", "Modes" and the drives: what is read back after a write of SYS_CTRL1 and SYS_CTRL2; when a drive comes on, when
-- it is left, and that a clearing write alone never puts it on. Assumes nothing.
use Rattle.std.specs.Prelude.{◌≡◌, refl, Bool, true, false, not, ◌&&◌, ◌||◌, ℕ, ◌+◌, ◌%◌, eqb}
use Rattle.std.proofs.Common.{sym, ◌∙◌, arith}
use Rattle.events.specs.declared.Setup.{Setup}
use Rattle.events.specs.declared.BusEvent.TheVariants.{Out}
use Rattle.events.specs.Event.{Event, OnBus}
use Rattle.events.specs.declared.Fault.{Fault}
use Rattle.events.specs.declared.Fault.TheVariants.{Ov, Uv, Scd, Ocd}
use Rattle.bits.specs.Bit.{bit}
use Rattle.bus.specs.Bus.{At}
use Rattle.std.specs.Prelude.{None}
use Rattle.settings.specs.Write.{settings_with}
use Rattle.registers.specs.declared.Shown.{Shown}
use Rattle.registers.specs.declared.Registers.{Registers}
use Rattle.registers.specs.Write.{written, shown_with}
use Rattle.registers.specs.Read.{read_at, control_byte}
use Rattle.demands.specs.Moves.{is, heard}
use Rattle.demands.specs.Table.{one}

-- ── read back ──
-- SYS_CTRL1: ADC_EN, TEMP_SEL and the pair as written, LOAD_PRESENT as it was
pub ctrl1_back : (u : Setup) (v : ℕ) (r : Registers) → read_at u (written u 0x04 v r) 0x04
    ≡ one (r.load_level && not r.shown.chg_on) 128 + one (bit v 16) 16 + one (bit v 8) 8
    + one (not r.settings.shut_b && not (bit v 2) && bit v 1) 1
unfolding read_at control_byte settings_with shown_with
ctrl1_back u v r = refl

-- SYS_CTRL2: DELAY_DIS and CC_EN as written; CC_ONESHOT and the drives where nothing forbids them
pub ctrl2_back : (u : Setup) (v : ℕ) (r : Registers) → read_at u (written u 0x05 v r) 0x05
    ≡ one (bit v 128) 128 + one (bit v 64) 64 + one (bit v 32 && not (bit v 64) && not r.shown.status.cc_ready) 32
    + one (bit v 2 && not (r.shown.status.uv || r.shown.status.ocd || r.shown.status.scd || r.shown.status.ovrd_alert
    || r.shown.status.xready)) 2
    + one (bit v 1 && not (r.shown.status.ov || r.shown.status.ovrd_alert || r.shown.status.xready)) 1
unfolding read_at control_byte settings_with shown_with
ctrl2_back u v r = refl

-- a write of SYS_CTRL2 leaves SYS_CTRL1 but for LOAD_PRESENT
upper : (b : Bool) (n m : ℕ) → n ≡ one b 128 + m → n % 128 ≡ m % 128
upper true n m e = omega arith
upper false n m e = omega arith

pub ctrl2_leaves : (u : Setup) (v : ℕ) (r : Registers) → read_at u (written u 0x05 v r) 0x04 % 128 ≡ read_at u r 0x04 % 128
unfolding read_at control_byte settings_with shown_with
ctrl2_leaves u v r =
    upper (r.load_level && not (bit v 1 && not (r.shown.status.ov || r.shown.status.ovrd_alert || r.shown.status.xready)))
    (read_at u (written u 0x05 v r) 0x04) below (omega arith)
    ∙ sym (upper (r.load_level && not r.shown.chg_on) (read_at u r 0x04) below (omega arith))
  where
    below : ℕ
    below = one r.settings.adc_en 16 + one r.settings.temp_sel 8 + one r.settings.shut_b 1

-- ── the drives, by what Moves says of one event ──
abbrev pub none : Fault → Bool
none k = false

-- an enabling write that finds the drive's bits down puts it on
pub charge_on : (b v : ℕ) (en : Bool) (s : Shown) → bit v 1 ≡ true → s.status.ov ≡ false → s.status.ovrd_alert ≡ false
    → s.status.xready ≡ false → (heard (OnBus (Out b)) (At 0x05 v) en none s).chg_on ≡ true
charge_on b v en s ask o p x = simp (ask, o, p, x)

pub discharge_on : (b v : ℕ) (en : Bool) (s : Shown) → bit v 2 ≡ true → s.status.uv ≡ false → s.status.ocd ≡ false
    → s.status.scd ≡ false → s.status.ovrd_alert ≡ false → s.status.xready ≡ false
    → (heard (OnBus (Out b)) (At 0x05 v) en none s).dsg_on ≡ true
discharge_on b v en s ask y c d p x = simp (ask, y, c, d, p, x)

-- a write elsewhere, a clearing one too, leaves both
pub write_leaves : (b a v : ℕ) (en : Bool) (s : Shown) → eqb a 0x05 ≡ false
    → ((heard (OnBus (Out b)) (At a v) en none s).chg_on ≡ s.chg_on)
    × ((heard (OnBus (Out b)) (At a v) en none s).dsg_on ≡ s.dsg_on)
write_leaves b a v en s h = (simp h, simp h)

-- and so does every event but PIN and XREADY that raises none of its faults
pub charge_left : (e : Event) (en : Bool) (r : Fault → Bool) (s : Shown) → is 0x07 e ≡ false → is 0x09 e ≡ false → r Ov ≡ false
    → (heard e None en r s).chg_on ≡ s.chg_on
charge_left e en r s seven nine o = simp (seven, nine, o)

pub discharge_left : (e : Event) (en : Bool) (r : Fault → Bool) (s : Shown) → is 0x07 e ≡ false → is 0x09 e ≡ false → r Uv ≡ false
    → r Scd ≡ false → r Ocd ≡ false → (heard e None en r s).dsg_on ≡ s.dsg_on
discharge_left e en r s seven nine y d c = simp (seven, nine, y, d, c)
