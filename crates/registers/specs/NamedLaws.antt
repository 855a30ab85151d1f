-- CHIP G1: unnamed bits read 0, whatever the registers hold. Assumes nothing.
use Rattle.std.specs.Prelude.{◌≡◌, refl, Bool, true, false, not, ◌&&◌, cond, ℕ, ◌+◌, ◌*◌, ◌/◌, ◌%◌, ◌≤◌, leb}
use Rattle.std.proofs.Common.{arith}
use Rattle.events.specs.declared.Setup.{Setup}
use Rattle.events.specs.Setup.{groups}
use Rattle.bits.specs.Bit.{weighed}
use Rattle.settings.specs.Write.{protect1_of, protect2_of, protect3_of, cc_cfg_of}
use Rattle.settings.specs.Read.{settings_byte}
use Rattle.registers.specs.declared.Registers.{Registers}
use Rattle.registers.specs.Write.{five_of}
use Rattle.registers.specs.Read.{status_byte, ctrl1_byte, ctrl2_byte, cellbal_byte, control_byte, fixed_byte, read_at}

-- an address, and what is left of a byte once the bits that have no name there are 0
pub data Named : ℕ → (ℕ → ℕ) → Type 0 where
  sys_stat : Named 0x00 (λ v. v / 128 * 128 + v % 64)
  cellbal1 : Named 0x01 five_of
  cellbal2 : Named 0x02 five_of
  cellbal3 : Named 0x03 five_of
  sys_ctrl1 : Named 0x04 (λ v. v / 128 * 128 + v / 8 % 4 * 8 + v % 4)
  sys_ctrl2 : Named 0x05 (λ v. v / 32 * 32 + v % 4)
  protect1 : Named 0x06 protect1_of
  protect2 : Named 0x07 protect2_of
  protect3 : Named 0x08 protect3_of
  cc_cfg : Named 0x0B cc_cfg_of
  gain_high : Named 0x50 (λ v. v / 4 % 4 * 4)
  gain_low : Named 0x59 (λ v. v / 32 * 32)

-- a weighed bit is its weight or nothing
times : (b : Bool) (w : ℕ) → weighed b w ≡ weighed b 1 * w
times true w = omega arith
times false w = omega arith

one : (b : Bool) → weighed b 1 ≤ 1
one true = omega arith
one false = omega arith

most : (b : Bool) (w : ℕ) → weighed b w ≤ w
most true w = omega arith
most false w = omega arith

-- a sum of parts that do not meet, taken apart again
split : (s high low : ℕ) → s ≡ high * 128 + low → high ≤ 1 → low ≤ 63 → s / 128 * 128 + s % 64 ≡ s
split s high low e h l = omega arith

split_4 : (s high middle low : ℕ) → s ≡ high * 128 + middle * 8 + low → middle ≤ 3 → low ≤ 3 → s / 128 * 128 + s / 8 % 4 * 8 + s % 4 ≡ s
split_4 s high middle low e m l = omega arith

split_5 : (s high low : ℕ) → s ≡ high * 32 + low → low ≤ 3 → s / 32 * 32 + s % 4 ≡ s
split_5 s high low e l = omega arith

either : (t : Bool) (v : ℕ) → five_of (cond t (five_of v) 0) ≡ cond t (five_of v) 0
either true v = omega arith
either false v = refl

pub unnamed_bits : {a : ℕ} {bits : ℕ → ℕ} → Named a bits → (u : Setup) (r : Registers) → bits (read_at u r a) ≡ read_at u r a
unfolding read_at control_byte cellbal_byte settings_byte fixed_byte
unnamed_bits sys_stat u r =
    let t = r.shown.status in
    let low =
    weighed t.xready 32 + weighed t.ovrd_alert 16 + weighed t.uv 8 + weighed t.ov 4 + weighed t.scd 2
    + weighed t.ocd 1 in
    split (status_byte t) (weighed t.cc_ready 1) low (omega (arith, times t.cc_ready 128)) (one t.cc_ready)
    (omega (arith, most t.xready 32, most t.ovrd_alert 16, most t.uv 8, most t.ov 4, most t.scd 2, most t.ocd 1))
unnamed_bits cellbal1 u r = either (leb 1 (groups u)) r.cellbal.cellbal1
unnamed_bits cellbal2 u r = either (leb 2 (groups u)) r.cellbal.cellbal2
unnamed_bits cellbal3 u r = either (leb 3 (groups u)) r.cellbal.cellbal3
unnamed_bits sys_ctrl1 u r =
    let t = r.settings in
    let load = r.load_level && not r.shown.chg_on in
    split_4 (ctrl1_byte r) (weighed load 1) (weighed t.adc_en 1 * 2 + weighed t.temp_sel 1) (weighed t.shut_b 1)
    (omega (arith, times load 128, times t.adc_en 16, times t.temp_sel 8))
    (omega (arith, one t.adc_en, one t.temp_sel)) (omega (arith, one t.shut_b))
unnamed_bits sys_ctrl2 u r =
    let t = r.settings in
    let w = r.shown in
    split_5 (ctrl2_byte r) (weighed t.delay_dis 1 * 4 + weighed t.cc_en 1 * 2 + weighed w.cc_oneshot 1)
    (weighed w.dsg_on 2 + weighed w.chg_on 1)
    (omega (arith, times t.delay_dis 128, times t.cc_en 64, times w.cc_oneshot 32))
    (omega (arith, most w.dsg_on 2, one w.chg_on))
unnamed_bits protect1 u r = omega arith
unnamed_bits protect2 u r = omega arith
unnamed_bits protect3 u r = omega arith
unnamed_bits cc_cfg u r = omega arith
unnamed_bits gain_high u r = omega arith
unnamed_bits gain_low u r = omega arith
