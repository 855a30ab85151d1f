-- CHIP G2: an accepted write moves what its own address reads and no other, but LOAD_PRESENT with CHG_ON. Assumes nothing.
use Rattle.std.specs.Prelude.{◌≡◌, Bool, true, false, ◌&&◌, ℕ, zero, suc, ◌<◌, eqb, ltb}
use Rattle.std.proofs.Math.Path.{refl}
use Rattle.std.proofs.Common.{sym, ap, ◌∙◌, arith, eqb-true, ltb-true, ne_eqb}
use Rattle.std.proofs.Math.Bool.{cond}
use Rattle.std.proofs.Math.Dec.{leb}
use Rattle.events.specs.declared.Setup.{Setup}
use Rattle.events.specs.Setup.{groups}
use Rattle.settings.specs.declared.Settings.{Settings}
use Rattle.settings.specs.Write.{protect1_of, protect2_of, protect3_of, cc_cfg_of, settings_with}
use Rattle.settings.specs.Read.{settings_byte}
use Rattle.registers.specs.declared.Shown.{Shown}
use Rattle.registers.specs.declared.Cellbal.{Cellbal}
use Rattle.registers.specs.declared.Registers.{Registers}
use Rattle.registers.specs.State.{with_status}
use Rattle.registers.specs.Write.{status_of, without, driven, five_of, shown_with, cellbal_with, written}
use Rattle.registers.specs.Read.{status_byte, ctrl1_byte, ctrl2_byte, cellbal_byte, control_byte, read_at}
use Rattle.settings.specs.Laws.{cond_by, settings_by, clash}

clash_and : {X : Type 0} {t : Bool} (w : Bool) → t ≡ false → (t && w) ≡ true → X
clash_and {X} {t} w e f = clash (ap (λ b. b && w) e) f

-- what holds at 0x00 to 0x0B holds at each address below 0x0C
low_by : (P : ℕ → Type 0) → P 0x00 → P 0x01 → P 0x02 → P 0x03 → P 0x04 → P 0x05 → P 0x06 → P 0x07 → P 0x08 → P 0x09 → P 0x0A → P 0x0B
    → (b : ℕ) → b < 0x0C → P b
low_by P p0 p1 p2 p3 p4 p5 p6 p7 p8 p9 p_a p_b zero h = p0
low_by P p0 p1 p2 p3 p4 p5 p6 p7 p8 p9 p_a p_b (suc zero) h = p1
low_by P p0 p1 p2 p3 p4 p5 p6 p7 p8 p9 p_a p_b (suc (suc zero)) h = p2
low_by P p0 p1 p2 p3 p4 p5 p6 p7 p8 p9 p_a p_b (suc (suc (suc zero))) h = p3
low_by P p0 p1 p2 p3 p4 p5 p6 p7 p8 p9 p_a p_b (suc (suc (suc (suc zero)))) h = p4
low_by P p0 p1 p2 p3 p4 p5 p6 p7 p8 p9 p_a p_b (suc (suc (suc (suc (suc zero))))) h = p5
low_by P p0 p1 p2 p3 p4 p5 p6 p7 p8 p9 p_a p_b (suc (suc (suc (suc (suc (suc zero)))))) h = p6
low_by P p0 p1 p2 p3 p4 p5 p6 p7 p8 p9 p_a p_b (suc (suc (suc (suc (suc (suc (suc zero))))))) h = p7
low_by P p0 p1 p2 p3 p4 p5 p6 p7 p8 p9 p_a p_b (suc (suc (suc (suc (suc (suc (suc (suc zero)))))))) h = p8
low_by P p0 p1 p2 p3 p4 p5 p6 p7 p8 p9 p_a p_b (suc (suc (suc (suc (suc (suc (suc (suc (suc zero))))))))) h = p9
low_by P p0 p1 p2 p3 p4 p5 p6 p7 p8 p9 p_a p_b (suc (suc (suc (suc (suc (suc (suc (suc (suc (suc zero)))))))))) h = p_a
low_by P p0 p1 p2 p3 p4 p5 p6 p7 p8 p9 p_a p_b (suc (suc (suc (suc (suc (suc (suc (suc (suc (suc (suc zero))))))))))) h = p_b
low_by P p0 p1 p2 p3 p4 p5 p6 p7 p8 p9 p_a p_b (suc (suc (suc (suc (suc (suc (suc (suc (suc (suc (suc (suc b)))))))))))) h =
    absurd (omega arith)

module _ (u : Setup) (a v : ℕ) (r : Registers) where
  abbrev Still : ℕ → Type 0
  Still b = (b ≡ a → ⊥) → (a ≡ 0x05 → b ≡ 0x04 → ⊥) → read_at u (written u a v r) b ≡ read_at u r b

  differ : (b : ℕ) → (b ≡ a → ⊥) → eqb a b ≡ false
  differ b h = ne_eqb a b (λ e. h (sym e))

  -- what holds of each way to write what is shown, and of what was shown, holds after a write
  shown_by : (P : Shown → Type 0) → (eqb a 0x00 ≡ true → P (with_status (without (status_of v) r.shown.status) r.shown))
      → (eqb a 0x05 ≡ true → P (driven v r.shown)) → P r.shown → P (shown_with a v r.shown)
  unfolding shown_with
  shown_by P zeroth fifth none = cond_by P (eqb a 0x00) zeroth (cond_by P (eqb a 0x05) fifth none)

  still_0 : Still 0x00
  unfolding read_at control_byte
  still_0 h g = shown_by (λ t. status_byte t.status ≡ status_byte r.shown.status) (clash (differ 0x00 h)) (λ e. refl) refl

  still_1 : Still 0x01
  unfolding read_at control_byte cellbal_byte cellbal_with
  still_1 h g =
      cond_by P (eqb a 0x01 && leb 1 (groups u)) (clash_and (leb 1 (groups u)) (differ 0x01 h))
      (cond_by P (eqb a 0x02 && leb 2 (groups u)) (λ e. refl) (cond_by P (eqb a 0x03 && leb 3 (groups u)) (λ e. refl) refl))
    where
      P : Cellbal → Type 0
      P t = cond (leb 1 (groups u)) (five_of t.cellbal1) 0 ≡ cond (leb 1 (groups u)) (five_of r.cellbal.cellbal1) 0

  still_2 : Still 0x02
  unfolding read_at control_byte cellbal_byte cellbal_with
  still_2 h g =
      cond_by P (eqb a 0x01 && leb 1 (groups u)) (λ e. refl)
      (cond_by P (eqb a 0x02 && leb 2 (groups u)) (clash_and (leb 2 (groups u)) (differ 0x02 h))
      (cond_by P (eqb a 0x03 && leb 3 (groups u)) (λ e. refl) refl))
    where
      P : Cellbal → Type 0
      P t = cond (leb 2 (groups u)) (five_of t.cellbal2) 0 ≡ cond (leb 2 (groups u)) (five_of r.cellbal.cellbal2) 0

  still_3 : Still 0x03
  unfolding read_at control_byte cellbal_byte cellbal_with
  still_3 h g =
      cond_by P (eqb a 0x01 && leb 1 (groups u)) (λ e. refl)
      (cond_by P (eqb a 0x02 && leb 2 (groups u)) (λ e. refl)
      (cond_by P (eqb a 0x03 && leb 3 (groups u)) (clash_and (leb 3 (groups u)) (differ 0x03 h)) refl))
    where
      P : Cellbal → Type 0
      P t = cond (leb 3 (groups u)) (five_of t.cellbal3) 0 ≡ cond (leb 3 (groups u)) (five_of r.cellbal.cellbal3) 0

  -- the registers with other settings and another thing shown
  abbrev of : Settings → Shown → Registers
  of t w = record {
    settings = t;
    shown = w;
    cellbal = r.cellbal;
    measured = r.measured;
    load_level = r.load_level;
    outside_level = r.outside_level;
  }

  still_4 : Still 0x04
  unfolding read_at control_byte
  still_4 h g =
      shown_by (λ w. ctrl1_byte (of (settings_with a v r.settings) w) ≡ ctrl1_byte (of (settings_with a v r.settings) r.shown))
      (λ e. refl) (λ e. absurd (g (eqb-true a 0x05 e) refl)) refl
      ∙ settings_by (λ t. ctrl1_byte (of t r.shown) ≡ ctrl1_byte r) a v r.settings (clash (differ 0x04 h)) (λ e. refl) (λ e. refl)
      (λ e. refl) (λ e. refl) (λ e. refl) (λ e. refl) (λ e. refl) refl

  still_5 : Still 0x05
  unfolding read_at control_byte
  still_5 h g =
      shown_by (λ w. ctrl2_byte (of (settings_with a v r.settings) w) ≡ ctrl2_byte (of (settings_with a v r.settings) r.shown))
      (λ e. refl) (clash (differ 0x05 h)) refl
      ∙ settings_by (λ t. ctrl2_byte (of t r.shown) ≡ ctrl2_byte r) a v r.settings (λ e. refl) (clash (differ 0x05 h)) (λ e. refl)
      (λ e. refl) (λ e. refl) (λ e. refl) (λ e. refl) (λ e. refl) refl

  still_6 : Still 0x06
  unfolding read_at control_byte settings_byte
  still_6 h g =
      settings_by (λ t. protect1_of t.protect1 ≡ protect1_of r.settings.protect1) a v r.settings (λ e. refl) (λ e. refl)
      (clash (differ 0x06 h)) (λ e. refl) (λ e. refl) (λ e. refl) (λ e. refl) (λ e. refl) refl

  still_7 : Still 0x07
  unfolding read_at control_byte settings_byte
  still_7 h g =
      settings_by (λ t. protect2_of t.protect2 ≡ protect2_of r.settings.protect2) a v r.settings (λ e. refl) (λ e. refl)
      (λ e. refl) (clash (differ 0x07 h)) (λ e. refl) (λ e. refl) (λ e. refl) (λ e. refl) refl

  still_8 : Still 0x08
  unfolding read_at control_byte settings_byte
  still_8 h g =
      settings_by (λ t. protect3_of t.protect3 ≡ protect3_of r.settings.protect3) a v r.settings (λ e. refl) (λ e. refl)
      (λ e. refl) (λ e. refl) (clash (differ 0x08 h)) (λ e. refl) (λ e. refl) (λ e. refl) refl

  still_9 : Still 0x09
  unfolding read_at control_byte settings_byte
  still_9 h g =
      settings_by (λ t. t.ov_trip ≡ r.settings.ov_trip) a v r.settings (λ e. refl) (λ e. refl) (λ e. refl) (λ e. refl)
      (λ e. refl) (clash (differ 0x09 h)) (λ e. refl) (λ e. refl) refl

  still_a : Still 0x0A
  unfolding read_at control_byte settings_byte
  still_a h g =
      settings_by (λ t. t.uv_trip ≡ r.settings.uv_trip) a v r.settings (λ e. refl) (λ e. refl) (λ e. refl) (λ e. refl)
      (λ e. refl) (λ e. refl) (clash (differ 0x0A h)) (λ e. refl) refl

  still_b : Still 0x0B
  unfolding read_at control_byte settings_byte
  still_b h g =
      settings_by (λ t. cc_cfg_of t.cc_cfg ≡ cc_cfg_of r.settings.cc_cfg) a v r.settings (λ e. refl) (λ e. refl) (λ e. refl)
      (λ e. refl) (λ e. refl) (λ e. refl) (λ e. refl) (clash (differ 0x0B h)) refl

  still_high : (b : ℕ) → ltb b 0x0C ≡ false → read_at u (written u a v r) b ≡ read_at u r b
  unfolding read_at
  still_high b e = simp e

  pub elsewhere : (b : ℕ) → (b ≡ a → ⊥) → (a ≡ 0x05 → b ≡ 0x04 → ⊥) → read_at u (written u a v r) b ≡ read_at u r b
  elsewhere b = by (ltb b 0x0C) refl
    where
      by : (t : Bool) → ltb b 0x0C ≡ t → Still b
      by true e =
          low_by Still still_0 still_1 still_2 still_3 still_4 still_5 still_6 still_7 still_8 still_9 still_a still_b b (ltb-true b 0x0C e)
      by false e = λ h g. still_high b e
