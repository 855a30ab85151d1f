-- CHIP M7 to M9: laws of writing the settings, for every value of them. Assumes nothing.
use Rattle.std.specs.Prelude.{◌≡◌, refl, Bool, true, false, not, ◌&&◌, cond, ℕ, eqb}
use Rattle.std.proofs.Common.{arith, ne_eqb}
use Rattle.settings.specs.declared.Settings.{Settings}
use Rattle.bits.specs.Bit.{bit}
use Rattle.settings.specs.State.{with_ctrl1, with_ctrl2, with_protect1, with_protect2, with_protect3, with_ov_trip, with_uv_trip}
use Rattle.settings.specs.State.{with_cc_cfg}
use Rattle.settings.specs.Write.{is_shut_a, is_shut_b, keeps_pair, ships, protect1_of, protect2_of, protect3_of, cc_cfg_of, settings_with}

pub cond_by : {A : Type 0} (P : A → Type 0) (b : Bool) {x y : A} → (b ≡ true → P x) → P y → P (cond b x y)
cond_by P true h k = h refl
cond_by P false h k = k

-- what holds of each way to write the settings, and of the settings as they were, holds after a write
pub settings_by : (P : Settings → Type 0) (a v : ℕ) (s : Settings)
    → (eqb a 0x04 ≡ true → P (with_ctrl1 (bit v 16) (bit v 8) (keeps_pair v s) s))
    → (eqb a 0x05 ≡ true → P (with_ctrl2 (bit v 128) (bit v 64) s))
    → (eqb a 0x06 ≡ true → P (with_protect1 (protect1_of v) s)) → (eqb a 0x07 ≡ true → P (with_protect2 (protect2_of v) s))
    → (eqb a 0x08 ≡ true → P (with_protect3 (protect3_of v) s)) → (eqb a 0x09 ≡ true → P (with_ov_trip v s))
    → (eqb a 0x0A ≡ true → P (with_uv_trip v s)) → (eqb a 0x0B ≡ true → P (with_cc_cfg (cc_cfg_of v) s)) → P s → P (settings_with a v s)
unfolding settings_with
settings_by P a v s four five six seven eight nine ten eleven none =
    cond_by P (eqb a 0x04) four (cond_by P (eqb a 0x05) five (cond_by P (eqb a 0x06) six (cond_by P (eqb a 0x07) seven
    (cond_by P (eqb a 0x08) eight (cond_by P (eqb a 0x09) nine (cond_by P (eqb a 0x0A) ten (cond_by P (eqb a 0x0B) eleven none)))))))

-- two Bools are never equal
pub clash : {X : Type 0} {t : Bool} → t ≡ false → t ≡ true → X
clash e f = let z : ◌≡◌ {A = ℕ} 0 1 = cc in absurd (omega arith)

-- ── the shipping sequence ──
-- no other write moves the pair (CHIP M9)
pub pair_stays : (a v : ℕ) (s : Settings) → (a ≡ 0x04 → ⊥) → (settings_with a v s).shut_b ≡ s.shut_b
pair_stays a v s h =
    settings_by (λ t. t.shut_b ≡ s.shut_b) a v s (clash (ne_eqb a 0x04 h)) (λ e. refl) (λ e. refl) (λ e. refl) (λ e. refl)
    (λ e. refl) (λ e. refl) (λ e. refl) refl

-- by (0,1) and then (1,0) it ships
pub then_ships : (v w : ℕ) (s : Settings) → s.shut_b ≡ false → is_shut_a v ≡ false → is_shut_b v ≡ true → is_shut_a w ≡ true
    → is_shut_b w ≡ false
    → ships 0x04 w (settings_with 0x04 v s) ≡ true
unfolding settings_with
then_ships v w s n a b c d = simp (n, a, b, c, d)

-- other pairs leave (0,0)
pub pair_forgotten : (v : ℕ) (s : Settings) → (not (is_shut_a v) && is_shut_b v) ≡ false → (settings_with 0x04 v s).shut_b ≡ false
unfolding settings_with
pair_forgotten v s e = by s.shut_b
  where
    by : (t : Bool) → (not t && not (is_shut_a v) && is_shut_b v) ≡ false
    by true = refl
    by false = e

-- and so does (0,1) while (0,1) is held
pub pair_twice : (v : ℕ) (s : Settings) → s.shut_b ≡ true → (settings_with 0x04 v s).shut_b ≡ false
unfolding settings_with
pair_twice v s e = simp e

-- no write ships while (0,0) is held, or elsewhere
pub ships_only : (a v : ℕ) (s : Settings) → s.shut_b ≡ false → ships a v s ≡ false
ships_only a v s e = simp (e, and_no)
  where
    and_no : (t : Bool) → (t && false) ≡ false
    and_no true = refl
    and_no false = refl
