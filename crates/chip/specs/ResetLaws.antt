-- CHIP M3 and G19: what each address reads in SHIP, its reset value or what is from setup. Assumes nothing.
use Rattle.std.specs.Prelude.{◌≡◌, Bool, ℕ, zero, suc, ◌-◌, ◌/◌, ◌%◌, ◌<◌, ◌≤◌, eqb, leb, get_or, replicate}
use Rattle.std.proofs.Math.Path.{refl, sym, ap}
use Rattle.std.proofs.Common.{subst, ◌∙◌, arith}
use Rattle.std.proofs.Math.Bool.{true, false, cond}
use Rattle.std.proofs.Math.Dec.{ltb}
use borrow.Author.Tests.{ne_eqb, ltb-true, ltb-false}
use Rattle.events.specs.declared.Setup.{Setup}
use Rattle.events.specs.Setup.{groups, inputs}
use Rattle.settings.specs.Read.{settings_byte}
use Rattle.registers.specs.State.{reset, nothing}
use Rattle.registers.specs.Read.{cellbal_byte, control_byte, half, cell_at, ts_at, word_at, fixed_byte, read_at}
use Rattle.chip.specs.Chip.{in_ship, reads}

-- SYS_CTRL1 0x10, OV_TRIP 0xAC, UV_TRIP 0x97, CC_CFG 0x17; the gain code and the offset are from setup, never reset; other resets are 0
unfoldable pub reset_byte : Setup → ℕ → ℕ
reset_byte u a = cond (eqb a 0x04) 0x10 (cond (eqb a 0x09) 0xAC (cond (eqb a 0x0A) 0x97 (cond (eqb a 0x0B) 0x17 (fixed_byte u a))))

same : (t : Bool) (n : ℕ) → cond t n n ≡ n
same true n = refl
same false n = refl

-- a number below the next is the number or below it
last_or : (P : ℕ → Type 0) (n a : ℕ) → P n → (a < n → P a) → a < suc n → P a
last_or P n a p q h = by (ltb a n) refl
  where
    by : (t : Bool) → ltb a n ≡ t → P a
    by true e = q (ltb-true a n e)
    by false e = let l : n ≤ a = ltb-false a n e in let s : n ≡ a = omega arith in subst P s p

module _ (u : Setup) where
  abbrev Resets : ℕ → Type 0
  Resets a = control_byte u reset a ≡ reset_byte u a

  low_resets : (a : ℕ) → a < 12 → Resets a
  unfolding control_byte cellbal_byte settings_byte fixed_byte reset_byte
  low_resets a h =
      last_or Resets 11 a refl
      (last_or Resets 10 a refl (last_or Resets 9 a refl (last_or Resets 8 a refl (last_or Resets 7 a refl (last_or Resets 6 a refl
      (last_or Resets 5 a refl
      (last_or Resets 4 a refl (last_or Resets 3 a (same (leb 3 (groups u)) 0) (last_or Resets 2 a (same (leb 2 (groups u)) 0)
      (last_or Resets 1 a (same (leb 1 (groups u)) 0) (last_or Resets 0 a refl (λ z. absurd (omega arith))))))))))))) h

  zeros : (n k : ℕ) → ◌≡◌ {A = ℕ} (get_or (replicate n 0) k 0) 0
  zeros zero k = refl
  zeros (suc n) zero = refl
  zeros (suc n) (suc k) = zeros n k

  no_cell : (k : ℕ) → cell_at u nothing k ≡ 0
  no_cell k = ap (λ (x : ℕ). cond (ltb k (inputs u)) x 0) (zeros 15 k) ∙ same (ltb k (inputs u)) 0

  no_ts : (k : ℕ) → ts_at u nothing k ≡ 0
  no_ts k = ap (λ (x : ℕ). cond (ltb k (groups u)) x 0) (zeros 3 k) ∙ same (ltb k (groups u)) 0

  no_word : (a : ℕ) → word_at u nothing a ≡ 0
  unfolding word_at
  no_word a =
      ap (λ (x : ℕ). cond (ltb a 0x2A) x (cond (ltb a 0x2C) 0 (cond (ltb a 0x32) (ts_at u nothing ((a - 0x2C) / 2)) 0)))
      (no_cell ((a - 0x0C) / 2))
      ∙ ap (λ (x : ℕ). cond (ltb a 0x2A) 0 (cond (ltb a 0x2C) 0 (cond (ltb a 0x32) x 0))) (no_ts ((a - 0x2C) / 2))
      ∙ ap (λ (x : ℕ). cond (ltb a 0x2A) 0 (cond (ltb a 0x2C) 0 x)) (same (ltb a 0x32) 0)
      ∙ ap (λ (x : ℕ). cond (ltb a 0x2A) 0 x) (same (ltb a 0x2C) 0)
      ∙ same (ltb a 0x2A) 0

  no_half : (a : ℕ) → half a (word_at u nothing a) ≡ 0
  unfolding half
  no_half a = ap (λ (x : ℕ). cond (eqb (a % 2) 0) (x / 256) (x % 256)) (no_word a) ∙ same (eqb (a % 2) 0) 0

  fixed_only : (a : ℕ) → 12 ≤ a → fixed_byte u a ≡ reset_byte u a
  unfolding reset_byte
  fixed_only a h =
      simp (
        ne_eqb a 0x04 (λ e. omega arith),
        ne_eqb a 0x09 (λ e. omega arith),
        ne_eqb a 0x0A (λ e. omega arith),
        ne_eqb a 0x0B (λ e. omega arith),
      )

  no_fixed : (a : ℕ) → a < 0x34 → fixed_byte u a ≡ 0
  unfolding fixed_byte
  no_fixed a h = simp (ne_eqb a 0x50 (λ e. omega arith), ne_eqb a 0x51 (λ e. omega arith), ne_eqb a 0x59 (λ e. omega arith))

  pub ship_reads : (a : ℕ) → reads (in_ship u) a ≡ reset_byte u a
  unfolding read_at
  ship_reads a = by (ltb a 0x0C) (ltb a 0x34) refl refl
    where
      by : (s t : Bool) → ltb a 0x0C ≡ s → ltb a 0x34 ≡ t
          → cond s (control_byte u reset a) (cond t (half a (word_at u nothing a)) (fixed_byte u a)) ≡ reset_byte u a
      by true t e f = low_resets a (ltb-true a 0x0C e)
      by false true e f = no_half a ∙ sym (no_fixed a (ltb-true a 0x34 f)) ∙ fixed_only a (ltb-false a 0x0C e)
      by false false e f = fixed_only a (ltb-false a 0x0C e)
