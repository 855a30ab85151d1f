-- What bytes keep, test by test. Assumes nothing.
use mathlib.Core.Path.{◌≡◌, refl, sym, ap, ap₂, ◌∙◌}
use mathlib.Core.Bool.{Bool, true, false, cond, ◌&&◌}
use mathlib.Core.List.{List, [], ◌∷◌}
use Prim.Native.Nat.{ℕ, zero, suc, ◌≤◌}
use native.Mathlib.Omega.{arith}
use borrow.Author.Tests.{lt-leb, ne_eqb}
use lib.Dec.{leb, eqb}
use lib.ListN.{length, take, drop}
use Rattle.std.specs.List.{list_all, fold}
use Rattle.bits.specs.Numbers.{within}
use Rattle.chip.specs.declared.Chip.{Chip}
use Rattle.chip_bytes_layout.specs.Layout.{listed, keeps, no_chip}
use Rattle.chip_bytes_layout.specs.Layout.{kept_of, good_of, chip_of, fresh_of}
use Rattle.chip_bytes_layout.specs.ListedLaws.{listed_is, joined, joins}
use Rattle.chip_bytes_layout.proofs.GoodLaws.{kept_as, good_keeps}

-- whether they are good, then the chip
module _ (b : List ℕ) {g : Bool} (q : g ≡ good_of b) where
  pub kept_good : {c : Chip} {f : Bool} → g ≡ true → c ≡ chip_of b → f ≡ fresh_of b → keeps c f ≡ kept_of b
  kept_good h e p = ap₂ keeps e p ∙ sym (good_keeps b (sym q ∙ h))

  pub kept_bad : g ≡ false → no_chip ≡ kept_of b
  kept_bad h = sym (kept_as b ∙ ap (λ (t : Bool). cond t (keeps (chip_of b) (fresh_of b)) no_chip) (sym q ∙ h))

-- each byte 0
pub zeros_are : (xs : List ℕ) → list_all (λ (x : ℕ). eqb x 0) xs ≡ within 0 xs
zeros_are [] = refl
zeros_are (zero ∷ xs) = zeros_are xs
zeros_are (suc x ∷ xs) = ap₂ ◌&&◌ (ne_eqb (suc x) 0 (λ e. omega arith) ∙ sym (lt-leb (suc x) 0 (omega arith))) (zeros_are xs)

-- each switch 0 or 1
joined_is : (t : Bool) (xs : List ℕ) → fold (λ (t : Bool) (x : ℕ). t && leb x 1) t xs ≡ joined 1 t xs
joined_is t [] = refl
joined_is t (x ∷ xs) = joined_is (t && leb x 1) xs

pub switches_are : (b : List ℕ) → length b ≡ 96
    → fold (λ (t : Bool) (x : ℕ). t && leb x 1) true (take 20 (drop 21 b)) ≡ within 1 (listed b 21 20)
switches_are b l =
    joined_is true (take 20 (drop 21 b)) ∙ joins 1 true (take 20 (drop 21 b)) ∙ ap (within 1) (sym (listed_is b 21 20 (omega arith)))
