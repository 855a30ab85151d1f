-- What bytes keep, in steps. Assumes nothing.
use Rattle.std.specs.Prelude.{◌≡◌, Bool, true, false, cond, ◌&&◌, ◌||◌, List, [], ◌∷◌, ℕ, zero, suc, ◌≤◌, eqb, leb, ltb, length, get_or}
use Rattle.std.specs.Prelude.{take, Option, Some, None}
use Rattle.std.proofs.Math.Path.{refl}
use Rattle.std.proofs.Common.{sym, ap, ap₂, ◌∙◌, arith, true≢false}
use borrow.Author.Tests.{leb-true, ne_eqb}
use Rattle.bits.specs.Numbers.{within}
use Rattle.bits.specs.BoolLaws.{and_left, and_right}
use Rattle.chip.specs.declared.Chip.{Chip}
use Rattle.chip_bytes_layout.specs.Kept.{Kept}
use Rattle.chip_bytes_layout.specs.declared.Kept.{Kept as Held}
use Rattle.chip_bytes_layout.specs.Layout.{switch_at, chip_at, formed, could_stand, none, keeps, no_chip, kept_at, good_at, chip_in}
use Rattle.chip_bytes_layout.specs.Layout.{kept_of, kept_seen, good_of, chip_of, fresh_of}
use Rattle.chip_bytes_layout.proofs.OneLaws.{part_not}

pub zero_at : (b : List ℕ) (i : ℕ) → within 0 b ≡ true → get_or b i 0 ≡ 0
zero_at [] i h = refl
zero_at (x ∷ b) zero h = let z : x ≤ 0 = leb-true x 0 (and_left (leb x 0) (within 0 b) h) in omega arith
zero_at (x ∷ b) (suc i) h = zero_at b i (and_right (leb x 0) (within 0 b) h)

module _ (b : List ℕ) where
  zero_keeps : within 0 b ≡ true → keeps none false ≡ keeps (cond (eqb (get_or b 1 0) 0) none (chip_at b)) (switch_at b 23)
  zero_keeps h =
      ap₂ (λ (p f : ℕ). keeps (cond (eqb p 0) none (chip_at b)) (eqb f 1)) (sym (zero_at b 1 h)) (sym (zero_at b 23 h))

  part_is : could_stand (chip_at b) (switch_at b 23) ≡ true → eqb (get_or b 1 0) 0 ≡ false
  unfolding chip_at
  part_is h = ne_eqb (get_or b 1 0) 0 (part_not (chip_at b) (switch_at b 23) h)

  by : (t u : Bool) → within 0 b ≡ t → (formed b && could_stand (chip_at b) (switch_at b 23)) ≡ u
      → cond t (keeps none false) (cond u (keeps (chip_at b) (switch_at b 23)) no_chip)
      ≡ cond (t || u) (keeps (cond (eqb (get_or b 1 0) 0) none (chip_at b)) (switch_at b 23)) no_chip
  by true u t s = zero_keeps t
  by false true t s =
      ap (λ (p : Bool). keeps (cond p none (chip_at b)) (switch_at b 23))
      (sym (part_is (and_right (formed b) (could_stand (chip_at b) (switch_at b 23)) s)))
  by false false t s = refl

  pub kept_by : kept_at b ≡ cond (good_at b) (keeps (chip_in b) (switch_at b 23)) no_chip
  unfolding kept_at good_at chip_in
  kept_by = by (within 0 b) (formed b && could_stand (chip_at b) (switch_at b 23)) refl refl

-- of a buffer
pub kept_as : (b : List ℕ) → kept_of b ≡ cond (good_of b) (keeps (chip_of b) (fresh_of b)) no_chip
kept_as b = short (ltb (length b) 96)
  where
    short : (t : Bool) → cond t no_chip (kept_at (take 96 b))
        ≡ cond (cond t false (good_at (take 96 b)))
        (keeps (cond t none (chip_in (take 96 b))) (cond t false (switch_at (take 96 b) 23))) no_chip
    short true = refl
    short false = kept_by (take 96 b)

pub good_is : (b : List ℕ) → good_of b ≡ (kept_of b).good
good_is b = short (good_of b) ∙ ap (λ (k : Kept). k.good) (sym (kept_as b))
  where
    short : (t : Bool) → t ≡ (cond t (keeps (chip_of b) (fresh_of b)) no_chip).good
    short true = refl
    short false = refl

pub good_keeps : (b : List ℕ) → good_of b ≡ true → kept_of b ≡ keeps (chip_of b) (fresh_of b)
good_keeps b h = kept_as b ∙ ap (λ (t : Bool). cond t (keeps (chip_of b) (fresh_of b)) no_chip) h

-- what a call answers loses nothing there
pub same_kept : (a b : Option Held) → kept_seen a ≡ kept_seen b → a ≡ b
same_kept None None e = refl
same_kept (Some a) (Some b) e =
    ap₂ (λ (c : Chip) (f : Bool). Some (record { chip = c; fresh = f })) (ap (λ (k : Kept). k.chip) e) (ap (λ (k : Kept). k.fresh) e)
same_kept None (Some b) e = absurd (true≢false (sym (ap (λ (k : Kept). k.good) e)))
same_kept (Some a) None e = absurd (true≢false (ap (λ (k : Kept). k.good) e))
