-- BYTES AND CHIPS ARE ONE TO ONE: a chip that stands is read back from its bytes, two that differ have different bytes, and bytes that keep
-- a chip are that chip's. Assumes nothing.
use Rattle.std.specs.Prelude.{◌≡◌, Bool, true, false, cond, ◌&&◌, ◌≢◌, List, ℕ, leb, eqb, length}
use Rattle.std.proofs.Math.Path.{refl, ap}
use Rattle.std.proofs.Common.{sym, ◌∙◌, true≢false, arith, leb-true, ne_eqb}
use Rattle.std.proofs.Math.ListN.{replicate}
use Rattle.bits.specs.Numbers.{within, bit_of}
use Rattle.events.specs.Setup.{setup_fits}
use Rattle.bits.specs.BoolLaws.{and_left, and_right}
use Rattle.bits.specs.BytesLaws.{Bytes}
use Rattle.chip.specs.declared.Chip.{Chip}
use Rattle.chip_bytes_layout.specs.Kept.{Kept}
use Rattle.chip_bytes_layout.specs.Layout.{plain_of, switches_of, words_of, chip_bytes, switch_at, chip_at, formed, setup_stands}
use Rattle.chip_bytes_layout.specs.Layout.{could_stand}
use Rattle.chip_bytes_layout.specs.Layout.{none, keeps, no_chip, kept_at, kept_bytes}
use Rattle.chip_bytes_layout.specs.ListedLaws.{zeros_forth}
use Rattle.chip_bytes_layout.proofs.TripLaws.{Sized, back, back_fresh, back_formed, forth, sized}

-- no chip yet, or a chip that could stand
pub data Stood : Chip → Bool → Type 0 where
  not_yet : Stood none false
  stands : {c : Chip} {fresh : Bool} → could_stand c fresh ≡ true → Sized c → Stood c fresh

pub part_not : (c : Chip) (fresh : Bool) → could_stand c fresh ≡ true → c.setup.part ≢ 0
unfolding could_stand setup_stands
part_not c fresh h z =
    let fits : setup_fits c.setup.part (bit_of c.setup.crc) c.setup.address c.setup.gain_code c.setup.floor ≡ true =
    and_left _ _ (and_left _ _ (and_left _ _ h)) in
    let part : leb 1 c.setup.part ≡ true =
    and_left _ _ (and_left _ _ (and_left _ _ (and_left _ _ (and_left _ _ (and_left _ _ fits))))) in
    omega (arith, z, leb-true 1 c.setup.part part)

bytes_are : (c : Chip) (fresh : Bool) → could_stand c fresh ≡ true → kept_bytes c fresh ≡ chip_bytes c fresh
unfolding kept_bytes
bytes_are c fresh h = simp (ne_eqb c.setup.part 0 (part_not c fresh h))

not_zero : (c : Chip) (fresh : Bool) → within 0 (chip_bytes c fresh) ≡ false
unfolding chip_bytes plain_of
not_zero c fresh = refl

pub kept_length : (c : Chip) (fresh : Bool) → length (kept_bytes c fresh) ≡ 96
unfolding kept_bytes chip_bytes plain_of switches_of words_of
kept_length c fresh = by (eqb c.setup.part 0)
  where
    by : (t : Bool) → length (cond t (replicate 96 0) (chip_bytes c fresh)) ≡ 96
    by true = refl
    by false = refl

-- CHIP TO BYTES AND BACK is the same chip
pub trip : {c : Chip} {fresh : Bool} → Stood c fresh → kept_at (kept_bytes c fresh) ≡ keeps c fresh
unfolding kept_at kept_bytes
trip not_yet = refl
trip {c} {fresh} (stands h z) =
    ap kept_at (bytes_are c fresh h) ∙ simp (not_zero c fresh, back_formed c fresh, back c fresh z, back_fresh c fresh, h)

-- TWO DIFFERENT CHIPS have different bytes
pub different : {c d : Chip} {f g : Bool} → Stood c f → Stood d g → kept_bytes c f ≡ kept_bytes d g → (c ≡ d) × (f ≡ g)
different {c} {d} {f} {g} p q e =
    let k : keeps c f ≡ keeps d g = sym (trip p) ∙ ap kept_at e ∙ trip q in
    (ap (λ (k : Kept). k.chip) k, ap (λ (k : Kept). k.fresh) k)

-- BYTES THAT KEEP A CHIP are its own, and it could stand
pub record Owns (b : List ℕ) (k : Kept) : Type 0 where
  pub bytes : kept_bytes k.chip k.fresh ≡ b
  pub stood : Stood k.chip k.fresh

module _ (b : List ℕ) (l : length b ≡ 96) (y : Bytes b) where
  zero_owns : within 0 b ≡ true → kept_bytes none false ≡ b
  unfolding kept_bytes
  zero_owns h = ap (λ (n : ℕ). replicate n 0) (sym l) ∙ zeros_forth b h

  owns_by : (t u : Bool) → within 0 b ≡ t → (formed b && could_stand (chip_at b) (switch_at b 23)) ≡ u
      → (cond t (keeps none false) (cond u (keeps (chip_at b) (switch_at b 23)) no_chip)).good ≡ true
      → Owns b (cond t (keeps none false) (cond u (keeps (chip_at b) (switch_at b 23)) no_chip))
  owns_by true u t s h = record { bytes = zero_owns t; stood = not_yet }
  owns_by false true t s h =
      let f : formed b ≡ true = and_left _ _ s in
      let g : could_stand (chip_at b) (switch_at b 23) ≡ true = and_right (formed b) (could_stand (chip_at b) (switch_at b 23)) s in
      record { bytes = bytes_are (chip_at b) (switch_at b 23) g ∙ forth b l y f; stood = stands g (sized b) }
  owns_by false false t s h = absurd (true≢false (sym h))

  pub owns : (kept_at b).good ≡ true → Owns b (kept_at b)
  unfolding kept_at
  owns h = owns_by (within 0 b) (formed b && could_stand (chip_at b) (switch_at b 23)) refl refl h

-- and whatever numbers the bytes are, a chip that they keep could stand
pub kept_stood : (b : List ℕ) → (kept_at b).good ≡ true → Stood (kept_at b).chip (kept_at b).fresh
unfolding kept_at
kept_stood b h = by (within 0 b) (formed b && could_stand (chip_at b) (switch_at b 23)) refl h
  where
    by : (t u : Bool) → (formed b && could_stand (chip_at b) (switch_at b 23)) ≡ u
        → (cond t (keeps none false) (cond u (keeps (chip_at b) (switch_at b 23)) no_chip)).good ≡ true
        → Stood (cond t (keeps none false) (cond u (keeps (chip_at b) (switch_at b 23)) no_chip)).chip
        (cond t (keeps none false) (cond u (keeps (chip_at b) (switch_at b 23)) no_chip)).fresh
    by true u s h = not_yet
    by false true s h = stands (and_right (formed b) (could_stand (chip_at b) (switch_at b 23)) s) (sized b)
    by false false s h = absurd (true≢false (sym h))
