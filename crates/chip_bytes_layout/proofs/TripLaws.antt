-- THE ROUND TRIP: a chip's bytes are read as that chip, and bytes that have the form of a chip are its own. Assumes nothing.
use Rattle.std.specs.Prelude.{◌≡◌, refl, Bool, true, ◌&&◌, ℕ, ◌*◌, eqb, length, get_or, replicate}
use Rattle.std.proofs.Math.Path.{ap, ap₂}
use Rattle.std.proofs.Common.{◌∙◌, arith, length-drop}
use mathlib.Core.List.{List, ◌++◌}
use Rattle.std.proofs.Math.ListN.{drop, take-append-drop}
use borrow.Author.Tests.{eqb-true}
use Rattle.bits.specs.Numbers.{within, words, word_bytes}
use Rattle.bits.specs.BytesLaws.{words_count, Bytes, bytes_drop, words_back, words_forth, bit_same}
use Rattle.bits.specs.BoolLaws.{and_left, and_right}
use Rattle.registers.specs.declared.Measured.{Measured}
use Rattle.chip.specs.declared.Chip.{Chip}
use Rattle.chip_bytes_layout.specs.Layout.{phase_of, phase_good, listed, plain_of, switches_of, words_of, chip_bytes}
use Rattle.chip_bytes_layout.specs.Layout.{switch_at, chip_from, chip_at, formed}
use Rattle.chip_bytes_layout.specs.ListedLaws.{listed_is, listed_all, bit_small, bits_forth, zeros_forth}
use Rattle.chip_bytes_layout.proofs.PhaseLaws.{phase_back, phase_good_lem, Same, phase_forth}

-- the arrays of a chip, as long as its type makes them
pub record Sized (c : Chip) : Type 0 where
  pub cells : length c.registers.measured.cells ≡ 15
  pub ts : length c.registers.measured.ts ≡ 3

pub sized : (b : List ℕ) → Sized (chip_at b)
unfolding chip_at
sized b = record { cells = refl; ts = refl }

-- ── written, then read ──
module _ (c : Chip) (fresh : Bool) where
  words_are : words (drop 46 (chip_bytes c fresh)) ≡ words_of c
  unfolding chip_bytes plain_of switches_of
  words_are = words_back (words_of c)

  from_back : Sized c → chip_from (chip_bytes c fresh) (words_of c) ≡ c
  unfolding chip_bytes plain_of switches_of words_of
  from_back z =
      let m : Measured = c.registers.measured in
      simp (bit_same, phase_back c.bus.line.phase, listed_all m.cells 15 z.cells, listed_all m.ts 3 z.ts)

  pub back : Sized c → chip_at (chip_bytes c fresh) ≡ c
  unfolding chip_at
  back z = ap (chip_from (chip_bytes c fresh)) words_are ∙ from_back z

  pub back_fresh : switch_at (chip_bytes c fresh) 23 ≡ fresh
  unfolding chip_bytes plain_of switches_of
  back_fresh = bit_same fresh

  pub back_formed : formed (chip_bytes c fresh) ≡ true
  unfolding chip_bytes plain_of switches_of formed
  back_formed = simp (bit_small, phase_good_lem c.bus.line.phase)

-- ── read, then written ──
module _ (b : List ℕ) (l : length b ≡ 96) (h : Bytes b) (f : formed b ≡ true) where
  abbrev numbers : List ℕ
  numbers = words (drop 46 b)

  rest_length : length (drop 46 b) ≡ 2 * 25
  rest_length = length-drop 46 b ∙ omega arith

  version : get_or b 0 0 ≡ 1
  unfolding formed
  version = eqb-true _ _ (and_left _ _ (and_left _ _ (and_left _ _ f)))

  switches : within 1 (listed b 21 20) ≡ true
  unfolding formed
  switches = and_right (eqb (get_or b 0 0) 1) (within 1 (listed b 21 20)) (and_left _ _ (and_left _ _ f))

  phase : Same (get_or b 9 0) (get_or b 10 0) (get_or b 11 0) (phase_of (get_or b 9 0) (get_or b 10 0) (get_or b 11 0))
  unfolding formed
  phase =
      phase_forth _ _ _
      (and_right (eqb (get_or b 0 0) 1 && within 1 (listed b 21 20)) (phase_good (get_or b 9 0) (get_or b 10 0) (get_or b 11 0))
      (and_left _ _ f))

  zeros : within 0 (listed b 41 5) ≡ true
  unfolding formed
  zeros =
      and_right (eqb (get_or b 0 0) 1 && within 1 (listed b 21 20) && phase_good (get_or b 9 0) (get_or b 10 0) (get_or b 11 0))
      (within 0 (listed b 41 5)) f

  plain_is : plain_of (chip_at b) ≡ listed b 0 21
  unfolding plain_of chip_at
  plain_is = simp (phase.tag, phase.first, phase.second, version)

  switches_is : switches_of (chip_at b) (switch_at b 23) ≡ listed b 21 20
  unfolding switches_of chip_at
  switches_is = bits_forth (listed b 21 20) switches

  words_is : words_of (chip_at b) ≡ numbers
  unfolding words_of chip_at
  words_is = listed_all numbers 25 (words_count (drop 46 b) 25 rest_length)

  pub forth : chip_bytes (chip_at b) (switch_at b 23) ≡ b
  unfolding chip_bytes
  forth =
      ap₂ (λ (p s : List ℕ). p ++ (s ++ (replicate 5 0 ++ word_bytes (words_of (chip_at b))))) plain_is switches_is
      ∙ ap₂ (λ (z w : List ℕ). listed b 0 21 ++ (listed b 21 20 ++ (z ++ word_bytes w))) (zeros_forth (listed b 41 5) zeros) words_is
      ∙ ap (λ (w : List ℕ). listed b 0 46 ++ w) (words_forth (drop 46 b) 25 rest_length (bytes_drop 46 b h))
      ∙ ap (λ (p : List ℕ). p ++ drop 46 b) (listed_is b 0 46 (omega arith))
      ∙ take-append-drop 46 b
