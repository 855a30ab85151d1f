-- CHIP R3, S4 and S5 as they are read: just which values are in range, and how many inputs a part has. Assumes nothing.
use Rattle.std.specs.Prelude.{◌≡◌, refl, Bool, true, false, not, ◌&&◌, cond, List, [], ◌∷◌, ◌↔◌, ℕ, zero, suc, ◌*◌, ◌≤◌, ◌<◌, leb, ltb, ℤ}
use Rattle.std.specs.Prelude.{pos, negsuc, get_or}
use Rattle.std.proofs.Common.{sym, ◌∙◌, arith, leb-true, le-leb, ltb-true, ltb-false, lt-ltb, le-ltb}
use Rattle.std.proofs.Math.Bool.{and-true}
use Rattle.std.proofs.lemmas.Bool.{lt-leb}
use Rattle.events.specs.declared.Setup.{Setup}
use Rattle.events.specs.declared.Event.TheVariants.{Ticks, Soak}
use Rattle.events.specs.Setup.{groups, inputs, setup_fits}
use Rattle.events.specs.Event.{Scan, Temp, Sense, fits, ticks_fit, ticks, event_of}
use Rattle.bits.specs.Numbers.{within}

-- counts: each of them, by its place, 0 to 16,383
pub counts_within : (most : ℕ) (xs : List ℕ) → (within most xs ≡ true) ↔ ((k : ℕ) → get_or xs k 0 ≤ most)
counts_within most xs = (down xs, up xs)
  where
    left : (a b : Bool) → a && b ≡ true → (a ≡ true) × (b ≡ true)
    left true b h = (refl, h)
    left false b h = (h, cc)

    down : (xs : List ℕ) → within most xs ≡ true → (k : ℕ) → get_or xs k 0 ≤ most
    down [] h k = omega arith
    down (x ∷ xs) h zero = leb-true x most (left (leb x most) (within most xs) h).0
    down (x ∷ xs) h (suc k) = down xs (left (leb x most) (within most xs) h).1 k

    up : (xs : List ℕ) → ((k : ℕ) → get_or xs k 0 ≤ most) → within most xs ≡ true
    up [] h = refl
    up (x ∷ xs) h = simp (le-leb x most (h zero), up xs (λ k. h (suc k)))

pub scan_range : (xs : List ℕ) → (fits (Scan xs) ≡ true) ↔ ((k : ℕ) → get_or xs k 0 ≤ 16383)
unfolding fits
scan_range xs = counts_within 16383 xs

pub temp_range : (xs : List ℕ) → (fits (Temp xs) ≡ true) ↔ ((k : ℕ) → get_or xs k 0 ≤ 16383)
unfolding fits
temp_range xs = counts_within 16383 xs

not_above : (n k : ℕ) → not (ltb k n) ≡ leb n k
not_above n k = by (ltb k n) refl
  where
    by : (t : Bool) → ltb k n ≡ t → not t ≡ leb n k
    by true e = sym (lt-leb n k (ltb-true k n e))
    by false e = sym (le-leb n k (ltb-false k n e))

not_past : (n k : ℕ) → not (ltb k (suc n)) ≡ ltb n k
not_past n k = by (ltb k (suc n)) refl
  where
    by : (t : Bool) → ltb k (suc n) ≡ t → not t ≡ ltb n k
    by true e = let p : k < suc n = ltb-true k (suc n) e in sym (le-ltb n k (omega arith))
    by false e = let p : suc n ≤ k = ltb-false k (suc n) e in sym (lt-ltb n k (omega arith))

-- SENSE: −500,000 to 500,000; `negsuc n` is minus one more than n
pub sense_up : (n : ℕ) → fits (Sense (pos n)) ≡ leb n 500000
unfolding fits
sense_up zero = refl
sense_up (suc n) = and-true (not (ltb 500000 (suc n))) ∙ not_above (suc n) 500000

pub sense_down : (n : ℕ) → fits (Sense (negsuc n)) ≡ ltb n 500000
unfolding fits
sense_down n = not_past n 500000

-- repeats: 1 to 4,096 for kind 0014, to 16,777,216 for kind 0017, of a value that SENSE may have
pub repeats : (u : Setup) (v : ℤ) (n : ℕ) (xs : List ℕ)
    → (event_of u (Ticks v n) xs ≡ ticks 4096 v n) × (event_of u (Soak v n) xs ≡ ticks 16777216 v n)
repeats u v n xs = (refl, refl)

pub repeat_range : (most : ℕ) (v : ℤ) (n : ℕ) → ticks_fit most v n ≡ (fits (Sense v) && leb 1 n && leb n most)
unfolding fits ticks_fit
repeat_range most v n = refl

-- the setup: part 1 to 3, CRC 0 or 1, address 0x08 to 0x77, gain code 0 to 31, floor 0 to 4,095
pub setup_range : (part crc address gain floor : ℕ)
    → setup_fits part crc address gain floor
    ≡ (leb 1 part && leb part 3 && leb crc 1 && leb 8 address && leb address 119 && leb gain 31 && leb floor 4095)
setup_range part crc address gain floor = refl

-- five inputs to a part
pub five_a_part : (u : Setup) → u.part ≤ 3 → (groups u ≡ u.part) × (inputs u ≡ 5 * u.part)
unfolding groups inputs
five_a_part u h = by (ltb u.part 3) refl
  where
    by : (t : Bool) → ltb u.part 3 ≡ t → (cond t u.part 3 ≡ u.part) × (cond t (5 * u.part) 15 ≡ 5 * u.part)
    by true e = (refl, refl)
    by false e = let p : 3 ≤ u.part = ltb-false u.part 3 e in (omega arith, omega arith)
