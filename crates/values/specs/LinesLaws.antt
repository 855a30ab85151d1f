-- CHIP V1, V2 and V4 to V8 as they are read: each formula is a line, by where it starts and by what one more adds, and each refusal begins
-- just there. Assumes nothing.
use Rattle.std.specs.Prelude.{◌≡◌, refl, cond, List, [], ◌∷◌, map, ℕ, zero, suc, ◌+◌, ◌-◌, ◌*◌, ◌/◌, ◌≤◌, ◌<◌, ltb, ℤ, pos, negsuc, neg_ℤ}
use Rattle.std.specs.Prelude.{◌+ℤ◌}
use Rattle.std.proofs.Common.{arith, le-leb, lt-ltb, le-ltb}
use Rattle.std.proofs.Math.IntN.{ -ℤ-+ℤ_cancel}
use Rattle.std.proofs.lemmas.Bool.{lt-leb}
use Rattle.constants.specs.Answer.{gives, refuses}
use Rattle.values.specs.Values.{gain, offset_microvolts, cell_microvolts, thermistor_microvolts, die_temperature}
use Rattle.values.specs.Values.{cell_said, die_said, ohms, ohms_said, in_window, over_said, under_said, full}

-- 344 µV a count, one more for each code
pub gain_line : (gain 0 ≡ 344) × ((code : ℕ) → gain (suc code) ≡ suc (gain code))
gain_line = (refl, λ code. omega arith)

-- the offset's byte: 0 to 127 and −128 to −1, each 1,000 µV
abbrev pub thousands : ℕ → ℤ
thousands b = cond (ltb b 128) (pos (1000 * b)) (neg_ℤ (pos (1000 * (256 - b))))

abbrev pub firsts : ℕ → List ℕ
firsts zero = []
firsts (suc n) = n ∷ firsts n

pub offset_line : map offset_microvolts (firsts 256) ≡ map thousands (firsts 256)
offset_line = refl

-- V of a count, and the die
pub v_line : (thermistor_microvolts 0 ≡ 0) × ((n : ℕ) → thermistor_microvolts (suc n) ≡ 354 + thermistor_microvolts n)
v_line = (refl, λ n. omega arith)

pub die_line : (n : ℕ) → die_temperature n +ℤ pos (177 * n) ≡ pos 680000
die_line n = -ℤ-+ℤ_cancel (pos 680000) (pos (177 * n))

-- ── refusals: code 32 is the first that is 1, count 16,384 the first that is 3, 9,323 the first that is 7; 1 before 3 ──
pub cell_given : (code offset count : ℕ) → code ≤ 31 → count ≤ 16383
    → cell_said code offset count ≡ gives (cell_microvolts code offset count)
cell_given code offset count c n = simp (le-ltb 31 code c, le-ltb 16383 count n)

pub cell_refused : (code offset count : ℕ) → (32 ≤ code → cell_said code offset count ≡ refuses 1)
    × (code ≤ 31 → 16384 ≤ count → cell_said code offset count ≡ refuses 3)
cell_refused code offset count = (λ c. simp (lt-ltb 31 code c), λ c n. simp (le-ltb 31 code c, lt-ltb 16383 count n))

pub die_said_lem : (count : ℕ)
    → (count ≤ 16383 → die_said count ≡ gives (die_temperature count)) × (16384 ≤ count → die_said count ≡ refuses 3)
die_said_lem count = (λ n. simp (le-ltb 16383 count n), λ n. simp (lt-ltb 16383 count n))

pub ohms_said_lem : (count : ℕ) → (count ≤ 9322 → ohms_said count ≡ gives (ohms count)) × (9323 ≤ count → ohms_said count ≡ refuses 7)
ohms_said_lem count = (λ n. simp (lt-leb 9323 count (omega arith)), λ n. simp (le-leb 9323 count n))

-- ── trip codes: 8,192 to 12,287 and 4,096 to 8,191, sixteen counts a code, else 8; a code above 31 is 1 before it ──
pub window_line : (start last n : ℕ) → start ≤ n → n ≤ last → in_window start last (pos n) ≡ gives ((n - start) / 16)
window_line start last n a b = simp (le-leb start n a, le-leb n last b)

pub window_left : (start last n : ℕ) → (n < start → in_window start last (pos n) ≡ refuses 8)
    × (start ≤ n → last < n → in_window start last (pos n) ≡ refuses 8) × (in_window start last (negsuc n) ≡ refuses 8)
window_left start last n = (λ a. simp (lt-leb start n a), λ a b. simp (le-leb start n a, lt-leb n last b), refl)

pub windows : (code offset : ℕ) (wanted : ℤ) → code ≤ 31
    → (over_said code offset wanted ≡ in_window 8192 12287 (full code offset wanted))
    × (under_said code offset wanted ≡ in_window 4096 8191 (full code offset wanted))
windows code offset wanted c = (simp (le-ltb 31 code c), simp (le-ltb 31 code c))

pub no_code : (code offset : ℕ) (wanted : ℤ) → 32 ≤ code
    → (over_said code offset wanted ≡ refuses 1) × (under_said code offset wanted ≡ refuses 1)
no_code code offset wanted c = (simp (lt-ltb 31 code c), simp (lt-ltb 31 code c))
