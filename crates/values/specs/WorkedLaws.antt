-- CHIP X1 to X5: worked numbers, one list with a single claim. Assumes nothing.
use Rattle.std.specs.Prelude.{ℕ, ◌≡◌, refl, List, [], ◌∷◌, map, ℤ, pos, neg_ℤ}
use Rattle.constants.specs.Answer.{Said, gives, refuses}
use Rattle.values.specs.Values.{cell_said, cc_hundredths, ohms_said, over_said, under_said}
use Rattle.crc8.specs.Crc.{crc}

-- what is asked. A gain is given by its code: 354 is 344 + 10
pub data Ask : Type 0 where
  cell : (code offset count : ℕ) → Ask
  cc : (reading : ℕ) → Ask
  thermistor : (count : ℕ) → Ask
  check : (bytes : List ℕ) → Ask
  over : (code offset : ℕ) (wanted : ℤ) → Ask
  under : (code offset : ℕ) (wanted : ℤ) → Ask

abbrev pub whole : Said ℕ → Said ℤ
whole (gives n) = gives (pos n)
whole (refuses n) = refuses n

unfoldable pub answer : Ask → Said ℤ
unfolding crc
answer (cell code offset count) = cell_said code offset count
answer (cc reading) = gives (cc_hundredths reading)
answer (thermistor count) = whole (ohms_said count)
answer (check bytes) = gives (pos (crc bytes))
answer (over code offset wanted) = whole (over_said code offset wanted)
answer (under code offset wanted) = whole (under_said code offset wanted)

-- −n, of an n above 0
abbrev minus : ℕ → ℤ
minus n = neg_ℤ (pos n)

pub record Worked : Type 0 where
  pub ask : Ask
  pub paper : Said ℤ

infix 70 ◌⇒◌
abbrev ◌⇒◌ : Ask → Said ℤ → Worked
q ⇒ a = record { ask = q; paper = a }

abbrev pub worked : List Worked
worked =
    cell 10 30 6144 ⇒ gives (pos 2204976)
    ∷ cell 10 30 7952 ⇒ gives (pos 2845008)
    ∷ cell 10 0x80 0 ⇒ gives (minus 128000)
    ∷ cc 0xC350 ⇒ gives (minus 13112384)
    ∷ cc 0xFFFF ⇒ gives (minus 844)
    ∷ thermistor 9322 ⇒ gives (pos 2749990000)
    ∷ thermistor 9323 ⇒ refuses 7
    ∷ check (0x10 ∷ 0x05 ∷ 0x03 ∷ []) ⇒ gives (pos 0xEA)
    ∷ check (0x03 ∷ []) ⇒ gives (pos 0x09)
    ∷ check (0x11 ∷ 0x00 ∷ []) ⇒ gives (pos 0x42)
    ∷ over 10 30 (pos 4300000) ⇒ gives (pos 0xF1)
    ∷ under 10 30 (pos 2500000) ⇒ gives (pos 0xB4)
    ∷ []

pub all_worked : map (λ (w : Worked). answer w.ask) worked ≡ map (λ (w : Worked). w.paper) worked
unfolding answer
all_worked = refl
