-- CHIP C3 to C6, worked cases as one list: what each command answers at both sides of its lines. Assumes nothing.
use Rattle.std.specs.Prelude.{◌≡◌, refl, true, false, List, [], ◌∷◌, map, ℕ, ℤ, pos, negsuc}
use Rattle.constants.specs.Answer.{Said, gives, refuses}
use Rattle.smart_battery.specs.declared.Pack.{Pack}
use Rattle.smart_battery.specs.Words.{word_for}

pub record Case : Type 0 where
  pub warmth : ℕ
  pub total : ℤ
  pub cc : ℕ
  pub command : ℕ
  pub milliohms : ℕ
  pub said : Said ℕ

abbrev pack_of : Case → Pack
pack_of c = record { normal = true; external = false; warmth = c.warmth; connected = true; cc = c.cc }

abbrev worded : Case → Said ℕ
worded c = word_for (pack_of c) c.total c.command c.milliohms

abbrev case : ℕ → ℤ → ℕ → ℕ → ℕ → Said ℕ → Case
case w t cc m r s = record { warmth = w; total = t; cc = cc; command = m; milliohms = r; said = s }

-- 3,559 counts are 25 degrees C; 6,928 are the last that come to no less than 0 K
abbrev pub cases : List Case
cases =
    case 3559 (pos 0) 0 0x08 1 (gives 2981)
    ∷ case 6928 (pos 0) 0 0x08 1 (gives 0)
    ∷ case 6929 (pos 0) 0 0x08 1 (refuses 11)
    ∷ case 0 (pos 18000999) 0 0x09 1 (gives 18000)
    ∷ case 0 (pos 65535999) 0 0x09 1 (gives 65535)
    ∷ case 0 (pos 65536000) 0 0x09 1 (refuses 11)
    ∷ case 0 (negsuc 0) 0 0x09 1 (refuses 11)
    ∷ case 0 (pos 0) 0xC350 0x0A 10 (gives 52424)
    ∷ case 0 (pos 0) 0xFFFF 0x0A 100 (gives 0)
    ∷ case 0 (pos 0) 0x7FFF 0x0A 8 (refuses 11)
    ∷ case 0 (pos 0) 0x7FFF 0x0A 9 (gives 30728)
    ∷ case 0 (pos 0) 0 0x0B 0 (refuses 23)
    ∷ case 0 (pos 0) 0 0x0A 0 (refuses 3)
    ∷ case 0 (pos 0) 0 0x0A 101 (refuses 3)
    ∷ []

pub all_worked : map worded cases ≡ map (λ c. c.said) cases
all_worked = refl
