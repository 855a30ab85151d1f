-- CHIP R1 and R3: where each number of a payload stands in it, the low byte first. Assumes nothing.
use Rattle.std.specs.Prelude.{◌≡◌, refl, Bool, true, cond, [], ◌∷◌, ℕ, ◌+◌, ◌*◌, eqb, ℤ, Ok, Err}
use Rattle.std.proofs.Common.{ap}
use Rattle.events.specs.Setup.{setup_fits, checked_of}
use Rattle.events.specs.Event.{sense_fits, ticks_most, soak_most, ticks_fit}
use Rattle.constants.specs.declared.refusal.Refusal.TheVariants.{BadSetup, BadValue}
use Rattle.events.specs.declared.Event.TheVariants.{Setup, Count, Sense, Ticks, Soak}
use Rattle.events.specs.declared.Setup.{Setup as SetupValues}
use Rattle.bits.specs.Numbers.{signed32}
use Rattle.records.specs.Record.{checked_in, setup_in, count_in, sense_in, ticks_in, soak_in}

-- a number of four bytes, with its sign
abbrev pub four : ℕ → ℕ → ℕ → ℕ → ℕ
four a b c d = a + 256 * b + 65536 * (c + 256 * d)

abbrev pub value : ℕ → ℕ → ℕ → ℕ → ℤ
value a b c d = signed32 (four a b c d)

-- SETUP: part, CRC, address, gain code, offset, floor
abbrev pub made_of : ℕ → ℕ → ℕ → ℕ → ℕ → ℕ → SetupValues
made_of p c a g o f = record { part = p; crc = eqb c 1; address = a; gain_code = g; offset = o; floor = f; cells = 0 }

pub setup_says : (p c a g o l h : ℕ) → setup_fits p c a g (l + 256 * h) ≡ true
    → setup_in (p ∷ c ∷ a ∷ g ∷ o ∷ l ∷ h ∷ []) ≡ Ok (Setup (made_of p c a g o (l + 256 * h)))
unfolding checked_of
setup_says p c a g o l h e = ap (λ (t : Bool). checked_in (cond t (Ok (made_of p c a g o (l + 256 * h))) (Err BadSetup))) e

pub count_says : (l h : ℕ) → count_in (l ∷ h ∷ []) ≡ Ok (Count (l + 256 * h))
count_says l h = refl

pub sense_says : (a b c d : ℕ) → sense_fits (value a b c d) ≡ true → sense_in (a ∷ b ∷ c ∷ d ∷ []) ≡ Ok (Sense (value a b c d))
sense_says a b c d e = ap (λ (t : Bool). cond t (Ok (Sense (value a b c d))) (Err BadValue)) e

-- TICKS and SOAK: the value, then how often
pub ticks_says : (a b c d l h : ℕ) → ticks_fit ticks_most (value a b c d) (l + 256 * h) ≡ true
    → ticks_in (a ∷ b ∷ c ∷ d ∷ l ∷ h ∷ []) ≡ Ok (Ticks (value a b c d) (l + 256 * h))
ticks_says a b c d l h e = ap (λ (t : Bool). cond t (Ok (Ticks (value a b c d) (l + 256 * h))) (Err BadValue)) e

pub soak_says : (a b c d k l m n : ℕ) → ticks_fit soak_most (value a b c d) (four k l m n) ≡ true
    → soak_in (a ∷ b ∷ c ∷ d ∷ k ∷ l ∷ m ∷ n ∷ []) ≡ Ok (Soak (value a b c d) (four k l m n))
soak_says a b c d k l m n e = ap (λ (t : Bool). cond t (Ok (Soak (value a b c d) (four k l m n))) (Err BadValue)) e
