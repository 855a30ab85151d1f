-- CHIP E2: the lowest connected cell, which cells may be bled, and how far each stands above the lowest. Inputs are counted from 0. The
-- laws stand in proofs/Excess. Assumes nothing.
use Rattle.std.specs.Prelude.{Bool, ◌&&◌, cond, List, [], ◌∷◌, ℕ, zero, suc, ◌+◌, ◌-◌, leb, ltb, get_or}
use Rattle.bits.specs.Bit.{bit}
use Rattle.bleed.specs.declared.Choice.{Choice}
use Rattle.bleed.specs.Choice.{chosen}

-- the weight of an input in a number of fifteen bits, input 1 lowest
abbrev pub weights : List ℕ
weights = 1 ∷ 2 ∷ 4 ∷ 8 ∷ 16 ∷ 32 ∷ 64 ∷ 128 ∷ 256 ∷ 512 ∷ 1024 ∷ 2048 ∷ 4096 ∷ 8192 ∷ 16384 ∷ []

-- an input is connected where its bit is up
unfoldable pub linked_at : ℕ → ℕ → Bool
linked_at linked i = bit linked (get_or weights i 0)

-- the lower of a connected cell's count and the lowest before it
unfoldable pub lower_at : List ℕ → ℕ → ℕ → ℕ → ℕ
lower_at cells linked i low = cond (linked_at linked i && ltb (get_or cells i 0) low) (get_or cells i 0) low

-- no count is beyond it
abbrev pub beyond : ℕ
beyond = 65535

-- the lowest of the first k inputs' connected cells; with none it is the highest number of 16 bits
abbrev pub lowest_below : List ℕ → ℕ → ℕ → ℕ
lowest_below cells linked zero = beyond
lowest_below cells linked (suc k) = lower_at cells linked k (lowest_below cells linked k)

unfoldable pub lowest : List ℕ → ℕ → ℕ
lowest cells linked = lowest_below cells linked 15

-- whether a cell may be bled (CHIP E2)
abbrev pub may_bleed : List ℕ → ℕ → ℕ → ℕ → ℕ → Bool
may_bleed cells linked low margin i = linked_at linked i && leb (low + margin) (get_or cells i 0)

-- how far it stands above the lowest; 0 where it may not be bled
unfoldable pub excess_at : List ℕ → ℕ → ℕ → ℕ → ℕ → ℕ
excess_at cells linked low margin i = cond (may_bleed cells linked low margin i) (get_or cells i 0 - low) 0

unfoldable pub excesses_over : List ℕ → ℕ → ℕ → ℕ → List ℕ
excesses_over cells linked low margin =
    at 0 ∷ at 1 ∷ at 2 ∷ at 3 ∷ at 4 ∷ at 5 ∷ at 6 ∷ at 7 ∷ at 8 ∷ at 9 ∷ at 10 ∷ at 11 ∷ at 12 ∷ at 13 ∷ at 14 ∷ []
  where
    at : ℕ → ℕ
    at i = excess_at cells linked low margin i

abbrev pub excesses : List ℕ → ℕ → ℕ → List ℕ
excesses cells linked margin = excesses_over cells linked (lowest cells linked) margin

-- the proposal
abbrev pub proposed : List ℕ → ℕ → ℕ → Choice
proposed cells linked margin = chosen (excesses cells linked margin)
