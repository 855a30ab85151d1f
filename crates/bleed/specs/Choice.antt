-- CHIP E3 and E4: choices of inputs as the three CELLBAL bytes, what is allowed, and which is best. An input's
-- excess is how far it stands above the lowest connected cell; 0 says that it may not be bled. Assumes nothing.
use Rattle.std.specs.Prelude.{Bool, not, ◌&&◌, ◌||◌, cond, List, ℕ, zero, suc, ◌+◌, ◌*◌, eqb, ltb, get_or}
use Rattle.bits.specs.Bit.{bit, weighed}
use Rattle.bleed.specs.declared.Choice.{Choice}

-- ── a group: the five inputs from a place on; bit 0 of its byte is the first of them ──
-- the excess of the inputs that a byte names
unfoldable pub excess_in : List ℕ → ℕ → ℕ → ℕ
excess_in e from b =
    weighed (bit b 1) (get_or e from 0) + weighed (bit b 2) (get_or e (from + 1) 0) + weighed (bit b 4) (get_or e (from + 2) 0)
    + weighed (bit b 8) (get_or e (from + 3) 0) + weighed (bit b 16) (get_or e (from + 4) 0)

-- two neighbours together
abbrev pub near : ℕ → Bool
near b = bit b 1 && bit b 2 || bit b 2 && bit b 4 || bit b 4 && bit b 8 || bit b 8 && bit b 16

-- an input that may not be bled
abbrev pub low : List ℕ → ℕ → ℕ → Bool
low e from b =
    bit b 1 && eqb (get_or e from 0) 0 || bit b 2 && eqb (get_or e (from + 1) 0) 0 || bit b 4 && eqb (get_or e (from + 2) 0) 0
    || bit b 8 && eqb (get_or e (from + 3) 0) 0 || bit b 16 && eqb (get_or e (from + 4) 0) 0

-- the bytes that a group's choice can be
abbrev pub choices : ℕ
choices = 32

unfoldable pub may_in : List ℕ → ℕ → ℕ → Bool
may_in e from b = ltb b choices && not (near b) && not (low e from b)

-- a byte in place of the best so far, where it is allowed and has more
unfoldable pub better_in : List ℕ → ℕ → ℕ → ℕ → ℕ
better_in e from b best = cond (may_in e from b && ltb (excess_in e from best) (excess_in e from b)) b best

-- the best of the bytes below k
abbrev pub best_below : List ℕ → ℕ → ℕ → ℕ
best_below e from zero = 0
best_below e from (suc k) = better_in e from k (best_below e from k)

unfoldable pub best_in : List ℕ → ℕ → ℕ
best_in e from = best_below e from choices

-- ── all fifteen ──
unfoldable pub chosen : List ℕ → Choice
chosen e = record { one = best_in e 0; two = best_in e 5; three = best_in e 10 }

-- as a 15-bit number with input 1 lowest
abbrev pub number : Choice → ℕ
number c = c.one + choices * c.two + choices * choices * c.three

unfoldable pub allowed : List ℕ → Choice → Bool
allowed e c = may_in e 0 c.one && may_in e 5 c.two && may_in e 10 c.three

unfoldable pub total : List ℕ → Choice → ℕ
total e c = excess_in e 0 c.one + excess_in e 5 c.two + excess_in e 10 c.three

-- a choice by its three bytes, and the one that bleeds nothing
abbrev pub made : ℕ → ℕ → ℕ → Choice
made a b c = record { one = a; two = b; three = c }

abbrev pub no_bytes : Choice
no_bytes = made 0 0 0
