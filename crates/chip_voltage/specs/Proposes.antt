-- CHIP E1 to E4 in their own words: which choices of inputs are allowed, what each takes off, and which one is proposed. Inputs are counted
-- from 0. Assumes nothing.
use Rattle.std.specs.Prelude.{◌≡◌, Bool, true, false, ◌&&◌, ◌≢◌, List, [], ◌∷◌, ℕ, zero, suc, ◌+◌, ◌-◌, ◌%◌, ◌≤◌, ◌<◌, leb, ltb, get_or}
use Rattle.bits.specs.Bit.{bit, weighed}
use Rattle.events.specs.Setup.{inputs}
use Rattle.wiring.specs.Rows.{connected}
use Rattle.bleed.specs.declared.Choice.{Choice}
use Rattle.bleed.specs.Choice.{number, no_bytes}
use Rattle.chip.specs.declared.Chip.{Chip}
use Rattle.chip_voltage.specs.Care.{cells_of}

-- ── a choice ──
-- the inputs that three CELLBAL bytes name, the first input first
abbrev pub five_of : ℕ → List Bool → List Bool
five_of b more = bit b 1 ∷ bit b 2 ∷ bit b 4 ∷ bit b 8 ∷ bit b 16 ∷ more

abbrev pub names : Choice → ℕ → Bool
names x i = get_or (five_of x.one (five_of x.two (five_of x.three []))) i false

abbrev pub sum_below : (ℕ → ℕ) → ℕ → ℕ
sum_below f zero = 0
sum_below f (suc k) = sum_below f k + f k

-- the sum of the excesses of the inputs that it names
abbrev pub sum_of : (ℕ → ℕ) → Choice → ℕ
sum_of over x = sum_below (λ i. weighed (names x i) (over i)) 15

-- three bytes of five bits; only inputs that may be bled; no two neighbours of a group
pub record Allowed (may : ℕ → Bool) (x : Choice) : Type 0 where
  pub bytes : (x.one < 32) × (x.two < 32) × (x.three < 32)
  pub each : (i : ℕ) → i < 15 → names x i ≡ true → may i ≡ true
  pub apart : (i : ℕ) → i < 14 → i % 5 ≢ 4 → names x i && names x (suc i) ≡ false

-- the one that is proposed: allowed, of all that are allowed with the largest sum, of these the smallest number; three zero bytes where no
-- input may be bled
pub record Best (may : ℕ → Bool) (over : ℕ → ℕ) (x : Choice) : Type 0 where
  pub allowed : Allowed may x
  pub most : (d : Choice) → Allowed may d → sum_of over d ≤ sum_of over x
  pub least : (d : Choice) → Allowed may d → sum_of over d ≡ sum_of over x → number x ≤ number d
  pub none : ((i : ℕ) → i < 15 → may i ≡ false) → x ≡ no_bytes

-- ── of a chip ──
module _ (c : Chip) where
  abbrev pub count_of : ℕ → ℕ
  count_of i = get_or (cells_of c) i 0

  -- an input of the part that is connected
  abbrev pub is_linked : ℕ → Bool
  is_linked i = ltb i (inputs c.setup) && connected c.setup (cells_of c) (i + 1)

  -- the lowest word of a connected input
  pub record Lowest (low : ℕ) : Type 0 where
    pub below : (i : ℕ) → i < 15 → is_linked i ≡ true → low ≤ count_of i
    pub at : ℕ
    pub within : at < 15
    pub linked_there : is_linked at ≡ true
    pub is : count_of at ≡ low

  -- an input that may be bled: connected, and at least the margin above the lowest
  abbrev pub may_of : ℕ → ℕ → ℕ → Bool
  may_of low margin i = is_linked i && leb (low + margin) (count_of i)

  pub record Proposes (margin : ℕ) (x : Choice) : Type 0 where
    pub low : ℕ
    pub lowest : Lowest low
    pub best : Best (may_of low margin) (λ i. count_of i - low) x
