-- CHIP W2 to W7: the shorted inputs of a pack, the numbering of its cells, and what is connected. Assumes nothing.
use Rattle.std.specs.Prelude.{Bool, true, false, not, ◌&&◌, cond, List, [], ◌∷◌, ℕ, zero, suc, ◌+◌, ◌-◌, ◌*◌, eqb, leb, length, get_or}
use Rattle.std.specs.Prelude.{Result, Ok, Err}
use Rattle.constants.specs.Number.{DONE}
use Rattle.constants.specs.Refusal.{number_of}
use Rattle.constants.specs.declared.refusal.Refusal.{Refusal}
use Rattle.constants.specs.declared.refusal.Refusal.TheVariants.{NoRow}
use Rattle.cell_counts.specs.Scan.{some}
use Rattle.events.specs.declared.Setup.{Setup}
use Rattle.events.specs.Setup.{inputs, with_cells}

-- a part with a number of cells, and the inputs that it shorts
pub record Row : Type 0 where
  pub part : ℕ
  pub cells : ℕ
  pub shorted : List ℕ

abbrev row : ℕ → ℕ → List ℕ → Row
row part cells shorted = record { part = part; cells = cells; shorted = shorted }

-- 9920 with 3 cells: 3, 4; with 4: 4. 9930 with 6: 3, 4, 8, 9; with 7: 4, 8, 9; with 8: 4, 9; with 9: 9. 9940 with 11: 4, 9, 13, 14; with
-- 12: 4, 9, 14; with 13: 9, 14; with 14: 14. 5, 10 and 15 short none
abbrev pub rows : List Row
rows =
    row 1 3 (3 ∷ 4 ∷ [])
    ∷ row 1 4 (4 ∷ [])
    ∷ row 1 5 []
    ∷ row 2 6 (3 ∷ 4 ∷ 8 ∷ 9 ∷ [])
    ∷ row 2 7 (4 ∷ 8 ∷ 9 ∷ [])
    ∷ row 2 8 (4 ∷ 9 ∷ [])
    ∷ row 2 9 (9 ∷ [])
    ∷ row 2 10 []
    ∷ row 3 11 (4 ∷ 9 ∷ 13 ∷ 14 ∷ [])
    ∷ row 3 12 (4 ∷ 9 ∷ 14 ∷ [])
    ∷ row 3 13 (9 ∷ 14 ∷ [])
    ∷ row 3 14 (14 ∷ [])
    ∷ row 3 15 []
    ∷ []

-- the row of a part with a number of cells, where it has one
abbrev pub is_row : ℕ → ℕ → Row → Bool
is_row part cells r = eqb part r.part && eqb cells r.cells

abbrev pub row_in : List Row → ℕ → ℕ → Bool
row_in [] part cells = false
row_in (r ∷ rs) part cells = cond (is_row part cells r) true (row_in rs part cells)

abbrev pub shorted_in : List Row → ℕ → ℕ → List ℕ
shorted_in [] part cells = []
shorted_in (r ∷ rs) part cells = cond (is_row part cells r) r.shorted (shorted_in rs part cells)

unfoldable pub has_row : ℕ → ℕ → Bool
has_row part cells = row_in rows part cells

unfoldable pub shorted : ℕ → ℕ → List ℕ
shorted part cells = shorted_in rows part cells

-- whether an input has a cell: without a wiring record none is shorted
unfoldable pub is_wired : Setup → ℕ → Bool
is_wired u i = not (some (λ s. eqb s i) (shorted u.part u.cells))

-- ── cells are numbered upward over the inputs that have one ──
-- of k inputs from input i on, those that are such
abbrev pub upward : (ℕ → Bool) → ℕ → ℕ → List ℕ
upward such i zero = []
upward such i (suc k) = cond (such i) (i ∷ upward such (suc i) k) (upward such (suc i) k)

-- the inputs of the pack's cells: cell 1's first
unfoldable pub wired_inputs : Setup → List ℕ
wired_inputs u = upward (is_wired u) 1 (inputs u)

abbrev pub pack_cells : Setup → ℕ
pack_cells u = length (wired_inputs u)

-- the input of cell n; 0 where the pack has no such cell
abbrev pub input_of : Setup → ℕ → ℕ
input_of u n = get_or (0 ∷ wired_inputs u) n 0

-- ── the same as a number: input i is its lowest bit, and so upward ──
abbrev pub bits : (ℕ → Bool) → ℕ → ℕ → ℕ
bits such i zero = 0
bits such i (suc k) = cond (such i) 1 0 + 2 * bits such (suc i) k

unfoldable pub wired_bits : Setup → ℕ
wired_bits u = bits (is_wired u) 1 (inputs u)

-- ── connected (CHIP W7) ──
unfoldable pub connected : Setup → List ℕ → ℕ → Bool
connected u counts i = cond (has_row u.part u.cells) (is_wired u i) (leb u.floor (get_or counts (i - 1) 0))

-- the connected inputs, and the same as a number
unfoldable pub linked_inputs : Setup → List ℕ → List ℕ
linked_inputs u counts = upward (connected u counts) 1 (inputs u)

unfoldable pub linked_bits : Setup → List ℕ → ℕ
linked_bits u counts = bits (connected u counts) 1 (inputs u)

-- whether a cell of the pack converts at a count
unfoldable pub converts : Setup → ℕ → Bool
converts u count = cond (has_row u.part u.cells) true (leb u.floor count)

-- ── a wiring record: 13 for a number without a row (CHIP N13) ──
unfoldable pub wired_with : Setup → ℕ → Result Setup Refusal
wired_with u n = cond (has_row u.part n) (Ok (with_cells n u)) (Err NoRow)

-- the number of each answer
abbrev pub wired_number : Result Setup Refusal → ℕ
wired_number (Ok u) = DONE
wired_number (Err why) = number_of why
