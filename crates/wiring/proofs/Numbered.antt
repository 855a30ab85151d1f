-- THE NUMBERING (CHIP W5): for each of the thirteen rows the pack's cells are as many as it says, and they are numbered upward over
-- the inputs that are not shorted: no wired input is lost, and none is named twice. Assumes nothing.
use Rattle.std.specs.Prelude.{◌≡◌, refl, Bool, true, false, not, ◌&&◌, cond, List, [], ◌∷◌, ℕ, zero, suc, ◌<◌, ◌≤◌, eqb, length, get_or}
use Rattle.std.proofs.Common.{sym, ap, subst, ◌∙◌, true≢false, arith, eqb-true}
use Rattle.cell_counts.specs.Scan.{some}
use Rattle.events.specs.declared.Setup.{Setup}
use Rattle.events.specs.Setup.{inputs}
use Rattle.events.specs.FewLaws.{few_inputs}
use Rattle.wiring.specs.Rows.{Row, rows, is_row, row_in, shorted_in, has_row, shorted, is_wired, upward, wired_inputs, pack_cells}
use Rattle.wiring.specs.Rows.{input_of, bits, wired_bits}
use Rattle.wiring.proofs.UpwardLaws.{Stands, stands, climbs, finds}
use Rattle.wiring.specs.Numbered.{setup_at}

-- ── to know something of every row, it is enough to know it of the thirteen ──
abbrev pub Each : (ℕ → ℕ → Type 0) → List Row → Type 0
Each P [] = Unit
Each P (r ∷ rs) = P r.part r.cells × Each P rs

module _ (P : ℕ → ℕ → Type 0) where
  row_by : (r : Row) (part cells : ℕ) (rest : Bool) → P r.part r.cells → (rest ≡ true → P part cells) → (s t : Bool)
      → eqb part r.part ≡ s → eqb cells r.cells ≡ t → cond (s && t) true rest ≡ true → P part cells
  row_by r part cells rest here there true true e f h =
      subst (λ (p : ℕ). P p cells) (sym (eqb-true part r.part e)) (subst (P r.part) (sym (eqb-true cells r.cells f)) here)
  row_by r part cells rest here there true false e f h = there h
  row_by r part cells rest here there false t e f h = there h

  row_in_lem : (rs : List Row) → Each P rs → (part cells : ℕ) → row_in rs part cells ≡ true → P part cells
  row_in_lem [] a part cells h = absurd (true≢false (sym h))
  row_in_lem (r ∷ rs) a part cells h =
      row_by r part cells (row_in rs part cells) a.0 (λ h. row_in_lem rs a.1 part cells h) (eqb part r.part)
      (eqb cells r.cells) refl refl h

  pub each_row : Each P rows → (part cells : ℕ) → has_row part cells ≡ true → P part cells
  unfolding has_row
  each_row a part cells h = row_in_lem rows a part cells h

-- without a row nothing is shorted
none_by : (t b : Bool) (x y : List ℕ) → (b ≡ false → y ≡ []) → cond t true b ≡ false → cond t x y ≡ []
none_by true b x y ih h = absurd (true≢false h)
none_by false b x y ih h = ih h

none_in : (rs : List Row) (part cells : ℕ) → row_in rs part cells ≡ false → shorted_in rs part cells ≡ []
none_in [] part cells h = refl
none_in (r ∷ rs) part cells h =
    none_by (is_row part cells r) (row_in rs part cells) r.shorted (shorted_in rs part cells) (λ h. none_in rs part cells h) h

pub none_shorted : (part cells : ℕ) → has_row part cells ≡ false → shorted part cells ≡ []
unfolding has_row shorted
none_shorted part cells h = none_in rows part cells h

-- ── the numbering ──
abbrev pub HasCell : Setup → ℕ → Type 0
HasCell u i = Stands (is_wired u) 1 (inputs u) i

pub record Numbers (u : Setup) (cells : ℕ) : Type 0 where
  -- the pack has that many cells
  pub many : pack_cells u ≡ cells
  -- each is at an input of the part that is not shorted
  pub wired : (n : ℕ) → 1 ≤ n → n ≤ cells → HasCell u (input_of u n)
  -- they are numbered upward, so that no input is named twice
  pub upwards : (m n : ℕ) → 1 ≤ m → m < n → n ≤ cells → input_of u m < input_of u n
  -- and none that has a cell is lost
  pub named : (i : ℕ) → HasCell u i → (n : ℕ) × (1 ≤ n) × (n ≤ cells) × (input_of u n ≡ i)

-- of any setup, with or without a wiring record
pub numbers : (u : Setup) → Numbers u (pack_cells u)
unfolding wired_inputs
numbers u = record { many = refl; wired = wired; upwards = upwards; named = named }
  where
    wired : (n : ℕ) → 1 ≤ n → n ≤ length (upward (is_wired u) 1 (inputs u)) → HasCell u (get_or (0 ∷ upward (is_wired u) 1 (inputs u)) n 0)
    wired zero g h = absurd (omega arith)
    wired (suc n) g h = stands (is_wired u) 1 (inputs u) n (omega arith)

    upwards : (m n : ℕ) → 1 ≤ m → m < n → n ≤ length (upward (is_wired u) 1 (inputs u))
        → get_or (0 ∷ upward (is_wired u) 1 (inputs u)) m 0 < get_or (0 ∷ upward (is_wired u) 1 (inputs u)) n 0
    upwards zero n g k h = absurd (omega arith)
    upwards (suc m) zero g k h = absurd (omega arith)
    upwards (suc m) (suc n) g k h = climbs (is_wired u) 1 (inputs u) m n (omega arith) (omega arith)

    named : (i : ℕ) → HasCell u i
        → (n : ℕ) × (1 ≤ n) × (n ≤ length (upward (is_wired u) 1 (inputs u))) × (get_or (0 ∷ upward (is_wired u) 1 (inputs u)) n 0 ≡ i)
    named i s = let f = finds (is_wired u) 1 (inputs u) i s in (suc f.place, omega arith, omega (arith, f.there), f.found)

abbrev SoMany : ℕ → ℕ → Type 0
SoMany part cells = pack_cells (setup_at part cells) ≡ cells

so_many : Each SoMany rows
unfolding wired_inputs is_wired shorted inputs
so_many = (refl, (refl, (refl, (refl, (refl, (refl, (refl, (refl, (refl, (refl, (refl, (refl, (refl, tt)))))))))))))

pub same_cells : (u : Setup) → pack_cells u ≡ pack_cells (setup_at u.part u.cells)
unfolding wired_inputs is_wired inputs
same_cells u = refl

pub same_input : (u : Setup) (n : ℕ) → input_of u n ≡ input_of (setup_at u.part u.cells) n
unfolding wired_inputs is_wired inputs
same_input u n = refl

-- THE THIRTEEN ROWS
pub numbering : (u : Setup) → has_row u.part u.cells ≡ true → Numbers u u.cells
numbering u h = subst (Numbers u) (same_cells u ∙ each_row SoMany so_many u.part u.cells h) (numbers u)

all_such : (i k : ℕ) → length (upward (λ (i : ℕ). true) i k) ≡ k
all_such i zero = refl
all_such i (suc k) = ap suc (all_such (suc i) k)

-- without a wiring record the cells are the part's inputs, each its own
pub all_cells : (u : Setup) → has_row u.part u.cells ≡ false → pack_cells u ≡ inputs u
unfolding wired_inputs is_wired
all_cells u h =
    ap (λ (l : List ℕ). length (upward (λ i. not (some (λ s. eqb s i) l)) 1 (inputs u))) (none_shorted u.part u.cells h)
    ∙ all_such 1 (inputs u)

-- and all of them are in its bits
pub all_bits : (u : Setup) → has_row u.part u.cells ≡ false → wired_bits u ≡ bits (λ i. true) 1 (inputs u)
unfolding wired_bits is_wired
all_bits u h = ap (λ (l : List ℕ). bits (λ i. not (some (λ s. eqb s i) l)) 1 (inputs u)) (none_shorted u.part u.cells h)

-- no pack has more than 15 cells
shorter_by : (t : Bool) (i k : ℕ) (l : List ℕ) → length l ≤ k → length (cond t (i ∷ l) l) ≤ suc k
shorter_by true i k l h = omega (arith, h)
shorter_by false i k l h = omega (arith, h)

pub shorter : (such : ℕ → Bool) (i k : ℕ) → length (upward such i k) ≤ k
shorter such i zero = omega arith
shorter such i (suc k) = shorter_by (such i) i k (upward such (suc i) k) (shorter such (suc i) k)

pub few_cells : (u : Setup) → pack_cells u ≤ 15
unfolding wired_inputs
few_cells u = omega (arith, shorter (is_wired u) 1 (inputs u), few_inputs u)
