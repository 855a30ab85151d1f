-- The inputs of a pack's cells, packed from the numbers 1 to 15. Assumes nothing.
use mathlib.Core.Path.{◌≡◌, refl, ap, ap₂, ◌∙◌}
use mathlib.Core.Bool.{Bool, true, false, cond}
use mathlib.Core.List.{List, [], ◌∷◌}
use Prim.Native.Nat.{ℕ, zero, suc, ◌+◌, ◌-◌, ◌<◌, ◌≤◌}
use native.Mathlib.Omega.{arith}
use lib.Dec.{eqb}
use lib.ListN.{get_or}
use borrow.Author.Tests.{eqb-true}
use Rattle.events.specs.declared.Setup.{Setup}
use Rattle.events.specs.declared.Counts.{Counts}
use Rattle.events.specs.Setup.{inputs}
use Rattle.events.specs.FewLaws.{few_inputs}
use Rattle.cell_counts.specs.Scan.{padded}
use Rattle.wiring.specs.Rows.{is_wired, upward, wired_inputs, pack_cells, input_of}
use Rattle.wiring.proofs.Numbered.{numbers}
use Rattle.wiring.specs.Kept.{counts_of, picked}
use Rattle.wiring.proofs.Kept.{padded_at}
use Rattle.wiring.proofs.Table.{every, every_is}

abbrev pub ones : List ℕ
ones = 1 ∷ 2 ∷ 3 ∷ 4 ∷ 5 ∷ 6 ∷ 7 ∷ 8 ∷ 9 ∷ 10 ∷ 11 ∷ 12 ∷ 13 ∷ 14 ∷ 15 ∷ []

each_own : every 15 (λ j. eqb (get_or ones j 0) (suc j)) ≡ true
unfolding every
each_own = refl

own : (i : ℕ) → 1 ≤ i → i < 16 → get_or ones (i - 1) 0 ≡ i
own i a b =
    let e : suc (i - 1) ≡ i = omega arith in
    eqb-true (get_or ones (i - 1) 0) (suc (i - 1)) (every_is 15 (λ j. eqb (get_or ones j 0) (suc j)) (i - 1) each_own (omega arith)) ∙ e

held_by : (i : ℕ) (l : List ℕ) → 1 ≤ i → i < 16 → picked ones l ≡ l → (t : Bool) → picked ones (cond t (i ∷ l) l) ≡ cond t (i ∷ l) l
held_by i l a b ih true = ap₂ ◌∷◌ (own i a b) ih
held_by i l a b ih false = ih

picked_own : (such : ℕ → Bool) (i k : ℕ) → 1 ≤ i → i + k ≤ 16 → picked ones (upward such i k) ≡ upward such i k
picked_own such i zero a b = refl
picked_own such i (suc k) a b = held_by i (upward such (suc i) k) a (omega arith) (picked_own such (suc i) k (omega arith) (omega arith)) (such i)

-- what is packed are the inputs, cell 1's first
pub packed_is : (u : Setup) {r : Counts} → r ≡ counts_of (picked ones (wired_inputs u)) → r ≡ counts_of (wired_inputs u)
unfolding wired_inputs
packed_is u h = h ∙ ap counts_of (picked_own (is_wired u) 1 (inputs u) (omega arith) (omega (arith, few_inputs u)))

module _ (u : Setup) (n : ℕ) where
  at_one : (n : ℕ) → 1 ≤ n → get_or (wired_inputs u) (n - 1) 0 ≡ input_of u n
  at_one zero h = absurd (omega arith)
  at_one (suc n) h = let e : suc n - 1 ≡ n = omega arith in ap (λ (i : ℕ). get_or (wired_inputs u) i 0) e

  pub at_place : 1 ≤ n → n ≤ 15 → get_or (padded 15 (wired_inputs u)) (n - 1) 0 ≡ input_of u n
  at_place a b = padded_at 15 (wired_inputs u) (n - 1) (omega arith) ∙ at_one n a

  pub small : 1 ≤ n → n ≤ pack_cells u → input_of u n < 256
  small a b = omega (arith, ((numbers u).wired n a b).below, few_inputs u)
