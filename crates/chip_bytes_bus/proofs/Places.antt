-- A word of a list, where it is one of so many. Assumes nothing.
use mathlib.Core.Path.{◌≡◌, sym, ap, ◌∙◌}
use mathlib.Core.Bool.{Bool, cond}
use mathlib.Core.List.{List}
use Prim.Native.Nat.{ℕ, zero, suc, ◌+◌, ◌<◌, ◌≤◌}
use native.Mathlib.Omega.{arith}
use lib.Dec.{ltb}
use lib.ListN.{get_or}
use borrow.Author.Tests.{lt-ltb, le-ltb}
use Rattle.chip_bytes_layout.specs.Layout.{listed}

listed_at : (b : List ℕ) (i n k : ℕ) → k < n → get_or (listed b i n) k 0 ≡ get_or b (i + k) 0
listed_at b i zero k h = absurd (omega arith)
listed_at b i (suc n) zero h = ap (λ (j : ℕ). get_or b j 0) (omega arith)
listed_at b i (suc n) (suc k) h = listed_at b (suc i) n k (omega arith) ∙ ap (λ (j : ℕ). get_or b j 0) (omega arith)

module _ (ws : List ℕ) (i many k : ℕ) {n m : ℕ} (e : n ≡ m) where
  pub at_one : {x : ℕ} → k < n → k < many → x ≡ get_or ws (i + k) 0 → x ≡ cond (ltb k m) (get_or (listed ws i many) k 0) 0
  at_one h l q =
      q ∙ sym (listed_at ws i many k l) ∙ sym (ap (λ (t : Bool). cond t (get_or (listed ws i many) k 0) 0) (lt-ltb k m (omega (arith, e))))

  pub at_none : n ≤ k → 0 ≡ cond (ltb k m) (get_or (listed ws i many) k 0) 0
  at_none h = sym (ap (λ (t : Bool). cond t (get_or (listed ws i many) k 0) 0) (le-ltb k m (omega (arith, e))))
