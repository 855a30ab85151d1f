-- The reading's total is the sum of the voltages that the cells are asked for one by one. Assumes nothing.
use Rattle.std.specs.Prelude.{◌≡◌, Bool, true, false, cond, List, [], ◌∷◌, ◌++◌, map, ℤ, pos, ◌+ℤ◌, length, get_or, take, Ok}
use Rattle.std.proofs.Math.Path.{refl}
use Rattle.std.proofs.Common.{sym, ap, ap₂, subst, ◌∙◌, append-nil, arith, take-suc}
use Prim.Native.Nat.{ℕ, zero, suc, ◌-◌, ◌<◌, ◌≤◌}
use Rattle.std.proofs.Math.Seq.{take-length}
use Rattle.events.specs.declared.Setup.{Setup}
use Rattle.wiring.specs.Rows.{wired_inputs, pack_cells, input_of, connected}
use Rattle.wiring.specs.Kept.{picked}
use Rattle.wiring.specs.Linked.{those}
use Rattle.wiring.proofs.LinkedLaws.{linked_those}
use Rattle.constants.specs.Answer.{gives, refuses as refused_with}
use Rattle.values.specs.Values.{cell_microvolts}
use Rattle.values.specs.declared.Reading.{Reading as ReadingValues}
use Rattle.values.specs.Double.{IsDouble}
use Rattle.values.specs.Forecast.{fold, total_of}
use Rattle.chip.specs.declared.Chip.{Chip}
use Rattle.chip_voltage.specs.Voltage.{linked_counts, voltage_said, Forecasts}
use Rattle.chip_voltage.specs.VoltageLaws.{apart_said, cell_said_lem, cell_holds}

-- ── the reading's total ──
-- the voltages that the cells 1 to n are asked for, each given, come to a sum
pub data Comes (c : Chip) : ℕ → ℤ → Type 0 where
  none : Comes c 0 (pos 0)
  more : {n : ℕ} {z : ℤ} (v : ℤ) → Comes c n z → voltage_said (suc n) c ≡ gives v → Comes c (suc n) (z +ℤ v)
  past : {n : ℕ} {z : ℤ} → Comes c n z → voltage_said (suc n) c ≡ refused_with 10 → Comes c (suc n) z

apart : (v : ℤ) → gives v ≡ refused_with 10 → ⊥
apart v h = let z : ◌≡◌ {A = ℕ} 0 1 = cc in omega (arith, z)

-- and to one alone
pub one_sum : (c : Chip) {n : ℕ} {z z' : ℤ} → Comes c n z → Comes c n z' → z ≡ z'
one_sum c none none = refl
one_sum c (more v k s) (more v' k' s') = let e : gives v ≡ gives v' = sym s ∙ s' in ap₂ ◌+ℤ◌ (one_sum c k k') cc
one_sum c (more v k s) (past k' s') = absurd (apart v (sym s ∙ s'))
one_sum c (past k s) (more v k' s') = absurd (apart v (sym s' ∙ s))
one_sum c (past k s) (past k' s') = one_sum c k k'

fold_last : (z v : ℤ) (l : List ℤ) → fold ◌+ℤ◌ z (l ++ (v ∷ [])) ≡ fold ◌+ℤ◌ z l +ℤ v
unfolding fold
fold_last z v [] = refl
fold_last z v (w ∷ l) = fold_last (z +ℤ w) v l

map_last : (f : ℕ → ℤ) (x : ℕ) (l : List ℕ) → map f (l ++ (x ∷ [])) ≡ map f l ++ (f x ∷ [])
map_last f x [] = refl
map_last f x (y ∷ l) = ap (λ (m : List ℤ). f y ∷ m) (map_last f x l)

-- one cell more, where it is connected
module _ (g o : ℕ) (xs : List ℕ) (p : ℕ → Bool) where
  abbrev total_those : List ℕ → ℤ
  total_those is = fold ◌+ℤ◌ (pos 0) (map (cell_microvolts g o) (picked xs (those p is)))

  those_last : (is : List ℕ) (i : ℕ) (t : Bool) → p i ≡ t
      → picked xs (those p (is ++ (i ∷ []))) ≡ picked xs (those p is) ++ cond t (get_or xs (i - 1) 0 ∷ []) []
  those_last [] i true e = simp e
  those_last [] i false e = simp e
  those_last (j ∷ is) i t e = by (p j) (those_last is i t e)
    where
      by : (b : Bool) → picked xs (those p (is ++ (i ∷ []))) ≡ picked xs (those p is) ++ cond t (get_or xs (i - 1) 0 ∷ []) []
          → picked xs (cond b (j ∷ those p (is ++ (i ∷ []))) (those p (is ++ (i ∷ []))))
          ≡ picked xs (cond b (j ∷ those p is) (those p is)) ++ cond t (get_or xs (i - 1) 0 ∷ []) []
      by true h = ap (λ (l : List ℕ). get_or xs (j - 1) 0 ∷ l) h
      by false h = h

  total_more : (is : List ℕ) (i : ℕ) → p i ≡ true
      → total_those (is ++ (i ∷ [])) ≡ total_those is +ℤ cell_microvolts g o (get_or xs (i - 1) 0)
  total_more is i e =
      ap (λ (l : List ℕ). fold ◌+ℤ◌ (pos 0) (map (cell_microvolts g o) l)) (those_last is i true e)
      ∙ ap (fold ◌+ℤ◌ (pos 0)) (map_last (cell_microvolts g o) (get_or xs (i - 1) 0) (picked xs (those p is)))
      ∙ fold_last (pos 0) (cell_microvolts g o (get_or xs (i - 1) 0)) (map (cell_microvolts g o) (picked xs (those p is)))

  total_past : (is : List ℕ) (i : ℕ) → p i ≡ false → total_those (is ++ (i ∷ [])) ≡ total_those is
  total_past is i e =
      ap (λ (l : List ℕ). fold ◌+ℤ◌ (pos 0) (map (cell_microvolts g o) l)) (those_last is i false e ∙ append-nil (picked xs (those p is)))

module _ (c : Chip) (on : c.normal ≡ true) where
  abbrev u : Setup
  u = c.setup

  abbrev xs : List ℕ
  xs = c.registers.measured.cells

  -- the sum over the first n cells of the pack, those that are connected
  abbrev sum_to : ℕ → ℤ
  sum_to n = total_those u.gain_code u.offset xs (connected u xs) (take n (wired_inputs u))

  sums_by : (n : ℕ) → n < pack_cells u → Comes c n (sum_to n) → (t : Bool) → connected u xs (input_of u (suc n)) ≡ t
      → Comes c (suc n) (sum_to (suc n))
  sums_by n h k true e =
      subst (Comes c (suc n))
      (sym (ap (total_those u.gain_code u.offset xs (connected u xs)) (take-suc (wired_inputs u) n 0 h)
      ∙ total_more u.gain_code u.offset xs (connected u xs) (take n (wired_inputs u)) (input_of u (suc n)) e))
      (more (cell_microvolts u.gain_code u.offset (get_or xs (input_of u (suc n) - 1) 0)) k
      (sym (cell_said_lem (suc n) c on (omega arith) (omega arith) e)
      ∙ ap (λ (x : ℕ). gives (cell_microvolts u.gain_code u.offset x)) (cell_holds (suc n) c on (omega arith) (omega arith))))
  sums_by n h k false e =
      subst (Comes c (suc n))
      (sym (ap (total_those u.gain_code u.offset xs (connected u xs)) (take-suc (wired_inputs u) n 0 h)
      ∙ total_past u.gain_code u.offset xs (connected u xs) (take n (wired_inputs u)) (input_of u (suc n)) e))
      (past k (sym (apart_said (suc n) c on (omega arith) (omega arith) e)))

  sums : (n : ℕ) → n ≤ pack_cells u → Comes c n (sum_to n)
  unfolding fold
  sums zero h = none
  sums (suc n) h = sums_by n (omega arith) (sums n (omega arith)) (connected u xs (input_of u (suc n))) refl

  pub total_comes : Comes c (pack_cells u) (total_of u.gain_code u.offset (length (linked_counts c)) (linked_counts c))
  total_comes =
      subst (Comes c (pack_cells u))
      (ap (total_those u.gain_code u.offset xs (connected u xs)) (take-length (wired_inputs u))
      ∙ sym (ap (λ (is : List ℕ). fold ◌+ℤ◌ (pos 0) (map (cell_microvolts u.gain_code u.offset) (picked xs is))) (linked_those u xs))
      ∙ sym (ap (λ (l : List ℕ). fold ◌+ℤ◌ (pos 0) (map (cell_microvolts u.gain_code u.offset) l)) (take-length (linked_counts c))))
      (sums (pack_cells u) (omega arith))

  -- so a reading's total is a double equal to that sum
  pub reading_comes : (r : ReadingValues) → Forecasts c (Ok r)
      → IsDouble r.total (total_of u.gain_code u.offset (length (linked_counts c)) (linked_counts c))
      × Comes c (pack_cells u) (total_of u.gain_code u.offset (length (linked_counts c)) (linked_counts c))
  reading_comes r f = (f.1.total, total_comes)
