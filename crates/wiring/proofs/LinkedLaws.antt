-- CHIP W7: connected inputs by whether there is a wiring record, a pack's cell that converts, and the bits of what is connected. The
-- words stand in specs/Linked. Assumes nothing.
use Rattle.std.specs.Prelude.{◌≡◌, refl, Bool, true, false, cond, not, List, ◌∷◌, ℕ, zero, suc, ◌+◌, ◌-◌, ◌*◌, ◌≤◌, leb, eqb, length}
use Rattle.std.specs.Prelude.{get_or}
use Rattle.std.proofs.Common.{sym, ap, ◌∙◌, true≢false, arith}
use Rattle.events.specs.declared.Setup.{Setup}
use Rattle.events.specs.Setup.{inputs}
use Rattle.events.specs.FewLaws.{few_inputs}
use Rattle.cell_counts.specs.Scan.{some}
use Rattle.wiring.specs.Rows.{has_row, shorted, is_wired, upward, wired_inputs, bits, wired_bits, pack_cells, input_of, connected}
use Rattle.wiring.specs.Rows.{linked_inputs, linked_bits, converts}
use Rattle.wiring.proofs.Numbered.{numbers, shorter, none_shorted}
use Rattle.wiring.specs.Kept.{kept, picked}
use Rattle.wiring.proofs.Kept.{kept-bits}
use Rattle.wiring.specs.Linked.{above_floor, those}

-- ── by whether there is a wiring record ──
pub linked_row : (u : Setup) (xs : List ℕ) → has_row u.part u.cells ≡ true → wired_bits u ≡ linked_bits u xs
unfolding linked_bits connected wired_bits
linked_row u xs h = sym (ap (λ (t : Bool). bits (λ i. cond t (is_wired u i) (leb u.floor (get_or xs (i - 1) 0))) 1 (inputs u)) h)

pub linked_none : (u : Setup) (xs : List ℕ) → has_row u.part u.cells ≡ false
    → bits (above_floor u.floor xs) 1 (inputs u) ≡ linked_bits u xs
unfolding linked_bits connected
linked_none u xs h = sym (ap (λ (t : Bool). bits (λ i. cond t (is_wired u i) (leb u.floor (get_or xs (i - 1) 0))) 1 (inputs u)) h)

-- ── what the connected inputs hold ──
pub kept_linked : (u : Setup) (xs : List ℕ) → length xs ≡ 15 → kept (linked_bits u xs) xs ≡ picked xs (linked_inputs u xs)
unfolding linked_bits linked_inputs
kept_linked u xs l = kept-bits (connected u xs) (inputs u) xs (omega (arith, few_inputs u, l))

pub few_linked : (u : Setup) (xs : List ℕ) → length (linked_inputs u xs) ≤ 15
unfolding linked_inputs
few_linked u xs = omega (arith, shorter (connected u xs) 1 (inputs u), few_inputs u)

-- ── a cell of the pack is connected where it converts: a wired one always does ──
pub cell_converts : (u : Setup) (xs : List ℕ) (n : ℕ) → 1 ≤ n → n ≤ pack_cells u
    → converts u (get_or xs (input_of u n - 1) 0) ≡ connected u xs (input_of u n)
unfolding connected converts
cell_converts u xs n l h = by (has_row u.part u.cells) ((numbers u).wired n l h).is
  where
    by : (t : Bool) → is_wired u (input_of u n) ≡ true
        → cond t true (leb u.floor (get_or xs (input_of u n - 1) 0))
        ≡ cond t (is_wired u (input_of u n)) (leb u.floor (get_or xs (input_of u n - 1) 0))
    by true w = sym w
    by false w = refl

-- ── bits are few ──
all : ℕ → ℕ
all zero = 0
all (suc k) = 1 + 2 * all k

bits_by : (t : Bool) (b a : ℕ) → b ≤ a → cond t 1 0 + 2 * b ≤ 1 + 2 * a
bits_by true b a h = omega (arith, h)
bits_by false b a h = omega (arith, h)

bits-all : (such : ℕ → Bool) (i k : ℕ) → bits such i k ≤ all k
unfolding all
bits-all such i zero = omega arith
bits-all such i (suc k) = bits_by (such i) (bits such (suc i) k) (all k) (bits-all such (suc i) k)

all_more : (k j : ℕ) → all k ≤ all (j + k)
unfolding all
all_more k zero = let e : 0 + k ≡ k = omega arith in omega (arith, ap all e)
all_more k (suc j) = let e : suc j + k ≡ suc (j + k) = omega arith in omega (arith, all_more k j, ap all e)

fifteen : all 15 ≡ 32767
unfolding all
fifteen = refl

pub few_bits : (such : ℕ → Bool) (i k : ℕ) → k ≤ 15 → bits such i k ≤ 32767
few_bits such i k h = let e : 15 - k + k ≡ 15 = omega arith in omega (arith, bits-all such i k, all_more k (15 - k), ap all e, fifteen)

-- ── the connected inputs are those of the pack's cells that are connected, in their order ──

those_by : (p : ℕ → Bool) (i : ℕ) (l m : List ℕ) → l ≡ those p m → (a w : Bool) → p i ≡ a → (a ≡ true → w ≡ true)
    → cond a (i ∷ l) l ≡ those p (cond w (i ∷ m) m)
those_by p i l m ih true true e f = ap (λ (l : List ℕ). i ∷ l) ih ∙ sym (ap (λ (t : Bool). cond t (i ∷ those p m) (those p m)) e)
those_by p i l m ih true false e f = absurd (true≢false (sym (f refl)))
those_by p i l m ih false true e f = ih ∙ sym (ap (λ (t : Bool). cond t (i ∷ those p m) (those p m)) e)
those_by p i l m ih false false e f = ih

those_of : (p w : ℕ → Bool) → ((i : ℕ) → p i ≡ true → w i ≡ true) → (i k : ℕ) → upward p i k ≡ those p (upward w i k)
those_of p w f i zero = refl
those_of p w f i (suc k) = those_by p i (upward p (suc i) k) (upward w (suc i) k) (those_of p w f (suc i) k) (p i) (w i) refl (f i)

wired_first : (u : Setup) (xs : List ℕ) (i : ℕ) → connected u xs i ≡ true → is_wired u i ≡ true
unfolding connected is_wired
wired_first u xs i = by (has_row u.part u.cells) refl
  where
    by : (t : Bool) → has_row u.part u.cells ≡ t
        → cond t (not (some (λ s. eqb s i) (shorted u.part u.cells))) (leb u.floor (get_or xs (i - 1) 0)) ≡ true
        → not (some (λ s. eqb s i) (shorted u.part u.cells)) ≡ true
    by true h q = q
    by false h q = ap (λ (l : List ℕ). not (some (λ s. eqb s i) l)) (none_shorted u.part u.cells h)

pub linked_those : (u : Setup) (xs : List ℕ) → linked_inputs u xs ≡ those (connected u xs) (wired_inputs u)
unfolding linked_inputs wired_inputs
linked_those u xs = those_of (connected u xs) (is_wired u) (wired_first u xs) 1 (inputs u)
