-- What the reading's definitions mean: the least and the greatest bound every cell and are cells, and the offset is in the total once a
-- cell. Assumes nothing.
use Rattle.std.specs.Prelude.{◌≡◌, refl, Bool, true, false, not, cond, T, ℤ, pos, negsuc, ◌+ℤ◌, ◌*ℤ◌, length, get_or, take, ◌≤ℤ◌}
use Rattle.std.proofs.Common.{sym, ap, subst, ◌∙◌, mul-zero, mul-add, arith, ltb→lt, le→leb, length-take, get_or-take}
use mathlib.Core.List.{List, [], ◌∷◌, map}
use Prim.Native.Nat.{ℕ, zero, suc, ◌+◌, ◌*◌, ◌<◌, min}
use Rattle.std.proofs.Math.Dec.{not_T}
use Rattle.std.proofs.Math.IntN.{+ℤ_assoc, +ℤ_comm, +ℤ_idr, +ℤ_idl, suc_ℤ-*ℤ, zero-*ℤ}
use Rattle.std.specs.Int.Signed.{lt_z, lt_z_yes, lt_z_no, ≤ℤ_refl, <ℤ-≤ℤ_trans, clash_ℤ}
use Rattle.values.specs.Values.{gain, cell_microvolts, offset_microvolts}
use Rattle.values.specs.Forecast.{fold, lesser, greater, voltages, first_of, least_of, greatest_of, total_of}

-- ---- signed numbers in order

pub pick : (t : Bool) (P : ℤ → Type 0) (x y : ℤ) → (T t → P x) → (T (not t) → P y) → P (cond t x y)
pick true P x y f g = f tt
pick false P x y f g = g tt

weaken : (a b : ℤ) → T (lt_z a b) → a ≤ℤ b
weaken (pos a) (pos b) t = record { le = le→leb a b (omega (arith, ltb→lt a b t)) }
weaken (pos a) (negsuc b) t = record { le = t }
weaken (negsuc a) (pos b) t = record { le = tt }
weaken (negsuc a) (negsuc b) t = record { le = le→leb b a (omega (arith, ltb→lt b a t)) }

trans : (a b c : ℤ) → a ≤ℤ b → b ≤ℤ c → a ≤ℤ c
trans a b c p q = lt_z_no (not_T (lt_z c a) (λ t. clash_ℤ (<ℤ-≤ℤ_trans (lt_z_yes {a = c} {b = a} t) p) q))

lesser_le : (a b : ℤ) → (lesser a b ≤ℤ a) × (lesser a b ≤ℤ b)
lesser_le a b = pick (lt_z b a) (λ z. (z ≤ℤ a) × (z ≤ℤ b)) b a (λ t. (weaken b a t, ≤ℤ_refl b)) (λ t. (≤ℤ_refl a, lt_z_no t))

greater_ge : (a b : ℤ) → (a ≤ℤ greater a b) × (b ≤ℤ greater a b)
greater_ge a b = pick (lt_z b a) (λ z. (a ≤ℤ z) × (b ≤ℤ z)) a b (λ t. (≤ℤ_refl a, weaken b a t)) (λ t. (lt_z_no t, ≤ℤ_refl b))

-- ---- a fold that picks: what it gives bounds every element, in its order R

module _ (f : ℤ → ℤ → ℤ) (R : ℤ → ℤ → Type 0) (join : (a b c : ℤ) → R a b → R b c → R a c)
    (both : (a b : ℤ) → R (f a b) a × R (f a b) b) where
  stays : (z w : ℤ) (g : ℕ → ℤ) (l : List ℕ) → R z w → R (fold f z (map g l)) w
  unfolding fold
  stays z w g [] h = h
  stays z w g (n ∷ l) h = stays (f z (g n)) w g l (join (f z (g n)) z w (both z (g n)).0 h)

  bounds : (z : ℤ) (g : ℕ → ℤ) (l : List ℕ) (i : ℕ) → i < length l → R (fold f z (map g l)) (g (get_or l i 0))
  unfolding fold
  bounds z g [] i h = absurd (omega arith)
  bounds z g (n ∷ l) zero h = stays (f z (g n)) (g n) g l (both z (g n)).1
  bounds z g (n ∷ l) (suc i) h = bounds (f z (g n)) g l i (omega arith)

-- and what holds of the start and of every element holds of it
keeps : (f : ℤ → ℤ → ℤ) (P : ℤ → Type 0) → ((a b : ℤ) → P a → P b → P (f a b))
    → (z : ℤ) (g : ℕ → ℤ) (l : List ℕ) → P z → ((i : ℕ) → i < length l → P (g (get_or l i 0))) → P (fold f z (map g l))
unfolding fold
keeps f P either z g [] p q = p
keeps f P either z g (n ∷ l) p q = keeps f P either (f z (g n)) g l (either z (g n) p (q 0 (omega arith))) (λ i h. q (suc i) (omega arith))

-- a cell's voltage
pub record IsCell (code offset many : ℕ) (counts : List ℕ) (v : ℤ) : Type 0 where
  pub place : ℕ
  pub counted : place < many
  pub there : place < length counts
  pub is : v ≡ cell_microvolts code offset (get_or counts place 0)

module _ (code offset many : ℕ) (counts : List ℕ) where
  short : (i : ℕ) → i < many → i < length counts → i < length (take many counts)
  short i h k = rw length-take (omega arith)

  -- no cell is below the least or above the greatest
  pub least_below : (i : ℕ) → i < many → i < length counts
      → least_of code offset many counts ≤ℤ cell_microvolts code offset (get_or counts i 0)
  least_below i h k =
      subst (λ (n : ℕ). least_of code offset many counts ≤ℤ cell_microvolts code offset n) (get_or-take many counts i 0 h)
      (bounds lesser (λ a b. a ≤ℤ b) trans lesser_le (first_of code offset counts) (cell_microvolts code offset) (take many counts) i
      (short i h k))

  pub greatest_above : (i : ℕ) → i < many → i < length counts
      → cell_microvolts code offset (get_or counts i 0) ≤ℤ greatest_of code offset many counts
  greatest_above i h k =
      subst (λ (n : ℕ). cell_microvolts code offset n ≤ℤ greatest_of code offset many counts) (get_or-take many counts i 0 h)
      (bounds greater (λ a b. b ≤ℤ a) (λ a b c p q. trans c b a q p) greater_ge (first_of code offset counts) (cell_microvolts code offset)
      (take many counts) i (short i h k))

  module _ (some : 0 < many) (first : 0 < length counts) where
    one_of : (f : ℤ → ℤ → ℤ) → ((P : ℤ → Type 0) (a b : ℤ) → P a → P b → P (f a b))
        → IsCell code offset many counts (fold f (first_of code offset counts) (voltages code offset (take many counts)))
    one_of f either =
        keeps f (IsCell code offset many counts) (either (IsCell code offset many counts)) (first_of code offset counts)
        (cell_microvolts code offset) (take many counts)
        (record { place = 0; counted = some; there = first; is = refl })
        (λ i h.
        let k : i < min many (length counts) = rw length-take at h in
        let m : i < many = omega arith in
        record { place = i; counted = m; there = omega arith; is = ap (cell_microvolts code offset) (get_or-take many counts i 0 m) })

    -- with at least one cell each of the two is some cell's voltage
    pub least_is : IsCell code offset many counts (least_of code offset many counts)
    least_is = one_of lesser (λ P a b p q. pick (lt_z b a) P b a (λ t. q) (λ t. p))

    pub greatest_is : IsCell code offset many counts (greatest_of code offset many counts)
    greatest_is = one_of greater (λ P a b p q. pick (lt_z b a) P a b (λ t. p) (λ t. q))

-- ---- the total

abbrev pub sum_of : List ℕ → ℕ
sum_of [] = 0
sum_of (n ∷ l) = n + sum_of l

regroup : (z a o b c : ℤ) → (z +ℤ (a +ℤ o)) +ℤ (b +ℤ c) ≡ z +ℤ ((a +ℤ b) +ℤ (c +ℤ o))
regroup z a o b c =
    +ℤ_assoc z (a +ℤ o) (b +ℤ c)
    ∙ ap (λ (y : ℤ). z +ℤ y)
    (+ℤ_assoc a o (b +ℤ c) ∙ ap (λ (y : ℤ). a +ℤ y) (+ℤ_comm o (b +ℤ c) ∙ +ℤ_assoc b c o) ∙ sym (+ℤ_assoc a b (c +ℤ o)))

total_from : (k : ℕ) (o z : ℤ) (l : List ℕ)
    → fold ◌+ℤ◌ z (map (λ (n : ℕ). pos (k * n) +ℤ o) l) ≡ z +ℤ (pos (k * sum_of l) +ℤ pos (length l) *ℤ o)
unfolding fold
total_from k o z [] = rw (mul-zero, zero-*ℤ) (sym (+ℤ_idr z))
total_from k o z (n ∷ l) =
    total_from k o (z +ℤ (pos (k * n) +ℤ o)) l
    ∙ regroup z (pos (k * n)) o (pos (k * sum_of l)) (pos (length l) *ℤ o)
    ∙ ap (λ (y : ℤ). z +ℤ (pos (k * n + k * sum_of l) +ℤ y)) (sym (suc_ℤ-*ℤ (pos (length l)) o))
    ∙ ap (λ (m : ℕ). z +ℤ (pos m +ℤ pos (suc (length l)) *ℤ o)) (sym (mul-add k n (sum_of l)))

-- gain × the sum of the counts, and the offset exactly once a cell
pub total_is : (code offset many : ℕ) (counts : List ℕ)
    → total_of code offset many counts
    ≡ pos (gain code * sum_of (take many counts)) +ℤ pos (length (take many counts)) *ℤ offset_microvolts offset
total_is code offset many counts = total_from (gain code) (offset_microvolts offset) (pos 0) (take many counts) ∙ +ℤ_idl _
