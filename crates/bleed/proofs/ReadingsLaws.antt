-- CHIP E2 and E4 in their words: the lowest connected cell is the lowest, only what may be bled has an excess, and where nothing may be
-- bled the proposal is three zero bytes. Assumes nothing.
use Rattle.std.specs.Prelude.{◌≡◌, Bool, ◌&&◌, ◌⊎◌, List, ℕ, zero, suc, ◌+◌, ◌-◌, ◌<◌, ◌≤◌, leb, get_or}
use Rattle.std.proofs.Math.Path.{refl, subst}
use Rattle.std.proofs.Common.{sym, ap, ◌∙◌, inl}
use Rattle.std.proofs.Math.Bool.{true, false, cond}
use Rattle.std.proofs.Math.Logic.{inr}
use native.Mathlib.Omega.{arith}
use Rattle.std.proofs.Math.Dec.{ltb}
use borrow.Author.Tests.{ltb-true, ltb-false, leb-true}
use Rattle.bits.specs.Bit.{bit, weighed}
use Rattle.bleed.specs.declared.Choice.{Choice}
use Rattle.bleed.specs.Choice.{excess_in, may_in, chosen, number, allowed, total, no_bytes, made}
use Rattle.bleed.proofs.BestLaws.{chosen_best, right_of}
use Rattle.bleed.specs.Excess.{linked_at, lower_at, lowest_below, lowest, may_bleed, excess_at}

-- ── the lowest connected cell ──
module _ (cells : List ℕ) (linked : ℕ) where
  abbrev x : ℕ → ℕ
  x i = get_or cells i 0

  -- a connected cell among the first k with the count n
  pub record Has (k n : ℕ) : Type 0 where
    pub at : ℕ
    pub below : at < k
    pub linked_there : linked_at linked at ≡ true
    pub count : x at ≡ n

  one_lower : (i low : ℕ) → lower_at cells linked i low ≤ low
  unfolding lower_at
  one_lower i low = by (linked_at linked i) (ltb (x i) low) refl
    where
      by : (m l : Bool) → ltb (x i) low ≡ l → cond (m && l) (x i) low ≤ low
      by true true q = let p : x i < low = ltb-true (x i) low q in omega arith
      by true false q = omega arith
      by false l q = omega arith

  one_linked : (i low : ℕ) → linked_at linked i ≡ true → lower_at cells linked i low ≤ x i
  unfolding lower_at
  one_linked i low h = subst (λ (m : Bool). cond (m && ltb (x i) low) (x i) low ≤ x i) (sym h) (by (ltb (x i) low) refl)
    where
      by : (l : Bool) → ltb (x i) low ≡ l → cond l (x i) low ≤ x i
      by true q = omega arith
      by false q = ltb-false (x i) low q

  -- no connected cell is lower ..
  below_all : (k i : ℕ) → i < k → linked_at linked i ≡ true → lowest_below cells linked k ≤ x i
  below_all zero i l h = absurd (omega arith)
  below_all (suc k) i l h = by (ltb i k) refl (λ l. below_all k i l h)
    where
      by : (t : Bool) → ltb i k ≡ t → (i < k → lowest_below cells linked k ≤ x i)
          → lower_at cells linked k (lowest_below cells linked k) ≤ x i
      by true t f = let p = one_lower k (lowest_below cells linked k) in let q = f (ltb-true i k t) in omega arith
      by false t f =
          let g : k ≤ i = ltb-false i k t in
          let e : i ≡ k = omega arith in
          subst (λ (j : ℕ). lower_at cells linked k (lowest_below cells linked k) ≤ x j) (sym e)
          (one_linked k (lowest_below cells linked k) (subst (λ (j : ℕ). linked_at linked j ≡ true) e h))

  -- .. and one of them has it
  more : (k n : ℕ) → Has k n → Has (suc k) n
  more k n h = record { at = h.at; below = omega (arith, h.below); linked_there = h.linked_there; count = h.count }

  abbrev Found : ℕ → ℕ → Type 0
  Found k n = (n ≡ 65535) ⊎ Has k n

  kept : (k n : ℕ) → Found k n → Found (suc k) n
  kept k n (inl e) = inl e
  kept k n (inr h) = inr (more k n h)

  next : (k low : ℕ) → Found k low → Found (suc k) (lower_at cells linked k low)
  unfolding lower_at
  next k low s = by (linked_at linked k) (ltb (x k) low) refl
    where
      by : (m l : Bool) → linked_at linked k ≡ m → Found (suc k) (cond (m && l) (x k) low)
      by true true p = inr (record { at = k; below = omega arith; linked_there = p; count = refl })
      by true false p = kept k low s
      by false l p = kept k low s

  found : (k : ℕ) → Found k (lowest_below cells linked k)
  found zero = inl refl
  found (suc k) = next k (lowest_below cells linked k) (found k)

pub lowest_below_lem : (cells : List ℕ) (linked i : ℕ) → i < 15 → linked_at linked i ≡ true → lowest cells linked ≤ get_or cells i 0
unfolding lowest
lowest_below_lem cells linked i l h = below_all cells linked 15 i l h

-- a connected cell's count has 16 bits, and so one of them is the lowest
pub lowest_is : (cells : List ℕ) (linked i : ℕ) → i < 15 → linked_at linked i ≡ true → get_or cells i 0 ≤ 65535
    → Has cells linked 15 (lowest cells linked)
unfolding lowest
lowest_is cells linked i l h w = by (found cells linked 15) (below_all cells linked 15 i l h)
  where
    by : Found cells linked 15 (lowest_below cells linked 15) → lowest_below cells linked 15 ≤ get_or cells i 0
        → Has cells linked 15 (lowest_below cells linked 15)
    by (inl e) b = record { at = i; below = l; linked_there = h; count = omega (arith, e, b, w) }
    by (inr f) b = f

-- ── what may be bled has its excess, at least the margin; what may not has none ──
pub may_excess : (cells : List ℕ) (linked low margin i : ℕ) → may_bleed cells linked low margin i ≡ true
    → margin ≤ excess_at cells linked low margin i
unfolding excess_at
may_excess cells linked low margin i h =
    let l : low + margin ≤ get_or cells i 0 =
    leb-true (low + margin) (get_or cells i 0) (right_of (linked_at linked i) (leb (low + margin) (get_or cells i 0)) h) in
    subst (λ (t : Bool). margin ≤ cond t (get_or cells i 0 - low) 0) (sym h) (omega arith)

pub may_not : (cells : List ℕ) (linked low margin i : ℕ) → may_bleed cells linked low margin i ≡ false
    → excess_at cells linked low margin i ≡ 0
unfolding excess_at
may_not cells linked low margin i h = ap (λ (t : Bool). cond t (get_or cells i 0 - low) 0) h

-- ── no cell allowed: three zero bytes ──
nothing : (e : List ℕ) (from b : ℕ) → ((i : ℕ) → get_or e i 0 ≡ 0) → excess_in e from b ≡ 0
unfolding excess_in
nothing e from b h =
    rw (
      h from,
      h (from + 1),
      h (from + 2),
      h (from + 3),
      h (from + 4),
      none (bit b 1),
      none (bit b 2),
      none (bit b 4),
      none (bit b 8),
      none (bit b 16),
    )
  where
    none : (t : Bool) → weighed t 0 ≡ 0
    none true = refl
    none false = refl

zero_may : (e : List ℕ) → allowed e no_bytes ≡ true
unfolding allowed may_in
zero_may e = refl

sums : (e : List ℕ) → ((i : ℕ) → get_or e i 0 ≡ 0) → (c : Choice) → total e c ≡ 0
unfolding total
sums e h c = rw (nothing e 0 c.one h, nothing e 5 c.two h, nothing e 10 c.three h)

pub none_zero : (e : List ℕ) → ((i : ℕ) → get_or e i 0 ≡ 0) → chosen e ≡ no_bytes
none_zero e h = same (chosen e) ((chosen_best e).least no_bytes (zero_may e) (totals no_bytes ∙ sym (totals (chosen e))))
  where
    totals : (c : Choice) → total e c ≡ 0
    totals c = sums e h c

    same : (c : Choice) → number c ≤ 0 → c ≡ no_bytes
    same c l =
        let p : c.one ≡ 0 = omega arith in
        let q : c.two ≡ 0 = omega arith in
        let r : c.three ≡ 0 = omega arith in
        ap (λ (n : ℕ). made n c.two c.three) p ∙ ap (λ (n : ℕ). made 0 n c.three) q ∙ ap (made 0 0) r
