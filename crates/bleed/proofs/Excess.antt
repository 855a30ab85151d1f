-- The weights of inputs are the powers of two; a group has one best byte, wherever it stands; the excess of each input. The words stand
-- in specs/. Assumes nothing.
use Rattle.std.specs.Prelude.{◌≡◌, refl, Bool, true, ◌&&◌, List, [], ◌∷◌, ℕ, zero, suc, ◌+◌, ◌*◌, ◌^◌, ◌<◌, eqb, ltb, length, get_or}
use Rattle.std.proofs.Common.{sym, ap, ◌∙◌, mul-one, mul_assoc, arith, eqb-true, ltb-true}
use Rattle.std.proofs.Math.Nat.{pow-succ'}
use Rattle.std.proofs.lemmas.List.{ext_get_or}
use Rattle.bleed.proofs.BestLaws.{left_of, right_of}
use Rattle.bleed.specs.Excess.{weights, excess_at, excesses_over}
use Rattle.bleed.specs.Choice.{excess_in, may_in, better_in, best_below, best_in}

pub weights_up : (i : ℕ) → i < 15 → 0 < get_or weights i 0
weights_up i h = up weights i refl h
  where
    ups : List ℕ → Bool
    ups [] = true
    ups (w ∷ ws) = ltb 0 w && ups ws

    up : (ws : List ℕ) (i : ℕ) → ups ws ≡ true → i < length ws → 0 < get_or ws i 0
    up [] i e h = absurd (omega arith)
    up (w ∷ ws) zero e h = ltb-true 0 w (left_of (ltb 0 w) (ups ws) e)
    up (w ∷ ws) (suc i) e h = up ws i (right_of (ltb 0 w) (ups ws) e) (omega arith)

doubles : ℕ → List ℕ → Bool
doubles w [] = true
doubles w (v ∷ vs) = eqb v w && doubles (w * 2) vs

weight : (vs : List ℕ) (w i : ℕ) → doubles w vs ≡ true → i < length vs → get_or vs i 0 ≡ w * 2 ^ i
unfolding doubles
weight [] w i e h = absurd (omega arith)
weight (v ∷ vs) w zero e h = eqb-true v w (left_of (eqb v w) (doubles (w * 2) vs) e) ∙ sym (mul-one w)
weight (v ∷ vs) w (suc i) e h =
    weight vs (w * 2) i (right_of (eqb v w) (doubles (w * 2) vs) e) (omega arith)
    ∙ mul_assoc w 2 (2 ^ i) ∙ ap (λ (x : ℕ). w * x) (sym (pow-succ' 2 i))

pub weight_is : (i : ℕ) → i < 15 → get_or weights i 0 ≡ 2 ^ i
unfolding doubles
weight_is i h = let e : 1 * 2 ^ i ≡ 2 ^ i = omega arith in weight weights 1 i refl h ∙ e

-- the five inputs from a place on
abbrev group_at : List ℕ → ℕ → List ℕ
group_at e from = get_or e from 0 ∷ get_or e (from + 1) 0 ∷ get_or e (from + 2) 0 ∷ get_or e (from + 3) 0 ∷ get_or e (from + 4) 0 ∷ []

same_better : (e : List ℕ) (from b best : ℕ) → better_in (group_at e from) 0 b best ≡ better_in e from b best
unfolding better_in may_in excess_in
same_better e from b best = refl

same_below : (e : List ℕ) (from k : ℕ) → best_below (group_at e from) 0 k ≡ best_below e from k
same_below e from zero = refl
same_below e from (suc k) =
    ap (better_in (group_at e from) 0 k) (same_below e from k) ∙ same_better e from k (best_below e from k)

pub same_group : (e : List ℕ) (from : ℕ)
    → best_in (get_or e from 0 ∷ get_or e (from + 1) 0 ∷ get_or e (from + 2) 0 ∷ get_or e (from + 3) 0 ∷ get_or e (from + 4) 0 ∷ []) 0
    ≡ best_in e from
unfolding best_in
same_group e from = same_below e from 32

-- to know something of all fifteen inputs
pub fifteen : (P : ℕ → Type 0) → P 0 → P 1 → P 2 → P 3 → P 4 → P 5 → P 6 → P 7 → P 8 → P 9 → P 10 → P 11 → P 12 → P 13 → P 14
    → (i : ℕ) → i < 15 → P i
fifteen P a b c d e f g h j k l m n o p zero z = a
fifteen P a b c d e f g h j k l m n o p (suc zero) z = b
fifteen P a b c d e f g h j k l m n o p (suc (suc zero)) z = c
fifteen P a b c d e f g h j k l m n o p (suc (suc (suc zero))) z = d
fifteen P a b c d e f g h j k l m n o p (suc (suc (suc (suc zero)))) z = e
fifteen P a b c d e f g h j k l m n o p (suc (suc (suc (suc (suc zero))))) z = f
fifteen P a b c d e f g h j k l m n o p (suc (suc (suc (suc (suc (suc zero)))))) z = g
fifteen P a b c d e f g h j k l m n o p (suc (suc (suc (suc (suc (suc (suc zero))))))) z = h
fifteen P a b c d e f g h j k l m n o p (suc (suc (suc (suc (suc (suc (suc (suc zero)))))))) z = j
fifteen P a b c d e f g h j k l m n o p (suc (suc (suc (suc (suc (suc (suc (suc (suc zero))))))))) z = k
fifteen P a b c d e f g h j k l m n o p (suc (suc (suc (suc (suc (suc (suc (suc (suc (suc zero)))))))))) z = l
fifteen P a b c d e f g h j k l m n o p (suc (suc (suc (suc (suc (suc (suc (suc (suc (suc (suc zero))))))))))) z = m
fifteen P a b c d e f g h j k l m n o p (suc (suc (suc (suc (suc (suc (suc (suc (suc (suc (suc (suc zero)))))))))))) z = n
fifteen P a b c d e f g h j k l m n o p (suc (suc (suc (suc (suc (suc (suc (suc (suc (suc (suc (suc (suc zero))))))))))))) z = o
fifteen P a b c d e f g h j k l m n o p (suc (suc (suc (suc (suc (suc (suc (suc (suc (suc (suc (suc (suc (suc zero)))))))))))))) z = p
fifteen P a b c d e f g h j k l m n o p (suc (suc (suc (suc (suc (suc (suc (suc (suc (suc (suc (suc (suc (suc (suc i))))))))))))))) z =
    absurd (omega (arith, z))

-- the excess of each input
pub each_excess : (cells : List ℕ) (linked low margin i : ℕ) → i < 15
    → get_or (excesses_over cells linked low margin) i 0 ≡ excess_at cells linked low margin i
unfolding excesses_over
each_excess cells linked low margin =
    fifteen (λ i. get_or (excesses_over cells linked low margin) i 0 ≡ excess_at cells linked low margin i)
    refl refl refl refl refl refl refl refl refl refl refl refl refl refl refl

pub all_excesses : (cells : List ℕ) (linked low margin : ℕ) (xs : List ℕ) → length xs ≡ 15
    → ((i : ℕ) → i < 15 → get_or xs i 0 ≡ excess_at cells linked low margin i) → xs ≡ excesses_over cells linked low margin
unfolding excesses_over
all_excesses cells linked low margin xs e h =
    ext_get_or 0 xs (excesses_over cells linked low margin) e
    (λ i k. h i (omega arith) ∙ sym (each_excess cells linked low margin i (omega arith)))
