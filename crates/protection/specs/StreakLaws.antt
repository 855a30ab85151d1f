-- CHIP J9: a run counter that stops at a cap tells of the verdicts that it counts whether the newest ones are all true. Assumes nothing.
use Rattle.std.specs.Prelude.{◌≡◌, refl, Bool, true, false, ◌↔◌, ℕ, zero, suc, ◌≤◌, ◌<◌, min, take, replicate, leb}
use Rattle.std.proofs.Common.{sym, ap, ◌∙◌, arith, le-leb, leb-true, leb-false}
use mathlib.Core.List.{List, [], ◌∷◌, ◌++◌, tail}
use Rattle.std.proofs.Math.Nat.{min-zero}
use Rattle.std.proofs.Math.Dec.{leb-zero, leb-suc-zero, leb-suc-suc}
use Rattle.std.proofs.lemmas.Bool.{lt-leb}
use Rattle.protection.specs.Streak.{last_all, streak, bump, bumps}

-- the counter is the streak, cut at the cap
pub bump-streak : (cap : ℕ) (b : Bool) (l : List Bool) → bump cap b (min cap (streak l)) ≡ min cap (streak (b ∷ l))
bump-streak cap true l = omega arith
bump-streak cap false l = sym (min-zero cap)

pub bumps-streak : (cap : ℕ) (new l : List Bool) → bumps cap new (min cap (streak l)) ≡ min cap (streak (new ++ l))
bumps-streak cap [] l = refl
bumps-streak cap (b ∷ new) l = ap (bump cap b) (bumps-streak cap new l) ∙ bump-streak cap b (new ++ l)

-- and a streak of n is the newest n all true
pub leb-streak : (n : ℕ) (l : List Bool) → leb n (streak l) ≡ last_all n l
leb-streak zero l = leb-zero (streak l)
leb-streak (suc n) [] = leb-suc-zero n
leb-streak (suc n) (true ∷ l) = leb-suc-suc n (streak l) ∙ leb-streak n l
leb-streak (suc n) (false ∷ l) = leb-suc-zero n

leb-min : (n cap r : ℕ) → n ≤ cap → leb n (min cap r) ≡ leb n r
leb-min n cap r h = by (leb n r) refl
  where
    by : (t : Bool) → leb n r ≡ t → leb n (min cap r) ≡ t
    by true e = let f : n ≤ r = leb-true n r e in le-leb n (min cap r) (omega arith)
    by false e = let f : r < n = leb-false n r e in lt-leb n (min cap r) (omega arith)

-- THE LEMMA: a counter cut at the cap tells of each n up to the cap whether the newest n verdicts are all true
pub counts : (n cap : ℕ) (l : List Bool) → n ≤ cap → leb n (min cap (streak l)) ≡ last_all n l
counts n cap l h = leb-min n cap (streak l) h ∙ leb-streak n l

-- the reading of `last_all`, with the library's own words
pub last_all_is : (n : ℕ) (l : List Bool) → (last_all n l ≡ true) ↔ (take n l ≡ replicate n true)
last_all_is n l = (down n l, up n l)
  where
    down : (n : ℕ) (l : List Bool) → last_all n l ≡ true → take n l ≡ replicate n true
    down zero l e = refl
    down (suc n) [] e = cc
    down (suc n) (true ∷ l) e = ap (◌∷◌ true) (down n l e)
    down (suc n) (false ∷ l) e = cc

    up : (n : ℕ) (l : List Bool) → take n l ≡ replicate n true → last_all n l ≡ true
    up zero l e = refl
    up (suc n) [] e = cc
    up (suc n) (true ∷ l) e = up n l (ap tail e)
    up (suc n) (false ∷ l) e = cc
