-- CHIP E4: the choice is the best. Of all that are allowed none has a larger total excess, and of those with an equal one none is a
-- smaller number. Assumes nothing.
use Rattle.std.specs.Prelude.{◌≡◌, Bool, ◌&&◌, cond, List, ℕ, zero, suc, ◌<◌, ◌≤◌}
use Rattle.std.proofs.Math.Path.{refl, subst}
use Rattle.std.proofs.Common.{sym, ap, ◌∙◌, arith}
use Rattle.std.proofs.Math.Bool.{true, false}
use Rattle.std.proofs.Math.Dec.{T, ltb}
use borrow.Author.Tests.{ltb-true, ltb-false}
use Rattle.bleed.specs.Choice.{excess_in, may_in, better_in, best_below, best_in, chosen, number, allowed, total, made}
use Rattle.bleed.specs.declared.Choice.{Choice}

-- ── a group ──
-- b is the best of the bytes below k
record Top (e : List ℕ) (from k b : ℕ) : Type 0 where
  within : b ≤ k
  may : may_in e from b ≡ true
  most : (m : ℕ) → m < k → may_in e from m ≡ true → excess_in e from m ≤ excess_in e from b
  first : (m : ℕ) → m < k → may_in e from m ≡ true → excess_in e from m ≡ excess_in e from b → b ≤ m

pub left_of : (a b : Bool) → (a && b) ≡ true → a ≡ true
left_of true b h = refl
left_of false b h = h

pub right_of : (a b : Bool) → (a && b) ≡ true → b ≡ true
right_of true b h = h
right_of false b h = absurd (subst T (sym h) tt)

no_byte : (e : List ℕ) (from : ℕ) → may_in e from 0 ≡ true
unfolding may_in
no_byte e from = refl

-- a byte below k + 1 is k or below k
split : (m k : ℕ) → (P : Type 0) → m < suc k → (m < k → P) → (m ≡ k → P) → P
split m k P h f g = by (ltb m k) refl
  where
    by : (t : Bool) → ltb m k ≡ t → P
    by true t = f (ltb-true m k t)
    by false t = let r : k ≤ m = ltb-false m k t in g (omega arith)

module _ (e : List ℕ) (from : ℕ) where
  abbrev x : ℕ → ℕ
  x b = excess_in e from b

  taken : (k b : ℕ) → Top e from k b → may_in e from k ≡ true → x b < x k → Top e from (suc k) k
  taken k b t y h =
      record {
        within = omega arith;
        may = y;
        most = λ m l a. split m k (x m ≤ x k) l (λ p. let s : x m ≤ x b = t.most m p a in omega arith)
            (λ q. let s : x m ≡ x k = ap x q in omega arith);
        first = λ m l a q. split m k (k ≤ m) l (λ p. let s : x m ≤ x b = t.most m p a in absurd (omega arith)) (λ r. omega arith);
      }

  kept : (k b : ℕ) → Top e from k b → (may_in e from k ≡ true → x k ≤ x b) → Top e from (suc k) b
  kept k b t h =
      let w : b ≤ k = t.within in
      record {
        within = omega arith;
        may = t.may;
        most = λ m l a. split m k (x m ≤ x b) l (λ p. t.most m p a)
            (λ q. let s : x m ≡ x k = ap x q in let u : x k ≤ x b = h (ap (may_in e from) (sym q) ∙ a) in omega arith);
        first = λ m l a q. split m k (b ≤ m) l (λ p. t.first m p a q) (λ r. omega arith);
      }

  step : (k b : ℕ) → Top e from k b → Top e from (suc k) (better_in e from k b)
  unfolding better_in
  step k b t = by (may_in e from k) (ltb (x b) (x k)) refl refl
    where
      by : (m l : Bool) → may_in e from k ≡ m → ltb (x b) (x k) ≡ l → Top e from (suc k) (cond (may_in e from k && ltb (x b) (x k)) k b)
      by true true p q =
          subst (λ (v : Bool). Top e from (suc k) (cond v k b)) (sym (ap (λ (v : Bool). v && ltb (x b) (x k)) p ∙ q))
          (taken k b t p (ltb-true (x b) (x k) q))
      by true false p q =
          subst (λ (v : Bool). Top e from (suc k) (cond v k b)) (sym (ap (λ (v : Bool). v && ltb (x b) (x k)) p ∙ q))
          (kept k b t (λ a. ltb-false (x b) (x k) q))
      by false l p q =
          subst (λ (v : Bool). Top e from (suc k) (cond v k b)) (sym (ap (λ (v : Bool). v && ltb (x b) (x k)) p))
          (kept k b t (λ a. absurd (subst T (sym a ∙ p) tt)))

  tops : (k : ℕ) → Top e from k (best_below e from k)
  tops zero =
      record { within = omega arith; may = no_byte e from; most = λ m l a. absurd (omega arith); first = λ m l a q. absurd (omega arith) }
  tops (suc k) = step k (best_below e from k) (tops k)

  top : Top e from 32 (best_in e from)
  unfolding best_in
  top = tops 32

-- a byte that is allowed has five bits
five : (e : List ℕ) (from b : ℕ) → may_in e from b ≡ true → b < 32
unfolding may_in
five e from b h = ltb-true b 32 (left_of (ltb b 32) _ (left_of _ _ h))

-- ── all fifteen ──
-- THE BEST: it is allowed; no allowed choice has a larger total excess; of those with an equal one it is the smallest number
pub record Best (e : List ℕ) (c : Choice) : Type 0 where
  pub may : allowed e c ≡ true
  pub most : (d : Choice) → allowed e d ≡ true → total e d ≤ total e c
  pub least : (d : Choice) → allowed e d ≡ true → total e d ≡ total e c → number c ≤ number d

-- what is known of a choice that is allowed, group by group
group : (e : List ℕ) (from b : ℕ) → may_in e from b ≡ true
    → (excess_in e from b ≤ excess_in e from (best_in e from))
    × (excess_in e from b ≡ excess_in e from (best_in e from) → best_in e from ≤ b)
group e from b h = ((top e from).most b (five e from b h) h, (top e from).first b (five e from b h) h)

may_each : (e : List ℕ) (c : Choice) → allowed e c ≡ true
    → (may_in e 0 c.one ≡ true) × (may_in e 5 c.two ≡ true) × (may_in e 10 c.three ≡ true)
unfolding allowed
may_each e c a =
    let two : (may_in e 0 c.one && may_in e 5 c.two) ≡ true =
    left_of (may_in e 0 c.one && may_in e 5 c.two) (may_in e 10 c.three) a in (
      left_of (may_in e 0 c.one) (may_in e 5 c.two) two,
      right_of (may_in e 0 c.one) (may_in e 5 c.two) two,
      right_of (may_in e 0 c.one && may_in e 5 c.two) (may_in e 10 c.three) a,
    )

pub chosen_best : (e : List ℕ) → Best e (chosen e)
unfolding chosen allowed total
chosen_best e =
    record {
      may = rw ((top e 0).may, (top e 5).may, (top e 10).may);
      most = λ d a.
          let p = (group e 0 d.one (may_each e d a).0).0 in
          let q = (group e 5 d.two (may_each e d a).1).0 in
          let r = (group e 10 d.three (may_each e d a).2).0 in
          omega arith;
      least = λ d a h.
          let p = group e 0 d.one (may_each e d a).0 in
          let q = group e 5 d.two (may_each e d a).1 in
          let r = group e 10 d.three (may_each e d a).2 in
          let i : best_in e 0 ≤ d.one = p.1 (omega (arith, h, p.0, q.0, r.0)) in
          let j : best_in e 5 ≤ d.two = q.1 (omega (arith, h, p.0, q.0, r.0)) in
          let k : best_in e 10 ≤ d.three = r.1 (omega (arith, h, p.0, q.0, r.0)) in
          omega arith;
    }

-- each byte of an allowed choice has five bits, so that its number tells it
neither : (x y : ℕ) → (x < y → ⊥) → (y < x → ⊥) → x ≡ y
neither x y f g = by (ltb x y) (ltb y x) refl refl
  where
    by : (s t : Bool) → ltb x y ≡ s → ltb y x ≡ t → x ≡ y
    by true t p q = absurd (f (ltb-true x y p))
    by false true p q = absurd (g (ltb-true y x q))
    by false false p q = let a : y ≤ x = ltb-false x y p in let b : x ≤ y = ltb-false y x q in omega arith

told : (c d : Choice) → number c ≡ number d → (c.one < 32) × (c.two < 32) × (c.three < 32)
    → (d.one < 32) × (d.two < 32) × (d.three < 32) → c ≡ d
told c d n p q =
    let k : c.three ≡ d.three =
    neither c.three d.three (λ h. omega (arith, h, n, p.0, p.1, q.0, q.1))
    (λ h. omega (arith, h, n, p.0, p.1, q.0, q.1)) in
    let j : c.two ≡ d.two =
    neither c.two d.two (λ h. omega (arith, h, k, n, p.0, q.0)) (λ h. omega (arith, h, k, n, p.0, q.0)) in
    let i : c.one ≡ d.one = omega (arith, n, j, k) in
    ap (λ (n : ℕ). made n c.two c.three) i ∙ ap (λ (n : ℕ). made d.one n c.three) j ∙ ap (made d.one d.two) k

-- .. and there is one best alone
pub best_alone : (e : List ℕ) (c d : Choice) → Best e c → Best e d → c ≡ d
best_alone e c d p q =
    let u : total e d ≤ total e c = p.most d q.may in
    let v : total e c ≤ total e d = q.most c p.may in
    let same : total e d ≡ total e c = omega arith in
    let m : number c ≤ number d = p.least d q.may same in
    let n : number d ≤ number c = q.least c p.may (sym same) in
    told c d (omega arith) (small c p.may) (small d q.may)
  where
    small : (c : Choice) → allowed e c ≡ true → (c.one < 32) × (c.two < 32) × (c.three < 32)
    small c a = let m = may_each e c a in (five e 0 c.one m.0, five e 5 c.two m.1, five e 10 c.three m.2)
