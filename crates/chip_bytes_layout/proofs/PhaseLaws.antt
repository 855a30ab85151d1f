-- A phase as its tag and two bytes, and back, both ways. Assumes nothing.
use Rattle.std.specs.Prelude.{◌≡◌, refl, Bool, true, false, cond, ◌&&◌, ℕ, eqb, leb}
use Rattle.std.proofs.Common.{sym, ap, true≢false, eqb-true, leb-true}
use Rattle.bits.specs.BoolLaws.{and_left, and_right}
use Rattle.bits.specs.BytesLaws.{bit_same}
use Rattle.bus.specs.declared.Phase.{Phase}
use Rattle.bus.specs.declared.Phase.TheVariants.{Idle, Address, Pointing, Writing, Checking, Reading, Summing}
use Rattle.chip_bytes_layout.specs.Layout.{tag_of, first_of, second_of, phase_of, phase_good}
use Rattle.chip_bytes_layout.specs.ListedLaws.{bit_small, bit_forth}

pub phase_back : (p : Phase) → phase_of (tag_of p) (first_of p) (second_of p) ≡ p
unfolding phase_of
phase_back Idle = refl
phase_back Address = refl
phase_back (Pointing s) = refl
phase_back (Writing s) = refl
phase_back (Checking v s) = refl
phase_back (Reading s k) = ap (Reading s) (bit_same k)
phase_back (Summing k) = ap Summing (bit_same k)

pub phase_good_lem : (p : Phase) → phase_good (tag_of p) (first_of p) (second_of p) ≡ true
unfolding phase_good
phase_good_lem Idle = refl
phase_good_lem Address = refl
phase_good_lem (Pointing s) = refl
phase_good_lem (Writing s) = refl
phase_good_lem (Checking v s) = refl
phase_good_lem (Reading s k) = bit_small k
phase_good_lem (Summing k) = simp (bit_small k)

-- ── bytes that are a phase are its own ──
pub record Same (t x y : ℕ) (p : Phase) : Type 0 where
  pub tag : tag_of p ≡ t
  pub first : first_of p ≡ x
  pub second : second_of p ≡ y

module _ (t x y : ℕ) where
  zero_is : (n : ℕ) → eqb n 0 ≡ true → 0 ≡ n
  zero_is n e = sym (eqb-true n 0 e)

  forth_by : (a b c d e f g : Bool)
      → (a ≡ true → t ≡ 0) → (b ≡ true → t ≡ 1) → (c ≡ true → t ≡ 2) → (d ≡ true → t ≡ 3)
      → (e ≡ true → t ≡ 4) → (f ≡ true → t ≡ 5) → (g ≡ true → t ≡ 6)
      → cond a (eqb x 0 && eqb y 0) (cond b (eqb x 0 && eqb y 0)
      (cond c (eqb y 0) (cond d (eqb y 0) (cond e true (cond f (leb y 1) (cond g (leb x 1 && eqb y 0) false)))))) ≡ true
      → Same t x y (cond a Idle (cond b Address
      (cond c (Pointing x) (cond d (Writing x) (cond e (Checking x y) (cond f (Reading x (eqb y 1)) (Summing (eqb x 1))))))))
  forth_by true b c d e f g ia ib ic id ie if ig h =
      let e : eqb x 0 && eqb y 0 ≡ true = h in
      record { tag = sym (ia refl); first = zero_is x (and_left _ _ e); second = zero_is y (and_right (eqb x 0) (eqb y 0) h) }
  forth_by false true c d e f g ia ib ic id ie if ig h =
      let e : eqb x 0 && eqb y 0 ≡ true = h in
      record { tag = sym (ib refl); first = zero_is x (and_left _ _ e); second = zero_is y (and_right (eqb x 0) (eqb y 0) h) }
  forth_by false false true d e f g ia ib ic id ie if ig h = record { tag = sym (ic refl); first = refl; second = zero_is y h }
  forth_by false false false true e f g ia ib ic id ie if ig h = record { tag = sym (id refl); first = refl; second = zero_is y h }
  forth_by false false false false true f g ia ib ic id ie if ig h = record { tag = sym (ie refl); first = refl; second = refl }
  forth_by false false false false false true g ia ib ic id ie if ig h =
      record { tag = sym (if refl); first = refl; second = bit_forth y (leb-true y 1 h) }
  forth_by false false false false false false true ia ib ic id ie if ig h =
      let b : leb x 1 ≡ true = and_left (leb x 1) (eqb y 0) h in
      record { tag = sym (ig refl); first = bit_forth x (leb-true x 1 b); second = zero_is y (and_right (leb x 1) (eqb y 0) h) }
  forth_by false false false false false false false ia ib ic id ie if ig h = absurd (true≢false (sym h))

  pub phase_forth : phase_good t x y ≡ true → Same t x y (phase_of t x y)
  unfolding phase_good phase_of
  phase_forth h =
      forth_by (eqb t 0) (eqb t 1) (eqb t 2) (eqb t 3) (eqb t 4) (eqb t 5) (eqb t 6)
      (eqb-true t 0) (eqb-true t 1) (eqb-true t 2) (eqb-true t 3) (eqb-true t 4) (eqb-true t 5) (eqb-true t 6) h
