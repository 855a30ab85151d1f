-- The code's rows are those of CHIP W2: both ways, one look at each number below 16. Assumes nothing.
use mathlib.Core.Path.{◌≡◌, refl, sym, ap, ◌∙◌}
use mathlib.Core.Bool.{Bool, true, false, not, cond, ◌&&◌, ◌||◌, true≢false}
use mathlib.Core.List.{List, [], ◌∷◌}
use Prim.Native.Nat.{ℕ, zero, suc, ◌*◌, ◌<◌}
use native.Mathlib.Omega.{arith}
use lib.Dec.{eqb, leb, ltb}
use lib.ListN.{get_or}
use mathlib.Core.Logic.{◌≢◌}
use borrow.Author.Tests.{ne_eqb, eqb-true, eqb-false, leb-true, ltb-true}
use Rattle.events.specs.declared.Setup.{Setup}
use Rattle.events.specs.Setup.{inputs}
use Rattle.wiring.specs.Rows.{rows, has_row, shorted, is_wired, pack_cells, bits, wired_bits}
use Rattle.wiring.specs.Numbered.{setup_at}
use Rattle.wiring.proofs.Numbered.{Each, each_row, numbering, all_cells, all_bits}

-- ── the test of the code ──
abbrev pub coded : ℕ → ℕ → Bool
coded part cells =
    (eqb part 1 && leb 3 cells && leb cells 5) || (eqb part 2 && leb 6 cells && leb cells 10) || (eqb part 3 && leb 11 cells && leb cells 15)

unfoldable pub every : ℕ → (ℕ → Bool) → Bool
every zero f = true
every (suc n) f = f n && every n f

pub every_is : (n : ℕ) (f : ℕ → Bool) (i : ℕ) → every n f ≡ true → i < n → f i ≡ true
unfolding every
every_is zero f i h l = absurd (omega arith)
every_is (suc n) f i h l = by (eqb i n) refl (every_is n f i) (f n) refl h
  where
    by : (t : Bool) → eqb i n ≡ t → (every n f ≡ true → i < n → f i ≡ true) → (x : Bool) → f n ≡ x → (x && every n f) ≡ true → f i ≡ true
    by true e ih true q h = ap f (eqb-true i n e) ∙ q
    by true e ih false q h = absurd (true≢false (sym h))
    by false e ih true q h = ih h (below (eqb-false i n e))
      where
        below : (i ≡ n → ⊥) → i < n
        below k = omega (arith, k, l)
    by false e ih false q h = absurd (true≢false (sym h))

seen : every 4 (λ p. every 16 (λ c. not (coded p c) || has_row p c)) ≡ true
unfolding every has_row
seen = refl

three : (e l h : Bool) → (e && l && h) ≡ true → (e ≡ true) × (h ≡ true)
three true true true q = (refl, refl)
three true true false q = absurd (true≢false (sym q))
three true false h q = absurd (true≢false (sym q))
three false l h q = absurd (true≢false (sym q))

-- a part and a number that the test takes are small
small_by : (part cells k low most : ℕ) → k < 4 → most < 16 → (eqb part k && leb low cells && leb cells most) ≡ true → (part < 4) × (cells < 16)
small_by part cells k low most a b q =
    let t = three (eqb part k) (leb low cells) (leb cells most) q in
    (omega (arith, eqb-true part k t.0, a), omega (arith, leb-true cells most t.1, b))

small : (part cells : ℕ) → coded part cells ≡ true → (part < 4) × (cells < 16)
small part cells h =
    by (eqb part 1 && leb 3 cells && leb cells 5) (eqb part 2 && leb 6 cells && leb cells 10) (eqb part 3 && leb 11 cells && leb cells 15)
    (small_by part cells 1 3 5 (omega arith) (omega arith)) (small_by part cells 2 6 10 (omega arith) (omega arith)) (small_by part cells 3 11 15 (omega arith) (omega arith)) h
  where
    by : (x y z : Bool) → (x ≡ true → (part < 4) × (cells < 16)) → (y ≡ true → (part < 4) × (cells < 16)) → (z ≡ true → (part < 4) × (cells < 16)) → (x || y || z) ≡ true → (part < 4) × (cells < 16)
    by true y z f g k q = f refl
    by false true z f g k q = g refl
    by false false true f g k q = k refl
    by false false false f g k q = absurd (true≢false (sym q))

follows : (a b : Bool) → (not a || b) ≡ true → a ≡ true → b ≡ true
follows true b h q = h
follows false b h q = absurd (true≢false (sym q))

coded-rows : Each (λ p c. coded p c ≡ true) rows
coded-rows = (refl, (refl, (refl, (refl, (refl, (refl, (refl, (refl, (refl, (refl, (refl, (refl, (refl, tt)))))))))))))

pub coded_is : (part cells : ℕ) → coded part cells ≡ has_row part cells
coded_is part cells = by (coded part cells) (has_row part cells) forth (each_row (λ p c. coded p c ≡ true) coded-rows part cells)
  where
    forth : coded part cells ≡ true → has_row part cells ≡ true
    forth h =
        let s = small part cells h in
        follows (coded part cells) (has_row part cells)
        (every_is 16 (λ c. not (coded part c) || has_row part c) cells (every_is 4 (λ p. every 16 (λ c. not (coded p c) || has_row p c)) part seen s.0) s.1) h

    by : (a b : Bool) → (a ≡ true → b ≡ true) → (b ≡ true → a ≡ true) → a ≡ b
    by true b f g = sym (f refl)
    by false true f g = g refl
    by false false f g = refl

-- by the part
one_of : (a : Bool) → (a || false || false) ≡ a
one_of true = refl
one_of false = refl

of_part : (k low most part cells : ℕ) → part ≡ k → (leb low cells && leb cells most) ≡ has_row k cells → (leb low cells && leb cells most) ≡ has_row part cells
of_part k low most part cells e h = h ∙ ap (λ (p : ℕ). has_row p cells) (sym e)

pub row_5 : (part cells : ℕ) → part ≡ 1 → (leb 3 cells && leb cells 5) ≡ has_row part cells
row_5 part cells e = of_part 1 3 5 part cells e (sym (one_of (leb 3 cells && leb cells 5)) ∙ coded_is 1 cells)

pub row_10 : (part cells : ℕ) → part ≡ 2 → (leb 6 cells && leb cells 10) ≡ has_row part cells
row_10 part cells e = of_part 2 6 10 part cells e (sym (first_of (leb 6 cells && leb cells 10)) ∙ coded_is 2 cells)
  where
    first_of : (a : Bool) → (a || false) ≡ a
    first_of true = refl
    first_of false = refl

pub row_15 : (part cells : ℕ) → part ≡ 3 → (leb 11 cells && leb cells 15) ≡ has_row part cells
row_15 part cells e = of_part 3 11 15 part cells e (coded_is 3 cells)

pub row_none : (part cells : ℕ) → part ≢ 1 → part ≢ 2 → part ≢ 3 → has_row part cells ≡ false
row_none part cells a b c = sym (coded_is part cells) ∙ simp (ne_eqb part 1 a, ne_eqb part 2 b, ne_eqb part 3 c)

-- ── the bits of the code ──
abbrev pub table : List ℕ
table = 0 ∷ 0 ∷ 0 ∷ 0x0013 ∷ 0x0017 ∷ 0x001F ∷ 0x0273 ∷ 0x0277 ∷ 0x02F7 ∷ 0x02FF ∷ 0x03FF ∷ 0x4EF7 ∷ 0x5EF7 ∷ 0x5EFF ∷ 0x5FFF ∷ 0x7FFF ∷ []

bits_rows : Each (λ p c. get_or table c 0 ≡ wired_bits (setup_at p c)) rows
unfolding wired_bits is_wired shorted inputs
bits_rows = (refl, (refl, (refl, (refl, (refl, (refl, (refl, (refl, (refl, (refl, (refl, (refl, (refl, tt)))))))))))))

same_bits : (u : Setup) → wired_bits (setup_at u.part u.cells) ≡ wired_bits u
unfolding wired_bits is_wired inputs
same_bits u = refl

row_bits : (u : Setup) → has_row u.part u.cells ≡ true → get_or table u.cells 0 ≡ wired_bits u
row_bits u h = each_row (λ p c. get_or table c 0 ≡ wired_bits (setup_at p c)) bits_rows u.part u.cells h ∙ same_bits u

-- all inputs of a part stand where its number of inputs is that of the cells
whole_by : (part : ℕ) (t : Bool) → ltb part 3 ≡ t → get_or table (cond t (5 * part) 15) 0 ≡ bits (λ i. true) 1 (cond t (5 * part) 15)
whole_by zero true e = refl
whole_by (suc zero) true e = refl
whole_by (suc (suc zero)) true e = refl
whole_by (suc (suc (suc part))) true e = absurd (omega (arith, ltb-true (suc (suc (suc part))) 3 e))
whole_by part false e = refl

whole_bits : (u : Setup) → has_row u.part u.cells ≡ false → get_or table (inputs u) 0 ≡ wired_bits u
unfolding inputs
whole_bits u h = whole_by u.part (ltb u.part 3) refl ∙ sym (all_bits u h)

-- so the bits are where the number of cells is, with a wiring record and without
pub table_bits : (u : Setup) → get_or table (pack_cells u) 0 ≡ wired_bits u
table_bits u = by (has_row u.part u.cells) refl
  where
    by : (t : Bool) → has_row u.part u.cells ≡ t → get_or table (pack_cells u) 0 ≡ wired_bits u
    by true e = ap (λ (n : ℕ). get_or table n 0) (numbering u e).many ∙ row_bits u e
    by false e = ap (λ (n : ℕ). get_or table n 0) (all_cells u e) ∙ whole_bits u e
