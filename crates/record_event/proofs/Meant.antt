-- The cases of what values mean, as the code comes to them. Assumes nothing.
use mathlib.Core.Path.{◌≡◌, refl, sym, ap, ◌∙◌, subst}
use mathlib.Core.List.{List, [], ◌∷◌, ◌++◌, map}
use Prim.Native.Nat.{ℕ, zero, suc, ◌+◌, ◌%◌, ◌^◌, ◌<◌, ◌≤◌}
use native.Mathlib.Omega.{arith}
use native.Mathlib.Numerals.{add-one}
use lib.IntN.{ℤ, pos}
use lib.ListN.{length, get_or, take, set, length-map}
use lib.Seq.{take-suc, take_all, length-take-le}
use lib.Signed.{mag}
use borrow.Author.Tests.{ne_eqb}
use Rattle.std.specs.Prelude.{Err}
use Rattle.constants.specs.Kind.{kind_of}
use Rattle.constants.specs.declared.refusal.Refusal.TheVariants.{BadKind}
use Rattle.cell_counts.specs.Scan.{padded}
use Rattle.record_numbers.specs.Values.{nat_of}
use Rattle.record_numbers.proofs.Ints.{bits_at, nat_at_lem}
use Rattle.record_event.specs.Values.{count_of}

set-padded : (n : ℕ) (xs : List ℕ) (x : ℕ) → length xs < n → set (padded n xs) (length xs) x ≡ padded n (xs ++ (x ∷ []))
set-padded zero xs x h = absurd (omega arith)
set-padded (suc n) [] x h = refl
set-padded (suc n) (y ∷ xs) x h = ap (λ (l : List ℕ). y ∷ l) (set-padded n xs x (omega arith))

map_snoc : (xs : List ℤ) (x : ℤ) → map count_of (xs ++ (x ∷ [])) ≡ map count_of xs ++ (count_of x ∷ [])
map_snoc [] x = refl
map_snoc (y ∷ xs) x = ap (λ (l : List ℕ). count_of y ∷ l) (map_snoc xs x)

-- the counts of the first values
abbrev pub counts_to : List ℤ → ℕ → List ℕ
counts_to vs i = padded 15 (map count_of (take i vs))

pub counts_more : (vs : List ℤ) (i : ℕ) → i < 15 → i < length vs → (n : ℕ) → mag (get_or vs i (pos 0)) < 2 ^ 63 → n ≡ nat_of (bits_at vs i) → set (counts_to vs i) i (n % 65536) ≡ counts_to vs (i + 1)
counts_more vs i h k n g e =
    let l : length (map count_of (take i vs)) ≡ i = length-map (take i vs) count_of ∙ length-take-le i vs (omega arith) in
    ap (λ (m : ℕ). set (counts_to vs i) i (m % 65536)) (nat_at_lem vs i n g e)
    ∙ subst (λ (j : ℕ). set (counts_to vs i) j (count_of (get_or vs i (pos 0))) ≡ padded 15 (map count_of (take i vs) ++ (count_of (get_or vs i (pos 0)) ∷ []))) l (set-padded 15 (map count_of (take i vs)) (count_of (get_or vs i (pos 0))) (omega arith))
    ∙ ap (padded 15) (sym (map_snoc (take i vs) (get_or vs i (pos 0))))
    ∙ ap (λ (l : List ℤ). padded 15 (map count_of l)) (sym (take-suc vs i (pos 0) k) ∙ ap (λ (j : ℕ). take j vs) (sym (add-one i)))

pub counts_past : (vs : List ℤ) (i : ℕ) → length vs ≤ i → counts_to vs i ≡ counts_to vs (i + 1)
counts_past vs i h = ap (λ (l : List ℤ). padded 15 (map count_of l)) (take_all i vs h ∙ sym (take_all (i + 1) vs (omega arith)))

padded-take : (n : ℕ) (xs : List ℤ) → padded n (map count_of (take n xs)) ≡ padded n (map count_of xs)
padded-take zero xs = refl
padded-take (suc n) [] = refl
padded-take (suc n) (x ∷ xs) = ap (λ (l : List ℕ). count_of x ∷ l) (padded-take n xs)

pub counts_all : (vs : List ℤ) (i : ℕ) → i ≡ 15 → counts_to vs i ≡ padded 15 (map count_of vs)
counts_all vs i e = ap (counts_to vs) e ∙ padded-take 15 vs

-- no kind is a number of more than 16 bits
pub wide_kind : (kind : ℕ) → 65536 ≤ kind → kind_of kind ≡ Err BadKind
wide_kind kind h =
    simp (
      ne_eqb kind 0x0000 (λ e. omega (arith, e)),
      ne_eqb kind 0x0001 (λ e. omega (arith, e)),
      ne_eqb kind 0x0002 (λ e. omega (arith, e)),
      ne_eqb kind 0x0003 (λ e. omega (arith, e)),
      ne_eqb kind 0x0004 (λ e. omega (arith, e)),
      ne_eqb kind 0x0005 (λ e. omega (arith, e)),
      ne_eqb kind 0x0006 (λ e. omega (arith, e)),
      ne_eqb kind 0x0007 (λ e. omega (arith, e)),
      ne_eqb kind 0x0008 (λ e. omega (arith, e)),
      ne_eqb kind 0x0009 (λ e. omega (arith, e)),
      ne_eqb kind 0x0010 (λ e. omega (arith, e)),
      ne_eqb kind 0x0011 (λ e. omega (arith, e)),
      ne_eqb kind 0x0012 (λ e. omega (arith, e)),
      ne_eqb kind 0x0013 (λ e. omega (arith, e)),
      ne_eqb kind 0x0014 (λ e. omega (arith, e)),
      ne_eqb kind 0x0015 (λ e. omega (arith, e)),
      ne_eqb kind 0x0016 (λ e. omega (arith, e)),
      ne_eqb kind 0x0017 (λ e. omega (arith, e)),
    )
