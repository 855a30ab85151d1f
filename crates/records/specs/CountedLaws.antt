-- Laws of the counts beside an event: as many as the payload holds, and 0 in every place after them. Assumes nothing.
use Rattle.std.specs.Prelude.{◌≡◌, refl, ℕ, suc, zero, ◌-◌, ◌*◌, ◌≤◌, List, [], ◌∷◌, ◌++◌, Bool, false, ltb, take, drop, replicate}
use Rattle.std.proofs.Common.{ap, ◌∙◌, arith, ltb-false, eq-eqb}
use Rattle.std.proofs.Math.Bool.{true}
use Rattle.std.proofs.Math.ListN.{length}
use Rattle.std.proofs.Math.Seq.{take-append_seam, drop-append_seam}
use Rattle.bits.specs.BytesLaws.{words_count}
use Rattle.bits.specs.Numbers.{within, words}
use Rattle.events.specs.Event.{counts_fit}
use Rattle.cell_counts.specs.Scan.{padded}
use Rattle.records.specs.Record.{counts_of}

none_padded : (n : ℕ) → padded n [] ≡ replicate n 0
none_padded zero = refl
none_padded (suc n) = ap (λ (l : List ℕ). 0 ∷ l) (none_padded n)

pub padded_is : (n : ℕ) (xs : List ℕ) → length xs ≤ n → padded n xs ≡ xs ++ replicate (n - length xs) 0
padded_is zero [] h = refl
padded_is zero (x ∷ xs) h = absurd (omega arith)
padded_is (suc n) [] h =
    let e : suc n ≡ suc n - 0 = omega arith in
    none_padded (suc n) ∙ ap (λ (k : ℕ). replicate k 0) e
padded_is (suc n) (x ∷ xs) h =
    let e : n - length xs ≡ suc n - suc (length xs) = omega arith in
    ap (λ (l : List ℕ). x ∷ l) (padded_is n xs (omega arith) ∙ ap (λ (k : ℕ). xs ++ replicate k 0) e)

none_within : (n : ℕ) → within 0 (replicate n 0) ≡ true
none_within zero = refl
none_within (suc n) = none_within n

-- the numbers of a list that is padded up, and what stands after them
module _ (xs : List ℕ) (h : length xs ≤ 15) where
  pub padded-take : take (length xs) (padded 15 xs) ≡ xs
  padded-take = ap (take (length xs)) (padded_is 15 xs h) ∙ take-append_seam xs (replicate (15 - length xs) 0)

  pub padded_rest : within 0 (drop (length xs) (padded 15 xs)) ≡ true
  padded_rest =
      ap (λ (l : List ℕ). within 0 (drop (length xs) l)) (padded_is 15 xs h)
      ∙ ap (within 0) (drop-append_seam xs (replicate (15 - length xs) 0)) ∙ none_within (15 - length xs)

many_by : (b : List ℕ) (n : ℕ) (t : Bool) → ltb (length b) 30 ≡ t → length b ≡ 2 * n → n ≤ 15 → (counts_of b).many ≡ n
unfolding counts_of
many_by b n true e l h = simp e (omega arith)
many_by b n false e l h = let f : 30 ≤ length b = ltb-false _ _ e in simp e (omega arith)

-- a payload of n numbers has n counts, and they fit
module _ (b : List ℕ) (n : ℕ) (l : length b ≡ 2 * n) (h : n ≤ 15) where
  pub many_is : (counts_of b).many ≡ n
  many_is = many_by b n (ltb (length b) 30) refl l h

  pub counts_fit_lem : counts_fit n (counts_of b) ≡ true
  unfolding counts_of counts_fit
  counts_fit_lem =
      let w : length (words b) ≡ n = words_count b n l in
      let z : within 0 (drop n (padded 15 (words b))) ≡ true = rw (← w) (padded_rest (words b) (omega arith)) in
      simp (eq-eqb _ _ many_is) z

  pub counts_taken : take n (counts_of b).of ≡ words b
  unfolding counts_of
  counts_taken =
      let w : length (words b) ≡ n = words_count b n l in
      rw (← w) (padded-take (words b) (omega arith))
