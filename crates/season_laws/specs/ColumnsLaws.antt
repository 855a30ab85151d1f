-- The columns of a report settle it, and what is said of a result beside the report that was settles the result (CHIP O2). Assumes nothing.
use Rattle.std.specs.Prelude.{◌≡◌, refl, Bool, true, false, List, [], ◌∷◌, map, ℕ, Result, Ok, Err}
use Rattle.std.proofs.Common.{sym, ap, ◌∙◌, true≢false}
use Rattle.constants.proofs.RefusalLaws.{same_refusal, no_zero}
use Rattle.constants.specs.declared.refusal.Refusal.{Refusal}
use Rattle.season.specs.declared.Mark.{Mark}
use Rattle.season.specs.declared.Linked.{Linked as OneLinked}
use Rattle.season.specs.declared.Input.{Input}
use Rattle.season.specs.declared.Season.{Season as Kept}
use Rattle.season.specs.Columns.{Season, Reported, in_columns, reported, reported_as, refused_by}

head_or : ℕ → List ℕ → ℕ
head_or d [] = d
head_or d (x ∷ xs) = x

tail_of : List ℕ → List ℕ
tail_of [] = []
tail_of (x ∷ xs) = xs

-- two inputs with the same six numbers
same_input : (a b : Input) → a.least.count ≡ b.least.count → a.least.scan ≡ b.least.scan → a.greatest.count ≡ b.greatest.count
    → a.greatest.scan ≡ b.greatest.scan → a.sum ≡ b.sum → a.linked.scans ≡ b.linked.scans → a.linked.sum ≡ b.linked.sum → a ≡ b
same_input a b lc ls gc gs s ks ku = λ j. record {
  least = record { count = lc j; scan = ls j };
  greatest = record { count = gc j; scan = gs j };
  sum = s j;
  linked = record { scans = ks j; sum = ku j };
}

some : List ℕ → Bool
some [] = false
some (x ∷ xs) = true

same_inputs : (xs ys : List Input) → map (λ i. i.least.count) xs ≡ map (λ i. i.least.count) ys
    → map (λ i. i.least.scan) xs ≡ map (λ i. i.least.scan) ys
    → map (λ i. i.greatest.count) xs ≡ map (λ i. i.greatest.count) ys → map (λ i. i.greatest.scan) xs ≡ map (λ i. i.greatest.scan) ys
    → map (λ i. i.sum) xs ≡ map (λ i. i.sum) ys → map (λ i. i.linked.scans) xs ≡ map (λ i. i.linked.scans) ys
    → map (λ i. i.linked.sum) xs ≡ map (λ i. i.linked.sum) ys → xs ≡ ys
unfolding some head_or tail_of
same_inputs [] [] lc ls gc gs s ks ku = refl
same_inputs [] (y ∷ ys) lc ls gc gs s ks ku = absurd (true≢false (sym (ap some s)))
same_inputs (x ∷ xs) [] lc ls gc gs s ks ku = absurd (true≢false (ap some s))
same_inputs (x ∷ xs) (y ∷ ys) lc ls gc gs s ks ku =
    let first : x ≡ y =
    same_input x y (ap (head_or 0) lc) (ap (head_or 0) ls) (ap (head_or 0) gc) (ap (head_or 0) gs) (ap (head_or 0) s)
    (ap (head_or 0) ks) (ap (head_or 0) ku) in
    let rest : xs ≡ ys =
    same_inputs xs ys (ap tail_of lc) (ap tail_of ls) (ap tail_of gc) (ap tail_of gs) (ap tail_of s) (ap tail_of ks) (ap tail_of ku) in
    λ j. first j ∷ rest j

pub same_columns : (a b : Kept) → in_columns a ≡ in_columns b → a ≡ b
same_columns a b e =
    let same : a.inputs ≡ b.inputs =
    same_inputs a.inputs b.inputs (ap (λ (s : Season). s.least.count) e) (ap (λ (s : Season). s.least.scan) e)
    (ap (λ (s : Season). s.greatest.count) e) (ap (λ (s : Season). s.greatest.scan) e) (ap (λ (s : Season). s.sum) e)
    (ap (λ (s : Season). s.linked.scans) e) (ap (λ (s : Season). s.linked.sum) e) in
    λ j. record {
      part = (e j).part;
      gain_code = (e j).gain_code;
      offset = (e j).offset;
      cells = (e j).cells;
      floor = (e j).floor;
      scans = (e j).scans;
      inputs = same j;
    }

pub same_reported : (was : Season) (r s : Result Kept Refusal) → reported_as was r ≡ reported_as was s → r ≡ s
same_reported was (Ok x) (Ok y) e = ap Ok (same_columns x y (ap (λ (r : Reported). r.season) e))
same_reported was (Ok x) (Err w) e = absurd (no_zero w (sym (ap (λ (r : Reported). r.number) e)))
same_reported was (Err v) (Ok y) e = absurd (no_zero v (ap (λ (r : Reported). r.number) e))
same_reported was (Err v) (Err w) e = ap Err (same_refusal v w (ap (λ (r : Reported). r.number) e))

-- and of one that was changed in its place
same_answer : (r s : Result Unit Refusal) → refused_by r ≡ refused_by s → r ≡ s
same_answer (Ok u) (Ok v) e = refl
same_answer (Ok u) (Err w) e = absurd (no_zero w (sym e))
same_answer (Err v) (Ok u) e = absurd (no_zero v e)
same_answer (Err v) (Err w) e = ap Err (same_refusal v w e)

pub same_lent : {told : Reported} (r s : Result Unit Refusal) (a b : Kept) → reported (refused_by r) (in_columns a) ≡ told
    → reported (refused_by s) (in_columns b) ≡ told → (r ≡ s) × (a ≡ b)
same_lent r s a b p q =
    let e = p ∙ sym q in
    (same_answer r s (ap (λ (t : Reported). t.number) e), same_columns a b (ap (λ (t : Reported). t.season) e))
