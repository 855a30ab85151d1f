-- What the loop of `packed` has done after i numbers. Assumes nothing.
use mathlib.Core.Path.{◌≡◌, refl, sym, ap, ◌∙◌}
use mathlib.Core.Bool.{cond}
use mathlib.Core.List.{List, [], ◌∷◌, ◌++◌, append_assoc, append-nil}
use Prim.Native.Nat.{ℕ, ◌+◌, ◌/◌, ◌%◌, ◌<◌, ◌≤◌}
use native.Mathlib.Omega.{arith}
use native.Mathlib.Numerals.{add-one}
use lib.Dec.{eqb}
use lib.ListN.{length, get_or, set, drop, length-append, drop_of_length-le}
use lib.Seq.{drop-cons}
use borrow.Author.Tests.{eq-eqb, ne_eqb}
use Rattle.events.specs.declared.Counts.{Counts}
use Rattle.cell_counts.specs.Scan.{padded}
use Rattle.wiring.specs.Kept.{kept, counts_of}
use Rattle.wiring.proofs.Kept.{set_next}

pub record Packing (mask : ℕ) (xs : List ℕ) (rest : ℕ) (out : List ℕ) (many i : ℕ) : Type 0 where
  pub done : List ℕ
  pub whole : kept mask xs ≡ done ++ kept rest (drop i xs)
  pub size : length done ≡ many
  pub places : out ≡ padded 15 done
  pub few : many ≤ i

pub begin : (mask : ℕ) (xs : List ℕ) → Packing mask xs mask (padded 15 []) 0 0
begin mask xs = record { done = []; whole = refl; size = refl; places = refl; few = omega arith }

module _ (mask : ℕ) (xs : List ℕ) (rest : ℕ) (out : List ℕ) (many i : ℕ) (p : Packing mask xs rest out many i) (h : i < length xs) (l : i < 15) where
  step : kept rest (drop i xs) ≡ cond (eqb (rest % 2) 1) (get_or xs i 0 ∷ kept (rest / 2) (drop (i + 1) xs)) (kept (rest / 2) (drop (i + 1) xs))
  step = rw (drop-cons xs i 0 h, add-one i) refl

  pub taken : rest % 2 ≡ 1 → Packing mask xs (rest / 2) (set out many (get_or xs i 0)) (many + 1) (i + 1)
  taken e =
      record {
        done = p.done ++ (get_or xs i 0 ∷ []);
        whole = p.whole ∙ ap (λ (l : List ℕ). p.done ++ l) (step ∙ simp (eq-eqb (rest % 2) 1 e)) ∙ sym (append_assoc p.done (get_or xs i 0 ∷ []) (kept (rest / 2) (drop (i + 1) xs)));
        size = simp length-append (omega (arith, p.size));
        places = ap (λ (l : List ℕ). set l many (get_or xs i 0)) p.places ∙ ap (λ (n : ℕ). set (padded 15 p.done) n (get_or xs i 0)) (sym p.size) ∙ set_next 15 p.done (get_or xs i 0) (omega (arith, p.size, p.few));
        few = omega (arith, p.few);
      }

  pub passed : (rest % 2 ≡ 1 → ⊥) → Packing mask xs (rest / 2) out many (i + 1)
  passed e =
      record {
        done = p.done;
        whole = p.whole ∙ ap (λ (l : List ℕ). p.done ++ l) (step ∙ simp (ne_eqb (rest % 2) 1 e));
        size = p.size;
        places = p.places;
        few = omega (arith, p.few);
      }

pub packs : (mask : ℕ) (xs : List ℕ) (rest : ℕ) (out : List ℕ) (many i : ℕ) → Packing mask xs rest out many i → length xs ≤ i
    → ◌≡◌ {A = Counts} (record { many = many; of = out }) (counts_of (kept mask xs))
packs mask xs rest out many i p h =
    let w : kept mask xs ≡ p.done = p.whole ∙ rw (drop_of_length-le xs h, append-nil) refl in
    (λ j. record { many = sym p.size j; of = p.places j }) ∙ ap counts_of (sym w)

-- as a way of the branch left it
pub same : {mask rest i : ℕ} {xs out out' : List ℕ} {many many' : ℕ} → out ≡ out' → many ≡ many' → Packing mask xs rest out' many' i → Packing mask xs rest out many i
same e f p = record { done = p.done; whole = p.whole; size = p.size ∙ sym f; places = e ∙ p.places; few = omega (arith, p.few, f) }
