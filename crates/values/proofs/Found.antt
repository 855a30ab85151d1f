-- What a loop over the counts has found: a fold takes one more, and the voltages keep their sizes. Assumes nothing.
use mathlib.Core.Path.{◌≡◌, refl, sym, ap, ◌∙◌}
use mathlib.Core.List.{List, [], ◌∷◌, ◌++◌, map, map-append}
use mathlib.Core.Bool.{Bool, true, false, cond}
use Prim.Native.Nat.{ℕ, ◌+◌, ◌*◌, ◌<◌, ◌≤◌, min}
use native.Mathlib.Numerals.{add-one}
use native.Mathlib.Omega.{arith}
use lib.ListN.{length, length-take, get_or, take}
use lib.Seq.{take-suc, take_all}
use lib.IntN.{ℤ, pos, nat_abs, ◌+ℤ◌}
use lib.Signed.{lt_z}
use lib.Dec.{ltb}
use borrow.Author.Tests.{ltb-true, ltb-false}
use mir.Val.{Fits}
use mir.Syntax.{w8, w16}
use Rattle.values.specs.Values.{cell_microvolts, cc_hundredths, gain}
use Rattle.values.specs.Double.{IsDouble}
use Rattle.values.proofs.Exact.{moved}
use Rattle.values.specs.declared.Reading.{Reading}
use Rattle.values.specs.Forecast.{fold, lesser, greater, voltages, first_of, IsReading}
use Rattle.values.proofs.Within.{lit, own, abs_add, plus, times, signed}

fold-append : (f : ℤ → ℤ → ℤ) (z : ℤ) (l : List ℤ) (v : ℤ) → fold f z (l ++ (v ∷ [])) ≡ f (fold f z l) v
unfolding fold
fold-append f z [] v = refl
fold-append f z (x ∷ l) v = fold-append f (f z x) l v

pub fold_more : (f : ℤ → ℤ → ℤ) (z : ℤ) (g : ℕ → ℤ) (l : List ℕ) (i : ℕ) → i < length l
    → fold f z (map g (take (i + 1) l)) ≡ f (fold f z (map g (take i l))) (g (get_or l i 0))
fold_more f z g l i h = rw (add-one, take-suc l i 0) (simp map-append (fold-append f z (map g (take i l)) (g (get_or l i 0))))

-- a cell's voltage is at most this in size, at every gain code, offset and count
abbrev pub most : ℕ
most = 599 * 65535 + 1000 * 128

pub cell_size : (g b n : ℕ) → Fits w8 g → Fits w8 b → Fits w16 n → nat_abs (cell_microvolts g b n) ≤ most
cell_size g b n h f k =
    (plus (times (own 599 (pos (gain g)) (omega arith)) (own 65535 (pos n) (omega arith))) (times (lit 1000) (signed f refl))).size

pub cond_size : (t : Bool) (a b : ℤ) {k : ℕ} → nat_abs a ≤ k → nat_abs b ≤ k → nat_abs (cond t a b) ≤ k
cond_size true a b p q = p
cond_size false a b p q = q

-- what a loop has found of the counts that it has seen, and the sizes
pub record Found (g b : ℕ) (first : ℤ) (seen : List ℕ) (least greatest total : ℤ) : Type 0 where
  pub low : least ≡ fold lesser first (voltages g b seen)
  pub high : greatest ≡ fold greater first (voltages g b seen)
  pub sum : total ≡ fold ◌+ℤ◌ (pos 0) (voltages g b seen)
  pub low_size : nat_abs least ≤ most
  pub high_size : nat_abs greatest ≤ most
  pub sum_size : nat_abs total ≤ most * length seen

module _ {g b : ℕ} (fg : Fits w8 g) (fb : Fits w8 b) where
  pub none : (counts : List ℕ) → Fits w16 (get_or counts 0 0) → {x : ℤ} → x ≡ first_of g b counts
      → Found g b (first_of g b counts) [] x x (pos 0)
  unfolding fold
  none counts fn e =
      let size : nat_abs (first_of g b counts) ≤ most = cell_size g b (get_or counts 0 0) fg fb fn in
      record {
        low = e;
        high = e;
        sum = refl;
        low_size = rw e size;
        high_size = rw e size;
        sum_size = omega arith;
      }

  module _ (s : List ℕ) (i : ℕ) (h : i < length s) (fn : Fits w16 (get_or s i 0)) {first least greatest total : ℤ}
      (found : Found g b first (take i s) least greatest total) where
    abbrev v : ℤ
    v = cell_microvolts g b (get_or s i 0)

    pub more : {x y z : ℤ} → x ≡ lesser least v → y ≡ greater greatest v → z ≡ total +ℤ v → Found g b first (take (i + 1) s) x y z
    more ex ey ez =
        let size : nat_abs v ≤ most = cell_size g b (get_or s i 0) fg fb fn in
        record {
          low = ex ∙ ap (λ (s : ℤ). lesser s v) found.low ∙ sym (fold_more lesser _ (cell_microvolts g b) s i h);
          high = ey ∙ ap (λ (s : ℤ). greater s v) found.high ∙ sym (fold_more greater _ (cell_microvolts g b) s i h);
          sum = ez ∙ ap (λ (s : ℤ). s +ℤ v) found.sum ∙ sym (fold_more ◌+ℤ◌ _ (cell_microvolts g b) s i h);
          low_size = rw ex (cond_size (lt_z v least) v least size found.low_size);
          high_size = rw ey (cond_size (lt_z v greatest) greatest v found.high_size size);
          sum_size = rw ez (omega (arith, abs_add total v, size, found.sum_size, length-take {A = ℕ}));
        }

-- the places that a clamped number takes are those that the number takes
take_min : (many : ℕ) (counts : List ℕ) → length counts ≡ 15 → take (min many 15) counts ≡ take many counts
take_min many counts e = go (ltb many 15) refl
  where
    go : (t : Bool) → ltb many 15 ≡ t → take (min many 15) counts ≡ take many counts
    go true q = let h : min many 15 ≡ many = omega (arith, ltb-true many 15 q) in rw h
    go false q = take_all (min many 15) counts (omega (arith, ltb-false many 15 q)) ∙ sym (take_all many counts (omega (arith, ltb-false many 15 q)))

-- at the end, the reading
pub done : {g b n i many : ℕ} {counts : List ℕ} {least greatest total : ℤ} {word : ℕ} {r : Reading}
    → Found g b (first_of g b counts) (take i (take n counts)) least greatest total → length (take n counts) ≤ i → n ≡ min many 15 → length counts ≡ 15
    → IsDouble r.least least → IsDouble r.greatest greatest → IsDouble r.total total → IsDouble r.cc (cc_hundredths word) → IsReading g b many counts word r
done {g} {b} {n} {i} {many} {counts} found h m e l u t w =
    let all : take i (take n counts) ≡ take many counts = take_all i (take n counts) h ∙ ap (λ (n : ℕ). take n counts) m ∙ take_min many counts e in
    record {
      least = moved l (found.low ∙ ap (λ (s : List ℕ). fold lesser (first_of g b counts) (voltages g b s)) all);
      greatest = moved u (found.high ∙ ap (λ (s : List ℕ). fold greater (first_of g b counts) (voltages g b s)) all);
      total = moved t (found.sum ∙ ap (λ (s : List ℕ). fold ◌+ℤ◌ (pos 0) (voltages g b s)) all);
      current = w;
    }
