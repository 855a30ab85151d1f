-- A line's words one after the other: the first, and those after the next space. Assumes nothing.
use Rattle.std.specs.Prelude.{◌≡◌, refl, Bool, cond, not, ◌&&◌, ltb, eqb, take, drop}
use Rattle.std.proofs.Math.Path.{ap}
use Rattle.std.proofs.Common.{ap₂, sym, ◌∙◌}
use Prim.Native.Nat.{ℕ, suc, ◌+◌, ◌-◌, ◌<◌, ◌≤◌}
use mathlib.Core.List.{List, [], ◌∷◌, ◌++◌, map}
use Rattle.std.proofs.Math.Bool.{true, false}
use native.Mathlib.Omega.{arith}
use Rattle.std.proofs.Math.Dec.{leb, leb-suc-suc}
use Rattle.std.proofs.Math.ListN.{length, length-drop}
use Rattle.std.proofs.Math.Seq.{drop-drop}
use borrow.Author.Tests.{le-leb, lt-leb, lt-ltb, ltb-true, ltb-false, eqb-true}
use Rattle.i2c_words.specs.Grammar.{char_space}
use Rattle.i2c_words.specs.Reader.{word_of}
use Rattle.i2c_words.specs.declared.Word.{Word}
use Rattle.i2c_words.specs.SpacesLaws.{spaceless}
use Rattle.i2c_lists.specs.Reader.{before, cut, words_in, word_length, words_at}

-- ── the first word, by how long it is ──
unfoldable pub after : List ℕ → ℕ → List (List ℕ)
after l n = cond (ltb n (length l)) (cut (drop (suc n) l)) []

cut_by : (c : ℕ) (l : List ℕ) (t : Bool) → cut l ≡ take (word_length l) l ∷ after l (word_length l)
    → cond t ([] ∷ cut l) (before c (cut l))
    ≡ take (cond t 0 (suc (word_length l))) (c ∷ l) ∷ after (c ∷ l) (cond t 0 (suc (word_length l)))
unfolding after
cut_by c l true h = simp (lt-ltb 0 (length (c ∷ l)) (omega arith))
cut_by c l false h = rw (h, leb-suc-suc (suc (word_length l)) (length l)) refl

pub cut_first : (l : List ℕ) → cut l ≡ take (word_length l) l ∷ after l (word_length l)
unfolding after
cut_first [] = refl
cut_first (c ∷ l) = cut_by c l (eqb c char_space) (cut_first l)

pub length_within : (l : List ℕ) → word_length l ≤ length l
length_within [] = omega arith
length_within (c ∷ l) = by (eqb c char_space) (length_within l)
  where
    by : (t : Bool) → word_length l ≤ length l → cond t 0 (suc (word_length l)) ≤ length (c ∷ l)
    by true h = omega arith
    by false h = omega arith

-- ── the words at a place, and at the place after the first of them ──
map-cond : (t : Bool) (ws : List (List ℕ)) → map word_of (cond t ws []) ≡ cond t (map word_of ws) []
map-cond true ws = refl
map-cond false ws = refl

module _ (l : List ℕ) (at : ℕ) (h : at ≤ length l) where
  rest_by : (n : ℕ) (t : Bool) → ltb n (length (drop at l)) ≡ t → cond t (words_in (drop (suc n) (drop at l))) [] ≡ words_at l (at + n + 1)
  unfolding words_at
  rest_by n true e =
      let d : length (drop at l) ≡ length l - at = length-drop at l in
      let s : at + suc n ≡ at + n + 1 = omega arith in
      simp (le-leb (at + n + 1) (length l) (omega (arith, ltb-true n (length (drop at l)) e)), drop-drop (suc n) at l, s)
  rest_by n false e =
      let d : length (drop at l) ≡ length l - at = length-drop at l in
      simp (lt-leb (at + n + 1) (length l) (omega (arith, ltb-false n (length (drop at l)) e)))

  pub words_first : words_at l at ≡ word_of (take (word_length (drop at l)) (drop at l)) ∷ words_at l (at + word_length (drop at l) + 1)
  unfolding words_at after
  words_first =
      let n : ℕ = word_length (drop at l) in
      let t : leb at (length l) ≡ true = le-leb at (length l) h in
      let e : words_in (drop at l) ≡ word_of (take n (drop at l)) ∷ map word_of (after (drop at l) n) =
      ap (map word_of) (cut_first (drop at l)) in
      simp t (e
      ∙ ap (λ (xs : List Word). word_of (take n (drop at l)) ∷ xs)
      (map-cond (ltb n (length (drop at l))) (cut (drop (suc n) (drop at l))) ∙ rest_by n (ltb n (length (drop at l))) refl))

pub words_all : (l : List ℕ) → words_at l 0 ≡ words_in l
unfolding words_at
words_all l = simp (le-leb 0 (length l) (omega arith))

pub words_none : (l : List ℕ) (at : ℕ) → length l < at → words_at l at ≡ []
unfolding words_at
words_none l at h = simp (lt-leb at (length l) h)

-- ── words with a space between each two of them ──
abbrev pub joined : List ℕ → List (List ℕ) → List ℕ
joined w [] = w
joined w (v ∷ ws) = w ++ (char_space ∷ joined v ws)

-- a word with no space in it is cut off whole
clear_by : (c : ℕ) (w l : List ℕ) (t : Bool) → not t && spaceless w ≡ true → (spaceless w ≡ true → cut (w ++ (char_space ∷ l)) ≡ w ∷ cut l)
    → cond t ([] ∷ cut (w ++ (char_space ∷ l))) (before c (cut (w ++ (char_space ∷ l)))) ≡ (c ∷ w) ∷ cut l
clear_by c w l true h ih = absurd (let z : ◌≡◌ {A = ℕ} 0 1 = cc in omega arith)
clear_by c w l false h ih = ap (before c) (ih h)

pub cut_more : (w l : List ℕ) → spaceless w ≡ true → cut (w ++ (char_space ∷ l)) ≡ w ∷ cut l
cut_more [] l h = refl
cut_more (c ∷ w) l h = clear_by c w l (eqb c char_space) h (cut_more w l)

last_by : (c : ℕ) (w : List ℕ) (t : Bool) → not t && spaceless w ≡ true → (spaceless w ≡ true → cut w ≡ w ∷ [])
    → cond t ([] ∷ cut w) (before c (cut w)) ≡ (c ∷ w) ∷ []
last_by c w true h ih = absurd (let z : ◌≡◌ {A = ℕ} 0 1 = cc in omega arith)
last_by c w false h ih = ap (before c) (ih h)

pub cut_last : (w : List ℕ) → spaceless w ≡ true → cut w ≡ w ∷ []
cut_last [] h = refl
cut_last (c ∷ w) h = last_by c w (eqb c char_space) h (cut_last w)

-- what was cut joins to the line
abbrev pub joined_all : List (List ℕ) → List ℕ
joined_all [] = []
joined_all (w ∷ ws) = joined w ws

joined_front : (c : ℕ) (w : List ℕ) (ws : List (List ℕ)) → joined (c ∷ w) ws ≡ c ∷ joined w ws
joined_front c w [] = refl
joined_front c w (v ∷ ws) = refl

join_by : (c : ℕ) (l w : List ℕ) (ws : List (List ℕ)) (t : Bool) → eqb c char_space ≡ t → joined w ws ≡ l
    → joined_all (cond t ([] ∷ w ∷ ws) (before c (w ∷ ws))) ≡ c ∷ l
join_by c l w ws true e h = ap₂ (λ (x : ℕ) (r : List ℕ). x ∷ r) (sym (eqb-true c char_space e)) h
join_by c l w ws false e h = joined_front c w ws ∙ ap (λ (r : List ℕ). c ∷ r) h

pub cut_joined : (l : List ℕ) → joined_all (cut l) ≡ l
cut_joined [] = refl
cut_joined (c ∷ l) =
    let e : cut l ≡ take (word_length l) l ∷ after l (word_length l) = cut_first l in
    let h : joined (take (word_length l) l) (after l (word_length l)) ≡ l = ap joined_all (sym e) ∙ cut_joined l in
    ap (λ (ws : List (List ℕ)). joined_all (cond (eqb c char_space) ([] ∷ ws) (before c ws))) e
    ∙ join_by c l (take (word_length l) l) (after l (word_length l)) (eqb c char_space) refl h
