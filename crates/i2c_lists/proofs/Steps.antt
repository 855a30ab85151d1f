-- A word's end, and one word more, over plain variables. Assumes nothing.
use mathlib.Core.Path.{◌≡◌, refl, ap, ap₂, sym, ◌∙◌}
use Prim.Native.Nat.{ℕ, suc, ◌+◌, ◌-◌, ◌<◌, ◌≤◌}
use mathlib.Core.List.{List, ◌∷◌}
use mathlib.Core.Bool.{true}
use native.Mathlib.Omega.{arith}
use native.Mathlib.Numerals.{add-one}
use lib.ListN.{length, get_or, take, drop, length-drop, drop_of_length-le}
use lib.Seq.{drop-cons}
use borrow.Author.Tests.{eq-eqb, ne_eqb}
use Rattle.i2c_words.specs.Grammar.{char_space}
use Rattle.i2c_words.specs.Reader.{word_of}
use Rattle.i2c_words.specs.declared.Word.{Word}
use Rattle.i2c_lists.specs.Reader.{word_length, words_at}
use Rattle.i2c_lists.specs.CuttingLaws.{length_within, words_first, words_none}
use Rattle.i2c_lists.specs.Judging.{followed, judged_by, judged_all}
use Rattle.i2c_lists.specs.declared.Judged.{Judged}

module _ (l : List ℕ) (i : ℕ) where
  pub length_space : i < length l → get_or l i 0 ≡ char_space → word_length (drop i l) ≡ 0
  length_space h e = rw (drop-cons l i 0 h) (simp (eq-eqb (get_or l i 0) char_space e))

  pub length_next : i < length l → (get_or l i 0 ≡ char_space → ⊥) → word_length (drop i l) ≡ suc (word_length (drop (i + 1) l))
  length_next h e = rw (add-one i, drop-cons l i 0 h) (simp (ne_eqb (get_or l i 0) char_space e))

  pub length_end : length l ≤ i → word_length (drop i l) ≡ 0
  length_end h = rw (drop_of_length-le l h) refl

-- ── a turn of a loop over the words ──
module _ (l : List ℕ) (at end : ℕ) (h : at ≤ length l) (e : end ≡ at + word_length (drop at l)) where
  pub turn : words_at l at ≡ word_of (take (end - at) (drop at l)) ∷ words_at l (end + 1)
  turn =
      let n : word_length (drop at l) ≡ end - at = omega (arith, e) in
      let m : at + word_length (drop at l) + 1 ≡ end + 1 = omega (arith, e) in
      words_first l at h ∙ ap₂ (λ (n m : ℕ). word_of (take n (drop at l)) ∷ words_at l m) n m

  pub turn_within : (at ≤ end) × (end ≤ length l)
  turn_within =
      let d : length (drop at l) ≡ length l - at = length-drop at l in
      (omega (arith, e), omega (arith, e, length_within (drop at l)))

-- what the words from here on leave is what all of them leave
module _ (l : List ℕ) (at end : ℕ) (h : at ≤ length l) (e : end ≡ at + word_length (drop at l)) (j j' : Judged) (x : Word)
    (w : x ≡ word_of (take (end - at) (drop at l))) (s : j' ≡ judged_by x j) where
  pub judge_turn : judged_all (words_at l (end + 1)) j' ≡ judged_all (words_at l at) j
  judge_turn =
      ap (judged_all (words_at l (end + 1))) (s ∙ ap (λ (y : Word). judged_by y j) w)
      ∙ sym (ap (λ (xs : List Word). judged_all xs j) (turn l at end h e))

pub judge_end : (l : List ℕ) (at : ℕ) (j : Judged) → length l < at → j ≡ judged_all (words_at l at) j
judge_end l at j h = sym (ap (λ (xs : List Word). judged_all xs j) (words_none l at h))

module _ (j : Judged) (left : ℕ) (e : left ≡ j.left - 5) where
  pub follow_none : j.owed ≡ 0 → record { owed = 0; wrong = true; far = j.far; left = left } ≡ followed j
  unfolding followed
  follow_none z = simp (eq-eqb j.owed 0 z) (cc)

  pub follow_some : (j.owed ≡ 0 → ⊥) → record { owed = j.owed - 1; wrong = j.wrong; far = j.far; left = left } ≡ followed j
  unfolding followed
  follow_some z = simp (ne_eqb j.owed 0 z) (cc)
