-- Laws of a payload's numbers of 2 bytes. Assumes nothing.
use Rattle.std.specs.Prelude.{◌≡◌, refl, ℕ, suc, zero, ◌+◌, ◌*◌, ◌<◌, ◌≤◌, List, [], ◌∷◌, Bool, true, false, leb, length, drop}
use Rattle.std.proofs.Common.{ap, ◌∙◌, arith, add-one, not-suc-le-zero, le_of_suc-le-suc, length-drop, drop-cons, le-leb, leb-true}
use Rattle.std.proofs.Common.{leb-false}
use Rattle.std.proofs.lemmas.Bool.{lt-leb}
use Rattle.bits.specs.Numbers.{within, le16, words, word_or}
use Rattle.events.specs.Event.{count_most}
use Rattle.cell_counts.specs.Scan.{padded}

pub words_at : (b : List ℕ) (i : ℕ) → i + 2 ≤ length b → words (drop i b) ≡ le16 b i ∷ words (drop (i + 2) b)
words_at b i h =
    let two : i + 2 ≡ suc (suc i) = omega arith in
    rw (two, add-one i, drop-cons b i 0 (omega arith), drop-cons b (suc i) 0 (omega arith))

words_none : (b : List ℕ) → length b < 2 → words b ≡ []
words_none [] h = refl
words_none (x ∷ []) h = refl
words_none (x ∷ y ∷ b) h = absurd (not-suc-le-zero (le_of_suc-le-suc (le_of_suc-le-suc h)))

pub words_end : (b : List ℕ) (i : ℕ) → length b < i + 2 → words (drop i b) ≡ []
words_end b i h = words_none (drop i b) (simp length-drop (omega arith))

-- a turn of the loop over the numbers: a number out of range ends it, and one in range is passed
pub fit_not : (b : List ℕ) (i x : ℕ) → i + 2 ≤ length b → x ≡ le16 b i → count_most < x → within count_most (words (drop i b)) ≡ false
fit_not b i x h e g = simp (words_at b i h, lt-leb (le16 b i) count_most (omega arith))

pub fit_next : (b : List ℕ) (i x : ℕ) → i + 2 ≤ length b → x ≡ le16 b i → x ≤ count_most
    → within count_most (words (drop i b)) ≡ within count_most (words (drop (i + 2) b))
fit_next b i x h e g = simp (words_at b i h, le-leb (le16 b i) count_most (omega arith))

-- the numbers from the i-th on, one by one
abbrev pub words_from : ℕ → ℕ → List ℕ → List ℕ
words_from zero i b = []
words_from (suc n) i b = word_or b i ∷ words_from n (i + 1) b

from_by : (n i : ℕ) (b : List ℕ) (t : Bool) → leb (2 * i + 2) (length b) ≡ t
    → words_from n (i + 1) b ≡ padded n (words (drop (2 * i + 2) b)) → words_from (suc n) i b ≡ padded (suc n) (words (drop (2 * i) b))
unfolding word_or
from_by n i b true e ih = simp (e, words_at b (2 * i) (leb-true _ _ e)) (ap (λ (l : List ℕ). le16 b (2 * i) ∷ l) ih)
from_by n i b false e ih =
    let h : length b < 2 * i + 2 = leb-false _ _ e in
    let none : words (drop (2 * i) b) ≡ [] = words_end b (2 * i) h in
    let less : words (drop (2 * i + 2) b) ≡ [] = words_end b (2 * i + 2) (omega arith) in
    simp (e, none) (ap (λ (l : List ℕ). 0 ∷ l) (ih ∙ ap (padded n) less))

pub words_from_lem : (n i : ℕ) (b : List ℕ) → words_from n i b ≡ padded n (words (drop (2 * i) b))
words_from_lem zero i b = refl
words_from_lem (suc n) i b =
    let e : 2 * (i + 1) ≡ 2 * i + 2 = omega arith in
    from_by n i b (leb (2 * i + 2) (length b)) refl (words_from_lem n (i + 1) b ∙ ap (λ (k : ℕ). padded n (words (drop k b))) e)
