-- Judged word by word, a line has the number that its list has. Assumes nothing.
use Rattle.std.specs.Prelude.{◌≡◌, refl, ℕ, zero, suc, ◌+◌, ◌-◌, ◌≤◌, List, [], ◌∷◌, ◌++◌, Bool, true, false, not, cond, ◌&&◌, ◌||◌, leb}
use Rattle.std.specs.Prelude.{eqb, length}
use Rattle.std.proofs.Common.{ap, ap₂, sym, ◌∙◌, arith, le-leb, leb-true, leb-false, eqb-true}
use Rattle.std.proofs.Math.Bool.{or-true}
use Rattle.std.proofs.Math.Dec.{eqb-suc-zero}
use Rattle.std.proofs.lemmas.Bool.{lt-leb, eqb-false}
use Rattle.events.specs.declared.BusEvent.TheVariants.{Stop}
use Rattle.i2c_words.specs.declared.Word.{Word}
use Rattle.i2c_words.specs.declared.Word.TheVariants.{Write, Read, Byte, Unknown}
use Rattle.i2c_lists.specs.Grammar.{Message, words_of}
use Rattle.i2c_lists.specs.Reader.{words_in, words_at, whole, heard, Listing, lists, none, listed, list_in}
use Rattle.i2c_lists.specs.CuttingLaws.{words_all}
use Rattle.i2c_lists.specs.ExactLaws.{words_again}
use Rattle.i2c_lists.specs.Records.{near, all_near, events_of, records_of, bytes_of, number_for}
use Rattle.i2c_lists.specs.Judging.{fresh, followed, judged_by, judged_all, number_in}
use Rattle.i2c_lists.specs.WordingLaws.{on_words}
use Rattle.i2c_lists.proofs.WordingLaws.{near_words, size_all, events_words, near_words_lem, list_size}
use Rattle.i2c_lists.specs.declared.Judged.{Judged}

-- ── three looks at what all the words leave ──
or-and : (w e h : Bool) → ((w || not e) || not h) ≡ (w || not (e && h))
or-and true e h = refl
or-and false true h = refl
or-and false false h = refl

bad : Judged → Bool
bad j = j.wrong || not (eqb j.owed 0)

whole_none : (o : ℕ) → whole o [] ≡ eqb o 0
whole_none zero = refl
whole_none (suc o) = sym (eqb-suc-zero o)

whole_write : (o n a : ℕ) (xs : List Word) → whole o (Write n a ∷ xs) ≡ (eqb o 0 && whole n xs)
whole_write zero n a xs = refl
whole_write (suc o) n a xs = simp (eqb-suc-zero o)

whole_read : (o n a : ℕ) (xs : List Word) → whole o (Read n a ∷ xs) ≡ (eqb o 0 && whole 0 xs)
whole_read zero n a xs = refl
whole_read (suc o) n a xs = simp (eqb-suc-zero o)

whole_unknown : (o : ℕ) (xs : List Word) → whole o (Unknown ∷ xs) ≡ false
whole_unknown zero xs = refl
whole_unknown (suc o) xs = refl

follow_whole : (j : Judged) (b : ℕ) (xs : List Word) (t : Bool) → eqb j.owed 0 ≡ t
    → ((followed j).wrong || not (whole (followed j).owed xs)) ≡ (j.wrong || not (whole j.owed (Byte b ∷ xs)))
unfolding followed
follow_whole j b xs true e =
    let z : whole j.owed (Byte b ∷ xs) ≡ false = ap (λ (o : ℕ). whole o (Byte b ∷ xs)) (eqb-true j.owed 0 e) in
    simp (e, z) (sym (or-true j.wrong))
follow_whole j b xs false e =
    let n : (j.owed ≡ 0 → ⊥) = eqb-false j.owed 0 e in
    let s : j.owed ≡ suc (j.owed - 1) = omega arith in
    let z : whole j.owed (Byte b ∷ xs) ≡ whole (j.owed - 1) xs = ap (λ (o : ℕ). whole o (Byte b ∷ xs)) s in
    simp (e, z)

wrong_all : (xs : List Word) (j : Judged) → bad (judged_all xs j) ≡ (j.wrong || not (whole j.owed xs))
unfolding bad
wrong_all [] j = ap (λ (t : Bool). j.wrong || not t) (sym (whole_none j.owed))
wrong_all (Write n a ∷ xs) j =
    wrong_all xs (judged_by (Write n a) j) ∙ or-and j.wrong (eqb j.owed 0) (whole n xs)
    ∙ ap (λ (t : Bool). j.wrong || not t) (sym (whole_write j.owed n a xs))
wrong_all (Read n a ∷ xs) j =
    wrong_all xs (judged_by (Read n a) j) ∙ or-and j.wrong (eqb j.owed 0) (whole 0 xs)
    ∙ ap (λ (t : Bool). j.wrong || not t) (sym (whole_read j.owed n a xs))
wrong_all (Byte b ∷ xs) j = wrong_all xs (followed j) ∙ follow_whole j b xs (eqb j.owed 0) refl
wrong_all (Unknown ∷ xs) j =
    wrong_all xs (judged_by Unknown j) ∙ sym (ap (λ (t : Bool). j.wrong || not t) (whole_unknown j.owed xs) ∙ or-true j.wrong)

follow_far : (j : Judged) (t : Bool) → eqb j.owed 0 ≡ t → ((followed j).far ≡ j.far) × ((followed j).left ≡ j.left - 5)
unfolding followed
follow_far j true e = (simp e, simp e)
follow_far j false e = (simp e, simp e)

far_all : (xs : List Word) (j : Judged) → (judged_all xs j).far ≡ (j.far || not (near_words xs))
far_all [] j = or-false j.far
  where
    or-false : (t : Bool) → t ≡ (t || false)
    or-false true = refl
    or-false false = refl
far_all (Write n a ∷ xs) j = far_all xs (judged_by (Write n a) j) ∙ or-and j.far (near a) (near_words xs)
far_all (Read n a ∷ xs) j = far_all xs (judged_by (Read n a) j) ∙ or-and j.far (near a) (near_words xs)
far_all (Byte b ∷ xs) j = far_all xs (followed j) ∙ ap (λ (t : Bool). t || not (near_words xs)) (follow_far j (eqb j.owed 0) refl).0
far_all (Unknown ∷ xs) j = far_all xs (judged_by Unknown j)

left_all : (xs : List Word) (j : Judged) → (judged_all xs j).left ≡ j.left - size_all xs
left_all [] j = omega arith
left_all (Write n a ∷ xs) j = left_all xs (judged_by (Write n a) j) ∙ omega arith
left_all (Read n a ∷ xs) j = left_all xs (judged_by (Read n a) j) ∙ omega arith
left_all (Byte b ∷ xs) j = left_all xs (followed j) ∙ omega (arith, (follow_far j (eqb j.owed 0) refl).1)
left_all (Unknown ∷ xs) j = left_all xs (judged_by Unknown j) ∙ omega arith

-- ── the number ──
number_by : (w e : Bool) (n : ℕ) → cond w 20 (cond e n 20) ≡ cond (w || not e) 20 n
number_by true e n = refl
number_by false true n = refl
number_by false false n = refl

number_of : (j : Judged) → number_in j ≡ cond (bad j) 20 (cond j.far 21 (cond (leb j.left 4) 5 0))
unfolding number_in bad
number_of j = number_by j.wrong (eqb j.owed 0) (cond j.far 21 (cond (leb j.left 4) 5 0))

fits_by : (s room : ℕ) (t : Bool) → leb (s + 4) room ≡ t → leb (room + 1 - s) 4 ≡ not t
fits_by s room true e = lt-leb (room + 1 - s) 4 (omega (arith, leb-true (s + 4) room e))
fits_by s room false e = le-leb (room + 1 - s) 4 (omega (arith, leb-false (s + 4) room e))

pick_by : (n t : Bool) → ◌≡◌ {A = ℕ} (cond (not n) 21 (cond (not t) 5 0)) (cond n (cond t 0 5) 21)
pick_by true true = refl
pick_by true false = refl
pick_by false t = refl

listed_by : (xs : List Word) (room : ℕ) (t : Bool) → whole 0 xs ≡ t
    → cond (not t) 20 (cond (not (near_words xs)) 21 (cond (leb (room + 1 - size_all xs) 4) 5 0))
    ≡ number_for (cond t (lists (heard xs).messages) none) room
listed_by xs room false e = refl
listed_by xs room true e =
    let w : words_of (heard xs).messages ≡ xs = words_again xs e in
    let n : all_near (heard xs).messages ≡ near_words xs = near_words_lem (heard xs).messages ∙ ap near_words w in
    let l : length (records_of (events_of (heard xs).messages)) ≡ size_all xs + 4 =
    list_size (heard xs).messages ∙ ap (λ (ys : List Word). size_all ys + 4) w in
    let f : leb (room + 1 - size_all xs) 4 ≡ not (leb (size_all xs + 4) room) =
    fits_by (size_all xs) room (leb (size_all xs + 4) room) refl in
    ap (λ (t : Bool). cond (not (near_words xs)) 21 (cond t 5 0)) f
    ∙ pick_by (near_words xs) (leb (size_all xs + 4) room)
    ∙ sym (ap₂ (λ (t : Bool) (k : ℕ). cond t (cond (leb k room) 0 5) 21) n l)

pub number_is : (line : List ℕ) (room : ℕ) → number_in (judged_all (words_at line 0) (fresh room)) ≡ number_for (list_in line) room
unfolding list_in
number_is line room =
    let xs : List Word = words_in line in
    let j : Judged = judged_all xs (fresh room) in
    ap (λ (ys : List Word). number_in (judged_all ys (fresh room))) (words_all line)
    ∙ number_of j
    ∙ ap (λ (t : Bool). cond t 20 (cond j.far 21 (cond (leb j.left 4) 5 0))) (wrong_all xs (fresh room))
    ∙ ap (λ (t : Bool). cond (not (whole 0 xs)) 20 (cond t 21 (cond (leb j.left 4) 5 0))) (far_all xs (fresh room))
    ∙ ap (λ (l : ℕ). cond (not (whole 0 xs)) 20 (cond (not (near_words xs)) 21 (cond (leb l 4) 5 0))) (left_all xs (fresh room))
    ∙ listed_by xs room (whole 0 xs) refl

-- ── a line that is not refused ──
accept_by : (n t : Bool) → ◌≡◌ {A = ℕ} (cond n (cond t 0 5) 21) 0 → (n ≡ true) × (t ≡ true)
accept_by true true h = (refl, refl)
accept_by true false h = absurd (omega (arith, h))
accept_by false t h = absurd (omega (arith, h))

pub record Accepted (line : List ℕ) (room : ℕ) : Type 0 where
  pub near : near_words (words_in line) ≡ true
  pub bytes : bytes_of (list_in line) ≡ records_of (on_words (words_in line) ++ (Stop ∷ []))
  pub fits : length (bytes_of (list_in line)) ≤ room

accepted_by : (xs : List Word) (room : ℕ) (t : Bool) → whole 0 xs ≡ t → number_for (cond t (lists (heard xs).messages) none) room ≡ 0
    → (near_words xs ≡ true) × (bytes_of (cond t (lists (heard xs).messages) none) ≡ records_of (on_words xs ++ (Stop ∷ [])))
    × (length (bytes_of (cond t (lists (heard xs).messages) none)) ≤ room)
accepted_by xs room false e h = absurd (omega (arith, h))
accepted_by xs room true e h =
    let ms : List Message = (heard xs).messages in
    let w : words_of ms ≡ xs = words_again xs e in
    let a : (all_near ms ≡ true) × (leb (length (records_of (events_of ms))) room ≡ true) =
    accept_by (all_near ms) (leb (length (records_of (events_of ms))) room) h in (
      ap near_words (sym w) ∙ sym (near_words_lem ms) ∙ a.0,
      ap records_of (events_words ms ∙ ap (λ (ys : List Word). on_words ys ++ (Stop ∷ [])) w),
      leb-true (length (records_of (events_of ms))) room a.1,
    )

pub accepted : (line : List ℕ) (room : ℕ) → number_for (list_in line) room ≡ 0 → Accepted line room
unfolding list_in
accepted line room h =
    let a : (near_words (words_in line) ≡ true) × (bytes_of (listed (words_in line)) ≡ records_of (on_words (words_in line) ++ (Stop ∷ [])))
    × (length (bytes_of (listed (words_in line))) ≤ room) =
    accepted_by (words_in line) room (whole 0 (words_in line)) refl h in
    record { near = a.0; bytes = a.1; fits = a.2 }

-- no other number is given
pick_none : (n t : Bool) → (◌≡◌ {A = ℕ} (cond n (cond t 0 5) 21) 21 → ⊥) → (◌≡◌ {A = ℕ} (cond n (cond t 0 5) 21) 5 → ⊥)
    → ◌≡◌ {A = ℕ} (cond n (cond t 0 5) 21) 0
pick_none true true p q = refl
pick_none true false p q = absurd (q refl)
pick_none false t p q = absurd (p refl)

pub no_other : (x : Listing) (room : ℕ) → (number_for x room ≡ 20 → ⊥) → (number_for x room ≡ 21 → ⊥) → (number_for x room ≡ 5 → ⊥)
    → number_for x room ≡ 0
no_other none room a b c = absurd (a refl)
no_other (lists ms) room a b c = pick_none (all_near ms) (leb (length (records_of (events_of ms))) room) b c
