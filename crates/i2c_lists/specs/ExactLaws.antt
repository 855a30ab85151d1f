-- The reader of lists is exact: it reads the lines of the grammar and no others, and each in one way. Assumes nothing.
use Rattle.std.specs.Prelude.{◌≡◌, refl, ℕ, zero, suc, List, [], ◌∷◌, ◌++◌, map, Bool, true, false, cond, length, take}
use Rattle.std.proofs.Common.{ap, ap₂, sym, ◌∙◌, subst, append-nil, arith}
use Rattle.i2c_words.specs.Grammar.{Spells}
use Rattle.i2c_words.specs.Reader.{word_of}
use Rattle.i2c_words.proofs.ExactLaws.{Spelt, word_spelt, word_read}
use Rattle.i2c_words.specs.SpacesLaws.{word_clear}
use Rattle.i2c_words.specs.declared.Word.{Word}
use Rattle.i2c_words.specs.declared.Word.TheVariants.{Write, Read, Byte, Unknown}
use Rattle.i2c_lists.specs.Grammar.{Message, sends, takes, byte_word, words_of, Line, last, more, Says}
use Rattle.i2c_lists.specs.Reader.{cut, words_in, word_length, whole, Heard, heard, lists, none, listed, list_in}
use Rattle.i2c_lists.specs.CuttingLaws.{after, cut_first, joined, joined_all, cut_more, cut_last, cut_joined}

-- ── words: a line of the grammar is read as its words ──
pub line_read : {l : List ℕ} {xs : List Word} → Line l xs → words_in l ≡ xs
line_read (last w x s) = ap (map word_of) (cut_last w (word_clear s)) ∙ ap (λ (y : Word). y ∷ []) (word_read s)
line_read (more w l x xs s r) =
    ap (map word_of) (cut_more w l (word_clear s)) ∙ ap₂ (λ (y : Word) (ys : List Word). y ∷ ys) (word_read s) (line_read r)

-- and words that are all known make a line of the grammar
abbrev Known : List Word → Type 0
Known [] = Unit
Known (Write n a ∷ xs) = Known xs
Known (Read n a ∷ xs) = Known xs
Known (Byte b ∷ xs) = Known xs
Known (Unknown ∷ xs) = ⊥

first_known : (w : List ℕ) (x : Word) (xs : List Word) → Spelt w x → Known (x ∷ xs) → Spells w x × Known xs
first_known w (Write n a) xs s k = (s, k)
first_known w (Read n a) xs s k = (s, k)
first_known w (Byte b) xs s k = (s, k)
first_known w Unknown xs s k = absurd k

line_joined : (w : List ℕ) (ws : List (List ℕ)) → Known (map word_of (w ∷ ws)) → Line (joined w ws) (map word_of (w ∷ ws))
line_joined w [] k = last w (word_of w) (first_known w (word_of w) [] (word_spelt w) k).0
line_joined w (v ∷ ws) k =
    let f : Spells w (word_of w) × Known (map word_of (v ∷ ws)) = first_known w (word_of w) (map word_of (v ∷ ws)) (word_spelt w) k in
    more w (joined v ws) (word_of w) (map word_of (v ∷ ws)) f.0 (line_joined v ws f.1)

-- ── lists: words that are whole are those of the messages heard in them ──
whole_known : (n : ℕ) (xs : List Word) → whole n xs ≡ true → Known xs
whole_known zero [] h = tt
whole_known zero (Write n a ∷ xs) h = whole_known n xs h
whole_known zero (Read n a ∷ xs) h = whole_known zero xs h
whole_known zero (Byte b ∷ xs) h = absurd (let z : ◌≡◌ {A = ℕ} 0 1 = cc in omega arith)
whole_known zero (Unknown ∷ xs) h = absurd (let z : ◌≡◌ {A = ℕ} 0 1 = cc in omega arith)
whole_known (suc n) [] h = tt
whole_known (suc n) (Write k a ∷ xs) h = absurd (let z : ◌≡◌ {A = ℕ} 0 1 = cc in omega arith)
whole_known (suc n) (Read k a ∷ xs) h = absurd (let z : ◌≡◌ {A = ℕ} 0 1 = cc in omega arith)
whole_known (suc n) (Byte b ∷ xs) h = whole_known n xs h
whole_known (suc n) (Unknown ∷ xs) h = absurd (let z : ◌≡◌ {A = ℕ} 0 1 = cc in omega arith)

no_bytes : (bs : List ℕ) → length bs ≡ 0 → bs ≡ []
no_bytes [] h = refl
no_bytes (b ∷ bs) h = absurd (omega (arith, h))

abbrev again : Heard → List Word
again h = map byte_word h.bytes ++ words_of h.messages

heard-whole : (n : ℕ) (xs : List Word) → whole n xs ≡ true → (length (heard xs).bytes ≡ n) × (again (heard xs) ≡ xs)
heard-whole zero [] h = (refl, refl)
heard-whole zero (Write n a ∷ xs) h =
    let i : (length (heard xs).bytes ≡ n) × (again (heard xs) ≡ xs) = heard-whole n xs h in
    (refl, ap₂ (λ (k : ℕ) (ys : List Word). Write k a ∷ ys) i.0 i.1)
heard-whole zero (Read n a ∷ xs) h =
    let i : (length (heard xs).bytes ≡ 0) × (again (heard xs) ≡ xs) = heard-whole zero xs h in
    let e : again (heard xs) ≡ words_of (heard xs).messages =
    ap (λ (bs : List ℕ). map byte_word bs ++ words_of (heard xs).messages) (no_bytes (heard xs).bytes i.0) in
    (refl, ap (λ (ys : List Word). Read n a ∷ ys) (sym e ∙ i.1))
heard-whole zero (Byte b ∷ xs) h = absurd (let z : ◌≡◌ {A = ℕ} 0 1 = cc in omega arith)
heard-whole zero (Unknown ∷ xs) h = absurd (let z : ◌≡◌ {A = ℕ} 0 1 = cc in omega arith)
heard-whole (suc n) [] h = absurd (let z : ◌≡◌ {A = ℕ} 0 1 = cc in omega arith)
heard-whole (suc n) (Write k a ∷ xs) h = absurd (let z : ◌≡◌ {A = ℕ} 0 1 = cc in omega arith)
heard-whole (suc n) (Read k a ∷ xs) h = absurd (let z : ◌≡◌ {A = ℕ} 0 1 = cc in omega arith)
heard-whole (suc n) (Byte b ∷ xs) h =
    let i : (length (heard xs).bytes ≡ n) × (again (heard xs) ≡ xs) = heard-whole n xs h in
    (ap suc i.0, ap (λ (ys : List Word). Byte b ∷ ys) i.1)
heard-whole (suc n) (Unknown ∷ xs) h = absurd (let z : ◌≡◌ {A = ℕ} 0 1 = cc in omega arith)

pub words_again : (xs : List Word) → whole 0 xs ≡ true → words_of (heard xs).messages ≡ xs
words_again xs h =
    let i : (length (heard xs).bytes ≡ 0) × (again (heard xs) ≡ xs) = heard-whole 0 xs h in
    let e : again (heard xs) ≡ words_of (heard xs).messages =
    ap (λ (bs : List ℕ). map byte_word bs ++ words_of (heard xs).messages) (no_bytes (heard xs).bytes i.0) in
    sym e ∙ i.1

-- the words of messages are whole, and the messages are heard in them
bytes_whole : (bs : List ℕ) (xs : List Word) → whole (length bs) (map byte_word bs ++ xs) ≡ whole 0 xs
bytes_whole [] xs = refl
bytes_whole (b ∷ bs) xs = bytes_whole bs xs

bytes-heard : (bs : List ℕ) (xs : List Word)
    → ((heard (map byte_word bs ++ xs)).bytes ≡ bs ++ (heard xs).bytes) × ((heard (map byte_word bs ++ xs)).messages ≡ (heard xs).messages)
bytes-heard [] xs = (refl, refl)
bytes-heard (b ∷ bs) xs = (ap (λ (l : List ℕ). b ∷ l) (bytes-heard bs xs).0, (bytes-heard bs xs).1)

pub messages_whole : (ms : List Message) → whole 0 (words_of ms) ≡ true
messages_whole [] = refl
messages_whole (sends a bs ∷ ms) = bytes_whole bs (words_of ms) ∙ messages_whole ms
messages_whole (takes a n ∷ ms) = messages_whole ms

messages_bytes : (ms : List Message) → (heard (words_of ms)).bytes ≡ []
messages_bytes [] = refl
messages_bytes (sends a bs ∷ ms) = refl
messages_bytes (takes a n ∷ ms) = refl

pub messages-heard : (ms : List Message) → (heard (words_of ms)).messages ≡ ms
messages-heard [] = refl
messages-heard (sends a bs ∷ ms) =
    let h : (heard (map byte_word bs ++ words_of ms)).bytes ≡ bs =
    (bytes-heard bs (words_of ms)).0 ∙ ap (λ (l : List ℕ). bs ++ l) (messages_bytes ms) ∙ append-nil bs in
    ap₂ (λ (l : List ℕ) (ns : List Message). sends a l ∷ ns) h ((bytes-heard bs (words_of ms)).1 ∙ messages-heard ms)
messages-heard (takes a n ∷ ms) = ap (λ (ns : List Message). takes a n ∷ ns) (messages-heard ms)

-- ── the reader reads what the grammar says ──
pub says_read : {l : List ℕ} {ms : List Message} → Says l ms → list_in l ≡ lists ms
unfolding list_in
says_read {l} {ms} s = ap listed (line_read s) ∙ simp (messages_whole ms) (ap lists (messages-heard ms))

-- and the grammar says what the reader reads
line_cut : (l : List ℕ) → whole 0 (words_in l) ≡ true → Line l (words_in l)
line_cut l e =
    let w : List ℕ = take (word_length l) l in
    let ws : List (List ℕ) = after l (word_length l) in
    let q : cut l ≡ w ∷ ws = cut_first l in
    let k : Known (map word_of (w ∷ ws)) = subst (λ (vs : List (List ℕ)). Known (map word_of vs)) q (whole_known 0 (words_in l) e) in
    let j : joined w ws ≡ l = ap joined_all (sym q) ∙ cut_joined l in
    subst (λ (m : List ℕ). Line m (words_in l)) j
    (subst (λ (xs : List Word). Line (joined w ws) xs) (ap (map word_of) (sym q)) (line_joined w ws k))

read_by : (l : List ℕ) (ms : List Message) (t : Bool) → whole 0 (words_in l) ≡ t
    → cond t (lists (heard (words_in l)).messages) none ≡ lists ms → Says l ms
read_by l ms true e h =
    let m : (heard (words_in l)).messages ≡ ms = cc in
    subst (λ (xs : List Word). Line l xs) (sym (words_again (words_in l) e) ∙ ap words_of m) (line_cut l e)
read_by l ms false e h = absurd (let z : ◌≡◌ {A = ℕ} 0 1 = cc in omega arith)

pub read_says : (l : List ℕ) (ms : List Message) → list_in l ≡ lists ms → Says l ms
unfolding list_in
read_says l ms h = read_by l ms (whole 0 (words_in l)) refl h

-- ── the reading is unique ──
pub says_unique : {l : List ℕ} {a b : List Message} → Says l a → Says l b → a ≡ b
says_unique {l} {a} {b} s t = let e : lists a ≡ lists b = sym (says_read s) ∙ says_read t in cc
