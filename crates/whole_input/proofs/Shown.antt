-- All that the reader had is in the buffer; or the buffer, which holds one byte more than is allowed, is full, and what is shown of every input that long is the same.
use Rattle.std.proofs.Common.{◌≡◌, refl, sym, ap, ◌∙◌, subst, Bool, true, false, ℕ, ◌+◌, ◌<◌, arith, List, [], ◌++◌, append-nil, length, length-append, Option, None, Some, IfSome, Result, Ok, Err, OnOk}
use Rattle.std.specs.Prelude.{nat_lt}
use Rattle.std.proofs.lemmas.Bool.Decides.{nat_tests}
use Rattle.std.specs.Io.KnownBytes.{Appends, Consumes, IsAtEnd}

-- what is shown of an input, and of every one that is longer than most
pub record Shown (text : List ℕ → List ℕ) (most : ℕ) (too_long : List ℕ) : Type 0 where
  pub long_text : (xs : List ℕ) → most < length xs → text xs ≡ too_long

shown_by : (text : List ℕ → List ℕ) (most : ℕ) (too_long : List ℕ) → Shown text most too_long → (xs ys : List ℕ) (c d : Option (List ℕ)) (bytes : List ℕ) (n : ℕ) (short : Bool)
    → nat_lt n (most + 1) ≡ short → length bytes ≡ n → (n < most + 1 → ys ≡ []) → xs ≡ bytes ++ ys → Appends c d (text bytes) → Appends c d (text xs)
shown_by text most too_long shown xs ys c d bytes n true e long end took wrote =
    let less : n < most + 1 = grind (arith, nat_tests) in
    let same : bytes ≡ xs = sym (took ∙ ap (λ (l : List ℕ). bytes ++ l) (end less) ∙ append-nil bytes) in
    subst (Appends c d) (ap text same) wrote
shown_by text most too_long shown xs ys c d bytes n false e long end took wrote =
    let above : most < n = grind (arith, nat_tests) in
    let more : length xs ≡ length bytes + length ys = ap length took ∙ length-append bytes ys in
    let one : text bytes ≡ too_long = shown.long_text bytes (omega arith) in
    let other : text xs ≡ too_long = shown.long_text xs (omega arith) in
    subst (Appends c d) (one ∙ sym other) wrote

shown_whole : (text : List ℕ → List ℕ) (most : ℕ) (too_long : List ℕ) → Shown text most too_long → (a b : Option (List ℕ)) (c d : Option (List ℕ)) (bytes : List ℕ) (n : ℕ)
    → length bytes ≡ n → (n < most + 1 → IsAtEnd b) → Consumes a b bytes → Appends c d (text bytes) → IfSome a (λ stream. Appends c d (text stream))
shown_whole text most too_long shown None b c d bytes n long end took wrote = tt
shown_whole text most too_long shown (Some xs) None c d bytes n long end took wrote = absurd took
shown_whole text most too_long shown (Some xs) (Some ys) c d bytes n long end took wrote =
    shown_by text most too_long shown xs ys c d bytes n (nat_lt n (most + 1)) refl long end took wrote

pub shown_if_ok : (text : List ℕ → List ℕ) (most : ℕ) (too_long : List ℕ) → Shown text most too_long → {A E : Type 0} (r : Result A E) (a b c d : Option (List ℕ)) (bytes : List ℕ) (n : ℕ)
    → length bytes ≡ n → (n < most + 1 → IsAtEnd b) → Consumes a b bytes → OnOk r (Appends c d (text bytes)) → OnOk r (IfSome a (λ stream. Appends c d (text stream)))
shown_if_ok text most too_long shown (Ok x) a b c d bytes n long end took wrote = shown_whole text most too_long shown a b c d bytes n long end took wrote
shown_if_ok text most too_long shown (Err e) a b c d bytes n long end took wrote = tt

-- .. where what was written is told by what it is the text of
pub shown_text : (text : List ℕ → List ℕ) (most : ℕ) (too_long : List ℕ) → Shown text most too_long → {A E : Type 0} (r : Result A E) (a b c d : Option (List ℕ)) (bytes : List ℕ) (n : ℕ)
    (written : List ℕ) → written ≡ text bytes → length bytes ≡ n → (n < most + 1 → IsAtEnd b) → Consumes a b bytes → OnOk r (Appends c d written)
    → OnOk r (IfSome a (λ stream. Appends c d (text stream)))
shown_text text most too_long shown r a b c d bytes n written same long end took wrote =
    shown_if_ok text most too_long shown r a b c d bytes n long end took (subst (λ (l : List ℕ). OnOk r (Appends c d l)) same wrote)
