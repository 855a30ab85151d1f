-- A buffer that is filled by reads, one after another.
use Rattle.std.proofs.Common.{◌≡◌, sym, ap, ◌∙◌, subst, ℕ, ◌+◌, ◌-◌, ◌≤◌, le_refl, List, ◌++◌, length, take, length-take-le, drop, drop_at, Option}
use Rattle.std.proofs.lemmas.Slice.{take-put_mid_below}
use Rattle.std.proofs.KnownBytes.{Consumes-trans}
use Rattle.std.specs.Io.KnownBytes.{Consumes}
use borrow.Rule.Slice.PartMut.{put_mid, post_of}
use lib.Seq.{take-add, take-append-le}

joined : (f n : ℕ) (xs ys : List ℕ) → f ≤ length xs → n ≤ length ys → take f xs ++ take n ys ≡ take (f + n) (put_mid f (length xs - f) xs ys)
joined f n xs ys within fits =
    let after = post_of f (length xs - f) xs in
    let new = put_mid f (length xs - f) xs ys in
    let front : take f new ≡ take f xs = take-put_mid_below f (length xs - f) xs ys f (le_refl f) within in
    let back : drop f new ≡ ys ++ after = drop_at (take f xs) (ys ++ after) f (length-take-le f xs within) in
    sym (take-add f n new ∙ ap (λ (l : List ℕ). l ++ take n (drop f new)) front ∙ ap (λ (l : List ℕ). take f xs ++ take n l) back
    ∙ ap (λ (l : List ℕ). take f xs ++ l) (take-append-le n ys after fits))

pub filled_more : (a b c : Option (List ℕ)) (xs ys : List ℕ) (f n : ℕ) → f ≤ length xs → n ≤ length ys
    → Consumes a b (take f xs) → Consumes b c (take n ys) → Consumes a c (take (f + n) (put_mid f (length xs - f) xs ys))
filled_more a b c xs ys f n within fits before read = subst (Consumes a c) (joined f n xs ys within fits) (Consumes-trans a b c (take f xs) (take n ys) before read)
