-- What the promise of a text comes to: no refusal where the buffer has room for the longest text. Assumes nothing.
use Rattle.std.specs.Prelude.{◌≡◌, true, ℕ, ◌≤◌, List, ◌++◌, leb, ℤ, pos, length, drop}
use Rattle.std.proofs.Common.{◌∙◌, arith, le-leb}
use Rattle.play_line.specs.Put.{Written}
use Rattle.play.specs.Text.{most_text, text_of}
use Rattle.play.specs.FewLaws.{text_few}

pub never_short : (s : List ℕ) {old new : List ℕ} {r : ℤ}
    → most_text ≤ length old → Written (text_of s) old r new
    → (r ≡ pos (length (text_of s))) × (new ≡ text_of s ++ drop (length (text_of s)) old)
never_short s {old} h w =
    let e : leb (length (text_of s)) (length old) ≡ true = le-leb (length (text_of s)) (length old) (omega (arith, text_few s)) in
    (w.answer ∙ simp e, w.contents ∙ simp e)
