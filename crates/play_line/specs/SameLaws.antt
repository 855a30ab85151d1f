-- Two allowed answers are the same. Assumes nothing.
use Rattle.std.specs.Prelude.{◌≡◌, List, ℕ, ℤ}
use Rattle.std.proofs.Common.{sym, ◌∙◌}
use Rattle.play_line.specs.Put.{Puts, Written}

pub same_put : {most at r r' : ℕ} {text old new new' : List ℕ} → Puts most text at old r new → Puts most text at old r' new'
    → (r ≡ r') × (new ≡ new')
same_put p q = (p.next ∙ sym q.next, p.wrote ∙ sym q.wrote)

pub same_written : {text old new new' : List ℕ} {r r' : ℤ} → Written text old r new → Written text old r' new' → (r ≡ r') × (new ≡ new')
same_written p q = (p.answer ∙ sym q.answer, p.contents ∙ sym q.contents)
