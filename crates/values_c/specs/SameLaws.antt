-- Any two answers that a conversion's promise for C allows are the same, and so is what they leave. Assumes nothing.
use Rattle.std.specs.Prelude.{◌≡◌, ℕ}
use Rattle.std.proofs.Common.{sym, ◌∙◌}
use Rattle.constants.specs.Answer.{Said}
use Rattle.values_c.specs.Convert.{Gives}

pub same_gives : {A : Type 0} {said : Said A} {old new new' : A} {r r' : ℕ} → Gives said old r new → Gives said old r' new'
    → (r ≡ r') × (new ≡ new')
same_gives p q = (p.answer ∙ sym q.answer, p.contents ∙ sym q.contents)
