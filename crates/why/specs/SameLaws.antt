-- Two answers that `toralinge_why` may give are the same, and two that `toralinge_off` may give. Assumes nothing.
use Rattle.std.specs.Prelude.{◌≡◌, List, ℕ, ℤ}
use Rattle.std.proofs.Common.{sym, ◌∙◌}
use Rattle.why.specs.Why.{Explained}
use Rattle.why.specs.Off.{Held}

pub same_explained : {s old new other : List ℕ} {n b : ℕ} {r t : ℤ} → Explained s n b old r new → Explained s n b old t other
    → (r ≡ t) × (new ≡ other)
same_explained p q = (p.answer ∙ sym q.answer, p.contents ∙ sym q.contents)

pub same_held : {s old new other : List ℕ} {n d : ℕ} {r t : ℤ} → Held s n d old r new → Held s n d old t other
    → (r ≡ t) × (new ≡ other)
same_held p q = (p.answer ∙ sym q.answer, p.contents ∙ sym q.contents)
