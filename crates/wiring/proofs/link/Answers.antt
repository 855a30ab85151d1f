-- `link` keeps what the connected inputs hold (Linked).
use Rattle.std.proofs.Common.{ap, length, rules, ℕ, ◌∙◌, ◌≡◌}
use Rattle.wiring.specs.Kept.{kept, counts_of}
use Rattle.wiring.proofs.LinkedLaws.{kept_linked}
use Rattle.wiring.proofs.link.Goals as goal

pub returns : goal.returns
returns c = let l : length c.args.cells ≡ 15 = search rules in
    c.packed.ensures ∙ ap (λ (m : ℕ). counts_of (kept m c.args.cells)) c.linked.ensures ∙ ap counts_of (kept_linked c.args.setup c.args.cells l)
