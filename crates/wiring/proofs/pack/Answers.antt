-- `pack` keeps what the inputs that have a cell hold (Kept).
use Rattle.std.proofs.Common.{ap, length, rules, ℕ, ◌∙◌, ◌≡◌}
use Rattle.wiring.specs.Kept.{kept, counts_of}
use Rattle.wiring.proofs.Kept.{kept_wired}
use Rattle.wiring.proofs.pack.Goals as goal

pub returns : goal.returns
returns c = let l : length c.args.cells ≡ 15 = search rules in
    c.packed.ensures ∙ ap (λ (m : ℕ). counts_of (kept m c.args.cells)) c.wired.ensures ∙ ap counts_of (kept_wired c.args.setup c.args.cells l)
