-- Where the part has it.
use Rattle.std.proofs.Common.{ap, drop, ℕ, ◌+◌, ◌∙◌}
use Rattle.bits.specs.Numbers.{words}
use Rattle.chip_bytes_layout.specs.Layout.{word_in}
use Rattle.chip_bytes_bus.proofs.Places.{at_one}
use Rattle.chip_bytes_bus.proofs.pair.cell_at.Goals as goal

pub returns-then-at-inputs : goal.returns-then-at-inputs
returns-then-at-inputs c = at_one (words (drop 46 c.args.b.now)) 10 15 c.args.at c.inputs.ensures c.if-at-inputs.true c.requires (c.word.ensures ∙ ap (λ (n : ℕ). word_in c.args.b.now (10 + n)) c.from.ensures)
