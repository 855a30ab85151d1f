-- Where the part has it.
use Rattle.std.proofs.Common.{ap, drop, ℕ, ◌+◌, ◌∙◌}
use Rattle.bits.specs.Numbers.{words}
use Rattle.chip_bytes_layout.specs.Layout.{word_in}
use Rattle.chip_bytes_bus.proofs.Places.{at_one}
use Rattle.chip_bytes_bus.proofs.pair.thermistor_at.Goals as goal

pub returns-then-at-groups : goal.returns-then-at-groups
returns-then-at-groups c = at_one (words (drop 46 c.args.b.now)) 7 3 c.args.at c.groups.ensures c.if-at-groups.true c.requires (c.word.ensures ∙ ap (λ (n : ℕ). word_in c.args.b.now (7 + n)) c.from.ensures)
