-- `crc_turns` meets its contract, by one computed test over all bytes.
use Rattle.std.proofs.Common.{ap, ap₂, arith, bit_xor, ℕ, ◌%◌, ◌/◌, ◌∙◌, ◌≡◌}
use Rattle.crc8.specs.Crc.{by_seven}
use Rattle.crc8.proofs.Spread.{spread, spread_is}
use Rattle.crc8.proofs.crc_turns.Goals as goal

joined : (x p o : ℕ) → p ≡ by_seven x → o ≡ by_seven (p / 256 % 4) → bit_xor (p % 256) o % 256 ≡ spread x
joined x p o e f = ap₂ (λ (a b : ℕ). bit_xor (a % 256) b % 256) e (f ∙ ap (λ (a : ℕ). by_seven (a / 256 % 4)) e)

pub returns : goal.returns
returns c = joined c.args.c _ _ (c.by_seven-product.ensures ∙ ap by_seven c.from.ensures) c.by_seven-over.ensures ∙ spread_is c.args.c (omega (arith, c.well_formed))
