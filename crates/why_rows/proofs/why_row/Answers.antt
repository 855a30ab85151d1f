-- Seven numbers.
use Rattle.std.proofs.Common.{◌≡◌, ◌∙◌, ◌<◌, ◌^◌, ℕ, arith, rules}
use Rattle.std.specs.Int.{w32, w64, to_le_bytes}
use Rattle.std.proofs.lemmas.Grind.{common_steps}
use Rattle.bits.specs.Numbers.{word_bytes}
use Rattle.why_rows.specs.Row.{words32, words64}
use Rattle.why_rows.proofs.why_row.Goals as goal

bytes_64 : (n : ℕ) → n < 2 ^ 64 → to_le_bytes w64 n ≡ word_bytes (words64 n)
bytes_64 n h = grind (arith, common_steps)

bytes_32 : (n : ℕ) → n < 2 ^ 32 → to_le_bytes w32 n ≡ word_bytes (words32 n)
bytes_32 n h = grind (arith, common_steps)

pub returns : goal.returns
returns c =
    simp (
      c.copy_from_slice.ensures.after ∙ c.to_le_bytes.ensures ∙ bytes_64 c.args.why.rose (search rules),
      c.copy_from_slice-2.ensures.after ∙ c.to_le_bytes-2.ensures ∙ bytes_64 c.args.why.first (search rules),
      c.copy_from_slice-3.ensures.after ∙ c.to_le_bytes-3.ensures ∙ bytes_32 c.args.why.cause (search rules),
      c.copy_from_slice-4.ensures.after ∙ c.to_le_bytes-4.ensures ∙ bytes_32 c.args.why.many (search rules),
      c.copy_from_slice-5.ensures.after ∙ c.to_le_bytes-5.ensures ∙ bytes_32 c.args.why.limit (search rules),
      c.copy_from_slice-6.ensures.after ∙ c.to_le_bytes-6.ensures ∙ bytes_32 c.args.why.input (search rules),
      c.copy_from_slice-7.ensures.after ∙ c.to_le_bytes-7.ensures ∙ bytes_32 c.args.why.value (search rules),
    )
