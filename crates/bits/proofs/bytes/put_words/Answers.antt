-- Two bytes a turn: those that are put so far are the first i numbers'.
use Rattle.std.proofs.Common.{ap, arith, add-one, get_or, length, take, ◌*◌, ◌+◌, ◌/◌, ◌%◌, ◌∙◌}
use lib.Seq.{length-sets}
use Rattle.bits.specs.Numbers.{word_bytes}
use Rattle.bits.proofs.Stores.{words_next}
use Rattle.bits.proofs.bytes.put_words.Goals as goal

pub loop-i-preserved : goal.loop-i-preserved
loop-i-preserved c = let n =
    words_next c.args.of.now c.args.out.now c.loop-i.out c.args.at c.loop-i.i (c.args.at + 2 * c.loop-i.i + 1) (get_or c.args.of.now c.loop-i.i 0 / 256 % 256)
    (add-one _) c.loop-i-test.true (omega (arith, c.type_inv.of c.loop-i.i)) c.loop-i.invariant.1 in
    rw c.to_le_bytes.ensures (ap length n ∙ length-sets c.args.out.now c.args.at (word_bytes (take (c.loop-i.i + 1) c.args.of.now)), n)
