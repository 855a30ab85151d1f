-- `write_counts` hands on the bytes of its numbers, which are the first of what it had put (Stores).
use Rattle.std.proofs.Common.{List, ap, arith, length, length-take-le, sym, take, ℕ, ◌*◌, ◌∙◌, ◌≡◌}
use Rattle.constants.specs.Kind.{code_of}
use Rattle.writer.proofs.Stores.{words_taken, at_payload}
use Rattle.writer.proofs.write_counts.Goals as goal

pub returns : goal.returns
returns c =
    let ws : List ℕ = take c.args.counts.many c.args.counts.of in
    let l : length ws ≡ c.args.counts.many = length-take-le c.args.counts.many c.args.counts.of (omega arith) in
    at_payload (code_of c.args.kind) c.args.out.now
    (ap (λ (n : ℕ). take (2 * n) c.put_words.new.out) (c.from-n.ensures ∙ sym l)
    ∙ words_taken ws (omega (arith, l)) (rw c.from-n.ensures at c.put_words.ensures))
    c.write_bytes.ensures
