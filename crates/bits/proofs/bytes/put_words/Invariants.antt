-- Two bytes a turn: those that are put so far are the first i numbers'.
use Rattle.std.proofs.Common.{length, take, ◌≡◌}
use lib.Seq.{sets}
use Rattle.bits.specs.Numbers.{word_bytes}
use Rattle.bits.proofs.bytes.put_words.Given as goal

abbrev pub invariant-loop-i : goal.invariant-loop-i
invariant-loop-i l = (length l.out ≡ length l.initial.out) × (l.out ≡ sets l.initial.out l.at (word_bytes (take l.i l.of)))
