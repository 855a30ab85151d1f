-- The number and the bus answer, one after the other.
use Rattle.std.proofs.Common.{ap, arith}
use Rattle.play_line.proofs.Putting.{and_then, as_text}
use Rattle.play_line.specs.Line.{decimal, answer_text}
use Rattle.play_line.proofs.put_answer.Goals as goal

pub returns : goal.returns
unfolding answer_text
returns c = and_then (and_then (and_then (as_text {k = 5} (ap decimal c.from.ensures) (omega arith) c.put_decimal-gap.ensures) c.put-bus.ensures) c.put_bus-end.ensures) c.put.ensures
