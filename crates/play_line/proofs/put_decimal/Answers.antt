-- The digits, one after the other.
use Rattle.play_line.proofs.Putting.{and_then}
use Rattle.play_line.specs.Line.{decimal}
use Rattle.play_line.proofs.put_decimal.Goals as goal

pub returns : goal.returns
unfolding decimal
returns c = and_then (and_then (and_then (and_then c.put_leading-thousands.ensures c.put_leading-hundreds.ensures) c.put_leading-tens.ensures) c.put_leading-ones.ensures) c.put.ensures
