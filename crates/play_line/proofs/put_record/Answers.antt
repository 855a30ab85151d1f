-- The record number and the kind, one after the other.
use Rattle.play_line.proofs.Putting.{and_then}
use Rattle.play_line.specs.Line.{record_text}
use Rattle.play_line.proofs.put_record.Goals as goal

pub returns : goal.returns
unfolding record_text
returns c = and_then (and_then (and_then c.put_decimal-gap.ensures c.put-kind.ensures) c.put_kind-end.ensures) c.put.ensures
