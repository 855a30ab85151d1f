-- A line: its three parts, one after the other.
use Rattle.play_line.proofs.Putting.{and_then}
use Rattle.play_line.specs.Line.{line_of}
use Rattle.play_line.proofs.put_line.Goals as goal

pub returns : goal.returns
unfolding line_of
returns c = and_then (and_then c.put_record-answer.ensures c.put_answer-state.ensures) c.put_state.ensures
