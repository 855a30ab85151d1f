-- SYS_STAT and the pins, one after the other.
use Rattle.play_line.proofs.Putting.{and_then}
use Rattle.play_line.specs.Line.{state_text}
use Rattle.play_line.proofs.put_state.Goals as goal

pub returns : goal.returns
unfolding state_text
returns c = and_then (and_then (and_then c.put_hex-gap.ensures c.put-pins.ensures) c.put_pins-end.ensures) c.put.ensures
