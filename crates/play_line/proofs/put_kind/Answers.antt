-- The kind, or dashes where the header is cut.
use Rattle.std.proofs.Common.{arith, le-ltb, lt-ltb}
use Rattle.play_line.proofs.Putting.{and_then, as_text}
use Rattle.play_line.specs.Line.{kind_text}
use Rattle.play_line.proofs.put_kind.Goals as goal

pub returns-in_default : goal.returns-in_default
unfolding kind_text
returns-in_default c = as_text (simp (lt-ltb _ _ c.in_default.len_below)) (omega arith) c.put_four.ensures

pub returns-in-len4-up : goal.returns-in-len4-up
unfolding kind_text
returns-in-len4-up c = as_text (simp (le-ltb _ _ c.in-len4-up.len_at_least)) (omega arith) (and_then c.put_hex-half.ensures c.put_hex.ensures)
