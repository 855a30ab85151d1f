-- The line for too many bytes, or a line for each record.
use Rattle.std.proofs.Common.{le-ltb, lt-ltb, rules}
use Rattle.play_line.proofs.Putting.{as_written}
use Rattle.play.specs.Text.{text_of}
use Rattle.play.proofs.lines.text.Goals as goal

pub returns-then-input-gt-STREAM_MOST : goal.returns-then-input-gt-STREAM_MOST
unfolding text_of
returns-then-input-gt-STREAM_MOST c = as_written (simp (lt-ltb _ _ c.if-input-gt-STREAM_MOST.true)) (search rules) c.write_too_long.ensures

pub returns : goal.returns
unfolding text_of
returns c = as_written (simp (le-ltb _ _ c.if-input-gt-STREAM_MOST.false)) (search rules) c.write_lines.ensures
