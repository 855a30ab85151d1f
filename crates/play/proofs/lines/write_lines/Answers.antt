-- The lines put into no room tell how many bytes they have; then they are refused, or put into the buffer.
use Rattle.std.proofs.Common.{arith}
use Rattle.play.specs.Text.{most_text}
use Rattle.play_line.proofs.Putting.{write_whole}
use Rattle.play.proofs.lines.write_lines.Goals as goal

pub returns : goal.returns
returns c = write_whole most_text _ _ _ _ (omega arith) (omega (arith, c.if-out-length.false, c.put_lines-length.ensures.next)) c.put_lines.ensures
