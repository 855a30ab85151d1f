-- CHIP P12: all that `play` prints for its input. Assumes nothing.
use Rattle.std.specs.Prelude.{ℕ, suc, List, [], ◌∷◌, ◌++◌, cond, length, drop, ltb}
use Rattle.constants.specs.Range.{STREAM_MOST}
use Rattle.records.specs.Frame.{frame_of}
use Rattle.turn.specs.declared.Entry.{Entry}
use Rattle.turn.specs.Entries.{entries}
use Rattle.play_line.specs.Line.{line_of}
use Rattle.play_line.specs.Put.{too_long}

-- standard input, at most 65,536 bytes
abbrev pub most_input : ℕ
most_input = STREAM_MOST

-- a line for each entry, beside the record that it stands for
abbrev pub lines_from : ℕ → List ℕ → List Entry → List ℕ
lines_from n rest [] = []
lines_from n rest (e ∷ es) = line_of n rest e ++ lines_from (suc n) (drop (frame_of rest) rest) es

-- it ends where the entries end
unfoldable pub text_of : List ℕ → List ℕ
text_of s = cond (ltb most_input (length s)) too_long (lines_from 0 s (entries s))

-- a line has at most 27 bytes, and such an input at most 16,384 records
abbrev pub most_text : ℕ
most_text = 442368
