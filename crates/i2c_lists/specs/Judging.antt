-- How the code judges a line, word by word, before it writes; that this gives the list's number is shown in Judged. Assumes nothing.
use Rattle.std.specs.Prelude.{ℕ, ◌+◌, ◌-◌, ◌*◌, List, [], ◌∷◌, true, false, not, cond, ◌||◌, leb, eqb}
use Rattle.i2c_words.specs.declared.Word.{Word}
use Rattle.i2c_words.specs.declared.Word.TheVariants.{Write, Read, Byte, Unknown}
use Rattle.i2c_lists.specs.Records.{near}
use Rattle.i2c_lists.specs.declared.Judged.{Judged}

-- nothing is owed, nothing is wrong, and one byte is left over where the records fill the room
abbrev pub fresh : ℕ → Judged
fresh room = record { owed = 0; wrong = false; far = false; left = room + 1 }

-- START has 4 bytes, OUT and IN have 5
abbrev pub size_of : Word → ℕ
size_of (Write n a) = 9
size_of (Read n a) = 9 + 5 * n
size_of (Byte b) = 5
size_of Unknown = 0

-- a message is begun where no byte is owed; a byte follows where one is
abbrev pub begun : ℕ → ℕ → ℕ → Judged → Judged
begun owed address size j =
    record { owed = owed; wrong = j.wrong || not (eqb j.owed 0); far = j.far || not (near address); left = j.left - size }

unfoldable pub followed : Judged → Judged
followed j =
    cond (eqb j.owed 0)
    (record { owed = 0; wrong = true; far = j.far; left = j.left - 5 })
    (record { owed = j.owed - 1; wrong = j.wrong; far = j.far; left = j.left - 5 })

abbrev pub judged_by : Word → Judged → Judged
judged_by (Write n a) j = begun n a (size_of (Write n a)) j
judged_by (Read n a) j = begun 0 a (size_of (Read n a)) j
judged_by (Byte b) j = followed j
judged_by Unknown j = record { owed = j.owed; wrong = true; far = j.far; left = j.left }

abbrev pub judged_all : List Word → Judged → Judged
judged_all [] j = j
judged_all (x ∷ xs) j = judged_all xs (judged_by x j)

-- STOP has 4 bytes
unfoldable pub number_in : Judged → ℕ
number_in j = cond j.wrong 20 (cond (eqb j.owed 0) (cond j.far 21 (cond (leb j.left 4) 5 0)) 20)
