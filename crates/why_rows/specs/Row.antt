-- CHIP P17, P18: the rows, in numbers of two bytes, the low ones first. Assumes nothing.
use Rattle.std.specs.Prelude.{List, [], ◌∷◌, ◌++◌, ℕ, ◌/◌, ◌%◌}
use Rattle.why_rows.specs.declared.Why.{Why}

abbrev pub words32 : ℕ → List ℕ
words32 n = n % 65536 ∷ n / 65536 ∷ []

abbrev pub words64 : ℕ → List ℕ
words64 n = n % 65536 ∷ n / 65536 % 65536 ∷ n / 4294967296 % 65536 ∷ n / 281474976710656 % 65536 ∷ []

abbrev pub why_words : Why → List ℕ
why_words w =
    words64 w.rose ++ words64 w.first ++ words32 w.cause ++ words32 w.many ++ words32 w.limit ++ words32 w.input
    ++ words32 w.value

abbrev pub off_words : ℕ → ℕ → List ℕ
off_words since held = words64 since ++ held ∷ 0 ∷ []
