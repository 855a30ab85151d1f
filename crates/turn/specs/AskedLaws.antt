-- What is asked of the chip that a stream leaves, where one stands. Assumes nothing.
use Rattle.std.specs.Prelude.{◌≡◌, true, false, cond, List, ℕ, eqb}
use Rattle.constants.specs.Answer.{Said, refuses}
use Rattle.records.specs.Record.{read_of, number_of}
use Rattle.turn.specs.Entries.{last_chip}

-- where no chip stands the first record's number, 9 for an empty stream, before anything that is asked of a chip
unfoldable pub standing_said : {A : Type 0} → List ℕ → Said A → Said A
standing_said s said = cond (eqb (last_chip s).setup.part 0) (refuses (number_of (read_of 0 s))) said

pub standing_none : {A : Type 0} (s : List ℕ) (said : Said A) → eqb (last_chip s).setup.part 0 ≡ true
    → standing_said s said ≡ refuses (number_of (read_of 0 s))
unfolding standing_said
standing_none s said e = rw e

pub standing_some : {A : Type 0} (s : List ℕ) (said : Said A) → eqb (last_chip s).setup.part 0 ≡ false → standing_said s said ≡ said
unfolding standing_said
standing_some s said e = rw e
