-- What a record is answered that is not done, and how far it leads. Assumes nothing.
use Rattle.std.specs.Prelude.{cond, ℕ, eqb, Option, None, Result, Ok, Err}
use Rattle.constants.specs.declared.refusal.Refusal.{Refusal}
use Rattle.constants.specs.declared.refusal.Refusal.TheVariants.{CutShort}
use Rattle.records.specs.declared.Read.{Read}
use Rattle.records.specs.declared.Read.TheVariants.{Record, Refused, Cut}

-- why it is refused
abbrev pub answer_of : Read → Result (Option ℕ) Refusal
answer_of (Record e next) = Ok None
answer_of (Refused why next) = Err why
answer_of Cut = Err CutShort

-- past it, or to the end of the bytes where the stream ends with it
abbrev pub passed : ℕ → ℕ → Read → ℕ
passed part left (Record e next) = next
passed part left (Refused why next) = cond (eqb part 0) left next
passed part left Cut = left
