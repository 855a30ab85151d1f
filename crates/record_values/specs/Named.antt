-- An event's kind and values, and what a call that names them answers and leaves. Assumes nothing.
use Rattle.std.specs.Prelude.{◌≡◌, cond, List, ◌++◌, ℕ, leb, ℤ, pos, length, drop}
use Rattle.constants.specs.Number.{NO_ROOM}
use Rattle.constants.specs.Answer.{Said, gives, refuses, minus}
use Rattle.events.specs.declared.Counts.{Counts}
use Rattle.events.specs.declared.Event.{Event}
use Rattle.writer.specs.Write.{kind_for}
use Rattle.record_values.specs.Values.{values_for}

-- what is laid at the start of a buffer, and then what stood there
abbrev pub laid : {A : Type 0} → List A → List A → List A
laid b old = b ++ drop (length b) old

pub record Named : Type 0 where
  pub kind : ℕ
  pub values : List ℤ

abbrev pub named : Event → Counts → Named
named e k = record { kind = kind_for e; values = values_for e k }

abbrev pub named_answer : Said Named → ℕ → ℤ
named_answer (refuses n) room = minus n
named_answer (gives v) room = cond (leb (length v.values) room) (pos (length v.values)) (minus NO_ROOM)

abbrev pub named_kind : Said Named → ℕ → ℕ → ℕ
named_kind (refuses n) room old = old
named_kind (gives v) room old = cond (leb (length v.values) room) v.kind old

abbrev pub named_values : Said Named → List ℤ → List ℤ
named_values (refuses n) old = old
named_values (gives v) old = cond (leb (length v.values) (length old)) (laid v.values old) old

pub record Names (said : Said Named) (oldkind : ℕ) (old : List ℤ) (r : ℤ) (newkind : ℕ) (new : List ℤ) : Type 0 where
  pub answer : r ≡ named_answer said (length old)
  pub kind : newkind ≡ named_kind said (length old) oldkind
  pub contents : new ≡ named_values said old
