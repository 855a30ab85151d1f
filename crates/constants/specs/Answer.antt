-- What a call gives back: a value, or a refusal with its number. Assumes nothing.
use Rattle.std.specs.Prelude.{ℕ, ℤ, pos, neg_ℤ}

pub data Said (A : Type 0) : Type 0 where
  gives : A → Said A
  refuses : ℕ → Said A

-- as C takes it: the number, which is 0 where a value is given, and the value, or what stood in its place
abbrev pub number_said : {A : Type 0} → Said A → ℕ
number_said (gives v) = 0
number_said (refuses n) = n

abbrev pub value_said : {A : Type 0} → Said A → A → A
value_said (gives v) old = v
value_said (refuses n) old = old

-- .. and a call that answers how many there are: minus the number where it refuses
abbrev pub minus : ℕ → ℤ
minus number = neg_ℤ (pos number)
