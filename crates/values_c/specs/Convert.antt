-- What a conversion gives C: 0 and the value, or the number that refuses, with the value left alone. Assumes nothing.
use Rattle.std.specs.Prelude.{◌≡◌, cond, ℕ, ltb}
use Rattle.constants.specs.Answer.{Said, number_said, value_said}

-- a number, or the most where it is larger
abbrev pub clipped : ℕ → ℕ → ℕ
clipped most n = cond (ltb n most) n most

pub record Gives {A : Type 0} (said : Said A) (old : A) (r : ℕ) (new : A) : Type 0 where
  pub answer : r ≡ number_said said
  pub contents : new ≡ value_said said old
