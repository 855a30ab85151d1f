-- CHIP P17: the record of the first of the verdicts that made a bit due: the last one, up to the rise, before which the streak was no
-- longer than what may stand before it. The laws stand in proofs/FirstLaws. Assumes nothing.
use Rattle.std.specs.Prelude.{List, ℕ, ◌<◌, ◌≤◌}
use Rattle.why_walk.specs.Standing.{standing_at}

module _ (s : List ℕ) (b least : ℕ) where
  abbrev pub streak_at : ℕ → ℕ
  streak_at n = (standing_at s b n).streak

  -- THE FIRST, of the records up to i: before it the streak is no longer than `least`, before every later one it is
  pub record FirstOf (i first : ℕ) : Type 0 where
    pub not_after : first ≤ i
    pub short_before : streak_at first ≤ least
    pub long_after : (m : ℕ) → first < m → m ≤ i → least < streak_at m
