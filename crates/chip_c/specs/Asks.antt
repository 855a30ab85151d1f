-- CHIP P8: what is asked of the chip that stands at a stream's end, a proposal or a word. Assumes nothing.
use Rattle.std.specs.Prelude.{◌≡◌, cond, List, [], ◌∷◌, ◌++◌, ℕ, ltb, length, drop}
use Rattle.constants.specs.Answer.{Said, gives, refuses}
use Rattle.bleed.specs.declared.Choice.{Choice}
use Rattle.smart_battery.specs.Words.{word_for}
use Rattle.smart_battery.specs.Reply.{replied_number}
use Rattle.chip_voltage.specs.Care.{proposal_said, pack_of, linked_total}
use Rattle.turn.specs.Entries.{last_chip}
use Rattle.turn.specs.AskedLaws.{standing_said}

-- the proposal, and the Smart Battery word
abbrev pub proposal_at : List ℕ → ℕ → Said Choice
proposal_at s margin = standing_said s (proposal_said margin (last_chip s))

abbrev pub word_at : List ℕ → ℕ → ℕ → Said ℕ
word_at s command r = standing_said s (word_for (pack_of (last_chip s)) (linked_total (last_chip s)) command r)

-- the CELLBAL bytes, that of input 1 first
abbrev pub choice_bytes : Choice → List ℕ
choice_bytes c = c.one ∷ c.two ∷ c.three ∷ []

abbrev pub bled_bytes : Said Choice → List ℕ → List ℕ
bled_bytes (refuses n) old = old
bled_bytes (gives c) old = cond (ltb (length old) 3) old (choice_bytes c ++ drop 3 old)

-- the number, and the buffer: the proposal and then what stood there, or where it is refused every byte as it was
pub record Bled (said : Said Choice) (old : List ℕ) (r : ℕ) (new : List ℕ) : Type 0 where
  pub answer : r ≡ replied_number said (length old)
  pub contents : new ≡ bled_bytes said old
