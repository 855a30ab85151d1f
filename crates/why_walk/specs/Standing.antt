-- CHIP P17: where a stream stands before each of its records: the chip, the record's place, the streak of the bit that is asked about, and
-- what the entry before shows. Assumes nothing.
use Rattle.std.specs.Prelude.{false, cond, List, ℕ, zero, suc, ◌+◌, length, drop}
use Rattle.turn.specs.Turn.{none, Turn, turn_of}
use Rattle.why_scan.specs.declared.Says.{Says}
use Rattle.why_walk.specs.declared.Standing.{Standing}
use Rattle.why_walk.specs.Says.{says_in, streak_after}

-- no record yet
abbrev pub begun : Standing
begun = record { chip = none; fresh = false; at = 0; streak = 0; stat = 0; pins = 0 }

-- past a record, by what it makes of the chip and what it says; one that ends the stream leads to its end
abbrev pub past : ℕ → Turn → Says → Standing → Standing
past end t w g =
    record {
      chip = t.chip;
      fresh = t.fresh;
      at = cond t.last end (g.at + t.next);
      streak = streak_after w t.chip.normal g.streak;
      stat = t.entry.stat;
      pins = t.entry.pins;
    }

unfoldable pub advanced : List ℕ → ℕ → Standing → Standing
advanced s b g = past (length s) (turn_of g.fresh g.chip (drop g.at s)) (says_in b g.chip (drop g.at s)) g

-- before record n
abbrev pub standing_at : List ℕ → ℕ → ℕ → Standing
standing_at s b zero = begun
standing_at s b (suc n) = advanced s b (standing_at s b n)
