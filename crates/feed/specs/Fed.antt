-- Records fed to a chip that is kept as bytes: the answer, the chip's bytes and the entries after it, and what is refused. Assumes nothing.
use Rattle.std.specs.Prelude.{◌≡◌, Bool, not, ◌&&◌, cond, List, ◌++◌, ℕ, ◌*◌, leb, ltb, ℤ, pos, length, drop}
use Rattle.constants.specs.Number.{NO_ROOM, NO_CHIP}
use Rattle.constants.specs.Answer.{minus}
use Rattle.turn.specs.declared.Entry.{Entry}
use Rattle.turn.specs.Entries.{entries_from, chip_from, fresh_from, bytes_of}
use Rattle.chip_bytes_layout.specs.Kept.{Kept}
use Rattle.constants.specs.Size.{ENTRY, KEPT_CHIP}
use Rattle.chip_bytes_layout.specs.Layout.{kept_of, kept_in}

abbrev pub entries_of : Kept → List ℕ → List Entry
entries_of k s = entries_from k.fresh k.chip s

abbrev pub all_fit : Kept → List ℕ → ℕ → Bool
all_fit k s room = leb (ENTRY * length (entries_of k s)) room

-- −5 for a chip buffer that is too short, −26 for bytes that are no chip, −5 for a buffer too short for all entries; else their count
abbrev pub answer_by : Kept → List ℕ → List ℕ → ℕ → ℤ
answer_by k b s room =
    cond (ltb (length b) KEPT_CHIP) (minus NO_ROOM)
    (cond k.good (cond (all_fit k s room) (pos (length (entries_of k s))) (minus NO_ROOM)) (minus NO_CHIP))

abbrev pub feed_answer : List ℕ → List ℕ → ℕ → ℤ
feed_answer b s room = answer_by (kept_of b) b s room

-- whether they are played; else both buffers keep every byte
abbrev pub feeds_by : Kept → List ℕ → List ℕ → ℕ → Bool
feeds_by k b s room = not (ltb (length b) KEPT_CHIP) && k.good && all_fit k s room

abbrev pub feeds : List ℕ → List ℕ → ℕ → Bool
feeds b s room = feeds_by (kept_of b) b s room

abbrev pub chip_after : Kept → List ℕ → List ℕ → List ℕ
chip_after k s b = kept_in (chip_from k.fresh k.chip s) (fresh_from k.fresh k.chip s) b

abbrev pub entries_after : Kept → List ℕ → List ℕ → List ℕ
entries_after k s old = bytes_of (entries_of k s) ++ drop (ENTRY * length (entries_of k s)) old

pub record Fed (b s old : List ℕ) (r : ℤ) (chip new : List ℕ) : Type 0 where
  pub answer : r ≡ feed_answer b s (length old)
  pub kept : chip ≡ cond (feeds b s (length old)) (chip_after (kept_of b) s b) b
  pub contents : new ≡ cond (feeds b s (length old)) (entries_after (kept_of b) s old) old
