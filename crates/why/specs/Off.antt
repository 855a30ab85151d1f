-- CHIP P18: since when a drive is off, and the bits of SYS_STAT that hold it. Assumes nothing.
use Rattle.std.specs.Prelude.{◌≡◌, cond, List, ◌++◌, ℕ, suc, eqb, leb, ltb, ℤ, length, drop}
use Rattle.constants.specs.Number.{DONE, NO_ROOM, NO_RECORD, NOT_SO}
use Rattle.constants.specs.Size.{OFF_ROW}
use Rattle.constants.specs.Answer.{minus}
use Rattle.bits.specs.Bit.{bit}
use Rattle.turn.specs.Entries.{entries}
use Rattle.causes.specs.Hold.{held_by, is_drive}
use Rattle.why_rows.specs.Row.{off_words}
use Rattle.bits.specs.Numbers.{word_bytes}
use Rattle.why.specs.declared.Rose.{Rose}
use Rattle.why.specs.Rise.{risen}

-- ── the row: 12 bytes, the low ones first ──
abbrev pub off_bytes : Rose → ℕ → List ℕ
off_bytes r d = word_bytes (off_words r.rose (held_by r.last.stat d))

abbrev pub off_row : List ℕ → ℕ → ℕ → List ℕ
off_row s n d = off_bytes (risen s 0 d (suc n)) d

-- ── the call: 27, 28, then 5 ──
abbrev pub off_number : List ℕ → ℕ → ℕ → ℕ → ℕ
off_number s n d room =
    cond (leb (length (entries s)) n) NO_RECORD
    (cond (is_drive d) (cond (bit (risen s 0 d (suc n)).last.pins d) NOT_SO (cond (ltb room OFF_ROW) NO_ROOM DONE)) NOT_SO)

-- 0 and the row, or minus a number and nothing written
pub record Held (s : List ℕ) (n d : ℕ) (old : List ℕ) (r : ℤ) (new : List ℕ) : Type 0 where
  pub answer : r ≡ minus (off_number s n d (length old))
  pub contents : new ≡ cond (eqb (off_number s n d (length old)) DONE) (off_row s n d ++ drop OFF_ROW old) old
