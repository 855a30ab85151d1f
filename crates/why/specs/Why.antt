-- CHIP P17: why a bit of SYS_STAT is up: the record at which it rose, what raised it, and for OV, UV, SCD and OCD the newest verdicts, as
-- many as the delay then set, that made it due. Assumes nothing.
use Rattle.std.specs.Prelude.{◌≡◌, cond, List, ◌++◌, ℕ, suc, ◌-◌, eqb, leb, ltb, ℤ, length, drop, Result, Ok, Err}
use Rattle.constants.specs.Number.{DONE, NO_ROOM, TOO_LONG, NO_RECORD, NOT_SO}
use Rattle.constants.specs.Size.{WHY_ROW}
use Rattle.constants.specs.Answer.{minus}
use Rattle.constants.specs.Refusal.{number_of}
use Rattle.constants.specs.declared.refusal.Refusal.{Refusal}
use Rattle.bits.specs.Bit.{bit}
use Rattle.settings.specs.declared.Settings.{Settings}
use Rattle.turn.specs.Entries.{entries}
use Rattle.why_rows.specs.declared.Why.{Why}
use Rattle.causes.specs.Cause.{is_judged, cause_of, need_of, limit_of, known_bit}
use Rattle.why_rows.specs.Row.{why_words}
use Rattle.bits.specs.Numbers.{word_bytes}
use Rattle.why_scan.specs.declared.Says.{Says}
use Rattle.why_walk.specs.Says.{says_in}
use Rattle.why.specs.declared.Rose.{Rose}
use Rattle.why.specs.Rise.{risen, searched}

-- the streak before the first of the newest verdicts, as many as are needed, where the next one is true
abbrev pub least_of : ℕ → ℕ → ℕ
least_of streak need = suc streak - need

-- ── why it rose at the record that was found ──
abbrev pub unjudged : Rose → ℕ → Why
unjudged r cause = record { rose = r.rose; first = r.rose; cause = cause; many = 0; limit = 0; input = 0; value = 0 }

abbrev pub judged : List ℕ → ℕ → Rose → Settings → Says → ℕ → Why
judged s b r t w cause =
    record {
      rose = r.rose;
      first = (searched s b (least_of r.stood.streak (need_of b t)) (suc r.rose)).first;
      cause = cause;
      many = need_of b t;
      limit = limit_of b t;
      input = w.input;
      value = w.value;
    }

abbrev pub why_by : List ℕ → ℕ → Rose → Says → Why
why_by s b r w =
    cond (is_judged b) (judged s b r r.stood.chip.registers.settings w (cause_of b w.pin)) (unjudged r (cause_of b w.pin))

unfoldable pub why_of : List ℕ → ℕ → Rose → Why
why_of s b r = why_by s b r (says_in b r.stood.chip (drop r.stood.at s))

-- ── the row: 36 bytes, the low ones first ──
abbrev pub why_bytes : Why → List ℕ
why_bytes w = word_bytes (why_words w)

-- ── the call: 24, 27, 28, then 5 ──
abbrev pub stream_most : ℕ
stream_most = 4294967295

abbrev pub why_row : List ℕ → ℕ → ℕ → List ℕ
why_row s n b = why_bytes (why_of s (known_bit b) (risen s (known_bit b) 0 (suc n)))

abbrev pub why_number : List ℕ → ℕ → ℕ → ℕ → ℕ
why_number s n b room =
    cond (ltb stream_most (length s)) TOO_LONG
    (cond (leb (length (entries s)) n) NO_RECORD
    (cond (bit (risen s (known_bit b) 0 (suc n)).last.stat (known_bit b)) (cond (ltb room WHY_ROW) NO_ROOM DONE) NOT_SO))

-- what is answered: 0, or minus the number of a refusal
abbrev pub answered : Result Unit Refusal → ℤ
answered (Ok u) = minus DONE
answered (Err why) = minus (number_of why)

-- 0 and the row, or minus a number and nothing written
pub record Explained (s : List ℕ) (n b : ℕ) (old : List ℕ) (r : ℤ) (new : List ℕ) : Type 0 where
  pub answer : r ≡ minus (why_number s n b (length old))
  pub contents : new ≡ cond (eqb (why_number s n b (length old)) DONE) (why_row s n b ++ drop WHY_ROW old) old
