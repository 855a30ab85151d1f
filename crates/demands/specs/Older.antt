-- CHIP R2 and R7 of an older reader, which knows the kinds up to some number only: every newer kind is unknown to it, so it refuses it with
-- 2 and passes over it by its length. Assumes nothing.
use Rattle.std.specs.Prelude.{Bool, false, cond, List, [], ◌∷◌, ℕ, zero, suc, ◌+◌, ◌-◌, eqb, leb, ltb, length, take, drop, Err}
use Rattle.constants.specs.declared.refusal.Refusal.TheVariants.{BadKind}
use Rattle.records.specs.declared.Read.{Read}
use Rattle.records.specs.declared.Read.TheVariants.{Cut}
use Rattle.bits.specs.Numbers.{le16}
use Rattle.records.specs.Frame.{frame_of}
use Rattle.records.specs.Record.{Payload, payload_of, as_read}
use Rattle.chip.specs.declared.Chip.{Chip}
use Rattle.turn.specs.declared.Entry.{Entry}
use Rattle.turn.specs.Turn.{Turn, none, turned}

-- by the newest kind that it knows
module _ (newest : ℕ) where
  unfoldable pub payload_older : ℕ → ℕ → List ℕ → Payload
  payload_older kind part b = cond (leb kind newest) (payload_of kind part b) (Err BadKind)

  unfoldable pub read_older : ℕ → List ℕ → Read
  read_older part r =
      cond (ltb (length r) 4) Cut
      (cond (ltb (length r - 4) (le16 r 0)) Cut
      (as_read (4 + le16 r 0) (payload_older (le16 r 2) part (take (le16 r 0) (drop 4 r)))))

  unfoldable pub turn_older : Bool → Chip → List ℕ → Turn
  turn_older o c r = turned o c r (read_older c.setup.part r)

  abbrev pub runs_older : ℕ → Bool → Chip → List ℕ → List Entry
  runs_older zero o c s = []
  runs_older (suc f) o c [] = []
  runs_older (suc f) o c (b ∷ s) =
      (turn_older o c (b ∷ s)).entry
      ∷ cond (turn_older o c (b ∷ s)).last []
      (runs_older f (turn_older o c (b ∷ s)).fresh (turn_older o c (b ∷ s)).chip (drop (turn_older o c (b ∷ s)).next (b ∷ s)))

  unfoldable pub entries_older : List ℕ → List Entry
  entries_older s = runs_older (length s) false none s

  -- how many records stand before the first of a newer kind, by their headers alone
  abbrev pub known_by : ℕ → List ℕ → ℕ
  known_by zero s = 0
  known_by (suc f) [] = 0
  known_by (suc f) (b ∷ s) =
      cond (leb (le16 (b ∷ s) 2) newest)
      (suc (cond (eqb (frame_of (b ∷ s)) 0) 0 (known_by f (drop (frame_of (b ∷ s)) (b ∷ s))))) 0

  unfoldable pub known : List ℕ → ℕ
  known s = known_by (length s) s
