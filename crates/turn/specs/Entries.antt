-- CHIP P4 to P7: the entries of a whole stream, a turn a record, and the chip that it leaves. Assumes nothing.
use Rattle.std.specs.Prelude.{ℕ, zero, suc, ◌+◌, ◌*◌, ◌/◌, List, [], ◌∷◌, ◌++◌, Bool, false, cond, length, take, drop, leb}
use Rattle.std.proofs.lemmas.List.Edits.{sets}
use Rattle.constants.specs.Size.{ENTRY}
use Rattle.chip.specs.declared.Chip.{Chip}
use Rattle.turn.specs.declared.Entry.{Entry}
use Rattle.turn.specs.Turn.{none, turn_of}

-- ── the entries of a stream, and the chip that stands at its end: a refused first record, or number 9, is the last; no bytes left ends
-- it without an entry. Each record takes a byte at least, so the stream's length is fuel enough ──
abbrev pub runs : ℕ → Bool → Chip → List ℕ → List Entry
runs zero o c s = []
runs (suc f) o c [] = []
runs (suc f) o c (b ∷ s) =
    (turn_of o c (b ∷ s)).entry
    ∷ cond (turn_of o c (b ∷ s)).last []
    (runs f (turn_of o c (b ∷ s)).fresh (turn_of o c (b ∷ s)).chip (drop (turn_of o c (b ∷ s)).next (b ∷ s)))

abbrev pub stands : ℕ → Bool → Chip → List ℕ → Chip
stands zero o c s = c
stands (suc f) o c [] = c
stands (suc f) o c (b ∷ s) =
    cond (turn_of o c (b ∷ s)).last (turn_of o c (b ∷ s)).chip
    (stands f (turn_of o c (b ∷ s)).fresh (turn_of o c (b ∷ s)).chip (drop (turn_of o c (b ∷ s)).next (b ∷ s)))

-- whether a wiring record may follow
abbrev pub stays : ℕ → Bool → Chip → List ℕ → Bool
stays zero o c s = o
stays (suc f) o c [] = o
stays (suc f) o c (b ∷ s) =
    cond (turn_of o c (b ∷ s)).last (turn_of o c (b ∷ s)).fresh
    (stays f (turn_of o c (b ∷ s)).fresh (turn_of o c (b ∷ s)).chip (drop (turn_of o c (b ∷ s)).next (b ∷ s)))

-- from any chip, and what is left then
unfoldable pub entries_from : Bool → Chip → List ℕ → List Entry
entries_from o c s = runs (length s) o c s

unfoldable pub chip_from : Bool → Chip → List ℕ → Chip
chip_from o c s = stands (length s) o c s

unfoldable pub fresh_from : Bool → Chip → List ℕ → Bool
fresh_from o c s = stays (length s) o c s

-- from none
unfoldable pub entries : List ℕ → List Entry
entries s = runs (length s) false none s

unfoldable pub last_chip : List ℕ → Chip
last_chip s = stands (length s) false none s

abbrev pub entry_bytes : Entry → List ℕ
entry_bytes e = e.number ∷ e.flag ∷ e.byte ∷ e.stat ∷ e.pins ∷ []

abbrev pub bytes_of : List Entry → List ℕ
bytes_of [] = []
bytes_of (e ∷ es) = entry_bytes e ++ bytes_of es

-- an entry written at its place, where it fits
abbrev pub noted : List ℕ → ℕ → Entry → List ℕ
noted out n e = cond (leb (ENTRY * n + ENTRY) (length out)) (sets out (ENTRY * n) (entry_bytes e)) out

-- entries written from a buffer's start on, as many as fit
abbrev pub entered : List ℕ → List Entry → List ℕ
entered old es = bytes_of (take (length old / ENTRY) es) ++ drop (ENTRY * length (take (length old / ENTRY) es)) old
