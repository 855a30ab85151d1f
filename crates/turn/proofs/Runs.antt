-- Runs over a stream, a turn at a time, and where entries stand in a buffer. Assumes nothing.
use mathlib.Core.Path.{◌≡◌, refl, ap}
use Prim.Native.Nat.{ℕ, zero, suc, ◌+◌, ◌-◌, ◌*◌, ◌/◌, ◌<◌, ◌≤◌}
use mathlib.Core.List.{List, [], ◌∷◌, ◌++◌}
use mathlib.Core.Bool.{Bool, false, cond}
use native.Mathlib.Omega.{arith}
use native.Mathlib.Numerals.{add-one}
use native.Mathlib.Nat.{not-suc-le-zero}
use lib.ListN.{length, take, drop, length-drop, set}
use lib.Seq.{sets, take_all}
use Rattle.records.specs.Record.{read_of}
use Rattle.records.specs.declared.Read.{Read}
use Rattle.records.specs.declared.Read.TheVariants.{Record, Refused, Cut}
use Rattle.records.specs.ReadingLaws.{Placed, placed}
use Rattle.chip.specs.declared.Chip.{Chip}
use Rattle.turn.specs.declared.Entry.{Entry}
use Rattle.turn.specs.Turn.{turn_of, turned}
use Rattle.turn.specs.Entries.{runs, stands, stays, entry_bytes, bytes_of, entered}

pub rest_is : (s : List ℕ) (at : ℕ) → take (length s - at) (drop at s) ≡ drop at s
rest_is s at = take_all (length s - at) (drop at s) (simp length-drop (omega arith))

-- five stores, as the code has their places
pub sets_five : (l : List ℕ) (i a b c d e : ℕ) → set (set (set (set (set l i a) (i + 1) b) (i + 2) c) (i + 3) d) (i + 4) e ≡ sets l i (a ∷ b ∷ c ∷ d ∷ e ∷ [])
sets_five l i a b c d e =
    let p : i + 2 ≡ suc (suc i) = omega arith in
    let q : i + 3 ≡ suc (suc (suc i)) = omega arith in
    let r : i + 4 ≡ suc (suc (suc (suc i))) = omega arith in
    rw (add-one i, p, q, r)

pub bytes_append : (a b : List Entry) → bytes_of (a ++ b) ≡ bytes_of a ++ bytes_of b
bytes_append [] b = refl
bytes_append (e ∷ a) b = ap (λ (l : List ℕ). entry_bytes e ++ l) (bytes_append a b)

pub bytes_length : (a : List Entry) → length (bytes_of a) ≡ 5 * length a
bytes_length [] = refl
bytes_length (e ∷ a) =
    let h : length (bytes_of a) ≡ 5 * length a = bytes_length a in
    omega arith

-- entries that all fit
pub entered_all : (old : List ℕ) (es : List Entry) → length es ≤ length old / 5 → entered old es ≡ bytes_of es ++ drop (5 * length es) old
entered_all old es h = ap (λ (l : List Entry). bytes_of l ++ drop (5 * length l) old) (take_all (length old / 5) es h)

-- a turn of a run, where bytes are left
pub runs-cons : (f : ℕ) (o : Bool) (chip : Chip) (l : List ℕ) → 0 < length l
    → runs (suc f) o chip l ≡ (turn_of o chip l).entry ∷ cond (turn_of o chip l).last [] (runs f (turn_of o chip l).fresh (turn_of o chip l).chip (drop (turn_of o chip l).next l))
runs-cons f o chip [] h = absurd (not-suc-le-zero h)
runs-cons f o chip (b ∷ l) h = refl

pub stands_cons : (f : ℕ) (o : Bool) (chip : Chip) (l : List ℕ) → 0 < length l
    → stands (suc f) o chip l ≡ cond (turn_of o chip l).last (turn_of o chip l).chip (stands f (turn_of o chip l).fresh (turn_of o chip l).chip (drop (turn_of o chip l).next l))
stands_cons f o chip [] h = absurd (not-suc-le-zero h)
stands_cons f o chip (b ∷ l) h = refl

pub stands-nil : (f : ℕ) (o : Bool) (chip : Chip) → stands f o chip [] ≡ chip
stands-nil zero o chip = refl
stands-nil (suc f) o chip = refl

pub stays_cons : (f : ℕ) (o : Bool) (chip : Chip) (l : List ℕ) → 0 < length l
    → stays (suc f) o chip l ≡ cond (turn_of o chip l).last (turn_of o chip l).fresh (stays f (turn_of o chip l).fresh (turn_of o chip l).chip (drop (turn_of o chip l).next l))
stays_cons f o chip [] h = absurd (not-suc-le-zero h)
stays_cons f o chip (b ∷ l) h = refl

pub stays-nil : (f : ℕ) (o : Bool) (chip : Chip) → stays f o chip [] ≡ o
stays-nil zero o chip = refl
stays-nil (suc f) o chip = refl

pub runs-nil : (f : ℕ) (o : Bool) (chip : Chip) → runs f o chip [] ≡ []
runs-nil zero o chip = refl
runs-nil (suc f) o chip = refl

-- a turn that is not the last goes past a header, and stays within the bytes
turned-next : (o : Bool) (chip : Chip) (rest : List ℕ) (x : Read) → Placed (length rest) x → (turned o chip rest x).last ≡ false
    → (4 ≤ (turned o chip rest x).next) × ((turned o chip rest x).next ≤ length rest)
turned-next o chip rest (Record e n) h l = h
turned-next o chip rest (Refused k n) h l = h
turned-next o chip rest Cut h l = let z : ◌≡◌ {A = ℕ} 0 1 = cc in absurd (omega arith)

pub turn_next : (o : Bool) (chip : Chip) (rest : List ℕ) → (turn_of o chip rest).last ≡ false → (4 ≤ (turn_of o chip rest).next) × ((turn_of o chip rest).next ≤ length rest)
unfolding turn_of
turn_next o chip rest l = turned-next o chip rest (read_of chip.setup.part rest) (placed chip.setup.part rest) l
