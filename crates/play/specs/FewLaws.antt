-- A text has at most 442,368 bytes. An input of at most 65,536 bytes has at most 16,384 entries, since each record but the last takes
-- four bytes at least, and a line has at most 27 bytes. Assumes nothing.
use Rattle.std.specs.Prelude.{◌≡◌, refl, Bool, true, false, cond, List, [], ◌∷◌, ℕ, zero, suc, ◌+◌, ◌-◌, ◌*◌, ◌≤◌, eqb, ltb, length, drop}
use Rattle.std.proofs.Common.{arith, length-append, length-drop, ltb-false}
use Rattle.std.proofs.lemmas.Bool.{eqb-false}
use Rattle.records.specs.Frame.{frame_of}
use Rattle.records.specs.Record.{read_of}
use Rattle.records.specs.ReadingLaws.{Placed, placed}
use Rattle.records.specs.declared.Read.{Read}
use Rattle.records.specs.declared.Read.TheVariants.{Record, Refused, Cut}
use Rattle.turn.specs.Entries.{entries}
use Rattle.turn.specs.Frames.{frames, frames_after, frames_of}
use Rattle.turn.specs.CountedLaws.{frame_place, entries_count}
use Rattle.turn.specs.declared.Entry.{Entry}
use Rattle.play_line.specs.Put.{too_long}
use Rattle.play_line.specs.FewLaws.{line_few}
use Rattle.play.specs.Text.{most_input, most_text, lines_from, text_of}

-- ── the entries ──
-- a record and what follows it
frame_few : (b : ℕ) (s : List ℕ) (n : ℕ) (t : Bool) → eqb (frame_of (b ∷ s)) 0 ≡ t → 4 * n ≤ length (drop (frame_of (b ∷ s)) (b ∷ s)) + 3
    → 4 * suc (cond t 0 n) ≤ length (b ∷ s) + 3
frame_few b s n true e h = omega arith
frame_few b s n false e h =
    let p : (4 ≤ frame_of (b ∷ s)) × (frame_of (b ∷ s) ≤ length (b ∷ s)) = frame_place (b ∷ s) (eqb-false (frame_of (b ∷ s)) 0 e) in
    let d : length (drop (frame_of (b ∷ s)) (b ∷ s)) ≡ length (b ∷ s) - frame_of (b ∷ s) = length-drop (frame_of (b ∷ s)) (b ∷ s) in
    omega (arith, p.0, p.1)

frames_few : (f : ℕ) (s : List ℕ) → 4 * frames f s ≤ length s + 3
frames_few zero s = omega arith
frames_few (suc f) [] = omega arith
frames_few (suc f) (b ∷ s) = frame_few b s _ (eqb (frame_of (b ∷ s)) 0) refl (frames_few f (drop (frame_of (b ∷ s)) (b ∷ s)))

after_few : (b : ℕ) (s : List ℕ) (x : Read) → Placed (length (b ∷ s)) x → 4 * frames_after (b ∷ s) x ≤ length (b ∷ s) + 3
after_few b s (Record e next) p =
    let d : length (drop next (b ∷ s)) ≡ length (b ∷ s) - next = length-drop next (b ∷ s) in
    let h : 4 * frames (length (b ∷ s) - 1) (drop next (b ∷ s)) ≤ length (drop next (b ∷ s)) + 3 =
    frames_few (length (b ∷ s) - 1) (drop next (b ∷ s)) in
    omega (arith, p.0, p.1)
after_few b s (Refused k next) p = omega arith
after_few b s Cut p = omega arith

all_few : (s : List ℕ) → 4 * frames_of s ≤ length s + 3
unfolding frames_of
all_few [] = omega arith
all_few (b ∷ s) = after_few b s (read_of 0 (b ∷ s)) (placed 0 (b ∷ s))

pub entries_few : (s : List ℕ) → length s ≤ most_input → length (entries s) ≤ 16384
entries_few s h = omega (arith, entries_count s, all_few s)

-- ── the lines ──
lines_few : (n : ℕ) (rest : List ℕ) (es : List Entry) → length (lines_from n rest es) ≤ 27 * length es
lines_few n rest [] = omega arith
lines_few n rest (e ∷ es) =
    simp length-append (omega (arith, line_few n rest e, lines_few (suc n) (drop (frame_of rest) rest) es))

-- ── the text ──
text_by : (s : List ℕ) (b : Bool) → ltb most_input (length s) ≡ b → length (cond b too_long (lines_from 0 s (entries s))) ≤ most_text
text_by s true e = omega arith
text_by s false e = omega (arith, lines_few 0 s (entries s), entries_few s (ltb-false most_input (length s) e))

pub text_few : (s : List ℕ) → length (text_of s) ≤ most_text
unfolding text_of
text_few s = text_by s (ltb most_input (length s)) refl
