-- The loop over an input's records: the lines that are put, and those that are still to come. Assumes nothing.
use mathlib.Core.Path.{◌≡◌, ap, sym, ◌∙◌, subst}
use mathlib.Core.Bool.{Bool, true, false, cond}
use mathlib.Core.List.{List, [], ◌∷◌, ◌++◌, append_assoc, append-nil}
use Prim.Native.Nat.{ℕ, suc, ◌+◌, ◌-◌, ◌*◌, ◌<◌, ◌≤◌}
use native.Mathlib.Omega.{arith}
use lib.ListN.{length, take, drop, length-drop, drop_of_length-le}
use lib.Seq.{drop-drop, length-sets}
use Rattle.records.specs.Frame.{frame_of}
use Rattle.records.specs.Record.{read_of}
use Rattle.records.specs.declared.Read.{Read}
use Rattle.records.specs.declared.Read.TheVariants.{Record, Refused, Cut}
use Rattle.chip.specs.declared.Chip.{Chip}
use Rattle.turn.specs.declared.Entry.{Entry}
use Rattle.turn.specs.Turn.{none, Turn, turned, turn_of}
use Rattle.turn.specs.Entries.{runs, entries}
use Rattle.turn.specs.CountedLaws.{Framed, framed}
use Rattle.turn.proofs.Runs.{rest_is, runs-cons, runs-nil}
use Rattle.play_line.specs.Line.{line_of}
use Rattle.play_line.specs.Put.{Puts}
use Rattle.play_line.proofs.Putting.{and_then, as_text, put_none}
use Rattle.play.specs.Text.{lines_from, most_input, most_text}

-- ── a turn that is not the last goes past its frame, which has a header and stays within the bytes ──
pub record Next (r : List ℕ) (next : ℕ) : Type 0 where
  pub frame : frame_of r ≡ next
  pub header : 4 ≤ next
  pub within : next ≤ length r

turned-next : (o : Bool) (c : Chip) (r : List ℕ) (x : Read) → Framed r x → (turned o c r x).last ≡ false → Next r (turned o c r x).next
turned-next o c r (Record e n) f l = record { frame = f.0; header = f.1; within = f.2 }
turned-next o c r (Refused k n) f l = record { frame = f.0; header = f.1; within = f.2 }
turned-next o c r Cut f l = let z : ◌≡◌ {A = ℕ} 0 1 = cc in absurd (omega arith)

turn_next : (o : Bool) (c : Chip) (r : List ℕ) → (turn_of o c r).last ≡ false → Next r (turn_of o c r).next
unfolding turn_of
turn_next o c r l = turned-next o c r (read_of c.setup.part r) (framed c.setup.part r) l

-- ── what stands at the loop's head ──
pub record Walking (s old out : List ℕ) (o : Bool) (c : Chip) (place at i : ℕ) : Type 0 where
  pub done : List ℕ
  pub whole : lines_from 0 s (entries s) ≡ done ++ lines_from i (drop place s) (runs (length s - i) o c (drop place s))
  pub puts : Puts (27 * i) done 0 old at out
  pub inside : place ≤ length s
  pub slow : 4 * i ≤ place

pub walk_none : {c : Chip} (s old : List ℕ) → c ≡ none → Walking s old old false c 0 0 0
unfolding entries
walk_none {c} s old h =
    let z : length s ≡ length s - 0 = omega arith in
    record {
      done = [];
      whole = ap (λ (k : ℕ). lines_from 0 s (runs k false none s)) z ∙ ap (λ (x : Chip). lines_from 0 s (runs (length s - 0) false x s)) (sym h);
      puts = put_none 0 0 old;
      inside = omega arith;
      slow = omega arith;
    }

module _ (s old out : List ℕ) (o : Bool) (c : Chip) (place at i : ℕ) (short : length s ≤ most_input) (w : Walking s old out o c place at i) where
  pub walk_end : length s ≤ place → Puts most_text (lines_from 0 s (entries s)) 0 old at out
  walk_end h =
      let e : drop place s ≡ [] = drop_of_length-le s h in
      let n : w.done ≡ lines_from 0 s (entries s) =
      sym (w.whole ∙ ap (λ (l : List ℕ). w.done ++ lines_from i l (runs (length s - i) o c l)) e
      ∙ ap (λ (l : List Entry). w.done ++ lines_from i [] l) (runs-nil (length s - i) o c) ∙ append-nil w.done) in
      as_text n (omega (arith, w.slow, w.inside)) w.puts

  pub walk_length : length out ≡ length old
  walk_length = ap length w.puts.wrote ∙ length-sets old 0 w.done

  pub walk_few : place < length s → (at + 27 ≤ most_text) × (i < 16384)
  walk_few h = (omega (arith, w.slow, w.puts.few), omega (arith, w.slow))

  -- a turn t, and the buffer after its line
  module _ (h : place < length s) (t : Turn) (q : t ≡ turn_of o c (take (length s - place) (drop place s))) (k : Entry) (kq : k ≡ t.entry) (next : ℕ)
      (new : List ℕ) (p : Puts 27 (line_of i (take (length s - place) (drop place s)) k) at out next new) where
    line : List ℕ
    line = line_of i (drop place s) t.entry

    puts_line : Puts (27 * (i + 1)) (w.done ++ line) 0 old next new
    unfolding line
    puts_line =
        as_text
        (ap (λ (k : Entry). w.done ++ line_of i (take (length s - place) (drop place s)) k) kq ∙ ap (λ (r : List ℕ). w.done ++ line_of i r t.entry) (rest_is s place))
        (omega arith) (and_then w.puts p)

    turn_is : t ≡ turn_of o c (drop place s)
    turn_is = q ∙ ap (turn_of o c) (rest_is s place)

    fuel : length s - i ≡ suc (length s - (i + 1))
    fuel = omega (arith, w.slow)

    left : 0 < length (drop place s)
    left = simp length-drop (omega arith)

    after : List Entry
    after = runs (length s - (i + 1)) t.fresh t.chip (drop t.next (drop place s))

    step : lines_from 0 s (entries s) ≡ (w.done ++ line) ++ lines_from (suc i) (drop (frame_of (drop place s)) (drop place s)) (cond t.last [] after)
    unfolding line after
    step =
        w.whole ∙ ap (λ (k : ℕ). w.done ++ lines_from i (drop place s) (runs k o c (drop place s))) fuel
        ∙ ap (λ (l : List Entry). w.done ++ lines_from i (drop place s) l) (runs-cons (length s - (i + 1)) o c (drop place s) left)
        ∙ ap (λ (t : Turn). w.done ++ lines_from i (drop place s) (t.entry ∷ cond t.last [] (runs (length s - (i + 1)) t.fresh t.chip (drop t.next (drop place s))))) (sym turn_is)
        ∙ sym (append_assoc w.done (line_of i (drop place s) t.entry) _)

    pub walk_last : t.last ≡ true → Puts most_text (lines_from 0 s (entries s)) 0 old next new
    walk_last e =
        let n : w.done ++ line ≡ lines_from 0 s (entries s) =
        sym (step ∙ ap (λ (b : Bool). (w.done ++ line) ++ lines_from (suc i) (drop (frame_of (drop place s)) (drop place s)) (cond b [] after)) e ∙ append-nil (w.done ++ line)) in
        as_text n (omega (arith, (walk_few h).1)) puts_line

    next_is : t.last ≡ false → Next (drop place s) t.next
    next_is e = subst (λ (t : Turn). Next (drop place s) t.next) (sym turn_is) (turn_next o c (drop place s) (ap (λ (t : Turn). t.last) (sym turn_is) ∙ e))

    pub walk_place : t.last ≡ false → (4 ≤ t.next) × (place + t.next ≤ length s)
    walk_place e =
        let d : length (drop place s) ≡ length s - place = length-drop place s in
        ((next_is e).header, omega (arith, (next_is e).within))

    pub walk_more : t.last ≡ false → Walking s old new t.fresh t.chip (place + t.next) next (i + 1)
    unfolding after
    walk_more e =
        let o : suc i ≡ i + 1 = omega arith in
        let d : drop t.next (drop place s) ≡ drop (place + t.next) s = drop-drop t.next place s in
        record {
          done = w.done ++ line;
          whole =
              step ∙ ap (λ (b : Bool). (w.done ++ line) ++ lines_from (suc i) (drop (frame_of (drop place s)) (drop place s)) (cond b [] after)) e
              ∙ ap (λ (n : ℕ). (w.done ++ line) ++ lines_from (suc i) (drop n (drop place s)) after) (next_is e).frame
              ∙ ap (λ (l : List ℕ). (w.done ++ line) ++ lines_from (suc i) l (runs (length s - (i + 1)) t.fresh t.chip l)) d
              ∙ ap (λ (n : ℕ). (w.done ++ line) ++ lines_from n (drop (place + t.next) s) (runs (length s - (i + 1)) t.fresh t.chip (drop (place + t.next) s))) o;
          puts = puts_line;
          inside = (walk_place e).1;
          slow = omega (arith, w.slow, (next_is e).header);
        }
