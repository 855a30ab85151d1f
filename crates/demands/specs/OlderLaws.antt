-- What an older reader gives of a stream: our entries, up to the first record of a kind that is newer than it; that record it refuses with
-- 2, its chip as it was. Assumes nothing.
use Rattle.std.specs.Prelude.{◌≡◌, refl, Bool, true, List, [], ◌∷◌, ℕ, zero, suc, ◌+◌, ◌-◌, ◌<◌, ◌≤◌, eqb, leb, ltb, length, take, drop}
use Rattle.std.specs.Prelude.{Err}
use Rattle.std.proofs.Math.Path.{sym, ap}
use Rattle.std.proofs.Common.{subst, ◌∙◌, arith}
use Rattle.std.proofs.Math.Bool.{false, cond}
use borrow.Author.Tests.{ne_eqb, lt-leb, le-ltb}
use Rattle.constants.specs.declared.refusal.Refusal.TheVariants.{BadKind}
use Rattle.records.specs.declared.Read.{Read}
use Rattle.records.specs.declared.Read.TheVariants.{Record, Refused, Cut}
use Rattle.bits.specs.Numbers.{le16}
use Rattle.records.specs.Frame.{frame_of}
use Rattle.records.specs.Record.{payload_of, as_read, read_of}
use Rattle.chip.specs.declared.Chip.{Chip}
use Rattle.turn.specs.declared.Entry.{Entry}
use Rattle.turn.specs.Turn.{Turn, none, turned, turn_of}
use Rattle.turn.specs.Entries.{runs, entries}
use Rattle.turn.specs.CountedLaws.{Framed, framed}
use Rattle.demands.specs.Older.{payload_older, read_older, turn_older, runs_older, entries_older, known_by, known}

module _ (newest : ℕ) where
  -- ── one record ──
  same_read : (part : ℕ) (r : List ℕ) → leb (le16 r 2) newest ≡ true → read_older newest part r ≡ read_of part r
  unfolding read_older read_of payload_older
  same_read part r h =
      ap (λ (t : Bool). cond (ltb (length r) 4) Cut
      (cond (ltb (length r - 4) (le16 r 0)) Cut
      (as_read (4 + le16 r 0) (cond t (payload_of (le16 r 2) part (take (le16 r 0) (drop 4 r))) (Err BadKind))))) h

  same_turn : (o : Bool) (c : Chip) (r : List ℕ) → leb (le16 r 2) newest ≡ true → turn_older newest o c r ≡ turn_of o c r
  unfolding turn_older turn_of
  same_turn o c r h = ap (turned o c r) (same_read c.setup.part r h)

  -- a record of a newer kind: 2, and passed over
  pub newer_refused : (part : ℕ) (r : List ℕ) → newest < le16 r 2 → 4 + le16 r 0 ≤ length r
      → read_older newest part r ≡ Refused BadKind (4 + le16 r 0)
  unfolding read_older payload_older
  newer_refused part r h l =
      simp (
        le-ltb (length r) 4 (omega (arith, l)),
        le-ltb (length r - 4) (le16 r 0) (omega (arith, l)),
        lt-leb (le16 r 2) newest h,
      )

  -- ── after it ──
  -- as many as are known after the record that r begins with
  abbrev ahead : ℕ → List ℕ → ℕ → ℕ
  ahead f r n = cond (eqb n 0) 0 (known_by newest f (drop n r))

  module _ (f : ℕ) (r : List ℕ) (a b : List Entry) where
    abbrev Same : ℕ → Type 0
    Same n = take n a ≡ take n b

    past : (n : ℕ) → frame_of r ≡ n → 4 ≤ n → Same (known_by newest f (drop n r)) → Same (ahead f r (frame_of r))
    past n e l h =
        subst (λ (m : ℕ). Same (ahead f r m)) (sym e)
        (subst (λ (t : Bool). Same (cond t 0 (known_by newest f (drop n r)))) (sym (ne_eqb n 0 (λ z. omega (arith, l, z)))) h)

    ended : (t : Bool) (k : ℕ) → (t ≡ false → take k a ≡ take k b) → take k (cond t [] a) ≡ take k (cond t [] b)
    ended true k h = refl
    ended false k h = h refl

    by_frame : (o : Bool) (c : Chip) (x : Read) → Framed r x
        → ((turned o c r x).last ≡ false → Same (known_by newest f (drop (turned o c r x).next r)))
        → take (ahead f r (frame_of r)) (cond (turned o c r x).last [] a) ≡ take (ahead f r (frame_of r)) (cond (turned o c r x).last [] b)
    by_frame o c (Record e n) g i = past n g.0 g.1 (i refl)
    by_frame o c (Refused k n) g i = ended (eqb c.setup.part 0) (ahead f r (frame_of r)) (λ h. past n g.0 g.1 (i h))
    by_frame o c Cut g i = refl

  turn_frame : (f : ℕ) (o : Bool) (c : Chip) (r : List ℕ) (a b : List Entry)
      → ((turn_of o c r).last ≡ false → take (known_by newest f (drop (turn_of o c r).next r)) a
      ≡ take (known_by newest f (drop (turn_of o c r).next r)) b)
      → take (ahead f r (frame_of r)) (cond (turn_of o c r).last [] a) ≡ take (ahead f r (frame_of r)) (cond (turn_of o c r).last [] b)
  unfolding turn_of
  turn_frame f o c r a b i = by_frame f r a b o c (read_of c.setup.part r) (framed c.setup.part r) i

  abbrev Alike : ℕ → Type 0
  Alike f = (o : Bool) (c : Chip) (s : List ℕ)
      → take (known_by newest f s) (runs f o c s) ≡ take (known_by newest f s) (runs_older newest f o c s)

  same_runs : (f : ℕ) → Alike f
  same_runs zero o c s = refl
  same_runs (suc f) o c [] = refl
  same_runs (suc f) o c (b ∷ s) =
      by (leb (le16 (b ∷ s) 2) newest) refl
      (λ o c s. same_runs f o c s)
    where
      t : Turn
      t = turn_of o c (b ∷ s)

      step : Alike f
          → take (ahead f (b ∷ s) (frame_of (b ∷ s))) (cond t.last [] (runs f t.fresh t.chip (drop t.next (b ∷ s))))
          ≡ take (ahead f (b ∷ s) (frame_of (b ∷ s))) (cond t.last [] (runs_older newest f t.fresh t.chip (drop t.next (b ∷ s))))
      step ih = turn_frame f o c (b ∷ s) (runs f t.fresh t.chip (drop t.next (b ∷ s)))
          (runs_older newest f t.fresh t.chip (drop t.next (b ∷ s))) (λ l. ih t.fresh t.chip (drop t.next (b ∷ s)))

      by : (k : Bool) → leb (le16 (b ∷ s) 2) newest ≡ k
          → Alike f
          → take (cond k (suc (ahead f (b ∷ s) (frame_of (b ∷ s)))) 0) (runs (suc f) o c (b ∷ s))
          ≡ take (cond k (suc (ahead f (b ∷ s) (frame_of (b ∷ s)))) 0) (runs_older newest (suc f) o c (b ∷ s))
      by false h ih = refl
      by true h ih =
          ap (λ (l : List Entry). t.entry ∷ l) (step ih)
          ∙ ap (λ (t : Turn). t.entry ∷ take (ahead f (b ∷ s) (frame_of (b ∷ s)))
          (cond t.last [] (runs_older newest f t.fresh t.chip (drop t.next (b ∷ s))))) (sym (same_turn o c (b ∷ s) h))

  -- THE ENTRIES of an older reader are ours, as many as records stand before the first of a newer kind
  pub older_entries : (s : List ℕ) → take (known newest s) (entries_older newest s) ≡ take (known newest s) (entries s)
  unfolding known entries_older entries
  older_entries s = sym (same_runs (length s) false none s)
