-- THE LAW OF FEEDING: fed in any pieces of whole records, the entries that the calls write are those of the whole stream; playing a
-- stream is feeding no chip yet; and a record cut short gives number 9 and leaves the chip. Assumes nothing.
use Rattle.std.specs.Prelude.{◌≡◌, refl, Bool, true, false, cond, not, ◌&&◌, List, [], ◌∷◌, ◌++◌, ℕ, ◌+◌, ◌*◌, ◌≤◌, leb, ltb, ℤ}
use Rattle.std.specs.Prelude.{pos, negsuc, length, take, drop}
use Rattle.std.proofs.Common.{sym, ap, ap₂, ◌∙◌, append-nil, append_assoc, arith, length-append, take_at, le-ltb}
use Rattle.records.specs.declared.Read.{Read}
use Rattle.records.specs.declared.Read.TheVariants.{Cut}
use Rattle.records.specs.Record.{read_of}
use Rattle.chip.specs.declared.Chip.{Chip}
use Rattle.chip.specs.Chip.{numbered}
use Rattle.turn.specs.declared.Entry.{Entry}
use Rattle.turn.specs.Turn.{none, entry_of, turned, turn_of}
use Rattle.turn.specs.Entries.{runs, stands, stays, entries_from, chip_from, fresh_from, entries}
use Rattle.turn.specs.Entries.{entry_bytes, bytes_of}
use Rattle.stream_run.specs.Stream.{Played}
use Rattle.turn.specs.Pieces.{joined, fed_entries, fed_chip, fed_fresh, WholePieces, played_in_pieces}
use Rattle.chip_bytes_layout.specs.Kept.{Kept}
use Rattle.chip_bytes_layout.specs.Layout.{keeps, no_chip, kept_at, kept_of, kept_bytes}
use Rattle.chip_bytes_layout.proofs.OneLaws.{Stood, not_yet, trip, kept_length}
use Rattle.feed.specs.Fed.{entries_of, all_fit, feeds, chip_after, entries_after, Fed}
use Rattle.feed.specs.KeptLaws.{from_stands}

-- ── a buffer that keeps a chip ──
pub record Keeps (b : List ℕ) (c : Chip) (o : Bool) : Type 0 where
  pub room : 96 ≤ length b
  pub bytes : take 96 b ≡ kept_bytes c o
  pub stood : Stood c o

module _ {b : List ℕ} {c : Chip} {o : Bool} (k : Keeps b c o) where
  pub kept_is : kept_of b ≡ keeps c o
  kept_is = ap (λ (t : Bool). cond t no_chip (kept_at (take 96 b))) (le-ltb (length b) 96 k.room) ∙ ap kept_at k.bytes ∙ trip k.stood

bytes_length : (es : List Entry) → length (bytes_of es) ≡ 5 * length es
bytes_length [] = refl
bytes_length (e ∷ es) = let h : length (bytes_of es) ≡ 5 * length es = bytes_length es in omega arith

bytes_append : (a b : List Entry) → bytes_of (a ++ b) ≡ bytes_of a ++ bytes_of b
bytes_append [] b = refl
bytes_append (e ∷ a) b = ap (λ (l : List ℕ). entry_bytes e ++ l) (bytes_append a b)

-- ── one call that is done ──
module _ {b s old : List ℕ} {c : Chip} {o : Bool} {n : ℕ} {chip new : List ℕ} (k : Keeps b c o) (f : Fed b s old (pos n) chip new) where
  abbrev es : List Entry
  es = entries_from o c s

  wide : ltb (length b) 96 ≡ false
  wide = le-ltb (length b) 96 k.room

  answered : pos n ≡ cond (leb (5 * length es) (length old)) (pos (length es)) (negsuc 4)
  answered =
      f.answer
      ∙ ap (λ (t : Bool). cond t (negsuc 4)
      (cond (kept_of b).good (cond (all_fit (kept_of b) s (length old)) (pos (length (entries_of (kept_of b) s))) (negsuc 4))
      (negsuc 25))) wide
      ∙ ap (λ (k : Kept). cond k.good (cond (all_fit k s (length old)) (pos (length (entries_of k s))) (negsuc 4)) (negsuc 25)) (kept_is k)

  fits_by : (t : Bool) → leb (5 * length es) (length old) ≡ t → pos n ≡ cond t (pos (length es)) (negsuc 4)
      → (leb (5 * length es) (length old) ≡ true) × (n ≡ length es)
  fits_by true e a = (e, cc)
  fits_by false e a = let z : ◌≡◌ {A = ℕ} 0 1 = cc in absurd (omega arith)

  fits : (leb (5 * length es) (length old) ≡ true) × (n ≡ length es)
  fits = fits_by (leb (5 * length es) (length old)) refl answered

  feeds_is : feeds b s (length old) ≡ true
  feeds_is =
      ap (λ (t : Bool). not t && (kept_of b).good && all_fit (kept_of b) s (length old)) wide
      ∙ ap (λ (k : Kept). k.good && all_fit k s (length old)) (kept_is k) ∙ fits.0

  pub chip_is : chip ≡ kept_bytes (chip_from o c s) (fresh_from o c s) ++ drop 96 b
  chip_is =
      f.kept ∙ ap (λ (t : Bool). cond t (chip_after (kept_of b) s b) b) feeds_is ∙ ap (λ (k : Kept). chip_after k s b) (kept_is k)
      ∙ ap (λ (t : Bool). cond t b (kept_bytes (chip_from o c s) (fresh_from o c s) ++ drop 96 b)) wide

  new_is : new ≡ bytes_of es ++ drop (5 * length es) old
  new_is = f.contents ∙ ap (λ (t : Bool). cond t (entries_after (kept_of b) s old) old) feeds_is
      ∙ ap (λ (k : Kept). entries_after k s old) (kept_is k)

  -- it wrote the entries ..
  pub wrote : take (5 * n) new ≡ bytes_of es
  wrote = ap (take (5 * n)) new_is
      ∙ take_at (bytes_of es) (drop (5 * length es) old) (5 * n) (bytes_length es ∙ ap (λ (m : ℕ). 5 * m) (sym fits.1))

  -- .. and keeps the chip that they leave
  pub keeps_on : Keeps chip (chip_from o c s) (fresh_from o c s)
  keeps_on =
      let l : length (kept_bytes (chip_from o c s) (fresh_from o c s)) ≡ 96 = kept_length (chip_from o c s) (fresh_from o c s) in
      record {
        room = omega (arith, ap length chip_is, length-append (kept_bytes (chip_from o c s) (fresh_from o c s)) (drop 96 b), l);
        bytes = ap (take 96) chip_is ∙ take_at (kept_bytes (chip_from o c s) (fresh_from o c s)) (drop 96 b) 96 l;
        stood = from_stands s k.stood;
      }

-- ── calls one after the other, on one buffer: the pieces, what they wrote, and the buffer at the end ──
pub data Calls : List ℕ → List (List ℕ) → List ℕ → List ℕ → Type 0 where
  no_call : (b : List ℕ) → Calls b [] [] b
  a_call : (b s old : List ℕ) (n : ℕ) (chip new : List ℕ) (ps : List (List ℕ)) (w end : List ℕ) → Fed b s old (pos n) chip new
      → Calls chip ps w end → Calls b (s ∷ ps) (take (5 * n) new ++ w) end

pub calls_write : {b : List ℕ} {ps : List (List ℕ)} {w end : List ℕ} {c : Chip} {o : Bool} → Keeps b c o → Calls b ps w end
    → (w ≡ bytes_of (fed_entries o c ps)) × Keeps end (fed_chip o c ps) (fed_fresh o c ps)
calls_write k (no_call b) = (refl, k)
calls_write {c = c} {o = o} k (a_call b s old n chip new ps w end f cs) =
    let r = calls_write (keeps_on k f) cs in
    (ap₂ ◌++◌ (wrote k f) r.0 ∙ sym (bytes_append (entries_from o c s) (fed_entries (fresh_from o c s) (chip_from o c s) ps)), r.1)

-- a last piece is one more
more_pieces : (o : Bool) (c : Chip) (ps : List (List ℕ)) (s : List ℕ)
    → fed_entries o c (ps ++ s ∷ []) ≡ fed_entries o c ps ++ entries_from (fed_fresh o c ps) (fed_chip o c ps) s
more_pieces o c [] s = append-nil (entries_from o c s)
more_pieces o c (a ∷ ps) s =
    ap (λ (l : List Entry). entries_from o c a ++ l) (more_pieces (fresh_from o c a) (chip_from o c a) ps s)
    ∙ sym (append_assoc (entries_from o c a) (fed_entries (fresh_from o c a) (chip_from o c a) ps)
    (entries_from (fed_fresh o c (a ∷ ps)) (fed_chip o c (a ∷ ps)) s))

-- zeroed bytes keep no chip yet
pub zeroed : (b : List ℕ) → 96 ≤ length b → take 96 b ≡ kept_bytes none false → Keeps b none false
zeroed b h e = record { room = h; bytes = e; stood = not_yet }

-- THE LAW: from zeroed bytes, in any pieces of whole records and a last piece of any bytes, the calls write the entries of the whole stream
pub fed_as_played : {b : List ℕ} {ps : List (List ℕ)} {w end : List ℕ} (s : List ℕ) → Keeps b none false → WholePieces false none ps
    → Calls b (ps ++ s ∷ []) w end
    → w ≡ bytes_of (entries (joined ps ++ s))
fed_as_played {ps = ps} s k h cs = (calls_write k cs).0 ∙ ap bytes_of (more_pieces false none ps s ∙ sym (played_in_pieces h s))

-- PLAYING IS FEEDING NO CHIP YET: the same answer, and the same entries
pub played_is_fed : {b s old : List ℕ} {r : ℤ} {chip new : List ℕ} → Keeps b none false → Fed b s old r chip new → Played s old r new
unfolding entries entries_from
played_is_fed {b} {s} {old} k f =
    let wide : ltb (length b) 96 ≡ false = le-ltb (length b) 96 k.room in
    record {
      answer =
          f.answer
          ∙ ap (λ (t : Bool). cond t (negsuc 4)
          (cond (kept_of b).good (cond (all_fit (kept_of b) s (length old)) (pos (length (entries_of (kept_of b) s))) (negsuc 4))
          (negsuc 25))) wide
          ∙ ap (λ (k : Kept). cond k.good (cond (all_fit k s (length old)) (pos (length (entries_of k s))) (negsuc 4)) (negsuc 25))
          (kept_is k);
      contents =
          f.contents
          ∙ ap (λ (t : Bool). cond (not t && (kept_of b).good && all_fit (kept_of b) s (length old)) (entries_after (kept_of b) s old) old)
          wide
          ∙ ap (λ (k : Kept). cond (k.good && all_fit k s (length old)) (entries_after k s old) old) (kept_is k);
    }

-- A RECORD CUT SHORT is one entry with number 9, and leaves the chip as before it, so that it can be fed whole later
pub record Cuts (o : Bool) (c : Chip) (s : List ℕ) : Type 0 where
  pub gives : entries_from o c s ≡ entry_of (numbered 9 c) ∷ []
  pub leaves : chip_from o c s ≡ c
  pub opens : fresh_from o c s ≡ o

pub cut_leaves : (o : Bool) (c : Chip) (x : ℕ) (s : List ℕ) → read_of c.setup.part (x ∷ s) ≡ Cut → Cuts o c (x ∷ s)
unfolding entries_from chip_from fresh_from turn_of
cut_leaves o c x s h =
    record {
      gives = ap
          (λ (r : Read). (turned o c (x ∷ s) r).entry ∷ cond (turned o c (x ∷ s) r).last []
          (runs (length s) (turned o c (x ∷ s) r).fresh (turned o c (x ∷ s) r).chip (drop (turned o c (x ∷ s) r).next (x ∷ s)))) h;
      leaves = ap
          (λ (r : Read). cond (turned o c (x ∷ s) r).last (turned o c (x ∷ s) r).chip
          (stands (length s) (turned o c (x ∷ s) r).fresh (turned o c (x ∷ s) r).chip (drop (turned o c (x ∷ s) r).next (x ∷ s)))) h;
      opens = ap
          (λ (r : Read). cond (turned o c (x ∷ s) r).last (turned o c (x ∷ s) r).fresh
          (stays (length s) (turned o c (x ∷ s) r).fresh (turned o c (x ∷ s) r).chip (drop (turned o c (x ∷ s) r).next (x ∷ s)))) h;
    }

-- two answers that the call may give are the same
pub same_fed : {b s old : List ℕ} {r t : ℤ} {chip chip' new new' : List ℕ} → Fed b s old r chip new → Fed b s old t chip' new'
    → (r ≡ t) × (chip ≡ chip') × (new ≡ new')
same_fed p q = (p.answer ∙ sym q.answer, p.kept ∙ sym q.kept, p.contents ∙ sym q.contents)
