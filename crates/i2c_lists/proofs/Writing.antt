-- Records put one after the other: what is done, and what is still to come. Assumes nothing.
use mathlib.Core.Path.{◌≡◌, refl, ap, sym, ◌∙◌, subst}
use Prim.Native.Nat.{ℕ, zero, suc, ◌+◌, ◌-◌, ◌*◌, ◌<◌, ◌≤◌}
use mathlib.Core.List.{List, [], ◌∷◌, ◌++◌, append_assoc, append-nil}
use mathlib.Core.Bool.{Bool, true, false, ◌&&◌}
use native.Mathlib.Omega.{arith}
use lib.Dec.{leb, eqb}
use lib.ListN.{length, take, drop, length-append, length-drop, drop_of_length-le}
use lib.Seq.{sets, sets-eq, length-sets, drop-drop}
use borrow.Author.Rules.{part_to_end}
use borrow.Author.Tests.{le-leb, leb-true}
use Rattle.events.specs.Event.{counts_fit}
use Rattle.events.specs.declared.Counts.{Counts}
use Rattle.events.specs.declared.BusEvent.{BusEvent}
use Rattle.events.specs.declared.BusEvent.TheVariants.{In}
use Rattle.events.specs.declared.Event.TheVariants.{OnBus}
use Rattle.records.specs.Record.{no_counts}
use Rattle.writer.specs.Write.{record_for, refusal_for, value_refusal, written_of}
use Rattle.writer.specs.Write.{Puts as WriterPuts}
use Rattle.writer.specs.Write.{Wrote}
use Rattle.constants.specs.Answer.{gives, refuses}
use Rattle.i2c_lists.specs.Records.{taken, records_of, near}
use Rattle.i2c_words.specs.declared.Word.{Word}
use Rattle.i2c_lists.specs.WordingLaws.{on_word, near_word}
use Rattle.i2c_lists.proofs.WordingLaws.{records_append}
use Rattle.i2c_lists.specs.Putting.{Puts}

-- ── one record, by the writer, which refuses no bus event ──
not_refused : (e : BusEvent) → refusal_for (OnBus e) no_counts 1 ≡ 0
unfolding refusal_for value_refusal counts_fit
not_refused e = refl

module _ (e : BusEvent) (k : Counts) (at : ℕ) (old ys : List ℕ) (r : Wrote) (none : k ≡ no_counts) (room : at + length (records_of (e ∷ [])) ≤ length old)
    (w : WriterPuts (refusal_for (OnBus e) k 1) (record_for (OnBus e) k) (take (length old - at) (drop at old)) r ys) where
  bytes : List ℕ
  bytes = record_for (OnBus e) no_counts

  one : records_of (e ∷ []) ≡ bytes
  unfolding bytes
  one = append-nil (record_for (OnBus e) no_counts)

  fits : at + length bytes ≤ length old
  fits = subst (λ (l : List ℕ). at + length l ≤ length old) one room

  settled : (r ≡ gives (length bytes)) × (ys ≡ written_of bytes (drop at old))
  unfolding bytes
  settled =
      let p : WriterPuts 0 bytes (drop at old) r ys =
      subst (λ (n : ℕ). WriterPuts n bytes (drop at old) r ys) (not_refused e)
      (subst (λ (l : List ℕ). WriterPuts (refusal_for (OnBus e) no_counts 1) bytes l r ys) (part_to_end old at)
      (subst (λ (c : Counts). WriterPuts (refusal_for (OnBus e) c 1) (record_for (OnBus e) c) (take (length old - at) (drop at old)) r ys) none w)) in
      let d : length (drop at old) ≡ length old - at = length-drop at old in
      let t : leb (length bytes) (length (drop at old)) ≡ true = le-leb (length bytes) (length (drop at old)) (omega (arith, fits)) in
      (simp t at p.answer, simp t at p.contents)

  middle : take at old ++ (ys ++ drop (length old - at) (drop at old)) ≡ sets old at (records_of (e ∷ []))
  middle =
      let z : drop (length old - at) (drop at old) ≡ [] = drop_of_length-le (drop at old) {i = length old - at} (simp length-drop (omega arith)) in
      let y : ys ≡ bytes ++ drop (at + length bytes) old = settled.1 ∙ ap (λ (l : List ℕ). bytes ++ l) (drop-drop (length bytes) at old) in
      ap (λ (l : List ℕ). take at old ++ (ys ++ l)) z ∙ ap (λ (l : List ℕ). take at old ++ l) (append-nil ys ∙ y)
      ∙ sym (append_assoc (take at old) bytes (drop (at + length bytes) old)) ∙ sym (sets-eq bytes old at fits) ∙ ap (sets old at) (sym one)

  pub put_done : (n : ℕ) → r ≡ gives n → (at + n ≤ length old) × Puts (e ∷ []) at old (at + n) (take at old ++ (ys ++ drop (length old - at) (drop at old)))
  put_done n q =
      let s : gives n ≡ gives (length bytes) = sym q ∙ settled.0 in
      let m : n ≡ length bytes = cc in
      let l : length (records_of (e ∷ [])) ≡ length bytes = ap length one in
      (omega (arith, fits, m), record { next = omega (arith, m, l); wrote = middle })

  pub put_never : (n : ℕ) → r ≡ refuses n → ⊥
  put_never n q =
      let s : refuses n ≡ gives (length bytes) = sym q ∙ settled.0 in
      let z : ◌≡◌ {A = ℕ} 0 1 = cc in
      omega arith

-- ── records after records ──
sets_join : (l : List ℕ) (i : ℕ) (t u : List ℕ) → sets (sets l i t) (i + length t) u ≡ sets l i (t ++ u)
sets_join l i [] u = ap (λ (k : ℕ). sets l k u) (omega arith)
sets_join l i (a ∷ t) u =
    let e : i + suc (length t) ≡ suc i + length t = omega arith in
    ap (λ (k : ℕ). sets (sets l i (a ∷ t)) k u) e ∙ sets_join _ (suc i) t u

both : (es fs : List BusEvent) → length (records_of (es ++ fs)) ≡ length (records_of es) + length (records_of fs)
both es fs = ap length (records_append es fs) ∙ length-append (records_of es) (records_of fs)

pub room_first : (es fs : List BusEvent) (at room : ℕ) → at + length (records_of (es ++ fs)) ≤ room → at + length (records_of es) ≤ room
room_first es fs at room h = omega (arith, both es fs)

module _ (es fs : List BusEvent) {at r : ℕ} {old mid : List ℕ} where
  pub room_next : Puts es at old r mid → at + length (records_of (es ++ fs)) ≤ length old → r + length (records_of fs) ≤ length mid
  room_next p h =
      let l : length mid ≡ length old = ap length p.wrote ∙ length-sets old at (records_of es) in
      omega (arith, both es fs, p.next, l)

  pub and_then : {q : ℕ} {new : List ℕ} → Puts es at old r mid → Puts fs r mid q new → Puts (es ++ fs) at old q new
  and_then p s =
      record {
        next = omega (arith, both es fs, p.next, s.next);
        wrote =
            s.wrote ∙ ap (λ (l : List ℕ). sets l r (records_of fs)) p.wrote ∙ ap (λ (n : ℕ). sets (sets old at (records_of es)) n (records_of fs)) p.next
            ∙ sets_join old at (records_of es) (records_of fs) ∙ ap (sets old at) (sym (records_append es fs));
      }

pub put_none : (at : ℕ) (old : List ℕ) → Puts [] at old at old
put_none at old = record { next = omega arith; wrote = refl }

pub as_events : {es fs : List BusEvent} {at r : ℕ} {old new : List ℕ} → es ≡ fs → Puts es at old r new → Puts fs at old r new
as_events {es} {fs} {at} {r} {old} {new} e p = subst (λ (l : List BusEvent). Puts l at old r new) e p

-- ── a loop: the events that are put, and those that are to come ──
pub record Putting (all : List BusEvent) (at : ℕ) (old out : List ℕ) (next : ℕ) (rest : List BusEvent) : Type 0 where
  pub done : List BusEvent
  pub whole : all ≡ done ++ rest
  pub puts : Puts done at old next out

pub putting_none : (all : List BusEvent) (at : ℕ) (old : List ℕ) → Putting all at old old at all
putting_none all at old = record { done = []; whole = refl; puts = put_none at old }

module _ {all : List BusEvent} {at : ℕ} {old out : List ℕ} {next : ℕ} {rest : List BusEvent} (p : Putting all at old out next rest) where
  pub putting_length : length out ≡ length old
  putting_length = ap length p.puts.wrote ∙ length-sets old at (records_of p.done)

  pub putting_room : at + length (records_of all) ≤ length old → (es fs : List BusEvent) → rest ≡ es ++ fs → next + length (records_of es) ≤ length out
  putting_room h es fs e =
      let g : at + length (records_of (p.done ++ rest)) ≤ length old = subst (λ (l : List BusEvent). at + length (records_of l) ≤ length old) p.whole h in
      let n : next + length (records_of rest) ≤ length out = room_next p.done rest p.puts g in
      room_first es fs next (length out) (subst (λ (l : List BusEvent). next + length (records_of l) ≤ length out) e n)

  pub putting_more : (es fs : List BusEvent) (after : ℕ) (new : List ℕ) → rest ≡ es ++ fs → Puts es next out after new → Putting all at old new after fs
  putting_more es fs after new e q =
      record {
        done = p.done ++ es;
        whole = p.whole ∙ ap (λ (l : List BusEvent). p.done ++ l) e ∙ sym (append_assoc p.done es fs);
        puts = and_then p.done es p.puts q;
      }

  pub putting_end : rest ≡ [] → Puts all at old next out
  putting_end e = as_events (sym (p.whole ∙ ap (λ (l : List BusEvent). p.done ++ l) e ∙ append-nil p.done)) p.puts

-- ── the bytes of a read ──
pub taken_first : (n : ℕ) → 0 < n → taken n ≡ (In (eqb (n - 1) 0) ∷ []) ++ taken (n - 1)
taken_first zero h = absurd (omega (arith, h))
taken_first (suc n) h = let e : suc n - 1 ≡ n = omega arith in sym (ap (λ (k : ℕ). (In (eqb k 0) ∷ []) ++ taken k) e)

-- an address in range makes a byte
pub near_byte : (a : ℕ) → near a ≡ true → 2 * a + 1 < 256
near_byte a h = by (leb 8 a) (leb a 119) refl h
  where
    by : (t u : Bool) → leb a 119 ≡ u → t && u ≡ true → 2 * a + 1 < 256
    by true true e h = omega (arith, leb-true a 119 e)
    by true false e h = absurd (let z : ◌≡◌ {A = ℕ} 0 1 = cc in omega arith)
    by false u e h = absurd (let z : ◌≡◌ {A = ℕ} 0 1 = cc in omega arith)

-- ── a word that is known ──
module _ {x : Word} (y : Word) (e : x ≡ y) where
  pub word_near : near_word x ≡ true → near_word y ≡ true
  word_near h = subst (λ (z : Word). near_word z ≡ true) e h

  pub word_room : (at : ℕ) (out : List ℕ) → at + length (records_of (on_word x)) ≤ length out → at + length (records_of (on_word y)) ≤ length out
  word_room at out h = subst (λ (z : Word). at + length (records_of (on_word z)) ≤ length out) e h

  pub word_puts : {at r : ℕ} {old new : List ℕ} → Puts (on_word y) at old r new → Puts (on_word x) at old r new
  word_puts p = as_events (ap on_word (sym e)) p
