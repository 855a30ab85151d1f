-- The loop over a stream: what stands after n entries. Assumes nothing.
use mathlib.Core.Path.{◌≡◌, refl, ap, sym, ◌∙◌, subst}
use Prim.Native.Nat.{ℕ, suc, ◌+◌, ◌-◌, ◌*◌, ◌/◌, ◌<◌, ◌≤◌}
use mathlib.Core.List.{List, [], ◌∷◌, ◌++◌, append_assoc, append-nil}
use mathlib.Core.Bool.{Bool, true, false, cond}
use native.Mathlib.Omega.{arith}
use lib.ListN.{length, take, drop, length-append, length-drop, drop_of_length-le}
use lib.Seq.{sets, sets-eq, length-sets, take_at, drop-append-add, drop-drop, take-nil, take-append-le}
use lib.Dec.{eqb, leb}
use borrow.Author.Tests.{leb-true, leb-false}
use Rattle.constants.specs.Refusal.{number_of as refusal_number}
use Rattle.constants.specs.declared.refusal.Refusal.{Refusal}
use Rattle.records.specs.Record.{read_of, number_of}
use Rattle.records.specs.declared.Read.{Read}
use Rattle.records.specs.declared.Read.TheVariants.{Record, Refused, Cut}
use Rattle.records.specs.ReadingLaws.{Placed, placed}
use Rattle.records.specs.contracts.Read.{the_type as read_type}
use types.Run.{OneOf}
use denote.Enum.Declared.{tag_of}
use mathlib.Core.Logic.{⊎_elim}
use Rattle.chip.specs.declared.Chip.{Chip}
use Rattle.chip.specs.Chip.{numbered}
use Rattle.chip.specs.Calm.{Calmed}
use Rattle.chip.proofs.Calm.{ship_calm}
use Rattle.turn.specs.Turn.{Turn, turn, turn_of, turned, none, entry_of}
use Rattle.turn.specs.Entries.{runs, stands, stays, entries_from, chip_from, fresh_from, entry_bytes, bytes_of, noted, entered}
use Rattle.turn.specs.Passed.{passed}
use Rattle.stream_run.specs.Stream.{Ran}
use Rattle.turn.specs.CalmLaws.{turn_calm}
use Rattle.turn.proofs.Runs.{rest_is, bytes_append, bytes_length, entered_all, runs-cons, runs-nil, stands_cons, stands-nil, stays_cons}
use Rattle.turn.proofs.Runs.{stays-nil, turn_next}
use Rattle.stream_run.specs.declared.Left.{Left}
use Rattle.turn.specs.declared.Entry.{Entry}

-- entries that were noted in a buffer
pub record Made (done : List Entry) (old out : List ℕ) (n : ℕ) : Type 0 where
  pub count : length done ≡ n
  pub same : length out ≡ length old
  pub wrote : out ≡ entered old done

pub made_none : (old : List ℕ) → Made [] old old 0
made_none old = record { count = refl; same = refl; wrote = sym (ap (λ (l : List Entry). bytes_of l ++ drop (5 * length l) old) (take-nil (length old / 5))) }

module _ (done : List Entry) (old out : List ℕ) (n : ℕ) (e : Entry) (m : Made done old out n) where
  noted-length : length (noted out n e) ≡ length old
  noted-length = by (leb (5 * n + 5) (length out)) ∙ m.same
    where
      by : (t : Bool) → length (cond t (sets out (5 * n) (entry_bytes e)) out) ≡ length out
      by true = length-sets out (5 * n) (entry_bytes e)
      by false = refl

  -- where it fits
  stored_is : 5 * n + 5 ≤ length old → sets out (5 * n) (entry_bytes e) ≡ bytes_of (done ++ (e ∷ [])) ++ drop (5 * (n + 1)) old
  stored_is h =
      let s : length out ≡ length old = m.same in
      let c : length done ≡ n = m.count in
      let w : out ≡ bytes_of done ++ drop (5 * n) old =
      m.wrote ∙ entered_all old done (omega arith) ∙ ap (λ (k : ℕ). bytes_of done ++ drop (5 * k) old) m.count in
      let l : length (bytes_of done) ≡ 5 * n = bytes_length done ∙ ap (λ (k : ℕ). 5 * k) m.count in
      let t : take (5 * n) out ≡ bytes_of done = ap (take (5 * n)) w ∙ take_at (bytes_of done) (drop (5 * n) old) (5 * n) l in
      let f : 5 * (n + 1) ≡ 5 * n + 5 = omega arith in
      let d : drop (5 * n + 5) out ≡ drop (5 * (n + 1)) old =
      ap (drop (5 * n + 5)) w ∙ ap (λ (k : ℕ). drop (k + 5) (bytes_of done ++ drop (5 * n) old)) (sym l) ∙ drop-append-add (bytes_of done) (drop (5 * n) old) 5
      ∙ drop-drop 5 (5 * n) old ∙ ap (λ (k : ℕ). drop k old) (sym f) in
      sets-eq (entry_bytes e) out (5 * n) (omega arith) ∙ rw (t, d, bytes_append done (e ∷ []), append_assoc) refl

  more_length : length (done ++ (e ∷ [])) ≡ n + 1
  more_length = simp length-append (omega (arith, m.count))

  noted_is : noted out n e ≡ entered old (done ++ (e ∷ []))
  noted_is = by (leb (5 * n + 5) (length out)) refl
    where
      by : (t : Bool) → leb (5 * n + 5) (length out) ≡ t → cond t (sets out (5 * n) (entry_bytes e)) out ≡ entered old (done ++ (e ∷ []))
      by true q =
          let h : 5 * n + 5 ≤ length out = leb-true (5 * n + 5) (length out) q in
          let s : length out ≡ length old = m.same in
          stored_is (omega arith) ∙ ap (λ (k : ℕ). bytes_of (done ++ (e ∷ [])) ++ drop (5 * k) old) (sym more_length)
          ∙ sym (entered_all old (done ++ (e ∷ [])) (omega (arith, more_length)))
      by false q =
          let h : length out < 5 * n + 5 = leb-false (5 * n + 5) (length out) q in
          let s : length out ≡ length old = m.same in
          let c : length done ≡ n = m.count in
          m.wrote ∙ sym (ap (λ (l : List Entry). bytes_of l ++ drop (5 * length l) old) (take-append-le (length old / 5) done (e ∷ []) (omega arith)))

  pub made_next : Made (done ++ (e ∷ [])) old (noted out n e) (n + 1)
  made_next = record { count = more_length; same = noted-length; wrote = noted_is }

-- no record, but a refusal or a cut
abbrev pub Skipped : Read → Type 0
Skipped (Record e next) = ⊥
Skipped (Refused k next) = Unit
Skipped Cut = Unit

pub skipped : (x : Read) → OneOf (1 ∷ 2 ∷ []) (tag_of read_type x) → Skipped x
skipped (Record e next) k = absurd (⊎_elim (λ h. omega arith) (λ h. omega arith) k)
skipped (Refused n next) k = tt
skipped Cut k = tt

-- what stands at the loop's head, of a run from c₀: the entries done, and those that are still to come
pub record Going (o₀ : Bool) (c₀ : Chip) (s old out : List ℕ) (o : Bool) (chip : Chip) (at n : ℕ) : Type 0 where
  pub done : List Entry
  pub made : Made done old out n
  pub whole : entries_from o₀ c₀ s ≡ done ++ runs (length s - n) o chip (drop at s)
  pub ends : chip_from o₀ c₀ s ≡ stands (length s - n) o chip (drop at s)
  pub opens : fresh_from o₀ c₀ s ≡ stays (length s - n) o chip (drop at s)
  pub slow : at < length s → 4 * n ≤ at
  pub inside : at ≤ length s
  pub calm : Calmed chip

pub going_none : (o : Bool) (c : Chip) (s old : List ℕ) → Calmed c → Going o c s old old o c 0 0
unfolding entries_from chip_from fresh_from
going_none o c s old k =
    let z : length s ≡ length s - 0 = omega arith in
    record {
      done = [];
      made = made_none old;
      whole = ap (λ (k : ℕ). runs k o c s) z;
      ends = ap (λ (k : ℕ). stands k o c s) z;
      opens = ap (λ (k : ℕ). stays k o c s) z;
      slow = λ h. omega arith;
      inside = omega arith;
      calm = k;
    }

module _ (o₀ : Bool) (c₀ : Chip) (s old out : List ℕ) (o : Bool) (chip : Chip) (at n : ℕ) (g : Going o₀ c₀ s old out o chip at n) where
  pub going_end : length s ≤ at → Ran o₀ c₀ s old (record { chip = chip; fresh = o }) out
  going_end h =
      let e : drop at s ≡ [] = drop_of_length-le s h in
      record {
        chip = sym (g.ends ∙ rw (e, stands-nil (length s - n) o chip) refl);
        fresh = sym (g.opens ∙ rw (e, stays-nil (length s - n) o chip) refl);
        wrote = g.made.wrote ∙ ap (entered old) (sym (g.whole ∙ rw (e, runs-nil (length s - n) o chip, append-nil) refl));
      }

  -- a turn t, and the buffer new after its entry was noted
  module _ (h : at < length s) (t : Turn) (q : t ≡ turn_of o chip (take (length s - at) (drop at s))) (new : List ℕ) (w : new ≡ noted out n t.entry) where
    turn_is : t ≡ turn_of o chip (drop at s)
    turn_is = q ∙ ap (turn_of o chip) (rest_is s at)

    fuel : length s - n ≡ suc (length s - (n + 1))
    fuel = omega (arith, g.slow h)

    left : 0 < length (drop at s)
    left = simp length-drop (omega arith)

    step : entries_from o₀ c₀ s ≡ g.done ++ (t.entry ∷ cond t.last [] (runs (length s - (n + 1)) t.fresh t.chip (drop (at + t.next) s)))
    step =
        g.whole ∙ ap (λ (m : List Entry). g.done ++ m)
        (ap (λ (k : ℕ). runs k o chip (drop at s)) fuel ∙ runs-cons (length s - (n + 1)) o chip (drop at s) left ∙ rw (← turn_is, drop-drop) refl)

    step_ends : chip_from o₀ c₀ s ≡ cond t.last t.chip (stands (length s - (n + 1)) t.fresh t.chip (drop (at + t.next) s))
    step_ends =
        g.ends ∙ ap (λ (k : ℕ). stands k o chip (drop at s)) fuel ∙ stands_cons (length s - (n + 1)) o chip (drop at s) left ∙ rw (← turn_is, drop-drop) refl

    step_opens : fresh_from o₀ c₀ s ≡ cond t.last t.fresh (stays (length s - (n + 1)) t.fresh t.chip (drop (at + t.next) s))
    step_opens =
        g.opens ∙ ap (λ (k : ℕ). stays k o chip (drop at s)) fuel ∙ stays_cons (length s - (n + 1)) o chip (drop at s) left ∙ rw (← turn_is, drop-drop) refl

    made_new : Made (g.done ++ (t.entry ∷ [])) old new (n + 1)
    made_new = rw w (made_next g.done old out n t.entry g.made)

    calm_new : Calmed t.chip
    calm_new = subst (λ (t : Turn). Calmed t.chip) (sym turn_is) (turn_calm o chip (drop at s) g.calm)

    -- the last: the run ends with the bytes
    pub going_stop : t.last ≡ true → Going o₀ c₀ s old new t.fresh t.chip (length s) (n + 1)
    going_stop e =
        let d : drop (length s) s ≡ [] = drop_of_length-le s {i = length s} (omega arith) in
        record {
          done = g.done ++ (t.entry ∷ []);
          made = made_new;
          whole = step ∙ rw (e, d, runs-nil (length s - (n + 1)) t.fresh t.chip, append-nil) refl;
          ends = step_ends ∙ rw (e, d, stands-nil (length s - (n + 1)) t.fresh t.chip) refl;
          opens = step_opens ∙ rw (e, d, stays-nil (length s - (n + 1)) t.fresh t.chip) refl;
          slow = λ z. omega (arith, z);
          inside = omega arith;
          calm = calm_new;
        }

    pub going_place : t.last ≡ false → (4 ≤ t.next) × (at + t.next ≤ length s)
    going_place e =
        let p : (4 ≤ t.next) × (t.next ≤ length (drop at s)) = rw turn_is (turn_next o chip (drop at s) (rw turn_is at e)) in
        let d : length (drop at s) ≡ length s - at = length-drop at s in
        (p.0, omega arith)

    pub going_more : t.last ≡ false → Going o₀ c₀ s old new t.fresh t.chip (at + t.next) (n + 1)
    going_more e =
        let p : (4 ≤ t.next) × (at + t.next ≤ length s) = going_place e in
        record {
          done = g.done ++ (t.entry ∷ []);
          made = made_new;
          whole = step ∙ rw (e, append_assoc) refl;
          ends = step_ends ∙ rw e refl;
          opens = step_opens ∙ rw e refl;
          slow = λ z. omega (arith, g.slow h, p.0);
          inside = p.1;
          calm = calm_new;
        }

  -- a record that is not done, and the buffer after its number was noted
  module _ (h : at < length s) (new : List ℕ) where
    abbrev here : List ℕ
    here = take (length s - at) (drop at s)

    room : length here ≡ length s - at
    room = ap length (rest_is s at) ∙ length-drop at s

    abbrev refused : ℕ → ℕ → Bool → Turn
    refused k next b = turn (numbered k chip) o next b

    refused_is : (why : Refusal) (next : ℕ) (b : Bool) → Refused why next ≡ read_of chip.setup.part here → eqb chip.setup.part 0 ≡ b → refused (refusal_number why) next b ≡ turn_of o chip here
    unfolding turn_of
    refused_is why next b q e = ap (refused (refusal_number why) next) (sym e) ∙ ap (turned o chip here) q

    refused_goes : (why : Refusal) (next : ℕ) → Refused why next ≡ read_of chip.setup.part here → new ≡ noted out n (entry_of (numbered (refusal_number why) chip)) → (b : Bool) → eqb chip.setup.part 0 ≡ b
        → Going o₀ c₀ s old new o chip (at + cond b (length here) next) (n + 1)
    refused_goes why next q w true e =
        subst (λ (a : ℕ). Going o₀ c₀ s old new o chip a (n + 1)) (omega (arith, room)) (going_stop h (refused (refusal_number why) next true) (refused_is why next true q e) new w refl)
    refused_goes why next q w false e = going_more h (refused (refusal_number why) next false) (refused_is why next false q e) new w refl

    cut_is : Cut ≡ read_of chip.setup.part here → turn (numbered 9 chip) o 0 true ≡ turn_of o chip here
    unfolding turn_of
    cut_is q = ap (turned o chip here) q

    pub going_skip : (x : Read) → x ≡ read_of chip.setup.part here → Skipped x → new ≡ noted out n (entry_of (numbered (number_of x) chip))
        → Going o₀ c₀ s old new o chip (at + passed chip.setup.part (length here) x) (n + 1)
    going_skip (Record e next) q k w = absurd k
    going_skip (Refused why next) q k w = refused_goes why next q w (eqb chip.setup.part 0) refl
    going_skip Cut q k w =
        subst (λ (a : ℕ). Going o₀ c₀ s old new o chip a (n + 1)) (omega (arith, room)) (going_stop h (turn (numbered 9 chip) o 0 true) (cut_is q) new w refl)

    -- it goes on, and stays within the bytes
    pub passes : (x : Read) → x ≡ read_of chip.setup.part here → Skipped x → (0 < passed chip.setup.part (length here) x) × (at + passed chip.setup.part (length here) x ≤ length s)
    passes (Record e next) q k = absurd k
    passes (Refused why next) q k =
        let p : Placed (length here) (Refused why next) = subst (Placed (length here)) (sym q) (placed chip.setup.part here) in
        by (eqb chip.setup.part 0) p
      where
        by : (b : Bool) → (4 ≤ next) × (next ≤ length here) → (0 < cond b (length here) next) × (at + cond b (length here) next ≤ length s)
        by true p = (omega (arith, room), omega (arith, room))
        by false p = (omega (arith, p), omega (arith, room, p))
    passes Cut q k = (omega (arith, room), omega (arith, room))

-- a run from the chip d, which is none
pub none_calm : (d : Chip) → d ≡ none → Calmed d
none_calm d e = subst Calmed (sym e) (ship_calm none.setup)

pub from_none : {s old new : List ℕ} {left : Left} (d : Chip) → d ≡ none → Ran false d s old left new → Ran false none s old left new
from_none {s} {old} {new} {left} d e r = subst (λ (d : Chip). Ran false d s old left new) e r
