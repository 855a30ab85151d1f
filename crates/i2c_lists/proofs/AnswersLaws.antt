-- What the call owes, said over the grammar: which lines have which number, and that what is written reads back. Assumes nothing.
use Rattle.std.specs.Prelude.{◌≡◌, refl, ◌⊎◌, ℕ, ◌<◌, ◌≤◌, List, [], ◌∷◌, ◌++◌, Bool, true, false, cond, ◌&&◌, leb, ℤ, pos, negsuc}
use Rattle.std.specs.Prelude.{neg_ℤ, length, drop}
use Rattle.std.proofs.Common.{ap, sym, ◌∙◌, subst, inl, inr, append_assoc, arith, le-leb, leb-true, leb-false}
use Rattle.std.proofs.Math.Bool.{and-false}
use Rattle.std.proofs.Math.Seq.{drop-append_seam}
use Rattle.std.proofs.lemmas.Bool.{lt-leb}
use Rattle.events.specs.Event.{counts_fit}
use Rattle.events.specs.declared.BusEvent.{BusEvent}
use Rattle.events.specs.declared.Event.TheVariants.{OnBus}
use Rattle.records.specs.Record.{no_counts, read_of}
use Rattle.records.specs.declared.Read.TheVariants.{Record}
use Rattle.writer.specs.Write.{record_for, refusal_for, value_refusal, written_of}
use Rattle.writer.proofs.TripLaws.{read_back}
use Rattle.i2c_lists.specs.Grammar.{Message, Says}
use Rattle.i2c_lists.specs.Reader.{Listing, lists, none, list_in}
use Rattle.i2c_lists.specs.ExactLaws.{says_read, read_says}
use Rattle.i2c_lists.specs.Records.{near, address_of, all_near, events_of, records_of, bytes_of, number_for, answer_with, contents_with}
use Rattle.i2c_lists.specs.Records.{Taken}

-- ── 20 is the number of the lines that say no list ──
list_not_20 : (n t : Bool) → ◌≡◌ {A = ℕ} (cond n (cond t 0 5) 21) 20 → ⊥
list_not_20 true true h = omega (arith, h)
list_not_20 true false h = omega (arith, h)
list_not_20 false t h = omega (arith, h)

pub twenty_none : (line : List ℕ) (room : ℕ) → number_for (list_in line) room ≡ 20 → (ms : List Message) → Says line ms → ⊥
twenty_none line room h ms s =
    let e : list_in line ≡ lists ms = says_read s in
    list_not_20 (all_near ms) (leb (length (records_of (events_of ms))) room) (sym (ap (λ (x : Listing). number_for x room) e) ∙ h)

none_by : (line : List ℕ) (x : Listing) → list_in line ≡ x → ((ms : List Message) → Says line ms → ⊥) → x ≡ none
none_by line (lists ms) e h = absurd (h ms (read_says line ms e))
none_by line none e h = refl

none_read : (line : List ℕ) → ((ms : List Message) → Says line ms → ⊥) → list_in line ≡ none
none_read line h = none_by line (list_in line) refl h

pub none_twenty : (line : List ℕ) (room : ℕ) → ((ms : List Message) → Says line ms → ⊥) → number_for (list_in line) room ≡ 20
none_twenty line room h = ap (λ (x : Listing). number_for x room) (none_read line h)

-- ── 21 is the number of the lists that have an address outside 0x08 to 0x77 ──
pub data Outside : List Message → Type 0 where
  here : (m : Message) (ms : List Message) → (address_of m < 0x08) ⊎ (0x77 < address_of m) → Outside (m ∷ ms)
  there : (m : Message) (ms : List Message) → Outside ms → Outside (m ∷ ms)

outside_by : (m : Message) (ms : List Message) (t u : Bool) → leb 0x08 (address_of m) ≡ t → leb (address_of m) 0x77 ≡ u
    → (all_near ms ≡ false → Outside ms)
    → (t && u) && all_near ms ≡ false → Outside (m ∷ ms)
outside_by m ms true true et eu i h = there m ms (i h)
outside_by m ms true false et eu i h = here m ms (inr (leb-false (address_of m) 0x77 eu))
outside_by m ms false u et eu i h = here m ms (inl (leb-false 0x08 (address_of m) et))

far_outside : (ms : List Message) → all_near ms ≡ false → Outside ms
far_outside [] h = absurd (let z : ◌≡◌ {A = ℕ} 0 1 = cc in omega arith)
far_outside (m ∷ ms) h = outside_by m ms (leb 0x08 (address_of m)) (leb (address_of m) 0x77) refl refl (far_outside ms) h

outside_far : {ms : List Message} → Outside ms → all_near ms ≡ false
outside_far (here m ms (inl h)) = simp (lt-leb 0x08 (address_of m) h)
outside_far (here m ms (inr h)) = simp (lt-leb (address_of m) 0x77 h, and-false (leb 0x08 (address_of m)))
outside_far (there m ms o) = ap (λ (t : Bool). near (address_of m) && t) (outside_far o) ∙ and-false (near (address_of m))

-- a list's number by its two tests, backwards
picked : (n t : Bool)
    → (◌≡◌ {A = ℕ} (cond n (cond t 0 5) 21) 21 → n ≡ false) × (◌≡◌ {A = ℕ} (cond n (cond t 0 5) 21) 5 → (n ≡ true) × (t ≡ false))
picked true true = (λ h. absurd (omega (arith, h)), λ h. absurd (omega (arith, h)))
picked true false = (λ h. absurd (omega (arith, h)), λ h. (refl, refl))
picked false t = (λ h. refl, λ h. absurd (omega (arith, h)))

module _ (line : List ℕ) (room : ℕ) (ms : List Message) (s : Says line ms) where
  said : number_for (list_in line) room ≡ number_for (lists ms) room
  said = let e : list_in line ≡ lists ms = says_read s in ap (λ (x : Listing). number_for x room) e

  pub outside_21 : Outside ms → number_for (list_in line) room ≡ 21
  outside_21 o = said ∙ ap (λ (t : Bool). cond t (cond (leb (length (records_of (events_of ms))) room) 0 5) 21) (outside_far o)

  pub only_outside_21 : number_for (list_in line) room ≡ 21 → Outside ms
  only_outside_21 h = far_outside ms ((picked (all_near ms) (leb (length (records_of (events_of ms))) room)).0 (sym said ∙ h))

  -- ── then 5, where the records do not fit ──
  pub short_5 : all_near ms ≡ true → room < length (records_of (events_of ms)) → number_for (list_in line) room ≡ 5
  short_5 n h = said ∙ simp (n, lt-leb (length (records_of (events_of ms))) room h)

  pub only_short_5 : number_for (list_in line) room ≡ 5 → (all_near ms ≡ true) × (room < length (records_of (events_of ms)))
  only_short_5 h =
      let p : (all_near ms ≡ true) × (leb (length (records_of (events_of ms))) room ≡ false) =
      (picked (all_near ms) (leb (length (records_of (events_of ms))) room)).1 (sym said ∙ h) in
      (p.0, leb-false (length (records_of (events_of ms))) room p.1)

-- ── the call, for a line that says a list and for one that says none ──
pub call_list : (line old : List ℕ) (r : ℤ) (new : List ℕ) (ms : List Message) → Says line ms → Taken line old r new
    → (r ≡ answer_with (number_for (lists ms) (length old)) (records_of (events_of ms)))
    × (new ≡ contents_with (number_for (lists ms) (length old)) (records_of (events_of ms)) old)
call_list line old r new ms s t =
    let e : list_in line ≡ lists ms = says_read s in (
      t.answer ∙ ap (λ (x : Listing). answer_with (number_for x (length old)) (bytes_of x)) e,
      t.contents ∙ ap (λ (x : Listing). contents_with (number_for x (length old)) (bytes_of x) old) e,
    )

pub call_none : (line old : List ℕ) (r : ℤ) (new : List ℕ) → ((ms : List Message) → Says line ms → ⊥) → Taken line old r new
    → (r ≡ neg_ℤ (pos 20)) × (new ≡ old)
call_none line old r new h t =
    let e : list_in line ≡ none = none_read line h in (
      t.answer ∙ ap (λ (x : Listing). answer_with (number_for x (length old)) (bytes_of x)) e,
      t.contents ∙ ap (λ (x : Listing). contents_with (number_for x (length old)) (bytes_of x) old) e,
    )

-- two answers that the promise allows are the same
pub one_answer : (line old : List ℕ) (r r' : ℤ) (new new' : List ℕ) → Taken line old r new → Taken line old r' new'
    → (r ≡ r') × (new ≡ new')
one_answer line old r r' new new' t u = (t.answer ∙ sym u.answer, t.contents ∙ sym u.contents)

-- ── what is written reads back: each event in turn, and then the bytes that followed ──
pub data Reads (part : ℕ) : List ℕ → List BusEvent → List ℕ → Type 0 where
  all_read : (s : List ℕ) → Reads part s [] s
  then_read : (s rest : List ℕ) (e : BusEvent) (es : List BusEvent) (n : ℕ) → read_of part s ≡ Record (OnBus e) n
      → Reads part (drop n s) es rest → Reads part s (e ∷ es) rest

bus_accepted : (part : ℕ) → 1 ≤ part → part ≤ 3 → (e : BusEvent) → refusal_for (OnBus e) no_counts part ≡ 0
unfolding refusal_for value_refusal counts_fit
bus_accepted part a b e = simp (le-leb 1 part a, le-leb part 3 b)

module _ (part : ℕ) (a : 1 ≤ part) (b : part ≤ 3) where
  pub records_read : (es : List BusEvent) (rest : List ℕ) → Reads part (records_of es ++ rest) es rest
  records_read [] rest = all_read rest
  records_read (e ∷ es) rest =
      let r : List ℕ = record_for (OnBus e) no_counts in
      let s : (r ++ records_of es) ++ rest ≡ r ++ (records_of es ++ rest) = append_assoc r (records_of es) rest in
      let d : Reads part (drop (length r) (r ++ (records_of es ++ rest))) es rest =
      subst (λ (l : List ℕ). Reads part l es rest) (sym (drop-append_seam r (records_of es ++ rest))) (records_read es rest) in
      subst (λ (l : List ℕ). Reads part l (e ∷ es) rest) (sym s)
      (then_read (r ++ (records_of es ++ rest)) rest e es (length r)
      (read_back (OnBus e) no_counts part (bus_accepted part a b e) refl (records_of es ++ rest)) d)

  -- said of the call: a list that is taken reads back as its events, and what stood after the records stands there
  pub call_reads : (line old : List ℕ) (r : ℤ) (new : List ℕ) (ms : List Message) → Says line ms → number_for (lists ms) (length old) ≡ 0
      → Taken line old r new
      → Reads part new (events_of ms) (drop (length (records_of (events_of ms))) old)
  call_reads line old r new ms s z t =
      let bytes : List ℕ = records_of (events_of ms) in
      let c : new ≡ written_of bytes old = (call_list line old r new ms s t).1 ∙ ap (λ (n : ℕ). contents_with n bytes old) z in
      subst (λ (l : List ℕ). Reads part l (events_of ms) (drop (length bytes) old)) (sym c)
      (records_read (events_of ms) (drop (length bytes) old))

-- ── an answer is how many bytes were written, within the room, or minus a number from 1 to 21 ──
pub data Answered (room : ℕ) : ℤ → Type 0 where
  done : (n : ℕ) → n ≤ room → Answered room (pos n)
  refused : (n : ℕ) → n < 21 → Answered room (negsuc n)

answered_by : (bytes : List ℕ) (room : ℕ) (n t : Bool) → leb (length bytes) room ≡ t
    → Answered room (answer_with (cond n (cond t 0 5) 21) bytes)
answered_by bytes room true true e = done (length bytes) (leb-true (length bytes) room e)
answered_by bytes room true false e = refused 4 (omega arith)
answered_by bytes room false t e = refused 20 (omega arith)

answered_for : (x : Listing) (room : ℕ) → Answered room (answer_with (number_for x room) (bytes_of x))
answered_for none room = refused 19 (omega arith)
answered_for (lists ms) room =
    answered_by (records_of (events_of ms)) room (all_near ms) (leb (length (records_of (events_of ms))) room) refl

pub answered : (line old : List ℕ) (r : ℤ) (new : List ℕ) → Taken line old r new → Answered (length old) r
answered line old r new t = subst (Answered (length old)) (sym t.answer) (answered_for (list_in line) (length old))
