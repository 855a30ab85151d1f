-- One record, done in the bytes, is that record fed. Assumes nothing.
use mathlib.Core.Path.{◌≡◌, refl, sym, ap, ap₂, ◌∙◌, subst}
use mathlib.Core.Bool.{Bool, true, false, not, ◌&&◌, ◌||◌, cond}
use mathlib.Core.List.{List, [], ◌∷◌, ◌++◌}
use Prim.Native.Nat.{ℕ, zero, suc, ◌-◌, ◌*◌, ◌≤◌}
use native.Mathlib.Omega.{arith}
use lib.Dec.{eqb, leb, ltb}
use lib.IntN.{ℤ, pos}
use lib.ListN.{length, get_or, take, drop, drop_of_length-le}
use lib.Seq.{sets, sets-eq}
use borrow.Author.Rules.{rules}
use borrow.Author.Tests.{eqb-true, le-ltb, le-leb}
use Rattle.events.specs.declared.BusEvent.{BusEvent}
use Rattle.events.specs.declared.Event.{Event}
use Rattle.events.specs.declared.Event.TheVariants.{Scan, Temp, Sense, OnBus, Ticks, Soak}
use Rattle.events.specs.declared.Setup.{Setup}
use Rattle.events.specs.declared.Role.TheVariants.{Happens}
use Rattle.events.specs.Role.{role_of, by_role}
use Rattle.events.specs.Setup.{groups, inputs, standing}
use Rattle.events.specs.Event.{Event as Happening, Meant, means, unfit, event_of, Scan as Scanned, Temp as Warmed, Sense as Ticked}
use Rattle.events.specs.Event.{OnBus as Signalled}
use Rattle.std.specs.Prelude.{Option, Some, None, Ok, Err}
use Rattle.records.specs.declared.Read.TheVariants.{Record}
use Rattle.records.specs.FramingLaws.{framed_reads}
use Rattle.records.specs.ReadingLaws.{Placed, placed}
use Rattle.records.specs.declared.Header.{Header}
use Rattle.records.specs.Frame.{framed, header_of}
use Rattle.records.specs.SoundLaws.{first_setup, no_setup}
use Rattle.records.specs.Record.{Payload, payload_of, as_read, read_of, counts_in, counts_beside}
use Rattle.registers.specs.declared.Shown.{Shown}
use Rattle.chip.specs.declared.Chip.{Chip}
use Rattle.chip.specs.Answer.{Stepped, flag_of, byte_of}
use Rattle.chip.specs.Chip.{happened, ticked, happened_as, happened_by}
use Rattle.chip.specs.Calm.{Calmed}
use Rattle.turn.specs.declared.Entry.{Entry}
use Rattle.turn.specs.Turn.{Turn, stays_fresh, turn, turn_of, entry_of}
use Rattle.turn.specs.Entries.{runs, stands, stays, entries_from, chip_from, fresh_from, bytes_of}
use Rattle.stream_run.proofs.Steps.{other_is, done_turn}
use Rattle.chip_bytes_layout.specs.Kept.{Kept}
use Rattle.chip_bytes_layout.specs.Layout.{keeps, kept_of, good_of, chip_of, fresh_of, kept_in}
use Rattle.chip_bytes_layout.proofs.GoodLaws.{good_keeps}
use Rattle.chip_bytes_layout.specs.declared.Outcome.{Outcome}
use Rattle.chip_bytes_layout.specs.Did.{says, CameBy, DidBy}
use Rattle.chip_bytes_layout.proofs.DidLaws.{part_of}
use Rattle.chip_bytes_done.specs.Seldom.{SeldomBy}
use Rattle.feed.specs.Fed.{all_fit, answer_by, feeds_by, chip_after, entries_after, Fed}
use Rattle.feed.specs.Alone.{done_bytes, outcome_bytes, One, OneBy, CountedBy, RecordBy, Signal, Alone, AloneBy}
use Rattle.feed.proofs.Calls.{kept_calm, done_answer, done_feeds}

-- what means an event of a chip that stands is neither SETUP nor a wiring record
meant_befalls : (e : Event) (x : Happening) → ((u : Setup) → event_of u e [] ≡ means x) → role_of e ≡ Happens
meant_befalls = by_role (λ (e : Event). (x : Happening) → ((u : Setup) → event_of u e [] ≡ means x) → role_of e ≡ Happens)
    (λ v x h. unfit_not x (h v)) (λ n x h. unfit_not x (h (standing 0))) (λ e r x h. r)
  where
    unfit_not : {A : Type 0} (x : Happening) → unfit ≡ means x → A
    unfit_not x h = let z : ◌≡◌ {A = ℕ} 0 1 = cc in absurd (omega arith)

-- what was done in the bytes, with the payload that it was read from; a tick, ticks and the bus have no counts beside them
module _ (b : List ℕ) (payload : Payload) (event : Event) (counts : Event → List ℕ) (w : payload ≡ Ok event) (new : List ℕ) where
  one_of : (x : Event) (s : Stepped) (r : Option Outcome) → event ≡ x → role_of x ≡ Happens → s ≡ happened_by x (counts x) (chip_of b)
      → CameBy b s r new
      → OneBy b payload counts r new
  one_of x s (Some r) e f q h =
      λ g. record {
        event = x;
        befalls = f;
        is = w ∙ ap Ok e;
        left = (h g).left;
        happens = (h g).happens ∙ q;
        shows = (h g).shows;
        leaves = (h g).leaves;
      }
  one_of x s None e f q h = h

  pub tick_one : (v : ℤ) (r : Option Outcome) → event ≡ Sense v → DidBy b (Ticked v) r new → OneBy b payload counts r new
  tick_one v r e h = one_of (Sense v) (happened (Ticked v) (chip_of b)) r e refl refl h

  pub bus_one : (s : BusEvent) (r : Option Outcome) → event ≡ OnBus s → DidBy b (Signalled s) r new → OneBy b payload counts r new
  bus_one s r e h = one_of (OnBus s) (happened (Signalled s) (chip_of b)) r e refl refl h

  pub ticks_one : (v : ℤ) (n : ℕ) (r : Option Outcome) → event ≡ Ticks v n → CameBy b (ticked n v (chip_of b)) r new
      → OneBy b payload counts r new
  ticks_one v n r e h = one_of (Ticks v n) (ticked n v (chip_of b)) r e refl refl h

  pub soak_one : (v : ℤ) (n : ℕ) (r : Option Outcome) → event ≡ Soak v n → CameBy b (ticked n v (chip_of b)) r new
      → OneBy b payload counts r new
  soak_one v n r e h = one_of (Soak v n) (ticked n v (chip_of b)) r e refl refl h

-- one that is seldom met, by what it means
pub seldom_one : (b : List ℕ) (payload : Payload) (event : Event) (counts : Event → List ℕ) (new : List ℕ) (r : Option Outcome)
    → payload ≡ Ok event
    → SeldomBy b event r new → OneBy b payload counts r new
seldom_one b payload event counts new (Some r) w h =
    λ g. record {
      event = event;
      befalls = meant_befalls event (h g).event (λ u. (h g).meant u []);
      is = w;
      left = (h g).did.left;
      happens = (h g).did.happens ∙ ap (λ (m : Meant). happened_as m (chip_of b)) (sym ((h g).meant (chip_of b).setup (counts event)));
      shows = (h g).did.shows;
      leaves = (h g).did.leaves;
    }
seldom_one b payload event counts new None w h = h

pub scan_one : (b : List ℕ) (payload : Payload) (event : Event) (p : List ℕ) (new xs : List ℕ) (r : Option Outcome) → payload ≡ Ok event
    → event ≡ Scan
    → xs ≡ (counts_in Scan p).of → DidBy b (Scanned (take (inputs (chip_of b).setup) xs)) r new → CountedBy b payload p r new
scan_one b payload event p new xs (Some r) w e c h =
    λ g. record {
      event = Scan;
      befalls = refl;
      is = w ∙ ap Ok e;
      left = (h g).left;
      happens = (h g).happens ∙ ap (λ (xs : List ℕ). happened (Scanned (take (inputs (chip_of b).setup) xs)) (chip_of b)) c;
      shows = (h g).shows;
      leaves = (h g).leaves;
    }
scan_one b payload event p new xs None w e c h = h

pub temp_one : (b : List ℕ) (payload : Payload) (event : Event) (p : List ℕ) (new xs : List ℕ) (r : Option Outcome) → payload ≡ Ok event
    → event ≡ Temp
    → xs ≡ (counts_in Temp p).of → DidBy b (Warmed (take (groups (chip_of b).setup) xs)) r new → CountedBy b payload p r new
temp_one b payload event p new xs (Some r) w e c h =
    λ g. record {
      event = Temp;
      befalls = refl;
      is = w ∙ ap Ok e;
      left = (h g).left;
      happens = (h g).happens ∙ ap (λ (xs : List ℕ). happened (Warmed (take (groups (chip_of b).setup) xs)) (chip_of b)) c;
      shows = (h g).shows;
      leaves = (h g).leaves;
    }
temp_one b payload event p new xs None w e c h = h

-- a payload of a kind
pub signal_is : (kind part : ℕ) (p : List ℕ) {k : ℕ} (q : Payload) → kind ≡ k → q ≡ payload_of k part p → Signal kind part p q
signal_is kind part p (Ok e) h m = ap (λ (k : ℕ). payload_of k part p) h ∙ sym m
signal_is kind part p (Err n) h m = search rules

pub one_signal : (b : List ℕ) (kind part : ℕ) (p : List ℕ) (q : Payload) (counts : Event → List ℕ) (r : Option Outcome) (new : List ℕ)
    → Signal kind part p q
    → OneBy b q counts r new → OneBy b (payload_of kind part p) counts r new
one_signal b kind part p q counts (Some r) new s h =
    λ g. record {
      event = (h g).event;
      befalls = (h g).befalls;
      is = subst (Signal kind part p) (h g).is s;
      left = (h g).left;
      happens = (h g).happens;
      shows = (h g).shows;
      leaves = (h g).leaves;
    }
one_signal b kind part p q counts None new s h = h

-- of another payload that is the same
pub one_as : (b : List ℕ) {p q : Payload} (counts : Event → List ℕ) (r : Option Outcome) (new : List ℕ) → p ≡ q → OneBy b p counts r new
    → OneBy b q counts r new
one_as b counts r new e h = subst (λ (p : Payload). OneBy b p counts r new) e h

runs_none : (f : ℕ) (o : Bool) (c : Chip) → runs f o c [] ≡ []
runs_none zero o c = refl
runs_none (suc f) o c = refl

stands_none : (f : ℕ) (o : Bool) (c : Chip) → stands f o c [] ≡ c
stands_none zero o c = refl
stands_none (suc f) o c = refl

stays_none : (f : ℕ) (o : Bool) (c : Chip) → stays f o c [] ≡ o
stays_none zero o c = refl
stays_none (suc f) o c = refl

-- bytes that are one record
module _ (o : Bool) (c : Chip) (x : ℕ) (s : List ℕ) (d : Stepped) (f : Bool) (t : turn_of o c (x ∷ s) ≡ turn d f (length (x ∷ s)) false)
  where
    over : drop (length (x ∷ s)) (x ∷ s) ≡ []
    over = drop_of_length-le (x ∷ s) {i = length (x ∷ s)} (omega arith)

    one_entry : entries_from o c (x ∷ s) ≡ entry_of d ∷ []
    unfolding entries_from
    one_entry =
        ap (λ (t : Turn). t.entry ∷ cond t.last [] (runs (length s) t.fresh t.chip (drop t.next (x ∷ s)))) t
        ∙ ap (λ (l : List ℕ). entry_of d ∷ runs (length s) f d.chip l) over
        ∙ ap (λ (l : List Entry). entry_of d ∷ l) (runs_none (length s) f d.chip)

    one_chip : chip_from o c (x ∷ s) ≡ d.chip
    unfolding chip_from
    one_chip =
        ap (λ (t : Turn). cond t.last t.chip (stands (length s) t.fresh t.chip (drop t.next (x ∷ s)))) t
        ∙ ap (stands (length s) f d.chip) over ∙ stands_none (length s) f d.chip

    one_fresh : fresh_from o c (x ∷ s) ≡ f
    unfolding fresh_from
    one_fresh =
        ap (λ (t : Turn). cond t.last t.fresh (stays (length s) t.fresh t.chip (drop t.next (x ∷ s)))) t
        ∙ ap (stays (length s) f d.chip) over ∙ stays_none (length s) f d.chip

record Single (o : Bool) (c : Chip) (s : List ℕ) (d : Stepped) : Type 0 where
  pub entry : entries_from o c s ≡ entry_of d ∷ []
  pub chip : chip_from o c s ≡ d.chip
  pub fresh : fresh_from o c s ≡ false

single_by : (o : Bool) (c : Chip) (s : List ℕ) (d : Stepped) → 4 ≤ length s → turn_of o c s ≡ turn d false (length s) false → Single o c s d
single_by o c [] d h t = absurd (omega arith)
single_by o c (x ∷ s) d h t =
    record { entry = one_entry o c x s d false t; chip = one_chip o c x s d false t; fresh = one_fresh o c x s d false t }

-- a record of an event that happens to a chip that stands, and done: no wiring record is taken after it
module _ (o : Bool) (c : Chip) (s : List ℕ) (e : Event) (d : Stepped) (q : read_of c.setup.part s ≡ Record e (length s))
    (f : role_of e ≡ Happens)
    (z : d.number ≡ 0) (h : d ≡ happened_by e (counts_beside s (Record e (length s))).of c) where
  stood : (t : Bool) → eqb c.setup.part 0 ≡ t → t ≡ false
  stood true p =
      absurd (no_setup e f
      (first_setup s e (length s) (subst (λ (n : ℕ). read_of n s ≡ Record e (length s)) (eqb-true c.setup.part 0 p) q)))
  stood false p = refl

  closes : stays_fresh o c d ≡ false
  closes =
      ap (λ (t : Bool). t || (o && not (eqb d.number 0))) (stood (eqb c.setup.part 0) refl)
      ∙ ap (λ (n : ℕ). o && not (eqb n 0)) z ∙ never o
    where
      never : (t : Bool) → (t && false) ≡ false
      never true = refl
      never false = refl

  turn_is : turn_of o c s ≡ turn d false (length s) false
  turn_is =
      sym (done_turn o c s e (length s) d q (other_is o c s e (length s) (counts_beside s (Record e (length s))).of q f refl h))
      ∙ ap (λ (f : Bool). turn d f (length s) false) closes

  long : 4 ≤ length s
  long = let p : Placed (length s) (Record e (length s)) = subst (Placed (length s)) q (placed c.setup.part s) in p.0

  single : Single o c s d
  single = single_by o c s d long turn_is

module _ (b s old : List ℕ) {chip new : List ℕ} (g : good_of b ≡ true) (t : Alone b s old chip new) where
  abbrev k : Kept
  k = keeps (chip_of b) (fresh_of b)

  abbrev flag : Bool
  flag = flag_of t.outcome.byte

  abbrev byte : ℕ
  byte = byte_of t.outcome.byte

  abbrev one : One b (payload_of t.kind (get_or b 1 0) (take (length s - 4) (drop 4 s)))
      (λ e. (counts_in e (take (length s - 4) (drop 4 s))).of) flag byte t.outcome.shown chip
  one = t.done g

  is : k ≡ kept_of b
  is = sym (good_keeps b g)

  reads : read_of (chip_of b).setup.part s ≡ Record one.event (length s)
  reads =
      ap (λ (p : ℕ). read_of p s) (part_of b t.room) ∙ framed_reads s (record { kind = t.kind; next = length s }) t.header (get_or b 1 0)
      ∙ ap (as_read (length s)) one.is

  sole : Single (fresh_of b) (chip_of b) s (says flag byte one.left)
  sole = single (fresh_of b) (chip_of b) s one.event (says flag byte one.left) reads one.befalls refl one.happens

  wide : ltb (length b) 96 ≡ false
  wide = le-ltb (length b) 96 t.room

  fits : all_fit k s (length old) ≡ true
  fits = ap (λ (l : List Entry). leb (5 * length l) (length old)) sole.entry ∙ le-leb 5 (length old) t.fits

  wrote : new ≡ entries_after k s old
  wrote =
      t.wrote ∙ sets-eq (done_bytes flag byte t.outcome.shown) old 0 t.fits
      ∙ ap (λ (w : Shown). done_bytes flag byte w ++ drop 5 old) one.shows
      ∙ ap (λ (l : List Entry). bytes_of l ++ drop (5 * length l) old) (sym sole.entry)

  pub fed_one : Fed b s old (pos 1) chip new
  fed_one =
      record {
        answer =
            ap (λ (l : List Entry). pos (length l)) (sym sole.entry) ∙ done_answer k b s (length old) wide refl fits
            ∙ ap (λ (k : Kept). answer_by k b s (length old)) is;
        kept =
            one.leaves ∙ ap₂ (λ (c : Chip) (f : Bool). kept_in c f b) (sym sole.chip) (sym sole.fresh)
            ∙ ap (λ (t : Bool). cond t (chip_after k s b) b) (sym (done_feeds k b s (length old) wide refl fits))
            ∙ ap (λ (k : Kept). cond (feeds_by k b s (length old)) (chip_after k s b) b) is;
        contents =
            wrote ∙ ap (λ (t : Bool). cond t (entries_after k s old) old) (sym (done_feeds k b s (length old) wide refl fits))
            ∙ ap (λ (k : Kept). cond (feeds_by k b s (length old)) (entries_after k s old) old) is;
      }

-- whether it is done
pub fed_alone : (b s old : List ℕ) (t : Bool) (chip new : List ℕ) → good_of b ≡ true → t ≡ true → AloneBy b s old t chip new
    → Fed b s old (pos 1) chip new
fed_alone b s old t chip new g e h = fed_one b s old g (subst (λ (t : Bool). AloneBy b s old t chip new) e h)

pub undone : (b s old : List ℕ) (t : Bool) (chip new : List ℕ) → t ≡ false → AloneBy b s old t chip new → (chip ≡ b) × (new ≡ old)
undone b s old t chip new e h = subst (λ (t : Bool). AloneBy b s old t chip new) e h

pub fed_as : {b b' s old old' : List ℕ} {r r' : ℤ} {chip new : List ℕ} → (b' ≡ b) × (old' ≡ old) → r' ≡ r → Fed b' s old' r' chip new
    → Fed b s old r chip new
fed_as {b} {b'} {s} {old} {old'} {r} {r'} {chip} {new} e y f =
    subst (λ (b : List ℕ). Fed b s old r chip new) e.0
    (subst (λ (old : List ℕ). Fed b' s old r chip new) e.1 (subst (λ (r : ℤ). Fed b' s old' r chip new) y f))

-- a record by its header, then what was done of it
module _ (b s old : List ℕ) (h : Header) (header : header_of s ≡ Some h) (whole : h.next ≡ length s) where
  pub alone_is : {r : Option Outcome} {chip new : List ℕ} (o : Outcome) → 96 ≤ length b → 5 ≤ length old
      → RecordBy b (get_or b 1 0) h.kind (take (h.next - 4) (drop 4 s)) r chip → r ≡ Some o → new ≡ sets old 0 (outcome_bytes o)
      → Alone b s old chip new
  alone_is {r} {chip} o room fits k e wrote =
      record {
        room = room;
        fits = fits;
        kind = h.kind;
        header = header ∙ ap (framed h.kind) whole;
        outcome = o;
        done =
            subst (λ (n : ℕ). RecordBy b (get_or b 1 0) h.kind (take (n - 4) (drop 4 s)) (Some o) chip) whole
            (subst (λ (r : Option Outcome). RecordBy b (get_or b 1 0) h.kind (take (h.next - 4) (drop 4 s)) r chip) e k);
        wrote = wrote;
      }

pub not_done : (b : List ℕ) (part kind : ℕ) (p : List ℕ) {r : Option Outcome} {chip : List ℕ} → RecordBy b part kind p r chip → r ≡ None
    → chip ≡ b
not_done b part kind p {r} {chip} h e = subst (λ (r : Option Outcome). RecordBy b part kind p r chip) e h

-- a chip that good bytes have
pub good_calm : (b : List ℕ) {c : Chip} → good_of b ≡ true → c ≡ chip_of b → Calmed c
good_calm b {c} g e = kept_calm b (keeps c (fresh_of b)) (ap (λ (c : Chip). keeps c (fresh_of b)) e ∙ sym (good_keeps b g)) refl

pub good_kept : (b : List ℕ) {c : Chip} {f : Bool} → good_of b ≡ true → c ≡ chip_of b → f ≡ fresh_of b → keeps c f ≡ kept_of b
good_kept b g e p = ap₂ keeps e p ∙ sym (good_keeps b g)

pub up : (t : Bool) → not t ≡ false → t ≡ true
up true h = refl
up false h = sym h

pub down : (t : Bool) → not t ≡ true → t ≡ false
down true h = sym h
down false h = refl
