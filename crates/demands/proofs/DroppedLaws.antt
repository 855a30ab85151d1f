-- CHIP H8 of records, the proof: the records that stay, played by themselves, give the entries that they gave in the full stream, and leave
-- the same chip after each, but for the bus's phase. Assumes nothing.
use Rattle.std.specs.Prelude.{◌≡◌, Bool, not, ℕ, zero, suc, ℤ, take}
use Rattle.std.proofs.Math.Path.{refl, ap, subst, subst₂}
use Rattle.std.proofs.Common.{sym, ◌∙◌, true≢false, eq-eqb}
use Rattle.std.proofs.Math.Bool.{true, false, cond, and-false}
use mathlib.Core.List.{List, [], ◌∷◌}
use Rattle.std.proofs.Math.Dec.{eqb}
use Rattle.crc8.specs.Crc.{byte_on}
use Rattle.events.specs.declared.Setup.{Setup as SetupValues}
use Rattle.events.specs.declared.Counts.{Counts}
use Rattle.events.specs.declared.BusEvent.{BusEvent}
use Rattle.events.specs.declared.BusEvent.TheVariants.{Start, Stop, Out, In}
use Rattle.events.specs.declared.Event.{Event as Coded}
use Rattle.events.specs.declared.Event.TheVariants.{Setup, Wires}
use Rattle.events.specs.declared.Event.TheVariants.{Por as CodedPor, Boot as CodedBoot, Scan as CodedScan, Temp as CodedTemp}
use Rattle.events.specs.declared.Event.TheVariants.{Count as CodedCount}
use Rattle.events.specs.declared.Event.TheVariants.{Sense as CodedSense, Pin as CodedPin, Load as CodedLoad, Xready as CodedXready}
use Rattle.events.specs.declared.Event.TheVariants.{OnBus as CodedOnBus}
use Rattle.events.specs.declared.Event.TheVariants.{Level as CodedLevel, Ticks as CodedTicks, Soak as CodedSoak}
use Rattle.events.specs.Event.{Boot, Pin, Xready, Scan, Temp, Count, Sense, Load, OnBus, Level, Meant, means, ticks, unfit}
use Rattle.events.specs.Event.{ticks_most, soak_most, ticks_fit, counts_fit, meant_of}
use Rattle.events.specs.Setup.{groups, inputs, with_cells}
use Rattle.bus.specs.declared.Phase.{Phase}
use Rattle.bus.specs.declared.Phase.TheVariants.{Idle, Address, Writing, Checking}
use Rattle.bus.specs.Bus.{outed, taken, byte_given, owing}
use Rattle.wiring.specs.Rows.{has_row, wired_with}
use Rattle.std.specs.Prelude.{Ok, Err}
use Rattle.constants.specs.declared.refusal.Refusal.TheVariants.{NoRow}
use Rattle.records.specs.declared.Read.{Read}
use Rattle.records.specs.declared.Read.TheVariants.{Record, Refused, Cut}
use Rattle.records.specs.Record.{read_of, counts_in, counts_beside}
use Rattle.bits.specs.BoolLaws.{and_left, and_right}
use Rattle.chip.specs.declared.Chip.{Chip}
use Rattle.chip.specs.Answer.{Stepped}
use Rattle.chip.specs.Chip.{numbered, answered, in_ship, on_bus, settled, normally, asleep, happened, stepped, next, ticking, stepped_as}
use Rattle.chip.specs.Calm.{Calmed}
use Rattle.chip.proofs.Calm.{ship_calm}
use Rattle.chip.proofs.RepeatLaws.{ticking_mode}
use Rattle.turn.specs.Turn.{wired_as, acted}
use Rattle.turn.specs.CalmLaws.{acted_calm}
use Rattle.demands.specs.Refused.{refused_as}
use Rattle.demands.specs.Spoiled.{Sort, for_chips, for_resets, for_frames, for_sends, for_takes, sort_of, is_sends, waiting, Mode}
use Rattle.demands.specs.Spoiled.{frame_whole, frame_open, frame_lost, drops, then, phased}
use Rattle.demands.proofs.NoTrace.{denied}
use Rattle.demands.specs.Opened.{mapped, apart, bus_still, reset_is, opens}
use Rattle.demands.specs.Dropped.{bus_sort, code_sort, sort_in, answer_in, fresh_in, sort_at, answer_at, fresh_at, spoiled_at, stay}
use Rattle.demands.specs.Dropped.{picked, seen_by, played_at}

-- ── the phase apart, a record that is no bus event does the same to a chip in NORMAL ──
abbrev Apart : Phase → Chip → (Chip → Stepped) → Type 0
Apart q c f = (f (phased q c) ≡ mapped q (f c)) × ((f c).chip.normal ≡ true)

tick_apart : (q : Phase) (v : ℤ) (c : Chip) → (happened (Sense v) (phased q c)).chip ≡ phased q (happened (Sense v) c).chip
unfolding happened
tick_apart q v c = by c.normal
  where
    by : (a : Bool) → (cond a (settled (normally (Sense v) (phased q c))) (asleep (Sense v) (phased q c))).chip
        ≡ phased q (cond a (settled (normally (Sense v) c)) (asleep (Sense v) c)).chip
    by true = refl
    by false = refl

ticking_apart : (q : Phase) (n : ℕ) (v : ℤ) (c : Chip) → ticking n v (phased q c) ≡ phased q (ticking n v c)
ticking_apart q zero v c = refl
ticking_apart q (suc n) v c = ap (λ d. (happened (Sense v) d).chip) (ticking_apart q n v c) ∙ tick_apart q v (ticking n v c)

abbrev ChipsIn : Meant → Type 0
ChipsIn (means e) = sort_of e ≡ for_chips
ChipsIn (ticks most v n) = Unit
ChipsIn unfit = Unit

apart_as : (q : Phase) (m : Meant) (c : Chip) → ChipsIn m → c.normal ≡ true → Apart q c (stepped_as m)
apart_as q (means e) c h a = apart q e c h a
apart_as q (ticks most v n) c h a = by (ticks_fit most v n) c.normal a
  where
    by : (f w : Bool) → w ≡ true
        → (cond f (cond w (numbered 0 (ticking n v (phased q c))) (numbered 4 (phased q c))) (numbered 3 (phased q c))
        ≡ mapped q (cond f (cond w (numbered 0 (ticking n v c)) (numbered 4 c)) (numbered 3 c)))
        × ((cond f (cond w (numbered 0 (ticking n v c)) (numbered 4 c)) (numbered 3 c)).chip.normal ≡ true)
    by true true z = (ap (numbered 0) (ticking_apart q n v c), ticking_mode n v c ∙ a)
    by true false z = absurd (true≢false (sym z))
    by false w z = (refl, a)
apart_as q unfit c h a = (refl, a)

apart_fit : (q : Phase) (t : Bool) (m : Meant) (c : Chip) → ChipsIn m → c.normal ≡ true → Apart q c (stepped_as (cond t m unfit))
apart_fit q true m c h a = apart_as q m c h a
apart_fit q false m c h a = apart_as q unfit c tt a

-- of the code's events, where no wiring record is taken
apart_acted : (q : Phase) (e : Coded) (k : Counts) (c : Chip) → code_sort e ≡ for_chips → c.normal ≡ true → Apart q c (acted false e k)
unfolding acted meant_of
apart_acted q (Setup v) k c h a = (cc, cc)
apart_acted q CodedPor k c h a = (cc, cc)
apart_acted q CodedBoot k c h a = apart_fit q (counts_fit 0 k) (means Boot) c refl a
apart_acted q CodedScan k c h a =
    apart_fit q (counts_fit (inputs c.setup) k) (means (Scan (take (inputs c.setup) k.of))) c refl a
apart_acted q CodedTemp k c h a =
    apart_fit q (counts_fit (groups c.setup) k) (means (Temp (take (groups c.setup) k.of))) c refl a
apart_acted q (CodedCount n) k c h a = apart_fit q (counts_fit 0 k) (means (Count n)) c refl a
apart_acted q (CodedSense v) k c h a = apart_fit q (counts_fit 0 k) (means (Sense v)) c refl a
apart_acted q CodedPin k c h a = apart_fit q (counts_fit 0 k) (means Pin) c refl a
apart_acted q (CodedLoad l) k c h a = apart_fit q (counts_fit 0 k) (means (Load l)) c refl a
apart_acted q CodedXready k c h a = apart_fit q (counts_fit 0 k) (means Xready) c refl a
apart_acted q (CodedOnBus Start) k c h a = (cc, cc)
apart_acted q (CodedOnBus Stop) k c h a = (cc, cc)
apart_acted q (CodedOnBus (Out b)) k c h a = (cc, cc)
apart_acted q (CodedOnBus (In nack)) k c h a = (cc, cc)
apart_acted q (CodedLevel l) k c h a = apart_fit q (counts_fit 0 k) (means (Level l)) c refl a
apart_acted q (CodedTicks v n) k c h a = apart_fit q (counts_fit 0 k) (ticks ticks_most v n) c tt a
apart_acted q (CodedSoak v n) k c h a = apart_fit q (counts_fit 0 k) (ticks soak_most v n) c tt a
apart_acted q (Wires n) k c h a = (refl, a)

-- ── a record by its sort ──
data View (p : ℕ) (r : List ℕ) : Type 0 where
  chips : sort_at p r ≡ for_chips → ((q : Phase) (c : Chip) → c.normal ≡ true → Apart q c (λ d. answer_at p false d r)) → View p r
  resets : (f : SetupValues → SetupValues) → sort_at p r ≡ for_resets
      → ((o : Bool) (c : Chip) → answer_at p o c r ≡ numbered 0 (in_ship (f c.setup))) → View p r
  onbus : (b : BusEvent) → sort_at p r ≡ bus_sort b → ((o : Bool) (c : Chip) → answer_at p o c r ≡ stepped (OnBus b) c) → View p r

view_in : (p : ℕ) (r : List ℕ) (x : Read) → read_of p r ≡ x → View p r
unfolding sort_at answer_at acted meant_of counts_in counts_fit
view_in p r (Refused k n) e =
    chips (ap sort_in e) (λ q c a. subst (λ x. Apart q c (λ d. answer_in false d r x)) (sym e) (refl, a))
view_in p r Cut e = chips (ap sort_in e) (λ q c a. subst (λ x. Apart q c (λ d. answer_in false d r x)) (sym e) (refl, a))
view_in p r (Record g n) e = by g e
  where
    chip_event : (g : Coded) → read_of p r ≡ Record g n → code_sort g ≡ for_chips → View p r
    chip_event g e h = chips (ap sort_in e ∙ h)
        (λ q c a. subst (λ x. Apart q c (λ d. answer_in false d r x)) (sym e) (apart_acted q g (counts_beside r (Record g n)) c h a))

    bus_event : (b : BusEvent) → read_of p r ≡ Record (CodedOnBus b) n → View p r
    bus_event b e = onbus b (ap sort_in e) (λ o c. ap (answer_in o c r) e)

    by : (g : Coded) → read_of p r ≡ Record g n → View p r
    by (Setup v) e = resets (λ u. v) (ap sort_in e) (λ o c. ap (answer_in o c r) e)
    by CodedPor e = resets (λ u. u) (ap sort_in e) (λ o c. ap (answer_in o c r) e ∙ reset_is c)
    by CodedBoot e = chip_event CodedBoot e refl
    by CodedScan e = chip_event CodedScan e refl
    by CodedTemp e = chip_event CodedTemp e refl
    by (CodedCount n) e = chip_event (CodedCount n) e refl
    by (CodedSense v) e = chip_event (CodedSense v) e refl
    by CodedPin e = chip_event CodedPin e refl
    by (CodedLoad l) e = chip_event (CodedLoad l) e refl
    by CodedXready e = chip_event CodedXready e refl
    by (CodedOnBus b) e = bus_event b e
    by (CodedLevel l) e = chip_event (CodedLevel l) e refl
    by (CodedTicks v n) e = chip_event (CodedTicks v n) e refl
    by (CodedSoak v n) e = chip_event (CodedSoak v n) e refl
    by (Wires n) e = chip_event (Wires n) e refl

view : (p : ℕ) (r : List ℕ) → View p r
view p r = view_in p r (read_of p r) refl

-- ── what stays so: the outside level and SYS_STAT, and that a wiring record is taken in SHIP alone ──
calm_in : (o : Bool) (c : Chip) (r : List ℕ) (x : Read) → Calmed c → Calmed (answer_in o c r x).chip
calm_in o c r (Record e n) m = acted_calm o e (counts_beside r (Record e n)) c m
calm_in o c r (Refused k n) m = m
calm_in o c r Cut m = m

calm_at : (p : ℕ) (o : Bool) (c : Chip) (r : List ℕ) → Calmed c → Calmed (answer_at p o c r).chip
unfolding answer_at
calm_at p o c r m = calm_in o c r (read_of p r) m

abbrev pub Still : Bool → Chip → Type 0
Still o c = o ≡ true → c.normal ≡ false

wires_still : (o t : Bool) (u : SetupValues) (c : Chip)
    → ((cond o (wired_as (cond t (Ok u) (Err NoRow)) c) (numbered 2 c)).number ≡ 0 → ⊥)
    → (cond o (wired_as (cond t (Ok u) (Err NoRow)) c) (numbered 2 c)).chip ≡ c
wires_still true true u c h = absurd (h refl)
wires_still true false u c h = refl
wires_still false t u c h = refl

refused_acted : (o : Bool) (e : Coded) (k : Counts) (c : Chip) → ((acted o e k c).number ≡ 0 → ⊥) → (acted o e k c).chip ≡ c
unfolding acted wired_with
refused_acted o (Setup v) k c h = absurd (h refl)
refused_acted o CodedPor k c h = refused_as (meant_of c.setup CodedPor k) c h
refused_acted o CodedBoot k c h = refused_as (meant_of c.setup CodedBoot k) c h
refused_acted o CodedScan k c h = refused_as (meant_of c.setup CodedScan k) c h
refused_acted o CodedTemp k c h = refused_as (meant_of c.setup CodedTemp k) c h
refused_acted o (CodedCount n) k c h = refused_as (meant_of c.setup (CodedCount n) k) c h
refused_acted o (CodedSense v) k c h = refused_as (meant_of c.setup (CodedSense v) k) c h
refused_acted o CodedPin k c h = refused_as (meant_of c.setup CodedPin k) c h
refused_acted o (CodedLoad l) k c h = refused_as (meant_of c.setup (CodedLoad l) k) c h
refused_acted o CodedXready k c h = refused_as (meant_of c.setup CodedXready k) c h
refused_acted o (CodedOnBus b) k c h = refused_as (meant_of c.setup (CodedOnBus b) k) c h
refused_acted o (CodedLevel l) k c h = refused_as (meant_of c.setup (CodedLevel l) k) c h
refused_acted o (CodedTicks v n) k c h = refused_as (meant_of c.setup (CodedTicks v n) k) c h
refused_acted o (CodedSoak v n) k c h = refused_as (meant_of c.setup (CodedSoak v n) k) c h
refused_acted o (Wires n) k c h = wires_still o (has_row c.setup.part n) (with_cells n c.setup) c h

not_done : (n : ℕ) → not (eqb n 0) ≡ true → n ≡ 0 → ⊥
not_done n h z = true≢false (sym h ∙ ap not (eq-eqb n 0 z))

still_in : (o : Bool) (c : Chip) (r : List ℕ) (x : Read) → Still o c
    → Still (fresh_in o x (answer_in o c r x).number) (answer_in o c r x).chip
still_in o c r (Record e n) s h =
    let k = counts_beside r (Record e n) in
    ap (λ (d : Chip). d.normal)
    (refused_acted o e k c (not_done (acted o e k c).number (and_right o (not (eqb (acted o e k c).number 0)) h)))
    ∙ s (and_left o (not (eqb (acted o e k c).number 0)) h)
still_in o c r (Refused k n) s h = s h
still_in o c r Cut s h = s h

still_at : (p : ℕ) (o : Bool) (c : Chip) (r : List ℕ) → Still o c → Still (fresh_at p o c r) (answer_at p o c r).chip
unfolding answer_at fresh_at
still_at p o c r s = still_in o c r (read_of p r) s

closed_in : (x : Read) (n : ℕ) → fresh_in false x n ≡ false
closed_in (Record e k) n = refl
closed_in (Refused k l) n = refl
closed_in Cut n = refl

-- in NORMAL none is taken, and none after that
closed : (p : ℕ) (c : Chip) (r : List ℕ) → fresh_at p false c r ≡ false
unfolding fresh_at
closed p c r = closed_in (read_of p r) (answer_at p false c r).number

-- ── nothing is spoiled where no byte waits ──
module _ (p : ℕ) (o : Bool) (c : Chip) where
  waits_at : (rs : List (List ℕ)) → spoiled_at p o c rs ≡ true → waiting c ≡ true
  unfolding spoiled_at
  waits_at [] h = cc
  waits_at (r ∷ rs) h =
      and_left (waiting c)
      (cond (is_sends (sort_at p r)) (eqb (answer_at p o c r).byte 1) (spoiled_at p (fresh_at p o c r) (answer_at p o c r).chip rs)) h

  spoiled_by : (r : List ℕ) (rs : List (List ℕ)) (t : Sort) → sort_at p r ≡ t → spoiled_at p o c (r ∷ rs) ≡ true
      → cond (is_sends t) (eqb (answer_at p o c r).byte 1) (spoiled_at p (fresh_at p o c r) (answer_at p o c r).chip rs) ≡ true
  unfolding spoiled_at
  spoiled_by r rs t e h =
      subst (λ t. cond (is_sends t) (eqb (answer_at p o c r).byte 1) (spoiled_at p (fresh_at p o c r) (answer_at p o c r).chip rs) ≡ true) e
      (and_right (waiting c)
      (cond (is_sends (sort_at p r)) (eqb (answer_at p o c r).byte 1) (spoiled_at p (fresh_at p o c r) (answer_at p o c r).chip rs)) h)

-- ── the three ways through the records ──
-- `base` is the chip but for its phase: the full stream's chip has the one phase, the chip of what stays the other
abbrev Alike : ℕ → Mode → Bool → Chip → Bool → Chip → List (List ℕ) → Type 0
Alike p m w d o c rs = played_at p w d (picked (stay p m o c rs) rs) ≡ picked (stay p m o c rs) (played_at p o c rs)

record Claim (p : ℕ) (rs : List (List ℕ)) : Type 0 where
  whole : (o : Bool) (c : Chip) → Calmed c → Still o c → Alike p frame_whole o c o c rs
  opened : (v t s : ℕ) (base : Chip) → Calmed base → base.normal ≡ true → spoiled_at p false (phased (Checking v t) base) rs ≡ true
      → Alike p frame_open false (phased (Writing s) base) false (phased (Checking v t) base) rs
  lost : (s : ℕ) (base : Chip) → Calmed base → base.normal ≡ true
      → Alike p frame_lost false (phased (Writing s) base) false (phased Idle base) rs

never : (c : Chip) → Still false c
never c e = absurd (true≢false (sym e))

awake_closed : (o : Bool) (c : Chip) → Still o c → c.normal ≡ true → o ≡ false
awake_closed true c s a = absurd (true≢false (sym a ∙ s refl))
awake_closed false c s a = refl

module _ (p : ℕ) (r : List ℕ) (rs : List (List ℕ)) (ih : Claim p rs) where
  -- the record at the front, by its sort t and whether a byte is spoiled after it, x: s is its answer in the full stream
  abbrev Front : Mode → Sort → Bool → Bool → Chip → Bool → Stepped → Type 0
  Front m t x w d o s =
      played_at p w d
      (cond (not (drops m t x)) (r ∷ picked (stay p (then m t x s.chip.normal) o s.chip rs) rs)
      (picked (stay p (then m t x s.chip.normal) o s.chip rs) rs))
      ≡ cond (not (drops m t x))
      (seen_by s ∷ picked (stay p (then m t x s.chip.normal) o s.chip rs) (played_at p o s.chip rs))
      (picked (stay p (then m t x s.chip.normal) o s.chip rs) (played_at p o s.chip rs))

  front : (m : Mode) (w : Bool) (d : Chip) (o : Bool) (c : Chip) (t : Sort) → sort_at p r ≡ t
      → Front m t (spoiled_at p (fresh_at p o c r) (answer_at p o c r).chip rs) w d (fresh_at p o c r) (answer_at p o c r)
      → Alike p m w d o c (r ∷ rs)
  unfolding played_at picked stay
  front m w d o c t h f =
      subst (λ t. Front m t (spoiled_at p (fresh_at p o c r) (answer_at p o c r).chip rs) w d (fresh_at p o c r) (answer_at p o c r))
      (sym h) f

  -- ── nothing spoiled is open ──
  whole_kept : (t : Sort) (o : Bool) (c : Chip) → sort_at p r ≡ t → is_sends t ≡ false → Calmed c → Still o c
      → Alike p frame_whole o c o c (r ∷ rs)
  unfolding played_at
  whole_kept t o c e h m s = front frame_whole o c o c t e (by t h)
    where
      same : Alike p frame_whole (fresh_at p o c r) (answer_at p o c r).chip (fresh_at p o c r) (answer_at p o c r).chip rs
      same = ih.whole (fresh_at p o c r) (answer_at p o c r).chip (calm_at p o c r m) (still_at p o c r s)

      by : (t : Sort) → is_sends t ≡ false
          → Front frame_whole t (spoiled_at p (fresh_at p o c r) (answer_at p o c r).chip rs) o c (fresh_at p o c r) (answer_at p o c r)
      by for_chips h = ap (◌∷◌ (seen_by (answer_at p o c r))) same
      by for_resets h = ap (◌∷◌ (seen_by (answer_at p o c r))) same
      by for_frames h = ap (◌∷◌ (seen_by (answer_at p o c r))) same
      by for_sends h = absurd (true≢false h)
      by for_takes h = ap (◌∷◌ (seen_by (answer_at p o c r))) same

  -- an OUT that opens a spoiled byte is dropped, and the chip of what stays goes on writing
  whole_out : (b : ℕ) (o : Bool) (c : Chip) → sort_at p r ≡ for_sends
      → ((o : Bool) (c : Chip) → answer_at p o c r ≡ stepped (OnBus (Out b)) c)
      → Calmed c → Still o c → Alike p frame_whole o c o c (r ∷ rs)
  unfolding played_at
  whole_out b o c e is m s = front frame_whole o c o c for_sends e (by (spoiled_at p (fresh_at p o c r) (answer_at p o c r).chip rs) refl)
    where
      opening : spoiled_at p (fresh_at p o c r) (answer_at p o c r).chip rs ≡ true
          → Alike p frame_open o c (fresh_at p o c r) (answer_at p o c r).chip rs
      opening h =
          let n : (answer_at p o c r).chip ≡ next (OnBus (Out b)) c = ap (λ (s : Stepped). s.chip) (is o c) in
          let f = opens b c m (subst (λ d. waiting d ≡ true) n (waits_at p (fresh_at p o c r) (answer_at p o c r).chip rs h)) in
          let z : o ≡ false = awake_closed o c s f.3 in
          let y : fresh_at p o c r ≡ false = ap (λ o. fresh_at p o c r) z ∙ closed p c r in
          let g : (answer_at p o c r).chip ≡ phased (Checking b (byte_on f.0 b)) c = n ∙ f.2 in
          let h' : spoiled_at p false (phased (Checking b (byte_on f.0 b)) c) rs ≡ true =
          subst₂ (λ o d. spoiled_at p o d rs ≡ true) y g h in
          subst₂ (λ o' d. Alike p frame_open o' d (fresh_at p o c r) (answer_at p o c r).chip rs) (sym z) (sym f.1)
          (subst₂ (λ o' d. Alike p frame_open false (phased (Writing f.0) c) o' d rs) (sym y) (sym g)
          (ih.opened b (byte_on f.0 b) f.0 c m f.3 h'))

      by : (x : Bool) → spoiled_at p (fresh_at p o c r) (answer_at p o c r).chip rs ≡ x
          → Front frame_whole for_sends x o c (fresh_at p o c r) (answer_at p o c r)
      by true h = opening h
      by false h =
          ap (◌∷◌ (seen_by (answer_at p o c r)))
          (ih.whole (fresh_at p o c r) (answer_at p o c r).chip (calm_at p o c r m) (still_at p o c r s))

  whole_step : (o : Bool) (c : Chip) → Calmed c → Still o c → View p r → Alike p frame_whole o c o c (r ∷ rs)
  whole_step o c m s (chips e h) = whole_kept for_chips o c e refl m s
  whole_step o c m s (resets f e h) = whole_kept for_resets o c e refl m s
  whole_step o c m s (onbus Start e h) = whole_kept for_frames o c e refl m s
  whole_step o c m s (onbus Stop e h) = whole_kept for_frames o c e refl m s
  whole_step o c m s (onbus (Out b) e h) = whole_out b o c e h m s
  whole_step o c m s (onbus (In nack) e h) = whole_kept for_takes o c e refl m s

  -- ── a chip in NORMAL, of which a byte is spoiled: a record that stays and one that is dropped, by its answer in the full stream (x) and
  -- among those that stay (y); m is the way on ──
  abbrev Stays : Mode → Bool → Stepped → Bool → Stepped → Type 0
  Stays m o x w y =
      (seen_by y ∷ played_at p w y.chip (picked (stay p m o x.chip rs) rs))
      ≡ (seen_by x ∷ picked (stay p m o x.chip rs) (played_at p o x.chip rs))

  abbrev Goes : Mode → Chip → Bool → Stepped → Type 0
  Goes m d o x = played_at p false d (picked (stay p m o x.chip rs) rs) ≡ picked (stay p m o x.chip rs) (played_at p o x.chip rs)

  module _ (c d : Chip) (x y : Stepped) (is : answer_at p false c r ≡ x) where
    -- m by whether the chip is awake after it
    stays_by : (m : Bool → Mode) → answer_at p false d r ≡ y → Stays (m x.chip.normal) false x false y
        → Stays (m (answer_at p false c r).chip.normal) (fresh_at p false c r) (answer_at p false c r) (fresh_at p false d r)
        (answer_at p false d r)
    stays_by m ys h =
        subst₂ (λ o w. Stays (m (answer_at p false c r).chip.normal) o (answer_at p false c r) w (answer_at p false d r))
        (sym (closed p c r)) (sym (closed p d r))
        (subst₂ (λ x y. Stays (m x.chip.normal) false x false y) (sym is) (sym ys) h)

    goes_by : (m : Bool → Mode) → Goes (m x.chip.normal) d false x
        → Goes (m (answer_at p false c r).chip.normal) d (fresh_at p false c r) (answer_at p false c r)
    goes_by m h =
        subst (λ o. Goes (m (answer_at p false c r).chip.normal) d o (answer_at p false c r)) (sym (closed p c r))
        (subst (λ x. Goes (m x.chip.normal) d false x) (sym is) h)

  abbrev lost_if : Bool → Mode
  lost_if w = cond (not w) frame_whole frame_lost

  lost_on : (P : Mode → Type 0) (w : Bool) → w ≡ true → P frame_lost → P (lost_if w)
  lost_on P w h q = subst P (sym (ap lost_if h)) q

  -- ── its CRC was refused: the full stream's bus is idle, the other's is writing ──
  module _ (s : ℕ) (base : Chip) (m : Calmed base) (a : base.normal ≡ true) where
    abbrev idle : Chip
    idle = phased Idle base

    abbrev writing : Chip
    writing = phased (Writing s) base

    lost_step : View p r → Alike p frame_lost false writing false idle (r ∷ rs)
    unfolding played_at outed taken owing byte_given
    lost_step (chips e h) =
        let b : Stepped = answer_at p false base r in
        front frame_lost false writing false idle for_chips e
        (stays_by idle writing (mapped Idle b) (mapped (Writing s) b) (h Idle base a).0 lost_if (h (Writing s) base a).0
        (lost_on (λ w. Stays w false (mapped Idle b) false (mapped (Writing s) b)) b.chip.normal (h Idle base a).1
        (ap (◌∷◌ (seen_by b)) (ih.lost s b.chip (calm_at p false base r m) (h Idle base a).1))))
    lost_step (resets f e h) =
        let b : Stepped = numbered 0 (in_ship (f base.setup)) in
        front frame_lost false writing false idle for_resets e
        (stays_by idle writing b b (h false idle) lost_if (h false writing)
        (ap (◌∷◌ (seen_by b)) (ih.whole false (in_ship (f base.setup)) (ship_calm (f base.setup)) (never b.chip))))
    lost_step (onbus Start e h) =
        front frame_lost false writing false idle for_frames e
        (stays_by idle writing (on_bus Start idle) (on_bus Start writing) (h false idle ∙ bus_still Start idle a m) (λ w. frame_whole)
        (h false writing ∙ bus_still Start writing a m)
        (ap (◌∷◌ (seen_by (on_bus Start base))) (ih.whole false (phased Address base) m (never base))))
    lost_step (onbus Stop e h) =
        front frame_lost false writing false idle for_frames e
        (stays_by idle writing (on_bus Stop idle) (on_bus Stop writing) (h false idle ∙ bus_still Stop idle a m) (λ w. frame_whole)
        (h false writing ∙ bus_still Stop writing a m)
        (ap (◌∷◌ (seen_by (on_bus Stop base))) (ih.whole false idle m (never base))))
    lost_step (onbus (Out b) e h) =
        front frame_lost false writing false idle for_sends e
        (goes_by idle writing (answered 1 idle) (answered 1 idle) (h false idle ∙ bus_still (Out b) idle a m) lost_if
        (lost_on (λ w. Goes w writing false (answered 1 idle)) base.normal a (ih.lost s base m a)))
    lost_step (onbus (In nack) e h) =
        front frame_lost false writing false idle for_takes e
        (goes_by idle writing (answered 0xFF idle) (answered 0xFF idle) (h false idle ∙ bus_still (In nack) idle a m) lost_if
        (lost_on (λ w. Goes w writing false (answered 0xFF idle)) base.normal a (ih.lost s base m a)))

    -- ── its CRC has not come: the full stream's chip waits for it, the other's is writing ──
    module _ (v t : ℕ) where
      abbrev awaits : Chip
      awaits = phased (Checking v t) base

      -- what comes next leaves the byte waiting
      abbrev Spoils : Type 0
      Spoils = spoiled_at p false awaits (r ∷ rs) ≡ true

      spoils_on : (x : Stepped) (k : Sort) → Spoils → sort_at p r ≡ k → is_sends k ≡ false → answer_at p false awaits r ≡ x
          → spoiled_at p false x.chip rs ≡ true
      spoils_on x k q e n is =
          subst₂ (λ o x. spoiled_at p o x.chip rs ≡ true) (closed p awaits r) is
          (subst (λ w. cond w (eqb (answer_at p false awaits r).byte 1)
          (spoiled_at p (fresh_at p false awaits r) (answer_at p false awaits r).chip rs) ≡ true) n (spoiled_by p false awaits r rs k e q))

      not_open : {A : Type 0} (x : Stepped) (k : Sort) → Spoils → sort_at p r ≡ k → is_sends k ≡ false → answer_at p false awaits r ≡ x
          → waiting x.chip ≡ false → A
      not_open x k q e n is w = absurd (true≢false (sym (waits_at p false x.chip rs (spoils_on x k q e n is)) ∙ w))

      open_step : Spoils → View p r → Alike p frame_open false writing false awaits (r ∷ rs)
      unfolding played_at taken owing byte_given
      open_step q (chips e h) =
          let b : Stepped = answer_at p false base r in
          front frame_open false writing false awaits for_chips e
          (stays_by awaits writing (mapped (Checking v t) b) (mapped (Writing s) b) (h (Checking v t) base a).0 (λ w. frame_open)
          (h (Writing s) base a).0
          (ap (◌∷◌ (seen_by b)) (ih.opened v t s b.chip (calm_at p false base r m) (h Idle base a).1
          (spoils_on (mapped (Checking v t) b) for_chips q e refl (h (Checking v t) base a).0))))
      open_step q (resets f e h) = not_open (numbered 0 (in_ship (f base.setup))) for_resets q e refl (h false awaits) refl
      open_step q (onbus Start e h) =
          not_open (on_bus Start awaits) for_frames q e refl (h false awaits ∙ bus_still Start awaits a m) (and-false base.normal)
      open_step q (onbus Stop e h) =
          not_open (on_bus Stop awaits) for_frames q e refl (h false awaits ∙ bus_still Stop awaits a m) (and-false base.normal)
      open_step q (onbus (Out x) e h) =
          front frame_open false writing false awaits for_sends e
          (goes_by awaits writing (answered 1 idle) (answered 1 idle) (h false awaits ∙ denied v t x base m a
          (subst (λ z. eqb z.byte 1 ≡ true) (h false awaits) (spoiled_by p false awaits r rs for_sends e q))) (λ w. frame_lost)
          (ih.lost s base m a))
      open_step q (onbus (In nack) e h) =
          front frame_open false writing false awaits for_takes e
          (stays_by awaits writing (answered 0xFF awaits) (answered 0xFF writing) (h false awaits ∙ bus_still (In nack) awaits a m)
          (λ w. frame_open)
          (h false writing ∙ bus_still (In nack) writing a m)
          (ap (◌∷◌ (seen_by (answered 0xFF base))) (ih.opened v t s base m a
          (spoils_on (answered 0xFF awaits) for_takes q e refl (h false awaits ∙ bus_still (In nack) awaits a m)))))

claim : (p : ℕ) (rs : List (List ℕ)) → Claim p rs
unfolding played_at picked stay
claim p [] = record { whole = λ o c m s. refl; opened = λ v t s base m a h. refl; lost = λ s base m a. refl }
claim p (r ∷ rs) =
    record {
      whole = λ o c m s. whole_step p r rs (claim p rs) o c m s (view p r);
      opened = λ v t s base m a h. open_step p r rs (claim p rs) s base m a v t h (view p r);
      lost = λ s base m a. lost_step p r rs (claim p rs) s base m a (view p r);
    }

-- THE RECORDS THAT STAY, played by themselves on a chip of part p, show at each what the full stream showed there
pub stay_same : (p : ℕ) (o : Bool) (c : Chip) (rs : List (List ℕ)) → Calmed c → Still o c
    → played_at p o c (picked (stay p frame_whole o c rs) rs) ≡ picked (stay p frame_whole o c rs) (played_at p o c rs)
stay_same p o c rs m s = (claim p rs).whole o c m s
