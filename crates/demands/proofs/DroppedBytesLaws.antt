-- CHIP H8 of the bytes: drop the records of spoiled writes from a stream, and the entries of what is left are the entries that those
-- records had in the full stream; and after each of them the chip is the same but for the bus's phase: registers, pointer, runs and outside
-- level. Assumes nothing.
use Rattle.std.specs.Prelude.{◌≡◌, Bool, not, cond, ◌||◌, ◌&&◌, ◌≢◌, ℕ, zero, suc, ◌-◌, ltb, length, drop}
use Rattle.std.proofs.Math.Path.{refl, ap, ap₂, subst}
use Rattle.std.proofs.Common.{sym, ◌∙◌, arith}
use Rattle.std.proofs.Math.Bool.{true, false}
use mathlib.Core.List.{List, [], ◌∷◌, ◌++◌, map}
use Rattle.std.proofs.Math.Dec.{eqb}
use borrow.Author.Tests.{ne_eqb, le-ltb}
use Rattle.events.specs.declared.Setup.{Setup as SetupValues}
use Rattle.events.specs.declared.Event.TheVariants.{Setup}
use Rattle.records.specs.declared.Read.{Read}
use Rattle.records.specs.declared.Read.TheVariants.{Record, Refused, Cut}
use Rattle.bits.specs.Numbers.{le16}
use Rattle.records.specs.Frame.{frame_of}
use Rattle.records.specs.Record.{read_of, counts_beside}
use Rattle.records.specs.ReadingLaws.{read_whole}
use Rattle.records.specs.Record.{payload_of, later_of, counts_in}
use Rattle.crc8.specs.Crc.{byte_on}
use Rattle.events.specs.Event.{fits, counts_fit, meant_of}
use Rattle.bus.specs.Bus.{addressed, fed, checked, outed, taken, byte_given, owing, after_data, after_sum, keeps}
use Rattle.settings.specs.Write.{settings_with}
use Rattle.registers.specs.Write.{shown_with, cellbal_with}
use Rattle.limits.specs.Rule.{rule, over, under}
use Rattle.bus.specs.declared.Phase.TheVariants.{Idle}
use Rattle.chip.specs.declared.Chip.{Chip}
use Rattle.chip.specs.Answer.{Stepped}
use Rattle.chip.specs.Chip.{in_ship, stored_at, happened, stepped}
use Rattle.chip.proofs.Calm.{ship_calm}
use Rattle.turn.specs.declared.Entry.{Entry}
use Rattle.turn.specs.Turn.{Turn, none, entry_of, born_of, acted, turn, turned, turn_of}
use Rattle.turn.specs.Entries.{runs, stands, stays, entries_from, chip_from}
use Rattle.turn.specs.Entries.{fresh_from, entries}
use Rattle.turn.specs.StandingLaws.{setup_turn}
use Rattle.turn.specs.CountedLaws.{Framed, framed}
use Rattle.turn.specs.PrefixLaws.{WholeRecords, none_left, one_more}
use Rattle.turn.specs.Pieces.{fed_in_two, joined}
use Rattle.demands.specs.Spoiled.{frame_whole, phased}
use Rattle.demands.proofs.Streams.{a_part}
use Rattle.demands.specs.Dropped.{answer_in, fresh_in, sort_at, answer_at, fresh_at, spoiled_at, stay, picked, Seen, played_at}
use Rattle.demands.specs.Dropped.{WholeRecord, WholeEach}
use Rattle.demands.proofs.DroppedLaws.{stay_same}

-- ── a worked case, as Spoiled has it of events: 10 05 03 with a wrong CRC; a refused record of kind OUT between them stays ──
abbrev guarded : SetupValues
guarded = record { part = 1; crc = true; address = 8; gain_code = 10; offset = 30; floor = 1000; cells = 0 }

abbrev sends : ℕ → List ℕ
sends b = 1 ∷ 0 ∷ 0x11 ∷ 0 ∷ b ∷ []

abbrev bare : ℕ → List ℕ
bare k = 0 ∷ 0 ∷ k ∷ 0 ∷ []

pub worked : stay 1 frame_whole true (in_ship guarded) (
    bare 0x02 ∷ bare 0x10 ∷ sends 0x10 ∷ sends 0x05 ∷ sends 0x03 ∷ bare 0x11 ∷ sends 0xEB ∷ sends 0x01 ∷ (1 ∷ 0 ∷ 0x12 ∷ 0 ∷ 0 ∷ []) ∷ bare
    0x13 ∷ []
    ) ≡ true ∷ true ∷ true ∷ true ∷ false ∷ true ∷ false ∷ false ∷ false ∷ true ∷ []
unfolding stay sort_at answer_at fresh_at spoiled_at acted meant_of counts_in counts_fit read_of payload_of later_of stepped happened fits
    outed taken
    byte_given owing settings_with shown_with cellbal_with byte_on rule over under addressed fed checked after_data after_sum keeps
    stored_at
worked = refl

-- ── a piece of one record ──
drop_whole : (r : List ℕ) → drop (length r) r ≡ []
drop_whole [] = refl
drop_whole (b ∷ r) = drop_whole r

runs_none : (f : ℕ) (o : Bool) (c : Chip) → runs f o c [] ≡ []
runs_none zero o c = refl
runs_none (suc f) o c = refl

stands_none : (f : ℕ) (o : Bool) (c : Chip) → stands f o c [] ≡ c
stands_none zero o c = refl
stands_none (suc f) o c = refl

stays_none : (f : ℕ) (o : Bool) (c : Chip) → stays f o c [] ≡ o
stays_none zero o c = refl
stays_none (suc f) o c = refl

record Single (o : Bool) (c : Chip) (r : List ℕ) : Type 0 where
  whole : WholeRecords o c r
  gives : entries_from o c r ≡ (turn_of o c r).entry ∷ []
  leaves : chip_from o c r ≡ (turn_of o c r).chip
  opens : fresh_from o c r ≡ (turn_of o c r).fresh

single : (o : Bool) (c : Chip) (r : List ℕ) → length r ≢ 0 → (turn_of o c r).last ≡ false → (turn_of o c r).next ≡ length r → Single o c r
unfolding entries_from chip_from fresh_from
single o c [] z l n = absurd (z refl)
single o c (b ∷ s) z l n =
    let t : Turn = turn_of o c (b ∷ s) in
    let d : drop t.next (b ∷ s) ≡ [] = ap (λ (k : ℕ). drop k (b ∷ s)) n ∙ drop_whole (b ∷ s) in
    record {
      whole = one_more o c b s l (subst (λ (q : List ℕ). WholeRecords t.fresh t.chip q) (sym d) (none_left t.fresh t.chip));
      gives =
          ap (λ (x : Bool). t.entry ∷ cond x [] (runs (length s) t.fresh t.chip (drop t.next (b ∷ s)))) l
          ∙ ap (λ (q : List ℕ). t.entry ∷ runs (length s) t.fresh t.chip q) d
          ∙ ap (λ (q : List Entry). t.entry ∷ q) (runs_none (length s) t.fresh t.chip);
      leaves =
          ap (λ (x : Bool). cond x t.chip (stands (length s) t.fresh t.chip (drop t.next (b ∷ s)))) l
          ∙ ap (stands (length s) t.fresh t.chip) d ∙ stands_none (length s) t.fresh t.chip;
      opens =
          ap (λ (x : Bool). cond x t.fresh (stays (length s) t.fresh t.chip (drop t.next (b ∷ s)))) l
          ∙ ap (stays (length s) t.fresh t.chip) d ∙ stays_none (length s) t.fresh t.chip;
    }

record_frame : (r : List ℕ) → WholeRecord r → frame_of r ≡ length r
unfolding frame_of
record_frame r w =
    let a : ltb (length r) 4 ≡ false = le-ltb (length r) 4 (omega (arith, w)) in
    let b : ltb (length r - 4) (le16 r 0) ≡ false = le-ltb (length r - 4) (le16 r 0) (omega (arith, w)) in
    simp (a, b) (sym w)

-- ── records on a chip of part p ──
module _ (p : ℕ) (z : p ≢ 0) where
  abbrev Turns : Bool → Chip → List ℕ → Stepped → Bool → Turn → Type 0
  Turns o c r s f t =
      (t.chip ≡ s.chip) × (t.fresh ≡ f) × (t.entry ≡ entry_of s) × (t.last ≡ false) × (t.next ≡ length r)

  turn_at : (o : Bool) (c : Chip) (r : List ℕ) → c.setup.part ≡ p → WholeRecord r
      → Turns o c r (answer_at p o c r) (fresh_at p o c r) (turn_of o c r)
  unfolding turn_of answer_at fresh_at
  turn_at o c r q w =
      subst (λ (k : ℕ). Turns o c r (answer_in o c r (read_of p r)) (fresh_in o (read_of p r) (answer_in o c r (read_of p r)).number)
      (turned o c r (read_of k r))) (sym q) (by (read_of p r) (framed p r))
    where
      e : eqb c.setup.part 0 ≡ false
      e = ne_eqb c.setup.part 0 (λ y. z (sym q ∙ y))

      by : (x : Read) → Framed r x → Turns o c r (answer_in o c r x) (fresh_in o x (answer_in o c r x).number) (turned o c r x)
      by (Record g n) f = (
        refl,
        ap (λ (b : Bool). b || (o && not (eqb (acted o g (counts_beside r (Record g n)) c).number 0))) e,
        refl,
        refl,
        sym f.0 ∙ record_frame r w,
      )
      by (Refused k n) f = (refl, refl, refl, e, sym f.0 ∙ record_frame r w)
      by Cut f = absurd (let y : length r ≡ 0 = sym (record_frame r w) ∙ f in omega (arith, w, y))

  single_at : (o : Bool) (c : Chip) (r : List ℕ) → c.setup.part ≡ p → WholeRecord r → Single o c r
  single_at o c r q w =
      let t = turn_at o c r q w in
      single o c r (λ (y : length r ≡ 0). omega (arith, w, y)) t.3 t.4

  part_stays : (o : Bool) (c : Chip) (r : List ℕ) → c.setup.part ≡ p → WholeRecord r → (answer_at p o c r).chip.setup.part ≡ p
  part_stays o c r q w =
      ap (λ (d : Chip). d.setup.part) (sym (turn_at o c r q w).0)
      ∙ ap (λ (v : SetupValues). v.part) (setup_turn o c r (λ y. z (sym q ∙ y))) ∙ q

  -- THE ENTRIES of records one after the other are those of each on the chip that those before it leave ..
  pub each_entry : (o : Bool) (c : Chip) (rs : List (List ℕ)) → c.setup.part ≡ p → WholeEach rs
      → entries_from o c (joined rs) ≡ map (λ (x : Seen). x.entry) (played_at p o c rs)
  unfolding entries_from played_at
  each_entry o c [] q w = refl
  each_entry o c (r ∷ rs) q w =
      let t = turn_at o c r q w.0 in
      let s : Single o c r = single_at o c r q w.0 in
      (fed_in_two s.whole (joined rs)).gives
      ∙ ap₂ (λ (l : List Entry) (d : Chip). l ++ entries_from (fresh_from o c r) d (joined rs)) s.gives (s.leaves ∙ t.0)
      ∙ ap₂ (λ (e : Entry) (f : Bool). e ∷ entries_from f (answer_at p o c r).chip (joined rs)) t.2 (s.opens ∙ t.1)
      ∙ ap (λ (l : List Entry). entry_of (answer_at p o c r) ∷ l)
      (each_entry (fresh_at p o c r) (answer_at p o c r).chip rs (part_stays o c r q w.0) w.1)

  -- .. and the chip after them is the one seen after the last
  abbrev pub last_seen : Chip → List Seen → Chip
  last_seen c [] = c
  last_seen c (x ∷ xs) = last_seen x.after xs

  pub last_after : (o : Bool) (c : Chip) (rs : List (List ℕ)) → c.setup.part ≡ p → WholeEach rs
      → phased Idle (chip_from o c (joined rs)) ≡ last_seen (phased Idle c) (played_at p o c rs)
  unfolding chip_from played_at
  last_after o c [] q w = refl
  last_after o c (r ∷ rs) q w =
      let t = turn_at o c r q w.0 in
      let s : Single o c r = single_at o c r q w.0 in
      ap (phased Idle)
      ((fed_in_two s.whole (joined rs)).leaves
      ∙ ap₂ (λ (f : Bool) (d : Chip). chip_from f d (joined rs)) (s.opens ∙ t.1) (s.leaves ∙ t.0))
      ∙ last_after (fresh_at p o c r) (answer_at p o c r).chip rs (part_stays o c r q w.0) w.1

-- ── a stream: SETUP's record, read with success as u, and whole records after it ──
picked_whole : (ts : List Bool) (rs : List (List ℕ)) → WholeEach rs → WholeEach (picked ts rs)
unfolding picked
picked_whole [] rs w = tt
picked_whole (t ∷ ts) [] w = tt
picked_whole (true ∷ ts) (r ∷ rs) w = (w.0, picked_whole ts rs w.1)
picked_whole (false ∷ ts) (r ∷ rs) w = picked_whole ts rs w.1

picked-map : {A B : Type 0} (f : A → B) (ts : List Bool) (xs : List A) → picked ts (map f xs) ≡ map f (picked ts xs)
unfolding picked
picked-map f [] xs = refl
picked-map f (t ∷ ts) [] = refl
picked-map f (true ∷ ts) (x ∷ xs) = ap (λ (l : List _). f x ∷ l) (picked-map f ts xs)
picked-map f (false ∷ ts) (x ∷ xs) = picked-map f ts xs

module _ (f : List ℕ) (u : SetupValues) (first : read_of 0 f ≡ Record (Setup u) (length f)) where
  -- what is seen of records after it
  abbrev pub after : List (List ℕ) → List Seen
  after rs = played_at u.part true (in_ship u) rs

  -- which of them stay
  abbrev pub stayed : List (List ℕ) → List Bool
  stayed rs = stay u.part frame_whole true (in_ship u) rs

  born : turn_of false none f ≡ turn (born_of u) true (length f) false
  unfolding turn_of acted
  born = ap (turned false none f) first

  filled : length f ≢ 0
  filled y = omega (arith, (read_whole 0 f (Setup u) (length f) first).header, y)

  alone : Single false none f
  alone = single false none f filled (ap (λ (t : Turn). t.last) born) (ap (λ (t : Turn). t.next) born)

  -- its entries: SETUP's, and those of each
  pub entries_each : (rs : List (List ℕ)) → WholeEach rs
      → entries (f ++ joined rs) ≡ entry_of (born_of u) ∷ map (λ (x : Seen). x.entry) (after rs)
  unfolding entries entries_from
  entries_each rs w =
      (fed_in_two alone.whole (joined rs)).gives
      ∙ ap₂ (λ (l : List Entry) (d : Chip). l ++ entries_from (fresh_from false none f) d (joined rs)) alone.gives alone.leaves
      ∙ ap (λ (o : Bool). (turn_of false none f).entry ∷ entries_from o (turn_of false none f).chip (joined rs)) alone.opens
      ∙ ap (λ (t : Turn). t.entry ∷ entries_from t.fresh t.chip (joined rs)) born
      ∙ ap (λ (l : List Entry). entry_of (born_of u) ∷ l) (each_entry u.part (a_part f u (length f) first) true (in_ship u) rs refl w)

  -- .. and the chips seen after the records that stay are those of the full stream there
  pub dropped_after : (rs : List (List ℕ)) → after (picked (stayed rs) rs) ≡ picked (stayed rs) (after rs)
  dropped_after rs = stay_same u.part true (in_ship u) rs (ship_calm u) (λ e. refl)

  -- THE THEOREM: the entries of the stream without the records that are dropped are those of the full stream without theirs ..
  pub dropped_entries : (rs : List (List ℕ)) → WholeEach rs
      → entries (f ++ joined (picked (stayed rs) rs)) ≡ picked (true ∷ stayed rs) (entries (f ++ joined rs))
  unfolding picked
  dropped_entries rs w =
      entries_each (picked (stayed rs) rs) (picked_whole (stayed rs) rs w)
      ∙ ap (λ (l : List Seen). entry_of (born_of u) ∷ map (λ (x : Seen). x.entry) l) (dropped_after rs)
      ∙ ap (λ (l : List Entry). entry_of (born_of u) ∷ l) (sym (picked-map (λ (x : Seen). x.entry) (stayed rs) (after rs)))
      ∙ ap (picked (true ∷ stayed rs)) (sym (entries_each rs w))
