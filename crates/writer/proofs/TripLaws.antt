-- The round trip: what the writer accepts is read back as the same event with the same counts and the place right after it, whatever
-- bytes follow. Assumes nothing.
use Rattle.std.specs.Prelude.{◌≡◌, refl, ◌≢◌, ℕ, suc, zero, ◌+◌, ◌-◌, ◌*◌, ◌/◌, ◌%◌, ◌<◌, ◌≤◌, List, [], ◌∷◌, ◌++◌, Bool, true, false, cond}
use Rattle.std.specs.Prelude.{◌&&◌, leb, eqb, take, drop}
use Rattle.std.proofs.Math.Path.{ap}
use Rattle.std.proofs.Common.{ap₂, sym, ◌∙◌, subst, length-append, length-take-le, zero-add, le-ltb, ne_eqb, eq-eqb, leb-true, eqb-true}
use native.Mathlib.Omega.{arith}
use Rattle.std.proofs.Math.ListN.{length}
use Rattle.std.proofs.Math.Seq.{take-append_seam}
use Rattle.events.specs.Setup.{setup_fits, setup_of, checked_of}
use Rattle.bits.specs.Numbers.{within, bit_of, bits32, word_bytes}
use Rattle.events.specs.Event.{count_most, ticks_most, soak_most, counts_fit}
use Rattle.events.specs.declared.Setup.{Setup as SetupValues}
use Rattle.events.specs.declared.Counts.{Counts}
use Rattle.events.specs.declared.BusEvent.TheVariants.{Start, Out, In, Stop}
use Rattle.events.specs.declared.Event.{Event}
use Rattle.events.specs.declared.Event.TheVariants.{Setup, Por, Boot, Scan, Temp, Count, Sense, Pin, Load, Xready, OnBus, Level, Ticks}
use Rattle.events.specs.declared.Event.TheVariants.{Soak, Wires}
use Rattle.cell_counts.specs.Scan.{padded}
use Rattle.records.specs.Record.{setup_good, checked_in, counted_in, ticks_of, soak_of, groups_at, inputs_at, later_of}
use Rattle.records.specs.Record.{payload_of}
use Rattle.records.specs.Record.{as_read, read_of, no_counts, counts_of, counts_in, counts_beside, taken_from, taken_at}
use Rattle.records.specs.CountedLaws.{many_is}
use Rattle.records.specs.ReadingLaws.{taken_moved}
use Rattle.bits.specs.BoolLaws.{and_left, and_right}
use Rattle.std.specs.Prelude.{Ok}
use Rattle.records.specs.declared.Read.TheVariants.{Record}
use Rattle.records.specs.declared.Taken.{Taken}
use Rattle.writer.specs.Write.{record_of, kind_for, payload_for, count_bytes, record_for, value_refusal, refusal_for}
use Rattle.writer.specs.Write.{Wrote, written_of, Puts}
use Rattle.constants.specs.Answer.{gives, refuses}
use Rattle.bits.specs.BytesLaws.{back16, back32, words_length, words_back, bit_same}
use Rattle.writer.specs.BytesLaws.{sense_back, ticks_back}
use Rattle.ranges.specs.CountedLaws.{fit_is}
use Rattle.writer.proofs.AcceptedLaws.{wanted_few, Accepted, accepted}

-- the part that stands when an event's record is read: none yet for SETUP
abbrev pub stands_for : Event → ℕ → ℕ
stands_for (Setup v) part = 0
stands_for Por part = part
stands_for Boot part = part
stands_for Scan part = part
stands_for Temp part = part
stands_for (Count n) part = part
stands_for (Sense v) part = part
stands_for Pin part = part
stands_for (Load l) part = part
stands_for Xready part = part
stands_for (OnBus b) part = part
stands_for (Level l) part = part
stands_for (Ticks v n) part = part
stands_for (Soak v n) part = part
stands_for (Wires n) part = part

-- the frame of a record, whatever follows it
pub framed : (part kind : ℕ) (b rest : List ℕ) → length b < 65536
    → read_of part (record_of kind b ++ rest) ≡ as_read (4 + length b) (payload_of kind part b)
unfolding read_of
framed part kind b rest h =
    let l : length (b ++ rest) ≡ length b + length rest = length-append b rest in
    simp (
      back16 (length b),
      back16 kind,
      le-ltb (length (record_of kind b ++ rest)) 4 (omega arith),
      le-ltb (length (record_of kind b ++ rest) - 4) (length b) (omega arith),
      take-append_seam b rest,
    )

-- ── each payload is read as its event ──
setup_same : (v : SetupValues) → v.cells ≡ 0 → setup_of v.part (bit_of v.crc) v.address v.gain_code v.offset v.floor ≡ v
setup_same v z =
    ap (λ (t : Bool). with_crc t 0) (bit_same v.crc) ∙ ap (with_crc v.crc) (sym z)
  where
    with_crc : Bool → ℕ → SetupValues
    with_crc t n =
        record {
          part = v.part;
          crc = t;
          address = v.address;
          gain_code = v.gain_code;
          offset = v.offset;
          floor = v.floor;
          cells = n;
        }

checked_good : (v : SetupValues) → setup_good v ≡ true
    → checked_of v.part (bit_of v.crc) v.address v.gain_code v.offset v.floor ≡ Ok v
unfolding checked_of
checked_good v h =
    let f : setup_fits v.part (bit_of v.crc) v.address v.gain_code v.floor ≡ true = and_left _ (eqb v.cells 0) h in
    simp f (ap Ok
    (setup_same v
    (eqb-true v.cells 0 (and_right (setup_fits v.part (bit_of v.crc) v.address v.gain_code v.floor) _ h))))

picked : (n : ℕ) (t : Bool) → cond t 0 (suc n) ≡ 0 → t ≡ true
picked n true h = refl
picked n false h = absurd (omega arith)

stands : (part : ℕ) → leb 1 part && leb part 3 ≡ true → part ≢ 0
stands part h e = omega (arith, e, leb-true 1 part (and_left (leb 1 part) (leb part 3) h))

-- counts that fit, as the bytes they are written as
module _ (k : Counts) (n : ℕ) (f : counts_fit n k ≡ true) (few : n ≤ 15) (fifteen : length k.of ≡ 15) where
  counts_size : length (count_bytes k) ≡ 2 * n
  counts_size =
      let m : k.many ≡ n = (fit_is n k f).0 in
      words_length (take k.many k.of) ∙ ap (λ (i : ℕ). 2 * i) (length-take-le k.many k.of (omega arith) ∙ m)

  counted_back : (e : Event) → within count_most (take k.many k.of) ≡ true → counted_in e n (count_bytes k) ≡ Ok e
  counted_back e w = simp (eq-eqb (length (count_bytes k)) (2 * n) counts_size, words_back (take k.many k.of), w)

payload_back : (e : Event) (k : Counts) (part : ℕ) → Accepted e k part → length k.of ≡ 15
    → payload_of (kind_for e) (stands_for e part) (payload_for e k) ≡ Ok e
unfolding payload_of later_of value_refusal
payload_back (Setup v) k part a l =
    ap checked_in
    (ap (checked_of v.part (bit_of v.crc) v.address v.gain_code v.offset) (back16 v.floor)
    ∙ checked_good v (picked 0 _ a.values_fit))
payload_back Por k part a l = simp (ne_eqb part 0 (stands part a.part_fits))
payload_back Boot k part a l = simp (ne_eqb part 0 (stands part a.part_fits))
payload_back Scan k part a l =
    simp (ne_eqb part 0 (stands part a.part_fits))
    (counted_back k (inputs_at part) a.beside_fits (wanted_few part Scan) l Scan (picked 2 _ a.values_fit))
payload_back Temp k part a l =
    simp (ne_eqb part 0 (stands part a.part_fits))
    (counted_back k (groups_at part) a.beside_fits (wanted_few part Temp) l Temp (picked 2 _ a.values_fit))
payload_back (Count n) k part a l = simp (ne_eqb part 0 (stands part a.part_fits), back16 n)
payload_back (Sense z) k part a l =
    simp (ne_eqb part 0 (stands part a.part_fits), back16 (bits32 z % 65536), back16 (bits32 z / 65536), back32 (bits32 z))
    (sense_back z (picked 2 _ a.values_fit))
payload_back Pin k part a l = simp (ne_eqb part 0 (stands part a.part_fits))
payload_back (Load true) k part a l = simp (ne_eqb part 0 (stands part a.part_fits))
payload_back (Load false) k part a l = simp (ne_eqb part 0 (stands part a.part_fits))
payload_back Xready k part a l = simp (ne_eqb part 0 (stands part a.part_fits))
payload_back (OnBus Start) k part a l = simp (ne_eqb part 0 (stands part a.part_fits))
payload_back (OnBus (Out b)) k part a l = simp (ne_eqb part 0 (stands part a.part_fits))
payload_back (OnBus (In true)) k part a l = simp (ne_eqb part 0 (stands part a.part_fits))
payload_back (OnBus (In false)) k part a l = simp (ne_eqb part 0 (stands part a.part_fits))
payload_back (OnBus Stop) k part a l = simp (ne_eqb part 0 (stands part a.part_fits))
payload_back (Level true) k part a l = simp (ne_eqb part 0 (stands part a.part_fits))
payload_back (Level false) k part a l = simp (ne_eqb part 0 (stands part a.part_fits))
payload_back (Ticks z n) k part a l =
    simp (ne_eqb part 0 (stands part a.part_fits), back16 (bits32 z % 65536), back16 (bits32 z / 65536), back32 (bits32 z), back16 n)
    (ticks_back ticks_of ticks_most z n (picked 2 _ a.values_fit))
payload_back (Soak z n) k part a l =
    simp (
      ne_eqb part 0 (stands part a.part_fits),
      back16 (bits32 z % 65536),
      back16 (bits32 z / 65536),
      back32 (bits32 z),
      back16 (n % 65536),
      back16 (n / 65536),
      back32 n,
    )
    (ticks_back soak_of soak_most z n (picked 2 _ a.values_fit))
payload_back (Wires n) k part a l = simp (ne_eqb part 0 (stands part a.part_fits))

payload_short : (e : Event) (k : Counts) (part : ℕ) → Accepted e k part → length k.of ≡ 15 → length (payload_for e k) < 65536
payload_short (Setup v) k part a l = omega arith
payload_short Por k part a l = omega arith
payload_short Boot k part a l = omega arith
payload_short Scan k part a l = omega (arith, counts_size k (inputs_at part) a.beside_fits (wanted_few part Scan) l, wanted_few part Scan)
payload_short Temp k part a l = omega (arith, counts_size k (groups_at part) a.beside_fits (wanted_few part Temp) l, wanted_few part Temp)
payload_short (Count n) k part a l = omega arith
payload_short (Sense z) k part a l = omega arith
payload_short Pin k part a l = omega arith
payload_short (Load t) k part a l = omega arith
payload_short Xready k part a l = omega arith
payload_short (OnBus Start) k part a l = omega arith
payload_short (OnBus (Out b)) k part a l = omega arith
payload_short (OnBus (In t)) k part a l = omega arith
payload_short (OnBus Stop) k part a l = omega arith
payload_short (Level t) k part a l = omega arith
payload_short (Ticks z n) k part a l = omega arith
payload_short (Soak z n) k part a l = omega arith
payload_short (Wires n) k part a l = omega arith

-- ── and the counts as they were ──
zero_head : (x : ℕ) (l : Bool) (t : Bool) → leb x 0 ≡ t → t && l ≡ true → (0 ≡ x) × (l ≡ true)
zero_head x l true e h = (omega (arith, leb-true x 0 e), h)
zero_head x l false e h = absurd (let z : ◌≡◌ {A = ℕ} 0 1 = cc in omega arith)

zeros_padded : (xs : List ℕ) → within 0 xs ≡ true → padded (length xs) [] ≡ xs
zeros_padded [] h = refl
zeros_padded (x ∷ xs) h =
    let z : (0 ≡ x) × (within 0 xs ≡ true) = zero_head x (within 0 xs) (leb x 0) refl h in
    ap₂ ◌∷◌ z.0 (zeros_padded xs z.1)

padded_back : (n : ℕ) (xs : List ℕ) → within 0 (drop n xs) ≡ true → padded (length xs) (take n xs) ≡ xs
padded_back zero xs h = zeros_padded xs h
padded_back (suc n) [] h = refl
padded_back (suc n) (x ∷ xs) h = ap (λ (l : List ℕ). x ∷ l) (padded_back n xs h)

counts_same : (k : Counts) (n : ℕ) (l : List ℕ) → n ≡ k.many → l ≡ k.of → record { many = n; of = l } ≡ k
counts_same k n l p q = ap₂ (λ (n : ℕ) (l : List ℕ). counts_with n l) p q
  where
    counts_with : ℕ → List ℕ → Counts
    counts_with n l = record { many = n; of = l }

of_back : (xs : List ℕ) → (counts_of (word_bytes xs)).of ≡ padded 15 xs
unfolding counts_of
of_back xs = ap (padded 15) (words_back xs)

module _ (k : Counts) (n : ℕ) (f : counts_fit n k ≡ true) (fifteen : length k.of ≡ 15) where
  fill : padded 15 (take k.many k.of) ≡ k.of
  fill = subst (λ (m : ℕ). padded m (take k.many k.of) ≡ k.of) fifteen
      (padded_back k.many k.of (subst (λ (i : ℕ). within 0 (drop i k.of) ≡ true) (sym (fit_is n k f).0) (fit_is n k f).1))

  none_back : n ≡ 0 → no_counts ≡ k
  none_back z =
      let m : k.many ≡ 0 = (fit_is n k f).0 ∙ z in
      counts_same k 0 (padded 15 []) (sym m) (ap (λ (i : ℕ). padded 15 (take i k.of)) (sym m) ∙ fill)

  some_back : n ≤ 15 → counts_of (count_bytes k) ≡ k
  some_back few =
      let m : k.many ≡ n = (fit_is n k f).0 in
      counts_same k (counts_of (count_bytes k)).many (counts_of (count_bytes k)).of
      (many_is (count_bytes k) n (counts_size k n f few fifteen) few ∙ sym m)
      (of_back (take k.many k.of) ∙ fill)

counts_back : (e : Event) (k : Counts) (part : ℕ) → Accepted e k part → length k.of ≡ 15 → counts_in e (payload_for e k) ≡ k
unfolding counts_in
counts_back (Setup v) k part a l = none_back k 0 a.beside_fits l refl
counts_back Por k part a l = none_back k 0 a.beside_fits l refl
counts_back Boot k part a l = none_back k 0 a.beside_fits l refl
counts_back Scan k part a l = some_back k (inputs_at part) a.beside_fits l (wanted_few part Scan)
counts_back Temp k part a l = some_back k (groups_at part) a.beside_fits l (wanted_few part Temp)
counts_back (Count n) k part a l = none_back k 0 a.beside_fits l refl
counts_back (Sense z) k part a l = none_back k 0 a.beside_fits l refl
counts_back Pin k part a l = none_back k 0 a.beside_fits l refl
counts_back (Load t) k part a l = none_back k 0 a.beside_fits l refl
counts_back Xready k part a l = none_back k 0 a.beside_fits l refl
counts_back (OnBus b) k part a l = none_back k 0 a.beside_fits l refl
counts_back (Level t) k part a l = none_back k 0 a.beside_fits l refl
counts_back (Ticks z n) k part a l = none_back k 0 a.beside_fits l refl
counts_back (Soak z n) k part a l = none_back k 0 a.beside_fits l refl
counts_back (Wires n) k part a l = none_back k 0 a.beside_fits l refl

-- ── THE ROUND TRIP ──
-- what is accepted is read back, whatever follows it
module _ (e : Event) (k : Counts) (part : ℕ) (ok : refusal_for e k part ≡ 0) (fifteen : length k.of ≡ 15) (rest : List ℕ) where
  pub read_back : read_of (stands_for e part) (record_for e k ++ rest) ≡ Record e (length (record_for e k))
  unfolding record_for
  read_back =
      let a : Accepted e k part = accepted e k part ok in
      let n : 4 + length (payload_for e k) ≡ length (record_of (kind_for e) (payload_for e k)) = omega arith in
      framed (stands_for e part) (kind_for e) (payload_for e k) rest (payload_short e k part a fifteen)
      ∙ ap (as_read (4 + length (payload_for e k))) (payload_back e k part a fifteen) ∙ ap (Record e) n

  pub beside_back : counts_beside (record_for e k ++ rest) (Record e (length (record_for e k))) ≡ k
  unfolding record_for
  beside_back =
      let a : Accepted e k part = accepted e k part ok in
      let n : length (record_of (kind_for e) (payload_for e k)) - 4 ≡ length (payload_for e k) = omega arith in
      ap (λ (i : ℕ). counts_in e (take i (payload_for e k ++ rest))) n ∙ ap (counts_in e) (take-append_seam (payload_for e k) rest)
      ∙ counts_back e k part a fifteen

  -- at any place: the same event, the same counts, and the place right after it
  pub trip_at : (p : List ℕ)
      → taken_at (stands_for e part) (p ++ (record_for e k ++ rest)) (length p)
      ≡ record { read = Record e (length p + length (record_for e k)); counts = k }
  trip_at p =
      taken_moved (stands_for e part) p (record_for e k ++ rest)
      ∙ ap (taken_from (length p) (record_for e k ++ rest)) read_back ∙ ap (λ (c : Counts). as_taken c) beside_back
    where
      as_taken : Counts → Taken
      as_taken c = record { read = Record e (length p + length (record_for e k)); counts = c }

-- said of the call: a buffer that was written begins with the record, and reading it gives the event, its counts and how many bytes were
-- written
wrote_by : (number : ℕ) (bytes old new : List ℕ) (n : ℕ) (t u : Bool) → eqb number 0 ≡ t → leb (length bytes) (length old) ≡ u
    → Puts number bytes old (gives n) new
    → (number ≡ 0) × (n ≡ length bytes) × (new ≡ written_of bytes old)
wrote_by number bytes old new n true true et eu w =
    (eqb-true _ _ et, done_is (simp (et, eu) at w.answer), simp (et, eu) at w.contents)
  where
    done_is : {m : ℕ} → gives n ≡ gives m → n ≡ m
    done_is q = cc
wrote_by number bytes old new n true false et eu w = let q : ◌≡◌ {A = Wrote} (gives n) (refuses 5) =
    simp (et, eu) at w.answer in absurd (let z : ◌≡◌ {A = ℕ} 0 1 = cc in omega arith)
wrote_by number bytes old new n false u et eu w = let q : gives n ≡ refuses number =
    simp et at w.answer in absurd (let z : ◌≡◌ {A = ℕ} 0 1 = cc in omega arith)

pub wrote_reads : (e : Event) (k : Counts) (part : ℕ) (old new : List ℕ) (n : ℕ) → length k.of ≡ 15
    → Puts (refusal_for e k part) (record_for e k) old (gives n) new
    → taken_at (stands_for e part) new 0 ≡ record { read = Record e n; counts = k }
wrote_reads e k part old new n fifteen w =
    let g : (refusal_for e k part ≡ 0) × (n ≡ length (record_for e k)) × (new ≡ written_of (record_for e k) old) =
    wrote_by (refusal_for e k part) (record_for e k) old new n _ _ refl refl w in
    ap (λ (s : List ℕ). taken_at (stands_for e part) s 0) g.2 ∙ trip_at e k part g.0 fifteen (drop (length (record_for e k)) old) []
    ∙ ap (λ (i : ℕ). as_taken i) (zero-add (length (record_for e k)) ∙ sym g.1)
  where
    as_taken : ℕ → Taken
    as_taken i = record { read = Record e i; counts = k }
