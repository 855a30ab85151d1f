-- The other way round: a record that was read is one that the writer accepts, but for a wiring record without a row, and its bytes are
-- those that the writer writes for it. Assumes nothing.
use Rattle.std.specs.Prelude.{◌≡◌, cond, ◌&&◌, leb, eqb, ℤ, length, get_or, drop}
use Rattle.std.proofs.Math.Path.{refl, ap, ap₂, subst}
use Rattle.std.proofs.Common.{sym, ◌∙◌, true≢false, arith, length-drop, length-take-le, le-leb, eqb-true, ne_eqb}
use Prim.Native.Nat.{ℕ, suc, zero, ◌+◌, ◌-◌, ◌*◌, ◌/◌, ◌%◌, ◌<◌, ◌≤◌}
use mathlib.Core.List.{List, [], ◌∷◌}
use Rattle.std.proofs.Math.Bool.{Bool, true, false}
use Rattle.std.proofs.Math.ListN.{take}
use Rattle.events.specs.Setup.{setup_fits, checked_of}
use Rattle.bits.specs.Numbers.{within, le16, le32, signed32, bit_of, words, bytes16, word_bytes}
use Rattle.events.specs.Event.{count_most, sense_fits, ticks_most, soak_most, ticks_fit, fits, counts_wanted, counts_fit, Meant, unfit}
use Rattle.events.specs.Event.{event_of, meant_of, in_range}
use Rattle.events.specs.declared.Setup.{Setup as SetupValues}
use Rattle.events.specs.declared.Counts.{Counts}
use Rattle.events.specs.declared.BusEvent.TheVariants.{Start, Out, In, Stop}
use Rattle.events.specs.declared.Event.{Event}
use Rattle.events.specs.declared.Event.TheVariants.{Setup, Por, Boot, Scan, Temp, Count, Sense, Pin, Load, Xready, OnBus, Level, Ticks}
use Rattle.events.specs.declared.Event.TheVariants.{Soak, Wires}
use Rattle.wiring.specs.Rows.{has_row}
use Rattle.records.specs.Kind.{SETUP, POR, BOOT, SCAN, TEMP, COUNT, SENSE, PIN, LOAD, XREADY, START, OUT, IN, STOP, LEVEL, TICKS, SOAK}
use Rattle.records.specs.Kind.{WIRES}
use Rattle.records.specs.Record.{setup_good, checked_in, setup_in, sense_of, repeat_of, ticks_of, soak_of, groups_at, inputs_at}
use Rattle.events.specs.Setup.{standing}
use Rattle.records.specs.Record.{later_of, payload_of, read_of, counts_of, counts_in, counts_beside}
use Rattle.records.specs.CountedLaws.{many_is, counts_taken}
use Rattle.events.specs.FewLaws.{few_groups, few_inputs}
use Rattle.records.specs.ReadingLaws.{WholeAt, read_whole, later_by, cond_by}
use Rattle.bits.specs.BoolLaws.{and_left}
use Rattle.records.specs.SoundLaws.{bit_back, crc_back, IsSetup, first_setup, Meaning, is_wires, later_means}
use Rattle.records.specs.Record.{Payload}
use Rattle.std.specs.Prelude.{Ok, Err}
use Rattle.constants.specs.declared.refusal.Refusal.TheVariants.{BadKind, BadValue}
use Rattle.records.specs.declared.Read.TheVariants.{Record}
use Rattle.writer.specs.Write.{record_of, kind_for, payload_for, count_bytes, record_for, part_for, value_refusal}
use Rattle.writer.specs.Write.{refusal_for}
use Rattle.bits.specs.BytesLaws.{Bytes, byte_first, byte_rest, bytes_drop, bytes_take, low_forth, high_forth, words_forth, none_forth}
use Rattle.bits.specs.BytesLaws.{one_forth, two_forth}
use Rattle.writer.specs.BytesLaws.{four_forth, six_forth, eight_forth}
use Rattle.ranges.specs.CountedLaws.{fit_is}
use Rattle.writer.proofs.AcceptedLaws.{Accepted, not_refused}

-- ── a payload's kind and bytes are those of its event ──
abbrev Same : List ℕ → ℕ → Payload → Type 0
Same b kind (Ok e) = (kind ≡ kind_for e) × (payload_for e (counts_in e b) ≡ b)
Same b kind (Err k) = Unit

module _ (b : List ℕ) (h : Bytes b) where
  counts_forth : (n : ℕ) → n ≤ 15 → length b ≡ 2 * n → count_bytes (counts_of b) ≡ b
  counts_forth n few l =
      ap (λ (m : ℕ). word_bytes (take m (counts_of b).of)) (many_is b n l few)
      ∙ ap word_bytes (counts_taken b n l few) ∙ words_forth b n l h

  switch_forth : length b ≡ 1 → leb (get_or b 0 0) 1 ≡ true → bit_of (eqb (get_or b 0 0) 1) ∷ [] ≡ b
  switch_forth l f = ap (λ (x : ℕ). x ∷ []) (bit_back (get_or b 0 0) f) ∙ one_forth b l

  later_same : (part kind : ℕ) → Same b kind (later_of kind part b)
  unfolding counts_in
  later_same part kind =
      later_by (Same b) part b
      (sized POR 0 (Ok Por) (λ l. (refl, none_forth b l)))
      (sized BOOT 0 (Ok Boot) (λ l. (refl, none_forth b l)))
      (sized SCAN (2 * inputs_at part) (cond counts (Ok Scan) (Err BadValue))
      (λ l. ranged SCAN counts (Ok Scan) (λ f. (refl, counts_forth (inputs_at part) (few_inputs (standing part)) l))))
      (sized TEMP (2 * groups_at part) (cond counts (Ok Temp) (Err BadValue))
      (λ l. ranged TEMP counts (Ok Temp) (λ f. (refl, counts_forth (groups_at part) (omega (arith, few_groups (standing part))) l))))
      (sized COUNT 2 (Ok (Count (le16 b 0))) (λ l. (refl, two_forth b l h)))
      (sized SENSE 4 (sense_of (le32 b 0)) (λ l. ranged SENSE (sense_fits value) (Ok (Sense value)) (λ f. (refl, four_forth b l h))))
      (sized PIN 0 (Ok Pin) (λ l. (refl, none_forth b l)))
      (sized LOAD 1 (cond bit (Ok (Load level)) (Err BadValue)) (λ l. ranged LOAD bit (Ok (Load level)) (λ f. (refl, switch_forth l f))))
      (sized XREADY 0 (Ok Xready) (λ l. (refl, none_forth b l)))
      (sized START 0 (Ok (OnBus Start)) (λ l. (refl, none_forth b l)))
      (sized OUT 1 (Ok (OnBus (Out (get_or b 0 0)))) (λ l. (refl, one_forth b l)))
      (sized IN 1 (cond bit (Ok (OnBus (In level))) (Err BadValue))
      (λ l. ranged IN bit (Ok (OnBus (In level))) (λ f. (refl, switch_forth l f))))
      (sized STOP 0 (Ok (OnBus Stop)) (λ l. (refl, none_forth b l)))
      (sized LEVEL 1 (cond bit (Ok (Level level)) (Err BadValue))
      (λ l. ranged LEVEL bit (Ok (Level level)) (λ f. (refl, switch_forth l f))))
      (sized TICKS 6 (repeat_of ticks_of ticks_most (le32 b 0) (le16 b 4))
      (λ l. ranged TICKS (ticks_fit ticks_most value (le16 b 4)) (Ok (Ticks value (le16 b 4))) (λ f. (refl, six_forth b l h))))
      (sized SOAK 8 (repeat_of soak_of soak_most (le32 b 0) (le32 b 4))
      (λ l. ranged SOAK (ticks_fit soak_most value (le32 b 4)) (Ok (Soak value (le32 b 4))) (λ f. (refl, eight_forth b l h))))
      (sized WIRES 1 (Ok (Wires (get_or b 0 0))) (λ l. (refl, one_forth b l)))
      (λ (k : ℕ). tt)
      kind
    where
      counts : Bool
      counts = within count_most (words b)

      bit : Bool
      bit = leb (get_or b 0 0) 1

      level : Bool
      level = eqb (get_or b 0 0) 1

      value : ℤ
      value = signed32 (le32 b 0)

      sized : (kind n : ℕ) (x : Payload) → (length b ≡ n → Same b kind x) → Same b kind (cond (eqb (length b) n) x (Err BadKind))
      sized kind n x f = cond_by (Same b kind) (eqb (length b) n) x (Err BadKind) (λ l. f (eqb-true _ _ l)) tt

      ranged : (kind : ℕ) (t : Bool) (x : Payload) → (t ≡ true → Same b kind x) → Same b kind (cond t x (Err BadValue))
      ranged kind t x f = cond_by (Same b kind) t x (Err BadValue) f tt

  first_same : (p c a g o f : ℕ) (t : Bool) → setup_fits p c a g f ≡ t → p ∷ c ∷ a ∷ g ∷ o ∷ bytes16 f ≡ b
      → Same b SETUP (checked_in (checked_of p c a g o f))
  unfolding checked_of
  first_same p c a g o f true e l = simp e (refl, ap (λ (n : ℕ). p ∷ n ∷ a ∷ g ∷ o ∷ bytes16 f) (crc_back p c a g f e) ∙ l)
  first_same p c a g o f false e l = simp e tt

-- seven bytes, as SETUP has them
seven_forth : (b : List ℕ) → length b ≡ 7 → Bytes b
    → get_or b 0 0 ∷ get_or b 1 0 ∷ get_or b 2 0 ∷ get_or b 3 0 ∷ get_or b 4 0 ∷ bytes16 (le16 b 5)
    ≡ b
seven_forth [] l h = absurd (omega arith)
seven_forth (x ∷ b) l h = ap (λ (l : List ℕ). x ∷ l) (six b (omega arith) (byte_rest x b h))
  where
    two : (b : List ℕ) → length b ≡ 2 → Bytes b → bytes16 (le16 b 0) ≡ b
    two b l h = two_forth b l h

    three : (b : List ℕ) → length b ≡ 3 → Bytes b → get_or b 0 0 ∷ bytes16 (le16 b 1) ≡ b
    three [] l h = absurd (omega arith)
    three (x ∷ b) l h = ap (λ (l : List ℕ). x ∷ l) (two b (omega arith) (byte_rest x b h))

    four : (b : List ℕ) → length b ≡ 4 → Bytes b → get_or b 0 0 ∷ get_or b 1 0 ∷ bytes16 (le16 b 2) ≡ b
    four [] l h = absurd (omega arith)
    four (x ∷ b) l h = ap (λ (l : List ℕ). x ∷ l) (three b (omega arith) (byte_rest x b h))

    five : (b : List ℕ) → length b ≡ 5 → Bytes b → get_or b 0 0 ∷ get_or b 1 0 ∷ get_or b 2 0 ∷ bytes16 (le16 b 3) ≡ b
    five [] l h = absurd (omega arith)
    five (x ∷ b) l h = ap (λ (l : List ℕ). x ∷ l) (four b (omega arith) (byte_rest x b h))

    six : (b : List ℕ) → length b ≡ 6 → Bytes b → get_or b 0 0 ∷ get_or b 1 0 ∷ get_or b 2 0 ∷ get_or b 3 0 ∷ bytes16 (le16 b 4) ≡ b
    six [] l h = absurd (omega arith)
    six (x ∷ b) l h = ap (λ (l : List ℕ). x ∷ l) (five b (omega arith) (byte_rest x b h))

setup_same : (b : List ℕ) → Bytes b → Same b SETUP (setup_in b)
setup_same b h =
    cond_by (Same b SETUP) (eqb (length b) 7) _ (Err BadKind)
    (λ l. first_same b h (get_or b 0 0) (get_or b 1 0) (get_or b 2 0) (get_or b 3 0) (get_or b 4 0) (le16 b 5) _ refl
    (seven_forth b (eqb-true _ _ l) h))
    tt

first_of : (kind : ℕ) (b : List ℕ) (t : Bool) → eqb kind SETUP ≡ t → Bytes b → Same b kind (cond t (setup_in b) (Err BadKind))
first_of kind b true e h = subst (λ (k : ℕ). Same b k (setup_in b)) (sym (eqb-true kind SETUP e)) (setup_same b h)
first_of kind b false e h = tt

payload_same : (part kind : ℕ) (b : List ℕ) → Bytes b → Same b kind (payload_of kind part b)
unfolding payload_of
payload_same zero kind b h = first_of kind b (eqb kind SETUP) refl h
payload_same (suc n) kind b h = simp (ne_eqb (suc n) 0 (λ e. omega (arith, e))) (later_same b h (suc n) kind)

-- ── the frame ──
header_forth : (r : List ℕ) → Bytes r → 4 ≤ length r → le16 r 0 % 256 ∷ le16 r 0 / 256 ∷ le16 r 2 % 256 ∷ le16 r 2 / 256 ∷ drop 4 r ≡ r
header_forth [] h l = absurd (omega arith)
header_forth (x ∷ []) h l = absurd (omega arith)
header_forth (x ∷ y ∷ []) h l = absurd (omega arith)
header_forth (x ∷ y ∷ z ∷ []) h l = absurd (omega arith)
header_forth (x ∷ y ∷ z ∷ w ∷ r) h l =
    let hx : x < 256 = byte_first x (y ∷ z ∷ w ∷ r) h in
    let hz : z < 256 = byte_first z (w ∷ r) (byte_rest y (z ∷ w ∷ r) (byte_rest x (y ∷ z ∷ w ∷ r) h)) in
    ap₂ ◌∷◌ (low_forth x y hx) (ap₂ ◌∷◌ (high_forth x y hx) (ap₂ ◌∷◌ (low_forth z w hz) (ap₂ ◌∷◌ (high_forth z w hz) refl)))

module _ (r : List ℕ) (h : Bytes r) (l : 4 ≤ length r) (room : le16 r 0 ≤ length r - 4) where
  payload_length : length (take (le16 r 0) (drop 4 r)) ≡ le16 r 0
  payload_length = length-take-le (le16 r 0) (drop 4 r) (simp length-drop room)

  frame_forth : record_of (le16 r 2) (take (le16 r 0) (drop 4 r)) ≡ take (4 + le16 r 0) r
  frame_forth =
      let four : 4 + le16 r 0 ≡ suc (suc (suc (suc (le16 r 0)))) = omega arith in
      ap (λ (n : ℕ). n % 256 ∷ n / 256 ∷ le16 r 2 % 256 ∷ le16 r 2 / 256 ∷ take (le16 r 0) (drop 4 r)) payload_length
      ∙ ap (take (suc (suc (suc (suc (le16 r 0)))))) (header_forth r h l) ∙ ap (λ (n : ℕ). take n r) (sym four)

-- ── what was read is not refused ──
setup_accepted : (e : Event) (part : ℕ) (b : List ℕ) → IsSetup e → Accepted e (counts_in e b) part
unfolding counts_in counts_fit value_refusal
setup_accepted (Setup v) part b h = record { part_fits = setup_part v h; beside_fits = refl; values_fit = simp h }
  where
    setup_part : (v : SetupValues) → setup_good v ≡ true → leb 1 v.part && leb v.part 3 ≡ true
    setup_part v h =
        let x : Bool = leb 1 v.part && leb v.part 3 in
        let y : Bool = x && leb (bit_of v.crc) 1 && leb 0x08 v.address && leb v.address 0x77 in
        let f : setup_fits v.part (bit_of v.crc) v.address v.gain_code v.floor ≡ true = and_left _ (eqb v.cells 0) h in
        and_left x (leb (bit_of v.crc) 1)
        (and_left (x && leb (bit_of v.crc) 1) (leb 0x08 v.address)
        (and_left (x && leb (bit_of v.crc) 1 && leb 0x08 v.address) (leb v.address 0x77)
        (and_left y (leb v.gain_code 31) (and_left (y && leb v.gain_code 31) (leb v.floor 4095) f))))
setup_accepted Por part b h = absurd h
setup_accepted Boot part b h = absurd h
setup_accepted Scan part b h = absurd h
setup_accepted Temp part b h = absurd h
setup_accepted (Count n) part b h = absurd h
setup_accepted (Sense v) part b h = absurd h
setup_accepted Pin part b h = absurd h
setup_accepted (Load l) part b h = absurd h
setup_accepted Xready part b h = absurd h
setup_accepted (OnBus x) part b h = absurd h
setup_accepted (Level l) part b h = absurd h
setup_accepted (Ticks v n) part b h = absurd h
setup_accepted (Soak v n) part b h = absurd h
setup_accepted (Wires n) part b h = absurd h

meant_by : (t : Bool) (x : Meant) → in_range (cond t x unfit) ≡ true → (t ≡ true) × (in_range x ≡ true)
meant_by true x h = (refl, h)
meant_by false x h = absurd (true≢false (sym h))

module _ (k : Counts) (part : ℕ) where
  counts_value : (n : ℕ) → counts_fit n k ≡ true → within count_most (take n k.of) ≡ true
      → ◌≡◌ {A = ℕ} (cond (within count_most (take k.many k.of)) 0 3) 0
  counts_value n c f = let w : within count_most (take k.many k.of) ≡ true =
      ap (λ (i : ℕ). within count_most (take i k.of)) (fit_is n k c).0 ∙ f in simp w

  value_fits : (e : Event) → counts_fit (counts_wanted (standing part) e) k ≡ true → in_range (event_of (standing part) e k.of) ≡ true
      → value_refusal e k part ≡ 0
  unfolding value_refusal fits
  value_fits (Setup v) c f = absurd (true≢false (sym f))
  value_fits Por c f = refl
  value_fits Boot c f = refl
  value_fits Scan c f = counts_value (inputs_at part) c f
  value_fits Temp c f = counts_value (groups_at part) c f
  value_fits (Count n) c f = refl
  value_fits (Sense v) c f = simp f
  value_fits Pin c f = refl
  value_fits (Load l) c f = refl
  value_fits Xready c f = refl
  value_fits (OnBus b) c f = refl
  value_fits (Level l) c f = refl
  value_fits (Ticks v n) c f = simp f
  value_fits (Soak v n) c f = simp f
  value_fits (Wires n) c f = absurd (true≢false (sym f))

  stood : (e : Event) → leb 1 part && leb part 3 ≡ true → in_range (event_of (standing part) e k.of) ≡ true
      → leb 1 (part_for e part) && leb (part_for e part) 3 ≡ true
  stood (Setup v) p f = absurd (true≢false (sym f))
  stood Por p f = p
  stood Boot p f = p
  stood Scan p f = p
  stood Temp p f = p
  stood (Count n) p f = p
  stood (Sense v) p f = p
  stood Pin p f = p
  stood (Load l) p f = p
  stood Xready p f = p
  stood (OnBus b) p f = p
  stood (Level l) p f = p
  stood (Ticks v n) p f = p
  stood (Soak v n) p f = p
  stood (Wires n) p f = p

  later_accepted : (e : Event) → leb 1 part && leb part 3 ≡ true → Meaning (standing part) e k → Accepted e k part
  unfolding meant_of
  later_accepted e p g =
      let m : (counts_fit (counts_wanted (standing part) e) k ≡ true) × (in_range (event_of (standing part) e k.of) ≡ true) =
      meant_by _ _ g in
      record { part_fits = stood e p m.1; beside_fits = m.0; values_fit = value_fits e m.0 m.1 }

accepted_at : (part : ℕ) (r : List ℕ) (e : Event) (next : ℕ) → part ≤ 3 → is_wires e ≡ false → read_of part r ≡ Record e next
    → Accepted e (counts_beside r (Record e next)) part
accepted_at zero r e next h w ok = setup_accepted e zero (take (next - 4) (drop 4 r)) (first_setup r e next ok)
accepted_at (suc n) r e next h w ok =
    later_accepted (counts_beside r (Record e next)) (suc n) e (simp (le-leb 1 (suc n) (omega arith), le-leb (suc n) 3 h))
    (later_means (standing (suc n)) r e next (λ z. omega (arith, z)) ok w)

-- ── THE OTHER WAY ROUND ──
module _ (part : ℕ) (r : List ℕ) (e : Event) (next : ℕ) (ok : read_of part r ≡ Record e next) where
  whole : WholeAt part r e next
  whole = read_whole part r e next ok

  -- the bytes of a record that was read are those that are written for it
  pub same_bytes : Bytes r → record_for e (counts_beside r (Record e next)) ≡ take next r
  unfolding record_for
  same_bytes h =
      let b : List ℕ = take (le16 r 0) (drop 4 r) in
      let n : next - 4 ≡ le16 r 0 = omega (arith, whole.ended) in
      let s : (le16 r 2 ≡ kind_for e) × (payload_for e (counts_in e b) ≡ b) =
      subst (Same b (le16 r 2)) whole.payload (payload_same part (le16 r 2) b (bytes_take (le16 r 0) (drop 4 r) (bytes_drop 4 r h))) in
      ap (λ (i : ℕ). record_of (kind_for e) (payload_for e (counts_in e (take i (drop 4 r))))) n
      ∙ ap₂ record_of (sym s.0) s.1 ∙ frame_forth r h whole.header whole.room ∙ ap (λ (i : ℕ). take i r) (sym whole.ended)

  -- and the writer refuses none of them
  pub same_accepted : part ≤ 3 → is_wires e ≡ false → refusal_for e (counts_beside r (Record e next)) part ≡ 0
  same_accepted h w = not_refused e (counts_beside r (Record e next)) part (accepted_at part r e next h w ok)

-- but a wiring record, which is read with any number of cells, where the part has no row for it
pub same_wires : (part : ℕ) (r : List ℕ) (n next : ℕ) → read_of part r ≡ Record (Wires n) next → part ≤ 3
    → refusal_for (Wires n) (counts_beside r (Record (Wires n) next)) part ≡ cond (has_row part n) 0 13
unfolding refusal_for value_refusal counts_in counts_fit
same_wires zero r n next ok h = absurd (first_setup r (Wires n) next ok)
same_wires (suc k) r n next ok h = simp (le-leb 1 (suc k) (omega arith), le-leb (suc k) 3 h)
