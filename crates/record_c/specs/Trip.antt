-- The round trip: a record that was written from a kind and values is read back as that kind and these values, whatever bytes follow; and
-- two answers that a call may give are the same. Assumes nothing.
use Rattle.std.specs.Prelude.{◌≡◌, Bool, ◌&&◌, eqb, leb, ℤ, negsuc, neg_ℤ, length, take, drop}
use Rattle.std.proofs.Math.Path.{refl, ap, subst}
use Rattle.std.proofs.Common.{sym, ◌∙◌, arith, eqb-true, leb-true, le-leb}
use Rattle.std.proofs.Math.Bool.{true, false, cond}
use mathlib.Core.List.{List, [], ◌∷◌, ◌++◌, map}
use Prim.Native.Nat.{ℕ, zero, suc, ◌%◌, ◌^◌, ◌<◌, ◌≤◌}
use Rattle.std.proofs.Math.IntN.{pos}
use Rattle.constants.specs.Answer.{Said, gives, refuses}
use Rattle.events.specs.Setup.{setup_fits, setup_of, checked_of}
use Rattle.bits.specs.Numbers.{within, bit_of}
use Rattle.events.specs.Event.{count_most, sense_fits, ticks_most, soak_most, ticks_fit}
use Rattle.events.specs.declared.Counts.{Counts}
use Rattle.events.specs.declared.BusEvent.TheVariants.{Start, Out, In, Stop}
use Rattle.events.specs.declared.Event.{Event}
use Rattle.events.specs.declared.Event.TheVariants.{Setup, Por, Boot, Scan, Temp, Count, Sense, Pin, Load, Xready, OnBus, Level, Ticks}
use Rattle.events.specs.declared.Event.TheVariants.{Soak, Wires}
use Rattle.records.specs.Kind.{SETUP, POR, BOOT, SCAN, TEMP, COUNT, SENSE, PIN, LOAD, XREADY, START, OUT, IN, STOP, LEVEL, TICKS, SOAK}
use Rattle.records.specs.Kind.{WIRES}
use Rattle.cell_counts.specs.Scan.{padded}
use Rattle.records.specs.Record.{checked_in, ticks_of, soak_of, inputs_at, groups_at, read_of}
use Rattle.events.specs.Setup.{standing}
use Rattle.events.specs.FewLaws.{few_groups, few_inputs}
use Rattle.bits.specs.BoolLaws.{and_left, and_right}
use Rattle.records.specs.Record.{Payload}
use Rattle.std.specs.Prelude.{Result, Ok, Err}
use Rattle.constants.specs.declared.refusal.Refusal.TheVariants.{BadSetup, BadKind, BadValue, NoRow}
use Rattle.records.specs.declared.Read.TheVariants.{Record}
use Rattle.writer.specs.Write.{kind_for, record_for, refusal_for}
use Rattle.writer.proofs.TripLaws.{stands_for, read_back, beside_back}
use Rattle.record_numbers.specs.Values.{nat_of, value_at, nat_at, byte_of, word_of}
use Rattle.record_payload.specs.Values.{setup_by, bare_by, counted_by, sense_by, repeat_by}
use Rattle.constants.specs.declared.kind.Kind.{Kind}
use Rattle.constants.specs.declared.refusal.Refusal.{Refusal}
use Rattle.record_event.specs.Values.{of_kind, later_by, part_by, event_by, count_of, counts_at, counts_by}
use Rattle.record_values.specs.Values.{values_for, setup_values, count_values}
use Rattle.record_values.specs.Named.{Named, named, Names}
use Rattle.record_c.specs.Calls.{meant_by, record_said, Records, named_read, named_said}

-- ── what an event that values mean says of them: its kind and its values are these ──
pub record Back (kind : ℕ) (vs : List ℤ) (e : Event) : Type 0 where
  pub kind_same : kind_for e ≡ kind
  pub values_same : values_for e (counts_by e vs) ≡ vs

-- for a payload: where it is whole
abbrev Backs : ℕ → List ℤ → Payload → Type 0
Backs kind vs p = (e : Event) → p ≡ Ok e → Back kind vs e

unfit_backs : (kind : ℕ) (vs : List ℤ) (n : Refusal) → Backs kind vs (Err n)
unfit_backs kind vs n e q = absurd (let z : ◌≡◌ {A = ℕ} 0 1 = cc in omega arith)

whole_backs : (kind : ℕ) (vs : List ℤ) (e : Event) → Back kind vs e → Backs kind vs (Ok e)
whole_backs kind vs e b f q = subst (Back kind vs) (event_of q) b
  where
    event_of : {e f : Event} → ◌≡◌ {A = Payload} (Ok e) (Ok f) → e ≡ f
    event_of q = cc

cond_backs : (kind : ℕ) (vs : List ℤ) (t : Bool) (x y : Payload) → (t ≡ true → Backs kind vs x) → Backs kind vs y
    → Backs kind vs (cond t x y)
cond_backs kind vs true x y a b = a refl
cond_backs kind vs false x y a b = b

-- a kind, tested
kind_backs : (kind k : ℕ) (vs : List ℤ) (x y : Payload) → Backs k vs x → Backs kind vs y → Backs kind vs (cond (eqb kind k) x y)
kind_backs kind k vs x y a b = by (eqb kind k) refl
  where
    by : (t : Bool) → eqb kind k ≡ t → Backs kind vs (cond t x y)
    by true e = subst (λ (n : ℕ). Backs n vs x) (sym (eqb-true kind k e)) a
    by false e = b

-- ── values in range are natural numbers ──
nat_back : (v : ℤ) (most : ℕ) → most < 2 ^ 63 → nat_of v ≤ most → pos (nat_of v) ≡ v
nat_back (pos n) most h k = refl
nat_back (negsuc n) most h k = absurd (omega arith)

none_back : (vs : List ℤ) → length vs ≡ 0 → [] ≡ vs
none_back [] h = refl
none_back (v ∷ vs) h = absurd (omega arith)

one_back : (vs : List ℤ) → length vs ≡ 1 → value_at vs 0 ∷ [] ≡ vs
one_back [] h = absurd (omega arith)
one_back (v ∷ []) h = refl
one_back (v ∷ w ∷ vs) h = absurd (omega arith)

two_back : (vs : List ℤ) → length vs ≡ 2 → value_at vs 0 ∷ value_at vs 1 ∷ [] ≡ vs
two_back [] h = absurd (omega arith)
two_back (v ∷ []) h = absurd (omega arith)
two_back (v ∷ w ∷ []) h = refl
two_back (v ∷ w ∷ x ∷ vs) h = absurd (omega arith)

six_back : (vs : List ℤ) → length vs ≡ 6
    → value_at vs 0 ∷ value_at vs 1 ∷ value_at vs 2 ∷ value_at vs 3 ∷ value_at vs 4 ∷ value_at vs 5 ∷ [] ≡ vs
six_back [] h = absurd (omega arith)
six_back (a ∷ []) h = absurd (omega arith)
six_back (a ∷ b ∷ []) h = absurd (omega arith)
six_back (a ∷ b ∷ c ∷ []) h = absurd (omega arith)
six_back (a ∷ b ∷ c ∷ d ∷ []) h = absurd (omega arith)
six_back (a ∷ b ∷ c ∷ d ∷ e ∷ []) h = absurd (omega arith)
six_back (a ∷ b ∷ c ∷ d ∷ e ∷ f ∷ []) h = refl
six_back (a ∷ b ∷ c ∷ d ∷ e ∷ f ∷ g ∷ vs) h = absurd (omega arith)

one_nat : (vs : List ℤ) (most : ℕ) → most < 2 ^ 63 → length vs ≡ 1 → nat_at vs 0 ≤ most → pos (nat_at vs 0) ∷ [] ≡ vs
one_nat vs most h l k = ap (λ (v : ℤ). v ∷ []) (nat_back (value_at vs 0) most h k) ∙ one_back vs l

bit_back : (n : ℕ) → n ≤ 1 → bit_of (eqb n 1) ≡ n
bit_back zero h = refl
bit_back (suc zero) h = refl
bit_back (suc (suc n)) h = absurd (omega arith)

-- ── kind by kind ──
module _ (kind : ℕ) (e : Event) (vs : List ℤ) (ke : kind_for e ≡ kind) where
  bare_backs : values_for e (counts_by e vs) ≡ [] → Backs kind vs (bare_by e vs)
  bare_backs z =
      cond_backs kind vs (eqb (length vs) 0) _ _
      (λ t. whole_backs kind vs e (record { kind_same = ke; values_same = z ∙ none_back vs (eqb-true _ 0 t) }))
      (unfit_backs kind vs BadKind)

-- one value up to the most, which the event holds
one_backs : (kind : ℕ) (vs : List ℤ) (f : ℕ → Event) (most : ℕ) (n : Refusal) → most < 2 ^ 63 → ((m : ℕ) → kind_for (f m) ≡ kind)
    → ((m : ℕ) → m ≤ most → values_for (f m) (counts_by (f m) vs) ≡ pos m ∷ [])
    → Backs kind vs (cond (eqb (length vs) 1) (cond (leb (nat_at vs 0) most) (Ok (f (nat_at vs 0))) (Err n)) (Err BadKind))
one_backs kind vs f most n h k v =
    cond_backs kind vs (eqb (length vs) 1) _ _
    (λ l. cond_backs kind vs (leb (nat_at vs 0) most) _ _
    (λ t. let m : nat_at vs 0 ≤ most = leb-true _ most t in
    whole_backs kind vs (f (nat_at vs 0))
    (record { kind_same = k (nat_at vs 0); values_same = v (nat_at vs 0) m ∙ one_nat vs most h (eqb-true _ 1 l) m }))
    (unfit_backs kind vs n))
    (unfit_backs kind vs BadKind)

sense_backs : (vs : List ℤ) → Backs SENSE vs (sense_by vs)
sense_backs vs =
    cond_backs SENSE vs (eqb (length vs) 1) _ _
    (λ l. cond_backs SENSE vs (sense_fits (value_at vs 0)) _ _
    (λ t. whole_backs SENSE vs _ (record { kind_same = refl; values_same = one_back vs (eqb-true _ 1 l) })) (unfit_backs SENSE vs BadValue))
    (unfit_backs SENSE vs BadKind)

repeat_backs : (kind : ℕ) (vs : List ℤ) (f : ℤ → ℕ → Event) (most : ℕ) → most < 2 ^ 63 → ((v : ℤ) (n : ℕ) → kind_for (f v n) ≡ kind)
    → ((v : ℤ) (n : ℕ) → values_for (f v n) (counts_by (f v n) vs) ≡ v ∷ pos n ∷ [])
    → Backs kind vs (repeat_by f most vs)
unfolding ticks_fit
repeat_backs kind vs f most h k v =
    cond_backs kind vs (eqb (length vs) 2) _ _
    (λ l. cond_backs kind vs (ticks_fit most (value_at vs 0) (nat_at vs 1)) _ _
    (λ t.
    let m : nat_at vs 1 ≤ most =
    leb-true _ most (and_right (sense_fits (value_at vs 0) && leb 1 (nat_at vs 1)) (leb (nat_at vs 1) most) t) in
    whole_backs kind vs (f (value_at vs 0) (nat_at vs 1))
    (record {
      kind_same = k (value_at vs 0) (nat_at vs 1);
      values_same = v (value_at vs 0) (nat_at vs 1)
          ∙ ap (λ (w : ℤ). value_at vs 0 ∷ w ∷ []) (nat_back (value_at vs 1) most h m) ∙ two_back vs (eqb-true _ 2 l);
    }))
    (unfit_backs kind vs BadValue))
    (unfit_backs kind vs BadKind)

-- ── counts ──
counts_back : (n : ℕ) (vs : List ℤ) → length vs ≤ n → within count_most (map nat_of vs) ≡ true
    → map pos (take (length vs) (padded n (map count_of vs))) ≡ vs
counts_back zero [] h t = refl
counts_back zero (v ∷ vs) h t = absurd (omega arith)
counts_back (suc n) [] h t = refl
counts_back (suc n) (v ∷ vs) h t =
    let m : nat_of v ≤ 16383 = leb-true _ 16383 (and_left (leb (nat_of v) count_most) (within count_most (map nat_of vs)) t) in
    let e : count_of v ≡ nat_of v = omega arith in
    ap (λ (l : List ℤ). pos (count_of v) ∷ l)
    (counts_back n vs (omega arith) (and_right (leb (nat_of v) count_most) (within count_most (map nat_of vs)) t))
    ∙ ap (λ (w : ℤ). w ∷ vs) (ap pos e ∙ nat_back v 16383 (omega arith) m)

counted_back : (vs : List ℤ) → length vs ≤ 15 → within count_most (map nat_of vs) ≡ true → count_values (counts_at vs) ≡ vs
counted_back vs h t =
    let e : length vs % 256 ≡ length vs = omega arith in
    ap (λ (n : ℕ). map pos (take n (padded 15 (map count_of vs)))) e ∙ counts_back 15 vs h t

counted_backs : (kind : ℕ) (e : Event) (wanted : ℕ) (vs : List ℤ) → kind_for e ≡ kind → wanted ≤ 15
    → values_for e (counts_by e vs) ≡ count_values (counts_at vs) → Backs kind vs (counted_by e wanted vs)
counted_backs kind e wanted vs k w v =
    cond_backs kind vs (eqb (length vs) wanted) _ _
    (λ l. cond_backs kind vs (within count_most (map nat_of vs)) _ _
    (λ t. whole_backs kind vs e
    (record { kind_same = k; values_same = v ∙ counted_back vs (omega (arith, eqb-true (length vs) wanted l, w)) t }))
    (unfit_backs kind vs BadValue))
    (unfit_backs kind vs BadKind)

-- ── SETUP ──
byte_back : (n most : ℕ) → most < 255 → byte_of n ≤ most → byte_of n ≡ n
unfolding byte_of
byte_back n most h k = by (leb n 255) refl
  where
    by : (t : Bool) → leb n 255 ≡ t → cond (leb n 255) n 255 ≡ n
    by true e = ap (λ (t : Bool). cond t n 255) e
    by false e = absurd (omega (arith, ap (λ (t : Bool). cond t n 255) (sym e), k))

word_back_lem : (n most : ℕ) → most < 65535 → word_of n ≤ most → word_of n ≡ n
unfolding word_of
word_back_lem n most h k = by (leb n 65535) refl
  where
    by : (t : Bool) → leb n 65535 ≡ t → cond (leb n 65535) n 65535 ≡ n
    by true e = ap (λ (t : Bool). cond t n 65535) e
    by false e = absurd (omega (arith, ap (λ (t : Bool). cond t n 65535) (sym e), k))

-- the six values of a setup that was taken
module _ (vs : List ℤ) (l : length vs ≡ 6) (o : nat_at vs 4 ≤ 255) where
  abbrev part : ℕ
  part = byte_of (nat_at vs 0)

  abbrev crc : ℕ
  crc = byte_of (nat_at vs 1)

  abbrev address : ℕ
  address = byte_of (nat_at vs 2)

  abbrev gain : ℕ
  gain = byte_of (nat_at vs 3)

  abbrev floor : ℕ
  floor = word_of (nat_at vs 5)

  module _ (g : setup_fits part crc address gain floor ≡ true) where
    and7 : leb 1 part && leb part 3 && leb crc 1 && leb 0x08 address && leb address 0x77 && leb gain 31 ≡ true
    and7 = and_left (leb 1 part && leb part 3 && leb crc 1 && leb 0x08 address && leb address 0x77 && leb gain 31) (leb floor 4095) g

    and6 : leb 1 part && leb part 3 && leb crc 1 && leb 0x08 address && leb address 0x77 ≡ true
    and6 = and_left (leb 1 part && leb part 3 && leb crc 1 && leb 0x08 address && leb address 0x77) (leb gain 31) and7

    and4 : leb 1 part && leb part 3 && leb crc 1 ≡ true
    and4 = and_left (leb 1 part && leb part 3 && leb crc 1) (leb 0x08 address)
        (and_left (leb 1 part && leb part 3 && leb crc 1 && leb 0x08 address) (leb address 0x77) and6)

    at_byte : (i most : ℕ) → most < 255 → byte_of (nat_at vs i) ≤ most → pos (byte_of (nat_at vs i)) ≡ value_at vs i
    at_byte i most h k = let e : byte_of (nat_at vs i) ≡ nat_at vs i =
        byte_back (nat_at vs i) most h k in ap pos e ∙ nat_back (value_at vs i) most (omega arith) (subst (λ (n : ℕ). n ≤ most) e k)

    part_is : pos part ≡ value_at vs 0
    part_is =
        at_byte 0 3 (omega arith)
        (leb-true part 3 (and_right (leb 1 part) (leb part 3) (and_left (leb 1 part && leb part 3) (leb crc 1) and4)))

    crc_most : crc ≤ 1
    crc_most = leb-true crc 1 (and_right (leb 1 part && leb part 3) (leb crc 1) and4)

    crc_is : pos (bit_of (eqb crc 1)) ≡ value_at vs 1
    crc_is = ap pos (bit_back crc crc_most) ∙ at_byte 1 1 (omega arith) crc_most

    address_is : pos address ≡ value_at vs 2
    address_is =
        at_byte 2 0x77 (omega arith)
        (leb-true address 0x77 (and_right (leb 1 part && leb part 3 && leb crc 1 && leb 0x08 address) (leb address 0x77) and6))

    gain_is : pos gain ≡ value_at vs 3
    gain_is =
        at_byte 3 31 (omega arith)
        (leb-true gain 31 (and_right (leb 1 part && leb part 3 && leb crc 1 && leb 0x08 address && leb address 0x77) (leb gain 31) and7))

    offset_is : pos (byte_of (nat_at vs 4)) ≡ value_at vs 4
    unfolding byte_of
    offset_is = ap (λ (t : Bool). pos (cond t (nat_at vs 4) 255)) (le-leb (nat_at vs 4) 255 o)
        ∙ nat_back (value_at vs 4) 255 (omega arith) o

    floor_is : pos floor ≡ value_at vs 5
    floor_is =
        let k : floor ≤ 4095 =
        leb-true floor 4095
        (and_right (leb 1 part && leb part 3 && leb crc 1 && leb 0x08 address && leb address 0x77 && leb gain 31) (leb floor 4095) g) in
        let e : floor ≡ nat_at vs 5 = word_back_lem (nat_at vs 5) 4095 (omega arith) k in
        ap pos e ∙ nat_back (value_at vs 5) 4095 (omega arith) (subst (λ (n : ℕ). n ≤ 4095) e k)

    setup_back : setup_values (setup_of part crc address gain (byte_of (nat_at vs 4)) floor) ≡ vs
    setup_back = six part_is crc_is address_is gain_is offset_is floor_is ∙ six_back vs l
      where
        six : {a b c d e f a' b' c' d' e' f' : ℤ} → a ≡ a' → b ≡ b' → c ≡ c' → d ≡ d' → e ≡ e' → f ≡ f'
            → (a ∷ b ∷ c ∷ d ∷ e ∷ f ∷ []) ≡ (a' ∷ b' ∷ c' ∷ d' ∷ e' ∷ f' ∷ [])
        six p q r s t u = cc

  checked_backs : Backs SETUP vs (checked_in (checked_of part crc address gain (byte_of (nat_at vs 4)) floor))
  unfolding checked_of
  checked_backs = by (setup_fits part crc address gain floor) refl
    where
      by : (t : Bool) → setup_fits part crc address gain floor ≡ t
          → Backs SETUP vs (checked_in (cond t (Ok (setup_of part crc address gain (byte_of (nat_at vs 4)) floor)) (Err BadSetup)))
      by true g = whole_backs SETUP vs _ (record { kind_same = refl; values_same = setup_back g })
      by false g = unfit_backs SETUP vs BadSetup

setup_backs : (vs : List ℤ) → Backs SETUP vs (setup_by vs)
setup_backs vs =
    cond_backs SETUP vs (eqb (length vs) 6) _ _
    (λ l. cond_backs SETUP vs (leb (nat_at vs 4) 255) _ _ (λ o. checked_backs vs (eqb-true _ 6 l) (leb-true _ 255 o))
    (unfit_backs SETUP vs BadSetup))
    (unfit_backs SETUP vs BadKind)

-- ── all kinds ──
-- a kind, tested
later_bool : (kind part : ℕ) (vs : List ℤ) (k : ℕ) (x y : Result Kind Refusal) (t : Bool) → eqb kind k ≡ t
    → Backs k vs (of_kind x part vs) → Backs kind vs (of_kind y part vs) → Backs kind vs (of_kind (cond t x y) part vs)
later_bool kind part vs k x y true e a b = subst (λ (n : ℕ). Backs n vs (of_kind x part vs)) (sym (eqb-true kind k e)) a
later_bool kind part vs k x y false e a b = b

later_backs : (kind part : ℕ) (vs : List ℤ) → Backs kind vs (later_by kind part vs)
unfolding later_by counts_by
later_backs kind part vs =
    by SETUP _ _ (unfit_backs SETUP vs BadKind)
    (by POR _ _ (bare_backs POR Por vs refl refl)
    (by BOOT _ _ (bare_backs BOOT Boot vs refl refl)
    (by SCAN _ _ (counted_backs SCAN Scan (inputs_at part) vs refl (few_inputs (standing part)) refl)
    (by TEMP _ _ (counted_backs TEMP Temp (groups_at part) vs refl (omega (arith, few_groups (standing part))) refl)
    (by COUNT _ _ (one_backs COUNT vs (λ n. Count n) 65535 BadValue (omega arith) (λ n. refl) (λ n h. refl))
    (by SENSE _ _ (sense_backs vs)
    (by PIN _ _ (bare_backs PIN Pin vs refl refl)
    (by LOAD _ _
    (one_backs LOAD vs (λ n. Load (eqb n 1)) 1 BadValue (omega arith) (λ n. refl) (λ n h. ap (λ (n : ℕ). pos n ∷ []) (bit_back n h)))
    (by XREADY _ _ (bare_backs XREADY Xready vs refl refl)
    (by START _ _ (bare_backs START (OnBus Start) vs refl refl)
    (by OUT _ _ (one_backs OUT vs (λ n. OnBus (Out n)) 255 BadValue (omega arith) (λ n. refl) (λ n h. refl))
    (by IN _ _
    (one_backs IN vs (λ n. OnBus (In (eqb n 1))) 1 BadValue (omega arith) (λ n. refl) (λ n h. ap (λ (n : ℕ). pos n ∷ []) (bit_back n h)))
    (by STOP _ _ (bare_backs STOP (OnBus Stop) vs refl refl)
    (by TICKS _ _ (repeat_backs TICKS vs ticks_of ticks_most (omega arith) (λ v n. refl) (λ v n. refl))
    (by LEVEL _ _
    (one_backs LEVEL vs (λ n. Level (eqb n 1)) 1 BadValue (omega arith) (λ n. refl) (λ n h. ap (λ (n : ℕ). pos n ∷ []) (bit_back n h)))
    (by WIRES _ _ (one_backs WIRES vs (λ n. Wires n) 255 NoRow (omega arith) (λ n. refl) (λ n h. refl))
    (by SOAK (Ok Kind.Soak) (Err BadKind) (repeat_backs SOAK vs soak_of soak_most (omega arith) (λ v n. refl) (λ v n. refl))
    (unfit_backs kind vs BadKind))))))))))))))))))
  where
    by : (k : ℕ) (x y : Result Kind Refusal) → Backs k vs (of_kind x part vs) → Backs kind vs (of_kind y part vs)
        → Backs kind vs (of_kind (cond (eqb kind k) x y) part vs)
    by k x y = later_bool kind part vs k x y (eqb kind k) refl

pub meant_back : (kind part : ℕ) (vs : List ℤ) → Backs kind vs (event_by kind part vs)
unfolding event_by
meant_back kind part vs =
    kind_backs kind SETUP vs _ _ (setup_backs vs)
    (cond_backs kind vs (eqb (part_by part) 0) _ _ (λ t. unfit_backs kind vs BadSetup) (later_backs kind (part_by part) vs))

-- ── THE ROUND TRIP ──
stands_as : (e : Event) (part : ℕ) → stands_for e part ≡ cond (eqb (kind_for e) SETUP) 0 part
stands_as (Setup v) part = refl
stands_as Por part = refl
stands_as Boot part = refl
stands_as Scan part = refl
stands_as Temp part = refl
stands_as (Count n) part = refl
stands_as (Sense v) part = refl
stands_as Pin part = refl
stands_as (Load l) part = refl
stands_as Xready part = refl
stands_as (OnBus Start) part = refl
stands_as (OnBus (Out b)) part = refl
stands_as (OnBus (In t)) part = refl
stands_as (OnBus Stop) part = refl
stands_as (Level l) part = refl
stands_as (Ticks v n) part = refl
stands_as (Soak v n) part = refl
stands_as (Wires n) part = refl

padded-length : (n : ℕ) (xs : List ℕ) → length (padded n xs) ≡ n
padded-length zero xs = refl
padded-length (suc n) [] = ap suc (padded-length n [])
padded-length (suc n) (x ∷ xs) = ap suc (padded-length n xs)

fifteen : (e : Event) (vs : List ℤ) → length (counts_by e vs).of ≡ 15
unfolding counts_by
fifteen (Setup v) vs = refl
fifteen Por vs = refl
fifteen Boot vs = refl
fifteen Scan vs = padded-length 15 (map count_of vs)
fifteen Temp vs = padded-length 15 (map count_of vs)
fifteen (Count n) vs = refl
fifteen (Sense v) vs = refl
fifteen Pin vs = refl
fifteen (Load l) vs = refl
fifteen Xready vs = refl
fifteen (OnBus b) vs = refl
fifteen (Level l) vs = refl
fifteen (Ticks v n) vs = refl
fifteen (Soak v n) vs = refl
fifteen (Wires n) vs = refl

few_parts : (part : ℕ) → part_by part ≤ 3
unfolding part_by
few_parts part = by (leb part 3) refl
  where
    by : (t : Bool) → leb part 3 ≡ t → cond t part 0 ≤ 3
    by true e = leb-true part 3 e
    by false e = omega arith

-- the part that stands when a kind's record is read: none yet for SETUP
abbrev pub stands_by : ℕ → ℕ → ℕ
stands_by kind part = cond (eqb kind SETUP) 0 (part_by part)

stands_few : (kind part : ℕ) → stands_by kind part ≤ 3
stands_few kind part = by (eqb kind SETUP)
  where
    by : (t : Bool) → cond t 0 (part_by part) ≤ 3
    by true = omega arith
    by false = few_parts part

abbrev naming : ℕ → List ℤ → Named
naming kind vs = record { kind = kind; values = vs }

module _ (kind part : ℕ) (vs : List ℤ) (rest : List ℕ) where
  whole_trip : (e : Event) → event_by kind part vs ≡ Ok e → refusal_for e (counts_by e vs) (part_by part) ≡ 0
      → named_said (stands_by kind part) (record_for e (counts_by e vs) ++ rest) ≡ gives (naming kind vs)
  unfolding named_said
  whole_trip e w ok =
      let b : Back kind vs e = meant_back kind part vs e w in
      let k : Counts = counts_by e vs in
      let r : List ℕ = record_for e k ++ rest in
      let s : stands_for e (part_by part) ≡ stands_by kind part =
      stands_as e (part_by part) ∙ ap (λ (n : ℕ). cond (eqb n SETUP) 0 (part_by part)) b.kind_same in
      let q : read_of (stands_by kind part) r ≡ Record e (length (record_for e k)) =
      subst (λ (p : ℕ). read_of p r ≡ Record e (length (record_for e k))) s (read_back e k (part_by part) ok (fifteen e vs) rest) in
      ap (λ (t : Bool). cond t (named_read r (read_of (stands_by kind part) r)) (refuses 1))
      (le-leb (stands_by kind part) 3 (stands_few kind part))
      ∙ ap (named_read r) q
      ∙ ap (λ (k : Counts). gives (named e k)) (beside_back e k (part_by part) ok (fifteen e vs) rest)
      ∙ ap gives (same_name b.kind_same b.values_same)
    where
      same_name : {k k' : ℕ} {v v' : List ℤ} → k ≡ k' → v ≡ v' → naming k v ≡ naming k' v'
      same_name p q = cc

  by_refusal : (e : Event) → event_by kind part vs ≡ Ok e → (number : ℕ) → refusal_for e (counts_by e vs) (part_by part) ≡ number
      → (bytes : List ℕ) (t : Bool) → eqb number 0 ≡ t
      → cond t (gives (record_for e (counts_by e vs))) (refuses number) ≡ gives bytes
      → named_said (stands_by kind part) (bytes ++ rest) ≡ gives (naming kind vs)
  by_refusal e w number h bytes true z g =
      subst (λ (b : List ℕ). named_said (stands_by kind part) (b ++ rest) ≡ gives (naming kind vs)) (bytes_of g)
      (whole_trip e w (h ∙ eqb-true number 0 z))
    where
      bytes_of : {a b : List ℕ} → gives a ≡ gives b → a ≡ b
      bytes_of q = cc
  by_refusal e w number h bytes false z g = absurd (let z : ◌≡◌ {A = ℕ} 0 1 = cc in omega arith)

  by_payload : (p : Payload) → event_by kind part vs ≡ p → (bytes : List ℕ) → meant_by (part_by part) vs p ≡ gives bytes
      → named_said (stands_by kind part) (bytes ++ rest) ≡ gives (naming kind vs)
  by_payload (Ok e) w bytes g =
      by_refusal e w (refusal_for e (counts_by e vs) (part_by part)) refl bytes (eqb (refusal_for e (counts_by e vs) (part_by part)) 0) refl
      g
  by_payload (Err n) w bytes g = absurd (let z : ◌≡◌ {A = ℕ} 0 1 = cc in omega arith)

  -- what is written is read back, whatever follows it
  pub trip : (bytes : List ℕ) → record_said kind part vs ≡ gives bytes
      → named_said (stands_by kind part) (bytes ++ rest) ≡ gives (record { kind = kind; values = vs })
  unfolding record_said
  trip bytes g = by_payload (event_by kind part vs) refl bytes g

-- said of the calls: a buffer that toralinge_record answered a number of bytes for is read by toralinge_values as the kind and values
-- that were written
signs : {n k : ℕ} → pos n ≡ negsuc k → ⊥
signs e = absurd (let z : ◌≡◌ {A = ℕ} 0 1 = cc in omega arith)

pub record_named : (kind part : ℕ) (vs : List ℤ) (old new : List ℕ) (n : ℕ) → 0 < n → Records (record_said kind part vs) old (pos n) new
    → named_said (stands_by kind part) new ≡ gives (record { kind = kind; values = vs })
record_named kind part vs old new n h w = by (record_said kind part vs) refl w
  where
    fit : (bytes : List ℕ) → record_said kind part vs ≡ gives bytes → (t : Bool) → leb (length bytes) (length old) ≡ t
        → pos n ≡ cond t (pos (length bytes)) (negsuc 4) → new ≡ cond t (bytes ++ drop (length bytes) old) old
        → named_said (stands_by kind part) new ≡ gives (naming kind vs)
    fit bytes g true e a c = ap (named_said (stands_by kind part)) c ∙ trip kind part vs (drop (length bytes) old) bytes g
    fit bytes g false e a c = absurd (signs a)

    minus_some : (m : ℕ) → pos n ≡ neg_ℤ (pos m) → ⊥
    minus_some zero e = absurd (omega (arith, h, nat_same e))
      where
        nat_same : {a b : ℕ} → pos a ≡ pos b → a ≡ b
        nat_same q = cc
    minus_some (suc m) e = signs e

    by : (s : Said (List ℕ)) → record_said kind part vs ≡ s → Records s old (pos n) new
        → named_said (stands_by kind part) new ≡ gives (naming kind vs)
    by (gives bytes) g r = fit bytes g (leb (length bytes) (length old)) refl r.answer r.contents
    by (refuses m) g r = absurd (minus_some m r.answer)

-- ── two answers that a call may give are the same ──
pub same_record : {said : Said (List ℕ)} {old new other : List ℕ} {r t : ℤ} → Records said old r new → Records said old t other
    → (r ≡ t) × (new ≡ other)
same_record p q = (p.answer ∙ sym q.answer, p.contents ∙ sym q.contents)

pub same_named : {said : Said Named} {oldkind kind kind' : ℕ} {old new new' : List ℤ} {r t : ℤ} → Names said oldkind old r kind new
    → Names said oldkind old t kind' new' → (r ≡ t) × (kind ≡ kind') × (new ≡ new')
same_named p q = (p.answer ∙ sym q.answer, p.kind ∙ sym q.kind, p.contents ∙ sym q.contents)
