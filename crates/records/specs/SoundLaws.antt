-- What was read with success fits: the first record is a SETUP with its values in range, and every later one means an event, or ticks,
-- whose counts fit the part and whose values are in range, so that a chip has nothing to check again; but for the wiring record, which is
-- taken before a chip moves. Assumes nothing.
use Rattle.std.specs.Prelude.{◌≡◌, refl, ◌≢◌, ℕ, zero, suc, ◌-◌, ◌*◌, ◌≤◌, List, Bool, false, cond, ◌&&◌, leb, eqb, get_or, take, drop, ℤ}
use Rattle.std.specs.Prelude.{Ok, Err}
use Rattle.std.proofs.Math.Path.{ap}
use Rattle.std.proofs.Common.{sym, ◌∙◌, subst, true≢false}
use Rattle.std.proofs.Math.Bool.{true}
use native.Mathlib.Omega.{arith}
use Rattle.std.proofs.Math.ListN.{length}
use borrow.Author.Tests.{eqb-true, leb-true, ne_eqb}
use Rattle.bits.specs.BoolLaws.{and_left, and_right}
use Rattle.events.specs.Setup.{setup_fits, setup_of, checked_of, groups, inputs}
use Rattle.bits.specs.Numbers.{within, le16, le32, signed32, bit_of, words}
use Rattle.events.specs.Event.{count_most, sense_fits, ticks_most, soak_most, ticks_fit, fits, counts_fit, in_range}
use Rattle.events.specs.Event.{meant_of}
use Rattle.events.specs.declared.Setup.{Setup as SetupValues}
use Rattle.events.specs.declared.Counts.{Counts}
use Rattle.events.specs.declared.BusEvent.TheVariants.{Start, Out, In, Stop}
use Rattle.events.specs.Role.{role_of, by_role}
use Rattle.events.specs.declared.Role.{Role}
use Rattle.events.specs.declared.Role.TheVariants.{Makes, Rewires, Happens}
use Rattle.events.specs.declared.Event.{Event}
use Rattle.events.specs.declared.Event.TheVariants.{Setup, Por, Boot, Scan, Temp, Count, Sense, Pin, Load, Xready, OnBus, Level, Ticks}
use Rattle.events.specs.declared.Event.TheVariants.{Soak, Wires}
use Rattle.records.specs.Kind.{SETUP}
use Rattle.records.specs.Record.{Payload, setup_good, checked_in, sense_of, repeat_of, ticks_of, soak_of, payload_of, later_of}
use Rattle.records.specs.Record.{read_of, groups_at, inputs_at, counts_of, counts_in, counts_beside}
use Rattle.events.specs.FewLaws.{few_groups, few_inputs}
use Rattle.records.specs.CountedLaws.{counts_fit_lem, counts_taken}
use Rattle.records.specs.ReadingLaws.{WholeAt, read_whole, later_by, cond_by}
use Rattle.constants.specs.declared.refusal.Refusal.TheVariants.{BadKind, BadValue}
use Rattle.records.specs.declared.Read.TheVariants.{Record}

-- ── the first record ──
-- a byte that is 0 or 1 is the switch that it is read as
bit_small : (c : ℕ) → c ≤ 1 → bit_of (eqb c 1) ≡ c
bit_small zero h = refl
bit_small (suc zero) h = refl
bit_small (suc (suc c)) h = absurd (omega arith)

pub bit_back : (c : ℕ) → leb c 1 ≡ true → bit_of (eqb c 1) ≡ c
bit_back c h = bit_small c (leb-true c 1 h)

pub crc_back : (p c a g f : ℕ) → setup_fits p c a g f ≡ true → bit_of (eqb c 1) ≡ c
crc_back p c a g f h =
    let x : Bool = leb 1 p && leb p 3 && leb c 1 in
    let y : Bool = x && leb 0x08 a && leb a 0x77 in
    bit_back c
    (and_right (leb 1 p && leb p 3) (leb c 1)
    (and_left x (leb 0x08 a)
    (and_left (x && leb 0x08 a) (leb a 0x77) (and_left y (leb g 31) (and_left (y && leb g 31) (leb f 4095) h)))))

pub setup_good_lem : (p c a g o f : ℕ) → setup_fits p c a g f ≡ true → setup_good (setup_of p c a g o f) ≡ true
setup_good_lem p c a g o f h = ap (λ (n : ℕ). setup_fits p n a g f && true) (crc_back p c a g f h) ∙ ap (λ (t : Bool). t && true) h

-- a SETUP with values in range
abbrev MakesGood : Role → Type 0
MakesGood (Makes v) = setup_good v ≡ true
MakesGood (Rewires n) = ⊥
MakesGood Happens = ⊥

abbrev pub IsSetup : Event → Type 0
IsSetup e = MakesGood (role_of e)

pub no_setup : (e : Event) → role_of e ≡ Happens → IsSetup e → ⊥
no_setup e h s = subst MakesGood h s

abbrev FirstOk : Payload → Type 0
FirstOk (Ok e) = IsSetup e
FirstOk (Err k) = Unit

checked_ok : (p c a g o f : ℕ) (t : Bool) → setup_fits p c a g f ≡ t → FirstOk (checked_in (checked_of p c a g o f))
unfolding checked_of
checked_ok p c a g o f true h = simp h (setup_good_lem p c a g o f h)
checked_ok p c a g o f false h = simp h tt

first_ok : (kind : ℕ) (b : List ℕ) → FirstOk (payload_of kind 0 b)
unfolding payload_of
first_ok kind b =
    cond_by FirstOk (eqb kind SETUP) _ (Err BadKind)
    (λ k. cond_by FirstOk (eqb (length b) 7) _ (Err BadKind)
    (λ l. checked_ok (get_or b 0 0) (get_or b 1 0) (get_or b 2 0) (get_or b 3 0) (get_or b 4 0) (le16 b 5) _ refl) tt)
    tt

pub first_setup : (r : List ℕ) (e : Event) (next : ℕ) → read_of 0 r ≡ Record e next → IsSetup e
first_setup r e next h =
    let w : WholeAt 0 r e next = read_whole 0 r e next h in
    subst FirstOk w.payload (first_ok (le16 r 2) (take (le16 r 0) (drop 4 r)))

-- ── the later ones ──
-- neither 2 nor 3 is the number of what such a record means
abbrev pub Meaning : SetupValues → Event → Counts → Type 0
Meaning u e k = in_range (meant_of u e k) ≡ true

-- a wiring record means no event of a chip
abbrev rewires : Role → Bool
rewires (Makes v) = false
rewires (Rewires n) = true
rewires Happens = false

abbrev pub is_wires : Event → Bool
is_wires e = rewires (role_of e)

pub no_wires : (e : Event) → role_of e ≡ Happens → is_wires e ≡ false
no_wires e h = ap rewires h

-- to know something of every event, it is enough to know it of a wiring record and of every other
pub wires_by : (P : Event → Type 0) → ((n : ℕ) → P (Wires n)) → ((e : Event) → is_wires e ≡ false → P e) → (e : Event) → P e
wires_by P w f = by_role P (λ v. f (Setup v) refl) w (λ e h. f e (no_wires e h))

abbrev LaterOk : SetupValues → List ℕ → Payload → Type 0
LaterOk u b (Ok e) = is_wires e ≡ false → Meaning u e (counts_in e b)
LaterOk u b (Err k) = Unit

groups_at_lem : (u : SetupValues) → groups u ≡ groups_at u.part
unfolding groups
groups_at_lem u = refl

inputs_at_lem : (u : SetupValues) → inputs u ≡ inputs_at u.part
unfolding inputs
inputs_at_lem u = refl

-- an event with counts beside it
module _ (u : SetupValues) (b : List ℕ) where
  scan_ok : eqb (length b) (2 * inputs_at u.part) ≡ true → within count_most (words b) ≡ true → Meaning u Scan (counts_in Scan b)
  unfolding meant_of counts_in fits
  scan_ok l w =
      let n : length b ≡ 2 * inputs u = eqb-true _ _ l ∙ ap (λ (n : ℕ). 2 * n) (sym (inputs_at_lem u)) in
      let few : inputs u ≤ 15 = few_inputs u in
      let f : counts_fit (inputs u) (counts_of b) ≡ true = counts_fit_lem b (inputs u) n few in
      simp f (ap (within count_most) (counts_taken b (inputs u) n few) ∙ w)

  temp_ok : eqb (length b) (2 * groups_at u.part) ≡ true → within count_most (words b) ≡ true → Meaning u Temp (counts_in Temp b)
  unfolding meant_of counts_in fits
  temp_ok l w =
      let n : length b ≡ 2 * groups u = eqb-true _ _ l ∙ ap (λ (n : ℕ). 2 * n) (sym (groups_at_lem u)) in
      let three : groups u ≤ 3 = few_groups u in
      let few : groups u ≤ 15 = omega arith in
      let f : counts_fit (groups u) (counts_of b) ≡ true = counts_fit_lem b (groups u) n few in
      simp f (ap (within count_most) (counts_taken b (groups u) n few) ∙ w)

later_ok : (u : SetupValues) (kind : ℕ) (b : List ℕ) → LaterOk u b (later_of kind u.part b)
unfolding meant_of counts_fit counts_in fits
later_ok u kind b =
    later_by (λ (kind : ℕ) (p : Payload). LaterOk u b p) u.part b
    (sized _ (Ok Por) (λ l w. refl))
    (sized _ (Ok Boot) (λ l w. refl))
    (sized (2 * inputs_at u.part) (cond counts (Ok Scan) (Err BadValue)) (λ l. ranged counts (Ok Scan) (λ f w. scan_ok u b l f)))
    (sized (2 * groups_at u.part) (cond counts (Ok Temp) (Err BadValue)) (λ l. ranged counts (Ok Temp) (λ f w. temp_ok u b l f)))
    (sized _ (Ok (Count (le16 b 0))) (λ l w. refl))
    (sized _ (sense_of (le32 b 0)) (λ l. ranged (sense_fits value) (Ok (Sense value)) (λ f w. f)))
    (sized _ (Ok Pin) (λ l w. refl))
    (sized _ (cond bit (Ok (Load level)) (Err BadValue)) (λ l. ranged bit (Ok (Load level)) (λ f w. refl)))
    (sized _ (Ok Xready) (λ l w. refl))
    (sized _ (Ok (OnBus Start)) (λ l w. refl))
    (sized _ (Ok (OnBus (Out (get_or b 0 0)))) (λ l w. refl))
    (sized _ (cond bit (Ok (OnBus (In level))) (Err BadValue)) (λ l. ranged bit (Ok (OnBus (In level))) (λ f w. refl)))
    (sized _ (Ok (OnBus Stop)) (λ l w. refl))
    (sized _ (cond bit (Ok (Level level)) (Err BadValue)) (λ l. ranged bit (Ok (Level level)) (λ f w. refl)))
    (sized _ (repeat_of ticks_of ticks_most (le32 b 0) (le16 b 4))
    (λ l. ranged (ticks_fit ticks_most value (le16 b 4)) (Ok (Ticks value (le16 b 4))) (λ f w. f)))
    (sized _ (repeat_of soak_of soak_most (le32 b 0) (le32 b 4))
    (λ l. ranged (ticks_fit soak_most value (le32 b 4)) (Ok (Soak value (le32 b 4))) (λ f w. f)))
    (sized _ (Ok (Wires (get_or b 0 0))) (λ l w. absurd (true≢false w)))
    (λ (k : ℕ). tt)
    kind
  where
    counts : Bool
    counts = within count_most (words b)

    bit : Bool
    bit = leb (get_or b 0 0) 1

    level : Bool
    level = eqb (get_or b 0 0) 1

    value : ℤ
    value = signed32 (le32 b 0)

    sized : (n : ℕ) (x : Payload) → (eqb (length b) n ≡ true → LaterOk u b x) → LaterOk u b (cond (eqb (length b) n) x (Err BadKind))
    sized n x f = cond_by (LaterOk u b) (eqb (length b) n) x (Err BadKind) f tt

    ranged : (t : Bool) (x : Payload) → (t ≡ true → LaterOk u b x) → LaterOk u b (cond t x (Err BadValue))
    ranged t x f = cond_by (LaterOk u b) t x (Err BadValue) f tt

-- a record read at the part of a setup means an event that fits
pub later_means : (u : SetupValues) (r : List ℕ) (e : Event) (next : ℕ) → u.part ≢ 0 → read_of u.part r ≡ Record e next
    → is_wires e ≡ false
    → Meaning u e (counts_beside r (Record e next))
unfolding payload_of
later_means u r e next h q z =
    let w : WholeAt u.part r e next = read_whole u.part r e next q in
    let n : next - 4 ≡ le16 r 0 = omega (arith, w.ended) in
    let p : later_of (le16 r 2) u.part (take (le16 r 0) (drop 4 r)) ≡ Ok e = simp (ne_eqb u.part 0 h) at w.payload in
    subst (λ (n : ℕ). Meaning u e (counts_in e (take n (drop 4 r)))) (sym n)
    (subst (LaterOk u (take (le16 r 0) (drop 4 r))) p (later_ok u (le16 r 2) (take (le16 r 0) (drop 4 r))) z)
