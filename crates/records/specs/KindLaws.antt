-- CHIP.md, "Events and their records", in its own numbers: a record that is read is of the kind that its header names, hexadecimal; a
-- payload of another length than its kind has is 2. Assumes nothing.
use Rattle.std.specs.Prelude.{◌≡◌, refl, Bool, true, false, cond, List, ℕ, ◌+◌, ◌*◌, ◌<◌, eqb, leb, length, get_or, take, drop}
use Rattle.std.specs.Prelude.{Result, Ok, Err}
use Rattle.std.proofs.Common.{sym, ap, subst, ◌∙◌, eqb-true, eq-eqb}
use Rattle.std.proofs.lemmas.Bool.{lt-leb}
use Rattle.events.specs.Event.{ticks_most, soak_most, ticks_fit, sense_fits, count_most}
use Rattle.bits.specs.Numbers.{within, le16, le32, signed32, words}
use Rattle.events.specs.Setup.{checked_of}
use Rattle.constants.specs.declared.kind.Kind.{Kind}
use Rattle.constants.specs.declared.refusal.Refusal.{Refusal}
use Rattle.constants.specs.declared.refusal.Refusal.TheVariants.{BadKind, BadValue}
use Rattle.events.specs.declared.Setup.{Setup as SetupValues}
use Rattle.events.specs.declared.BusEvent.{BusEvent}
use Rattle.events.specs.declared.BusEvent.TheVariants.{Start, Stop, Out, In}
use Rattle.events.specs.declared.Event.{Event}
use Rattle.events.specs.declared.Event.TheVariants.{Setup, Por, Boot, Scan, Temp, Count, Sense, Pin, Load, Xready, OnBus, Level, Ticks}
use Rattle.events.specs.declared.Event.TheVariants.{Soak, Wires}
use Rattle.records.specs.Record.{Payload, checked_in, setup_in, bare_in, counted_in, sense_of, sense_in, repeat_of, ticks_of, ticks_in}
use Rattle.records.specs.Record.{soak_of}
use Rattle.records.specs.Record.{soak_in, switch_in, load_of, level_of, in_of, groups_at, inputs_at, of_kind, later_of, payload_of, read_of}
use Rattle.records.specs.ReadingLaws.{WholeAt, read_whole}
use Rattle.records.specs.declared.Read.TheVariants.{Record}

-- what holds of each way that a test goes
by_test : {A : Type 0} (P : A → Type 0) {x y : A} (t : Bool) → (t ≡ true → P x) → P y → P (cond t x y)
by_test P true h k = h refl
by_test P false h k = k

-- the kind of an event, as the table has it
abbrev pub bus_kind : BusEvent → ℕ
bus_kind Start = 0x0010
bus_kind (Out b) = 0x0011
bus_kind (In nack) = 0x0012
bus_kind Stop = 0x0013

abbrev pub kind : Event → ℕ
kind (Setup v) = 0x0000
kind Por = 0x0001
kind Boot = 0x0002
kind Scan = 0x0003
kind Temp = 0x0004
kind (Count n) = 0x0005
kind (Sense v) = 0x0006
kind Pin = 0x0007
kind (Load l) = 0x0008
kind Xready = 0x0009
kind (OnBus b) = bus_kind b
kind (Ticks v n) = 0x0014
kind (Level l) = 0x0015
kind (Wires n) = 0x0016
kind (Soak v n) = 0x0017

-- the length of its payload, and how its bytes lie in it
abbrev pub size : ℕ → ℕ → ℕ
size part k =
    cond (eqb k 0x0000) 7
    (cond (eqb k 0x0003) (2 * inputs_at part)
    (cond (eqb k 0x0004) (2 * groups_at part)
    (cond (eqb k 0x0005) 2
    (cond (eqb k 0x0006) 4
    (cond (eqb k 0x0008) 1
    (cond (eqb k 0x0011) 1
    (cond (eqb k 0x0012) 1
    (cond (eqb k 0x0014) 6
    (cond (eqb k 0x0015) 1
    (cond (eqb k 0x0016) 1
    (cond (eqb k 0x0017) 8
    0)))))))))))

-- ── what a payload says of its kind and its length: read, it is of this kind and so long; refused with another number than 2, so long ──
pub record Of (k n : ℕ) (b : List ℕ) (p : Payload) : Type 0 where
  pub kinds : (e : Event) → p ≡ Ok e → kind e ≡ k
  pub sizes : (length b ≡ n → ⊥) → p ≡ Err BadKind

unfit_of : (k n : ℕ) (b : List ℕ) → Of k n b (Err BadKind)
unfit_of k n b = record { kinds = λ e h. cc; sizes = λ h. refl }

-- by its length
sized : (k n : ℕ) (b : List ℕ) (p : Payload) → ((e : Event) → p ≡ Ok e → kind e ≡ k) → Of k n b (cond (eqb (length b) n) p (Err BadKind))
sized k n b p f = by (eqb (length b) n) refl
  where
    by : (t : Bool) → eqb (length b) n ≡ t → Of k n b (cond t p (Err BadKind))
    by true e = record { kinds = f; sizes = λ h. absurd (h (eqb-true (length b) n e)) }
    by false e = unfit_of k n b

whole : (x : Event) (k : ℕ) → kind x ≡ k → (e : Event) → ◌≡◌ {A = Payload} (Ok x) (Ok e) → kind e ≡ k
whole x k h e p = let q : x ≡ e = cc in ap kind (sym q) ∙ h

-- and by its values
valued : (t : Bool) (x : Event) (k : ℕ) → kind x ≡ k → (e : Event) → cond t (Ok x) (Err BadValue) ≡ Ok e → kind e ≡ k
valued true x k h e p = whole x k h e p
valued false x k h e p = cc

bare_of : (x : Event) (k : ℕ) (b : List ℕ) → kind x ≡ k → Of k 0 b (bare_in x b)
bare_of x k b h = sized k 0 b (Ok x) (whole x k h)

counted_of : (x : Event) (k n : ℕ) (b : List ℕ) → kind x ≡ k → Of k (2 * n) b (counted_in x n b)
counted_of x k n b h =
    sized k (2 * n) b (cond (within count_most (words b)) (Ok x) (Err BadValue)) (valued (within count_most (words b)) x k h)

sense_of_lem : (b : List ℕ) → Of 0x0006 4 b (sense_in b)
sense_of_lem b = sized 0x0006 4 b (sense_of (le32 b 0))
    (valued (sense_fits (signed32 (le32 b 0))) (Sense (signed32 (le32 b 0))) 0x0006 refl)

ticks_of_lem : (b : List ℕ) → Of 0x0014 6 b (ticks_in b)
ticks_of_lem b =
    sized 0x0014 6 b (repeat_of ticks_of ticks_most (le32 b 0) (le16 b 4))
    (valued (ticks_fit ticks_most (signed32 (le32 b 0)) (le16 b 4)) (Ticks (signed32 (le32 b 0)) (le16 b 4)) 0x0014 refl)

soak_of_lem : (b : List ℕ) → Of 0x0017 8 b (soak_in b)
soak_of_lem b =
    sized 0x0017 8 b (repeat_of soak_of soak_most (le32 b 0) (le32 b 4))
    (valued (ticks_fit soak_most (signed32 (le32 b 0)) (le32 b 4)) (Soak (signed32 (le32 b 0)) (le32 b 4)) 0x0017 refl)

switch_of : (x : Bool → Event) (k : ℕ) (b : List ℕ) → ((t : Bool) → kind (x t) ≡ k) → Of k 1 b (switch_in x b)
switch_of x k b h =
    sized k 1 b (cond (leb (get_or b 0 0) 1) (Ok (x (eqb (get_or b 0 0) 1))) (Err BadValue))
    (valued (leb (get_or b 0 0) 1) (x (eqb (get_or b 0 0) 1)) k (h (eqb (get_or b 0 0) 1)))

-- 0 and 1 are what they say, and more is 3
pub switch_says : (x : Bool → Event) (b : List ℕ) → length b ≡ 1
    → (get_or b 0 0 ≡ 0 → switch_in x b ≡ Ok (x false)) × (get_or b 0 0 ≡ 1 → switch_in x b ≡ Ok (x true))
    × (1 < get_or b 0 0 → switch_in x b ≡ Err BadValue)
switch_says x b l = (λ z. long ∙ ap says z, λ z. long ∙ ap says z, λ z. long ∙ more z)
  where
    says : ℕ → Payload
    says g = cond (leb g 1) (Ok (x (eqb g 1))) (Err BadValue)

    long : switch_in x b ≡ says (get_or b 0 0)
    long = ap (λ (t : Bool). cond t (says (get_or b 0 0)) (Err BadKind)) (eq-eqb (length b) 1 l)

    more : 1 < get_or b 0 0 → says (get_or b 0 0) ≡ Err BadValue
    more z = ap (λ (t : Bool). cond t (Ok (x (eqb (get_or b 0 0) 1))) (Err BadValue)) (lt-leb (get_or b 0 0) 1 z)

setup_of : (b : List ℕ) → Of 0x0000 7 b (setup_in b)
setup_of b =
    sized 0x0000 7 b (checked_in (checked_of (get_or b 0 0) (get_or b 1 0) (get_or b 2 0) (get_or b 3 0) (get_or b 4 0) (le16 b 5)))
    (checks (checked_of (get_or b 0 0) (get_or b 1 0) (get_or b 2 0) (get_or b 3 0) (get_or b 4 0) (le16 b 5)))
  where
    checks : (x : Result SetupValues Refusal) (e : Event) → checked_in x ≡ Ok e → kind e ≡ 0x0000
    checks (Ok v) e h = whole (Setup v) 0x0000 refl e h
    checks (Err why) e h = cc

-- ── every kind ──
module _ (part : ℕ) (b : List ℕ) where
  abbrev At : ℕ → Payload → Type 0
  At k p = Of k (size part k) b p

  arm : (k j : ℕ) (p : Payload) → At j p → eqb k j ≡ true → At k p
  arm k j p h e = let q : j ≡ k = sym (eqb-true k j e) in subst (λ n. At n p) q h

  abbrev Kinds : ℕ → Result Kind Refusal → Type 0
  Kinds k r = At k (of_kind r part b)

  later_of_lem : (k : ℕ) → At k (later_of k part b)
  unfolding later_of
  later_of_lem k =
      by_test (Kinds k) (eqb k 0x0000) (λ e. unfit_of k (size part k) b)
      (by_test (Kinds k) (eqb k 0x0001) (arm k 0x0001 _ (bare_of Por 0x0001 b refl))
      (by_test (Kinds k) (eqb k 0x0002) (arm k 0x0002 _ (bare_of Boot 0x0002 b refl))
      (by_test (Kinds k) (eqb k 0x0003) (arm k 0x0003 _ (counted_of Scan 0x0003 (inputs_at part) b refl))
      (by_test (Kinds k) (eqb k 0x0004) (arm k 0x0004 _ (counted_of Temp 0x0004 (groups_at part) b refl))
      (by_test (Kinds k) (eqb k 0x0005) (arm k 0x0005 _ (sized 0x0005 2 b (Ok (Count (le16 b 0))) (whole (Count (le16 b 0)) 0x0005 refl)))
      (by_test (Kinds k) (eqb k 0x0006) (arm k 0x0006 _ (sense_of_lem b))
      (by_test (Kinds k) (eqb k 0x0007) (arm k 0x0007 _ (bare_of Pin 0x0007 b refl))
      (by_test (Kinds k) (eqb k 0x0008) (arm k 0x0008 _ (switch_of load_of 0x0008 b (λ t. refl)))
      (by_test (Kinds k) (eqb k 0x0009) (arm k 0x0009 _ (bare_of Xready 0x0009 b refl))
      (by_test (Kinds k) (eqb k 0x0010) (arm k 0x0010 _ (bare_of (OnBus Start) 0x0010 b refl))
      (by_test (Kinds k) (eqb k 0x0011)
      (arm k 0x0011 _ (sized 0x0011 1 b (Ok (OnBus (Out (get_or b 0 0)))) (whole (OnBus (Out (get_or b 0 0))) 0x0011 refl)))
      (by_test (Kinds k) (eqb k 0x0012) (arm k 0x0012 _ (switch_of in_of 0x0012 b (λ t. refl)))
      (by_test (Kinds k) (eqb k 0x0013) (arm k 0x0013 _ (bare_of (OnBus Stop) 0x0013 b refl))
      (by_test (Kinds k) (eqb k 0x0014) (arm k 0x0014 _ (ticks_of_lem b))
      (by_test (Kinds k) (eqb k 0x0015) (arm k 0x0015 _ (switch_of level_of 0x0015 b (λ t. refl)))
      (by_test (Kinds k) (eqb k 0x0016)
      (arm k 0x0016 _ (sized 0x0016 1 b (Ok (Wires (get_or b 0 0))) (whole (Wires (get_or b 0 0)) 0x0016 refl)))
      (by_test (Kinds k) (eqb k 0x0017) (arm k 0x0017 _ (soak_of_lem b))
      (unfit_of k (size part k) b))))))))))))))))))

  -- A WRONG LENGTH is 2, and the kind of what is read is the number that was asked for
  pub payload_of_lem : (k : ℕ) → At k (payload_of k part b)
  unfolding payload_of
  payload_of_lem k =
      by_test (At k) (eqb part 0) (λ e. by_test (At k) (eqb k 0x0000) (arm k 0x0000 _ (setup_of b)) (unfit_of k (size part k) b))
      (later_of_lem k)

-- THE KINDS: what is read is of the kind that stands in bytes 2 and 3 of its header, the low byte first
pub kind_is : (part : ℕ) (r : List ℕ) (e : Event) (next : ℕ) → read_of part r ≡ Record e next
    → kind e ≡ get_or r 2 0 + 256 * get_or r 3 0
kind_is part r e next h =
    let w : WholeAt part r e next = read_whole part r e next h in
    (payload_of_lem part (take (le16 r 0) (drop 4 r)) (le16 r 2)).kinds e w.payload
