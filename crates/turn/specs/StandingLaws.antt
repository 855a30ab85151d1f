-- Whether a chip stands: a first record that is read with success makes one, whose setup stays, but for the cells, and its part 1 to 3;
-- else the first record's number is not 0. Assumes nothing.
use Rattle.std.specs.Prelude.{◌≡◌, refl, Bool, true, false, cond, ◌&&◌, ◌≢◌, List, [], ◌∷◌, ℕ, zero, suc, ◌-◌, ◌≤◌, eqb, leb}
use Rattle.std.specs.Prelude.{length, drop}
use Rattle.std.proofs.Common.{ap, sym, ◌∙◌, subst, true≢false, arith, leb-true}
use Rattle.events.specs.declared.Setup.{Setup as SetupValues}
use Rattle.events.specs.declared.Counts.{Counts}
use Rattle.events.specs.declared.Event.{Event}
use Rattle.events.specs.declared.Event.TheVariants.{Setup, Por, Boot, Scan, Temp, Count, Sense, Pin, Load, Xready, OnBus, Level, Ticks}
use Rattle.events.specs.declared.Event.TheVariants.{Soak, Wires}
use Rattle.events.specs.Setup.{setup_fits, with_cells}
use Rattle.wiring.specs.Rows.{has_row, wired_with}
use Rattle.std.specs.Prelude.{Ok, Err}
use Rattle.constants.specs.declared.refusal.Refusal.TheVariants.{NoRow}
use Rattle.events.specs.Event.{unfit, meant_of, in_range, counts_fit}
use Rattle.constants.proofs.RefusalLaws.{no_zero}
use Rattle.records.specs.declared.Read.{Read}
use Rattle.records.specs.declared.Read.TheVariants.{Record, Refused, Cut}
use Rattle.bits.specs.Numbers.{bit_of}
use Rattle.records.specs.Record.{setup_good, read_of, number_of, counts_beside}
use Rattle.bits.specs.BoolLaws.{and_left, and_right}
use Rattle.records.specs.SoundLaws.{IsSetup, first_setup, Meaning, wires_by, later_means}
use Rattle.chip.specs.declared.Chip.{Chip}
use Rattle.chip.specs.Answer.{Stepped}
use Rattle.chip.specs.Chip.{numbered, in_ship, stepped_by}
use Rattle.chip.proofs.RepeatLaws.{setup_as}
use Rattle.turn.specs.Turn.{Turn, none, entry_of, born_of, wired_as, acted, turned, turn_of}
use Rattle.turn.specs.Entries.{runs, stands, entries, last_chip}

-- ── a record that means something in range steps the chip by it ──
no_setup : (t : Bool) → in_range (cond t unfit unfit) ≡ true → ⊥
no_setup true h = true≢false (sym h)
no_setup false h = true≢false (sym h)

pub no_setup_read : (v : SetupValues) (k : Counts) (c : Chip) → Meaning c.setup (Setup v) k → ⊥
unfolding meant_of
no_setup_read v k c m = no_setup (counts_fit 0 k) m

no_wires_read : (n : ℕ) (k : Counts) (c : Chip) → Meaning c.setup (Wires n) k → ⊥
unfolding meant_of
no_wires_read n k c m = no_setup (counts_fit 0 k) m

pub acted_is : (o : Bool) (e : Event) (k : Counts) (c : Chip) → Meaning c.setup e k → acted o e k c ≡ stepped_by e k c
unfolding acted
acted_is o (Setup v) k c m = absurd (no_setup_read v k c m)
acted_is o Por k c m = refl
acted_is o Boot k c m = refl
acted_is o Scan k c m = refl
acted_is o Temp k c m = refl
acted_is o (Count n) k c m = refl
acted_is o (Sense v) k c m = refl
acted_is o Pin k c m = refl
acted_is o (Load l) k c m = refl
acted_is o Xready k c m = refl
acted_is o (OnBus b) k c m = refl
acted_is o (Level l) k c m = refl
acted_is o (Ticks v n) k c m = refl
acted_is o (Soak v n) k c m = refl
acted_is o (Wires n) k c m = absurd (no_wires_read n k c m)

setup_stays : (o : Bool) (e : Event) (k : Counts) (c : Chip) → Meaning c.setup e k → (acted o e k c).chip.setup ≡ c.setup
setup_stays o e k c m = ap (λ (s : Stepped). s.chip.setup) (acted_is o e k c m) ∙ setup_as (meant_of c.setup e k) c

-- ── the setup of a chip that stands stays, but for the number of cells ──
wired_keeps : (o t : Bool) (n : ℕ) (c : Chip)
    → with_cells 0 (cond o (wired_as (cond t (Ok (with_cells n c.setup)) (Err NoRow)) c) (numbered 2 c)).chip.setup ≡ with_cells 0 c.setup
wired_keeps true true n c = refl
wired_keeps true false n c = refl
wired_keeps false t n c = refl

pub acted_keeps : (o : Bool) (c : Chip) (r : List ℕ) (e : Event) (next : ℕ) → c.setup.part ≢ 0 → read_of c.setup.part r ≡ Record e next
    → with_cells 0 (acted o e (counts_beside r (Record e next)) c).chip.setup ≡ with_cells 0 c.setup
unfolding acted wired_with
acted_keeps o c r e next p =
    wires_by (λ (e : Event). read_of c.setup.part r ≡ Record e next
    → with_cells 0 (acted o e (counts_beside r (Record e next)) c).chip.setup ≡ with_cells 0 c.setup)
    (λ n q. wired_keeps o (has_row c.setup.part n) n c)
    (λ e w q.
    ap (with_cells 0) (setup_stays o e (counts_beside r (Record e next)) c (later_means c.setup r e next p q w))) e

setup-turned : (o : Bool) (c : Chip) (r : List ℕ) → c.setup.part ≢ 0 → (x : Read) → read_of c.setup.part r ≡ x
    → with_cells 0 (turned o c r x).chip.setup ≡ with_cells 0 c.setup
setup-turned o c r p (Record e next) q = acted_keeps o c r e next p q
setup-turned o c r p (Refused k next) q = refl
setup-turned o c r p Cut q = refl

pub setup_turn : (o : Bool) (c : Chip) (r : List ℕ) → c.setup.part ≢ 0 → with_cells 0 (turn_of o c r).chip.setup ≡ with_cells 0 c.setup
unfolding turn_of
setup_turn o c r p = setup-turned o c r p (read_of c.setup.part r) refl

pub setup-stands : (f : ℕ) (o : Bool) (c : Chip) (s : List ℕ) → c.setup.part ≢ 0
    → with_cells 0 (stands f o c s).setup ≡ with_cells 0 c.setup
setup-stands zero o c s p = refl
setup-stands (suc f) o c [] p = refl
setup-stands (suc f) o c (b ∷ s) p =
    let t : Turn = turn_of o c (b ∷ s) in
    let same : with_cells 0 t.chip.setup ≡ with_cells 0 c.setup = setup_turn o c (b ∷ s) p in
    by t.last t.chip (stands f t.fresh t.chip (drop t.next (b ∷ s))) same
    (setup-stands f t.fresh t.chip (drop t.next (b ∷ s)) (λ z. p (ap (λ (v : SetupValues). v.part) (sym same) ∙ z)) ∙ same)
  where
    by : (t : Bool) (d e : Chip) → with_cells 0 d.setup ≡ with_cells 0 c.setup → with_cells 0 e.setup ≡ with_cells 0 c.setup
        → with_cells 0 (cond t d e).setup ≡ with_cells 0 c.setup
    by true d e x y = x
    by false d e x y = y

-- ── the first record ──
pub good_part : (v : SetupValues) → setup_good v ≡ true → (1 ≤ v.part) × (v.part ≤ 3)
good_part v h =
    let both : leb 1 v.part && leb v.part 3 ≡ true =
    first (leb 1 v.part) (leb v.part 3) (leb (bit_of v.crc) 1) (leb 0x08 v.address) (leb v.address 0x77)
    (leb v.gain_code 31) (leb v.floor 4095)
    (and_left (setup_fits v.part (bit_of v.crc) v.address v.gain_code v.floor) (eqb v.cells 0) h) in (
      leb-true 1 v.part (and_left (leb 1 v.part) (leb v.part 3) both),
      leb-true v.part 3 (and_right (leb 1 v.part) (leb v.part 3) both),
    )
  where
    first : (a b c d e f g : Bool) → a && b && c && d && e && f && g ≡ true → a && b ≡ true
    first true true c d e f g h = refl
    first true false c d e f g h = h
    first false b c d e f g h = h

-- it makes the chip, and no later record another
pub first_stands : (s : List ℕ) (v : SetupValues) (next : ℕ) → read_of 0 s ≡ Record (Setup v) next
    → last_chip s ≡ stands (length s - 1) true (in_ship v) (drop next s)
unfolding last_chip turn_of acted read_of
first_stands [] v next q = let z : ◌≡◌ {A = ℕ} 0 1 = cc in absurd (omega arith)
first_stands (b ∷ s) v next q =
    let n : length s ≡ length (b ∷ s) - 1 = omega arith in
    ap (λ (x : Read). cond (turned false none (b ∷ s) x).last (turned false none (b ∷ s) x).chip
    (stands (length s) (turned false none (b ∷ s) x).fresh (turned false none (b ∷ s) x).chip
    (drop (turned false none (b ∷ s) x).next (b ∷ s)))) q
    ∙ ap (λ (f : ℕ). stands f true (in_ship v) (drop next (b ∷ s))) n

pub first_entries : (s : List ℕ) (v : SetupValues) (next : ℕ) → read_of 0 s ≡ Record (Setup v) next
    → entries s ≡ entry_of (born_of v) ∷ runs (length s - 1) true (in_ship v) (drop next s)
unfolding entries turn_of acted read_of
first_entries [] v next q = let z : ◌≡◌ {A = ℕ} 0 1 = cc in absurd (omega arith)
first_entries (b ∷ s) v next q =
    let n : length s ≡ length (b ∷ s) - 1 = omega arith in
    ap (λ (x : Read). (turned false none (b ∷ s) x).entry ∷ cond (turned false none (b ∷ s) x).last []
    (runs (length s) (turned false none (b ∷ s) x).fresh (turned false none (b ∷ s) x).chip
    (drop (turned false none (b ∷ s) x).next (b ∷ s)))) q
    ∙ ap (λ (f : ℕ). entry_of (born_of v) ∷ runs f true (in_ship v) (drop next (b ∷ s))) n

pub first_setup_stays : (s : List ℕ) (v : SetupValues) (next : ℕ) → read_of 0 s ≡ Record (Setup v) next
    → with_cells 0 (last_chip s).setup ≡ with_cells 0 v
first_setup_stays s v next q =
    let g : (1 ≤ v.part) × (v.part ≤ 3) = good_part v (first_setup s (Setup v) next q) in
    ap (λ (c : Chip). with_cells 0 c.setup) (first_stands s v next q)
    ∙ setup-stands (length s - 1) true (in_ship v) (drop next s) (λ z. omega (arith, g.0))

-- ── number 0 of the first record is a SETUP, and a chip ──
pub record Made (s : List ℕ) : Type 0 where
  pub setup : SetupValues
  pub next : ℕ
  pub first : read_of 0 s ≡ Record (Setup setup) next

made_by : (s : List ℕ) (x : Read) → read_of 0 s ≡ x → number_of x ≡ 0 → Made s
made_by s (Record e next) q h = by e q (first_setup s e next q)
  where
    by : (e : Event) → read_of 0 s ≡ Record e next → IsSetup e → Made s
    by (Setup v) q g = record { setup = v; next = next; first = q }
    by Por q g = absurd g
    by Boot q g = absurd g
    by Scan q g = absurd g
    by Temp q g = absurd g
    by (Count n) q g = absurd g
    by (Sense v) q g = absurd g
    by Pin q g = absurd g
    by (Load l) q g = absurd g
    by Xready q g = absurd g
    by (OnBus x) q g = absurd g
    by (Level l) q g = absurd g
    by (Ticks v n) q g = absurd g
    by (Soak v n) q g = absurd g
    by (Wires n) q g = absurd g
made_by s (Refused why next) q h = absurd (no_zero why h)
made_by s Cut q h = absurd (omega (arith, h))

pub made : (s : List ℕ) → number_of (read_of 0 s) ≡ 0 → Made s
made s h = made_by s (read_of 0 s) refl h

-- A CHIP STANDS where the first record's number is 0, and its part stays 1 to 3
pub chip_stands : (s : List ℕ) → number_of (read_of 0 s) ≡ 0 → (1 ≤ (last_chip s).setup.part) × ((last_chip s).setup.part ≤ 3)
chip_stands s h =
    let m : Made s = made s h in
    subst (λ (v : SetupValues). (1 ≤ v.part) × (v.part ≤ 3)) (sym (first_setup_stays s m.setup m.next m.first))
    (good_part m.setup (first_setup s (Setup m.setup) m.next m.first))

-- .. and where none stands the number is not 0
pub no_chip : (s : List ℕ) → (last_chip s).setup.part ≡ 0 → number_of (read_of 0 s) ≢ 0
no_chip s z h = omega (arith, (chip_stands s h).0, z)
