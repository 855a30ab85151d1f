-- A record leaves a chip that could stand so: what bytes keep stays in reach over any stream. Assumes nothing.
use Rattle.std.specs.Prelude.{◌≡◌, refl, Bool, true, false, cond, not, ◌&&◌, ◌||◌, List, [], ◌∷◌, ℕ, zero, suc, eqb, length, drop}
use Rattle.std.specs.Prelude.{Ok, Err}
use Rattle.std.proofs.Common.{sym, ap, ap₂, ◌∙◌, subst, true≢false, ne_eqb}
use Rattle.std.proofs.Math.Bool.{and-true, and-false}
use Rattle.std.proofs.lemmas.Bool.{eqb-false}
use Rattle.events.specs.declared.Setup.{Setup as SetupValues}
use Rattle.events.specs.declared.Event.{Event}
use Rattle.events.specs.declared.Event.TheVariants.{Setup, Por, Boot, Scan, Temp, Count, Sense, Pin, Load, Xready, OnBus, Level, Ticks}
use Rattle.events.specs.declared.Event.TheVariants.{Soak, Wires}
use Rattle.events.specs.Setup.{with_cells, setup_fits}
use Rattle.events.specs.Event.{Meant, meant_of}
use Rattle.records.specs.declared.Read.{Read}
use Rattle.records.specs.declared.Read.TheVariants.{Record, Refused, Cut}
use Rattle.bits.specs.Numbers.{bit_of}
use Rattle.records.specs.Record.{setup_good, read_of, counts_beside}
use Rattle.bits.specs.BoolLaws.{and_left, and_right}
use Rattle.records.specs.SoundLaws.{IsSetup, first_setup, wires_by, later_means}
use Rattle.wiring.specs.Rows.{has_row, wired_with}
use Rattle.constants.specs.declared.refusal.Refusal.TheVariants.{NoRow}
use Rattle.registers.specs.State.{alert}
use Rattle.chip.specs.declared.Chip.{Chip}
use Rattle.chip.specs.Answer.{Stepped}
use Rattle.chip.specs.Chip.{numbered, in_ship, stepped_as}
use Rattle.chip.specs.Calm.{Calmed}
use Rattle.chip.proofs.RepeatLaws.{setup_as, calm_as}
use Rattle.demands.specs.Refused.{refused_as}
use Rattle.turn.specs.Turn.{none, wired_as, acted, turned, turn_of}
use Rattle.turn.specs.Entries.{stays, chip_from, fresh_from, stands as ends}
use Rattle.turn.specs.StandingLaws.{acted_is}
use Rattle.chip_bytes_layout.specs.Layout.{setup_stands, could_stand}
use Rattle.chip_bytes_layout.proofs.TripLaws.{Sized}
use Rattle.chip_bytes_layout.proofs.OneLaws.{Stood, not_yet, stands, part_not}
use Rattle.feed.specs.SizeLaws.{ship_sized, sized_as}

-- ── what a chip that could stand has ──
abbrev still : Chip → Bool → Bool
still c fresh = not fresh || (not c.normal && eqb c.setup.cells 0)

both : {a b : Bool} → a ≡ true → b ≡ true → a && b ≡ true
both p q = ap₂ ◌&&◌ p q

calm_of : (a o : Bool) → (a || not o) ≡ true → o ≡ true → a ≡ true
calm_of true o h e = refl
calm_of false true h e = h
calm_of false false h e = absurd (true≢false (sym e))

calm_to : (a o : Bool) → (o ≡ true → a ≡ true) → (a || not o) ≡ true
calm_to true o k = refl
calm_to false true k = k refl
calm_to false false k = refl

pub record Parts (c : Chip) (fresh : Bool) : Type 0 where
  pub setup : setup_stands c.setup ≡ true
  pub calm : Calmed c
  pub rest : still c fresh ≡ true

pub parts : (c : Chip) (fresh : Bool) → could_stand c fresh ≡ true → Parts c fresh
unfolding could_stand
parts c fresh h =
    let s : (setup_stands c.setup && (alert c.registers.shown.status || not c.registers.outside_level)) ≡ true =
    and_left _ (still c fresh) h in
    record {
      setup = and_left _ (alert c.registers.shown.status || not c.registers.outside_level) s;
      calm = calm_of (alert c.registers.shown.status) c.registers.outside_level (and_right (setup_stands c.setup) _ s);
      rest = and_right (setup_stands c.setup && (alert c.registers.shown.status || not c.registers.outside_level))
          (still c fresh) h;
    }

pub whole : (c : Chip) (fresh : Bool) → Parts c fresh → could_stand c fresh ≡ true
unfolding could_stand
whole c fresh p = both (both p.setup (calm_to (alert c.registers.shown.status) c.registers.outside_level p.calm)) p.rest

-- ── an event of a chip ──
still_step : (m : Meant) (c : Chip) (o t : Bool) → eqb (stepped_as m c).number 0 ≡ t → still c o ≡ true
    → still (stepped_as m c).chip (o && not t) ≡ true
still_step m c o true e h = ap (still (stepped_as m c).chip) (and-false o)
still_step m c o false e h =
    ap (still (stepped_as m c).chip) (and-true o) ∙ ap (λ (d : Chip). still d o) (refused_as m c (eqb-false _ _ e)) ∙ h

stepped_stands : (m : Meant) (c : Chip) (o : Bool) → could_stand c o ≡ true → Sized c
    → Stood (stepped_as m c).chip (o && not (eqb (stepped_as m c).number 0))
stepped_stands m c o h z =
    let p : Parts c o = parts c o h in
    stands
    (whole (stepped_as m c).chip (o && not (eqb (stepped_as m c).number 0))
    (record {
      setup = ap setup_stands (setup_as m c) ∙ p.setup;
      calm = calm_as m c p.calm;
      rest = still_step m c o (eqb (stepped_as m c).number 0) refl p.rest;
    }))
    (sized_as m c z)

-- ── a setup ──
good_stands : (v : SetupValues) → setup_good v ≡ true → setup_stands v ≡ true
unfolding setup_stands
good_stands v h =
    let f : setup_fits v.part (bit_of v.crc) v.address v.gain_code v.floor ≡ true = and_left _ (eqb v.cells 0) h in
    let z : eqb v.cells 0 ≡ true =
    and_right (setup_fits v.part (bit_of v.crc) v.address v.gain_code v.floor) (eqb v.cells 0) h in
    both f (ap (λ (t : Bool). t || has_row v.part v.cells) z)

born_stands : (v : SetupValues) → setup_good v ≡ true → Stood (in_ship v) true
born_stands v h =
    stands
    (whole (in_ship v) true
    (record {
      setup = good_stands v h;
      calm = λ e. absurd (true≢false (sym e));
      rest = and_right (setup_fits v.part (bit_of v.crc) v.address v.gain_code v.floor) (eqb v.cells 0) h;
    }))
    (ship_sized v)

-- ── a wiring record ──
row_stands : (u : SetupValues) (n : ℕ) → setup_stands u ≡ true → has_row u.part n ≡ true → setup_stands (with_cells n u) ≡ true
unfolding setup_stands
row_stands u n s r =
    both (and_left (setup_fits u.part (bit_of u.crc) u.address u.gain_code u.floor) _ s) (by (eqb n 0))
  where
    by : (t : Bool) → (t || has_row u.part n) ≡ true
    by true = refl
    by false = r

wired_stands : (c : Chip) (o : Bool) (n : ℕ) → could_stand c o ≡ true → Sized c → (t : Bool) → has_row c.setup.part n ≡ t
    → let s : Stepped = cond o (wired_as (cond t (Ok (with_cells n c.setup)) (Err NoRow)) c) (numbered 2 c) in
    Stood s.chip (o && not (eqb s.number 0))
wired_stands c true n h z true r =
    let p : Parts c true = parts c true h in
    stands
    (whole (in_ship (with_cells n c.setup)) false
    (record { setup = row_stands c.setup n p.setup r; calm = λ e. absurd (true≢false (sym e)); rest = refl }))
    (ship_sized (with_cells n c.setup))
wired_stands c true n h z false r = stands h z
wired_stands c false n h z t r = stands h z

-- ── any record ──
acted_stands : (c : Chip) (o : Bool) (r : List ℕ) (e : Event) (next : ℕ) → could_stand c o ≡ true → Sized c
    → read_of c.setup.part r ≡ Record e next
    → let s : Stepped = acted o e (counts_beside r (Record e next)) c in Stood s.chip (o && not (eqb s.number 0))
unfolding acted wired_with
acted_stands c o r e next h z =
    wires_by
    (λ (e : Event). read_of c.setup.part r ≡ Record e next
    → Stood (acted o e (counts_beside r (Record e next)) c).chip (o && not (eqb (acted o e (counts_beside r (Record e next)) c).number 0)))
    (λ n q. wired_stands c o n h z (has_row c.setup.part n) refl)
    (λ e w q. subst (λ (s : Stepped). Stood s.chip (o && not (eqb s.number 0)))
    (sym (acted_is o e (counts_beside r (Record e next)) c (later_means c.setup r e next (part_not c o h) q w)))
    (stepped_stands (meant_of c.setup e (counts_beside r (Record e next))) c o h z))
    e

first_stands : (r : List ℕ) (e : Event) (next : ℕ) → read_of 0 r ≡ Record e next
    → Stood (acted false e (counts_beside r (Record e next)) none).chip true
unfolding acted
first_stands r e next q = by e q (first_setup r e next q)
  where
    by : (e : Event) → read_of 0 r ≡ Record e next → IsSetup e → Stood (acted false e (counts_beside r (Record e next)) none).chip true
    by (Setup v) q g = born_stands v g
    by Por q g = absurd g
    by Boot q g = absurd g
    by Scan q g = absurd g
    by Temp q g = absurd g
    by (Count n) q g = absurd g
    by (Sense v) q g = absurd g
    by Pin q g = absurd g
    by (Load l) q g = absurd g
    by Xready q g = absurd g
    by (OnBus x) q g = absurd g
    by (Level l) q g = absurd g
    by (Ticks v n) q g = absurd g
    by (Soak v n) q g = absurd g
    by (Wires n) q g = absurd g

turned_stands : {c : Chip} {o : Bool} (r : List ℕ) → Stood c o → (x : Read) → read_of c.setup.part r ≡ x
    → Stood (turned o c r x).chip (turned o c r x).fresh
turned_stands r not_yet (Record e next) q = first_stands r e next q
turned_stands {c} {o} r (stands h z) (Record e next) q =
    subst (λ (t : Bool). Stood (acted o e (counts_beside r (Record e next)) c).chip
    (t || (o && not (eqb (acted o e (counts_beside r (Record e next)) c).number 0))))
    (sym (ne_eqb c.setup.part 0 (part_not c o h)))
    (acted_stands c o r e next h z q)
turned_stands r s (Refused k next) q = s
turned_stands r s Cut q = s

-- A CHIP IN REACH STAYS IN REACH
pub turn_stands : {c : Chip} {o : Bool} (r : List ℕ) → Stood c o → Stood (turn_of o c r).chip (turn_of o c r).fresh
unfolding turn_of
turn_stands {c} {o} r s = turned_stands r s (read_of c.setup.part r) refl

-- over any number of records
run_stands : (f : ℕ) {c : Chip} {o : Bool} (s : List ℕ) → Stood c o → Stood (ends f o c s) (stays f o c s)
run_stands zero s t = t
run_stands (suc f) [] t = t
run_stands (suc f) {c} {o} (b ∷ s) t =
    by (turn_of o c (b ∷ s)).last (turn_stands (b ∷ s) t) (run_stands f (drop (turn_of o c (b ∷ s)).next (b ∷ s)) (turn_stands (b ∷ s) t))
  where
    by : (l : Bool) {c d : Chip} {o p : Bool} → Stood c o → Stood d p → Stood (cond l c d) (cond l o p)
    by true x y = x
    by false x y = y

pub from_stands : {c : Chip} {o : Bool} (s : List ℕ) → Stood c o → Stood (chip_from o c s) (fresh_from o c s)
unfolding chip_from fresh_from
from_stands s t = run_stands (length s) s t

pub stood_calm : {c : Chip} {o : Bool} → Stood c o → Calmed c
stood_calm not_yet = λ e. absurd (true≢false (sym e))
stood_calm {c} {o} (stands h z) = (parts c o h).calm
