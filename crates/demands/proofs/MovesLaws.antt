-- WHAT MOVES WHAT, proved: all of the registers but SYS_STAT and the drives are what Moves says, after one event and over any events from
-- power-up. Assumes nothing.
use Rattle.std.specs.Prelude.{◌≡◌, Bool, true, false, ◌&&◌, ◌||◌, ℕ, ◌/◌, ◌%◌, eqb, leb}
use Rattle.std.proofs.Math.Path.{refl, ap}
use Rattle.std.proofs.Common.{sym, ap₂, subst, ◌∙◌, arith, eqb-true, ne_eqb}
use Rattle.std.proofs.Math.Bool.{cond, and-false}
use mathlib.Core.List.{List, [], ◌∷◌}
use Rattle.events.specs.declared.Setup.{Setup}
use Rattle.events.specs.declared.BusEvent.{BusEvent}
use Rattle.events.specs.declared.BusEvent.TheVariants.{Start, Stop, Out, In}
use Rattle.events.specs.Setup.{groups}
use Rattle.events.specs.Event.{Event, Por, Boot, Pin, Xready, Scan, Temp, Count, Sense, Load, OnBus, Level, fits}
use Rattle.bus.specs.Bus.{Store, At}
use Rattle.std.specs.Prelude.{None}
use Rattle.bus.specs.declared.Outed.{Outed}
use Rattle.bus.specs.Bus.{outed}
use Rattle.cell_counts.specs.Scan.{total, padded}
use Rattle.settings.specs.declared.Settings.{Settings}
use Rattle.settings.specs.Write.{settings_with}
use Rattle.registers.specs.declared.Cellbal.{Cellbal}
use Rattle.registers.specs.declared.Measured.{Measured}
use Rattle.registers.specs.declared.Registers.{Registers}
use Rattle.registers.specs.State.{dark, reset, with_shown, with_measured}
use Rattle.registers.specs.Judging.{cells_of, ts_of, cc_of}
use Rattle.registers.specs.Write.{cellbal_with, written}
use Rattle.chip.specs.declared.Chip.{Chip}
use Rattle.chip.specs.Chip.{on_bus, normally, next}
use Rattle.chip.specs.Core.{core_of}
use Rattle.chip.proofs.MovesLaws.{next_by, stored_by, asleep_by}
use Rattle.demands.specs.Demand.{wrote, chip, shown}
use Rattle.demands.proofs.History.{setup_is, core_is}
use Rattle.demands.proofs.Ship.{in_ship_is}
use Rattle.demands.specs.Latch.{when_true, wrote_unfit}
use Rattle.demands.specs.Moves.{is, put, fives, moved, rest}

-- a write of CELLBAL, group by group
pub apart : (a k j : ℕ) → (k ≡ j → ⊥) → eqb a k ≡ true → eqb a j ≡ false
apart a k j n e = ne_eqb a j (λ h. n (sym (eqb-true a k e) ∙ h))

fives_are : (u : Setup) (a v : ℕ) (e : Event) (b : Cellbal) → is 0x09 e ≡ false → cellbal_with u a v b ≡ fives u e (At a v) b
unfolding cellbal_with
fives_are u a v e b x = by (eqb a 1) (eqb a 2) (eqb a 3) refl refl refl
  where
    by : (p q r : Bool) → eqb a 1 ≡ p → eqb a 2 ≡ q → eqb a 3 ≡ r → cellbal_with u a v b ≡ fives u e (At a v) b
    by true q r i j k = simp (x, i, apart a 1 2 (λ h. omega (arith, h)) i, apart a 1 3 (λ h. omega (arith, h)) i) (one (leb 1 (groups u)))
      where
        one : (t : Bool) → cond t (record { cellbal1 = v % 32; cellbal2 = b.cellbal2; cellbal3 = b.cellbal3 }) b
            ≡ record { cellbal1 = cond t (v % 32) b.cellbal1; cellbal2 = b.cellbal2; cellbal3 = b.cellbal3 }
        one true = refl
        one false = refl
    by false true r i j k = simp (x, i, j, apart a 2 3 (λ h. omega (arith, h)) j) (two (leb 2 (groups u)))
      where
        two : (t : Bool) → cond t (record { cellbal1 = b.cellbal1; cellbal2 = v % 32; cellbal3 = b.cellbal3 }) b
            ≡ record { cellbal1 = b.cellbal1; cellbal2 = cond t (v % 32) b.cellbal2; cellbal3 = b.cellbal3 }
        two true = refl
        two false = refl
    by false false true i j k = simp (x, i, j, k) (three (leb 3 (groups u)))
      where
        three : (t : Bool) → cond t (record { cellbal1 = b.cellbal1; cellbal2 = b.cellbal2; cellbal3 = v % 32 }) b
            ≡ record { cellbal1 = b.cellbal1; cellbal2 = b.cellbal2; cellbal3 = cond t (v % 32) b.cellbal3 }
        three true = refl
        three false = refl
    by false false false i j k = simp (x, i, j, k)

-- a write of the settings, register by register
puts : (a v : ℕ) (s : Settings) → settings_with a v s ≡ put (At a v) s
unfolding settings_with
puts a v s =
    by (eqb a 4) (eqb a 5) (eqb a 6) (eqb a 7) (eqb a 8) (eqb a 9) (eqb a 10) (eqb a 11) refl refl refl refl refl refl refl refl
  where
    alike : (k : ℕ) → eqb a k ≡ true → settings_with k v s ≡ put (At k v) s → settings_with a v s ≡ put (At a v) s
    alike k e h = subst (λ n. settings_with n v s ≡ put (At n v) s) (sym (eqb-true a k e)) h

    by : (b4 b5 b6 b7 b8 b9 b_a b_b : Bool) → eqb a 4 ≡ b4 → eqb a 5 ≡ b5 → eqb a 6 ≡ b6 → eqb a 7 ≡ b7 → eqb a 8 ≡ b8 → eqb a 9 ≡ b9
        → eqb a 10 ≡ b_a → eqb a 11 ≡ b_b → settings_with a v s ≡ put (At a v) s
    by true b5 b6 b7 b8 b9 b_a b_b e4 e5 e6 e7 e8 e9 e_a e_b = alike 4 e4 refl
    by false true b6 b7 b8 b9 b_a b_b e4 e5 e6 e7 e8 e9 e_a e_b = alike 5 e5 refl
    by false false true b7 b8 b9 b_a b_b e4 e5 e6 e7 e8 e9 e_a e_b = alike 6 e6 refl
    by false false false true b8 b9 b_a b_b e4 e5 e6 e7 e8 e9 e_a e_b = alike 7 e7 refl
    by false false false false true b9 b_a b_b e4 e5 e6 e7 e8 e9 e_a e_b = alike 8 e8 refl
    by false false false false false true b_a b_b e4 e5 e6 e7 e8 e9 e_a e_b = alike 9 e9 refl
    by false false false false false false true b_b e4 e5 e6 e7 e8 e9 e_a e_b = alike 10 e_a refl
    by false false false false false false false true e4 e5 e6 e7 e8 e9 e_a e_b = alike 11 e_b refl
    by false false false false false false false false e4 e5 e6 e7 e8 e9 e_a e_b = simp (e4, e5, e6, e7, e8, e9, e_a, e_b)

-- what is measured, given that the event is in range
scan_words : (f t : Bool) (xs : List ℕ) (m : Measured) → f ≡ true → cond t (cells_of xs m) m
    ≡ record {
      cells = cond (f && t) (padded 15 xs) m.cells;
      bat = cond (f && t) (total xs / 4 % 65536) m.bat;
      ts = m.ts;
      cc = m.cc;
    }
scan_words true true xs m h = refl
scan_words true false xs m h = refl
scan_words false t xs m h = cc

temp_words : (f t : Bool) (xs : List ℕ) (m : Measured) → f ≡ true → cond t (ts_of xs m) m
    ≡ record { cells = m.cells; bat = m.bat; ts = cond (f && t) (padded 3 xs) m.ts; cc = m.cc }
temp_words true true xs m h = refl
temp_words true false xs m h = refl
temp_words false t xs m h = cc

count_words : (f t : Bool) (n : ℕ) (m : Measured) → f ≡ true → cond t (cc_of n m) m
    ≡ record { cells = m.cells; bat = m.bat; ts = m.ts; cc = cond (f && t) n m.cc }
count_words true true n m h = refl
count_words true false n m h = refl
count_words false t n m h = cc

awakes : (x y : Registers) (a : Bool) → a ≡ true → x ≡ y → x ≡ cond a y reset
awakes x y true h p = p
awakes x y false h p = cc

module _ (c : Chip) where
  abbrev pub By : Event → Store → Chip → Type 0
  By e w d =
      with_shown dark d.registers ≡ cond d.normal (moved c.setup e w c.registers.shown.cc_oneshot c.registers) reset

  bus_by : (b : BusEvent) → c.normal ≡ true → By (OnBus b) (wrote c.setup (core_of c) (OnBus b)) (on_bus b c).chip
  bus_by Start a = awakes _ _ c.normal a refl
  bus_by Stop a = awakes _ _ c.normal a refl
  bus_by (Out b) a =
      subst (λ w. By (OnBus (Out b)) w (on_bus (Out b) c).chip) (sym (when_true c.normal o.store None a))
      (stored_by (By (OnBus (Out b)) o.store) o.line o.store c
      (λ t. awakes _ _ c.normal a
      (sym (ap (λ w. moved c.setup (OnBus (Out b)) w c.registers.shown.cc_oneshot c.registers) t)))
      (λ x y t h. refl)
      (λ x y t h. awakes _ _ c.normal a
      (accepts x y ∙ sym (ap (λ w. moved c.setup (OnBus (Out b)) w c.registers.shown.cc_oneshot c.registers) t))))
    where
      o : Outed
      o = outed c.setup c.bus.line b

      accepts : (x y : ℕ) → with_shown dark (written c.setup x y c.registers)
          ≡ moved c.setup (OnBus (Out b)) (At x y) c.registers.shown.cc_oneshot c.registers
      accepts x y =
          ap₂ (λ (s : Settings) (t : Cellbal). record {
            settings = s;
            shown = dark;
            cellbal = t;
            measured = c.registers.measured;
            load_level = c.registers.load_level;
            outside_level = c.registers.outside_level;
          }) (puts x y c.registers.settings) (fives_are c.setup x y (OnBus (Out b)) c.registers.cellbal refl)
  bus_by (In nack) a = awakes _ _ c.normal a refl

  abbrev measures : Measured → Registers
  measures m = with_shown dark (with_measured m c.registers)

  pub normal_by : (e : Event) → fits e ≡ true → c.normal ≡ true → By e (wrote c.setup (core_of c) e) (normally e c).chip
  normal_by Por f a = refl
  normal_by Boot f a = awakes _ _ c.normal a refl
  normal_by Pin f a = awakes _ _ c.normal a refl
  normal_by Xready f a = awakes _ _ c.normal a (rw f)
  normal_by (Scan xs) f a =
      awakes _ _ c.normal a (ap measures (scan_words (fits (Scan xs)) c.registers.settings.adc_en xs c.registers.measured f))
  normal_by (Temp xs) f a =
      awakes _ _ c.normal a (ap measures (temp_words (fits (Temp xs)) c.registers.settings.adc_en xs c.registers.measured f))
  normal_by (Count n) f a =
      awakes _ _ c.normal a
      (ap measures
      (count_words (fits (Count n)) (c.registers.settings.cc_en || c.registers.shown.cc_oneshot) n c.registers.measured f))
  normal_by (Sense v) f a = awakes _ _ c.normal a refl
  normal_by (Load l) f a = awakes _ _ c.normal a (rw f refl)
  normal_by (OnBus b) f a = bus_by b a
  normal_by (Level l) f a = awakes _ _ c.normal a (rw f refl)

  -- an event out of range, or one that the chip does not hear, moves nothing
  unmoved : (e : Event) (w : Store) → w ≡ None → fits e ≡ false
      → moved c.setup e w c.registers.shown.cc_oneshot c.registers ≡ with_shown dark c.registers
  unmoved e w n f = ap (λ t. moved c.setup e t c.registers.shown.cc_oneshot c.registers) n ∙ simp (f, and-false)

  next_moves : (e : Event) → (c.normal ≡ false → with_shown dark c.registers ≡ reset) → By e (wrote c.setup (core_of c) e) (next e c)
  next_moves e z =
      next_by (By e (wrote c.setup (core_of c) e)) e c (λ f a. normal_by e f a)
      (λ f a. asleep_by (By e (wrote c.setup (core_of c) e)) e c refl
      (λ b. sym
      (ap (λ (x : Event). moved c.setup x (wrote c.setup (core_of c) x) c.registers.shown.cc_oneshot c.registers) b))
      (z a ∙ sym
      (ap (λ t. cond t (moved c.setup e (wrote c.setup (core_of c) e) c.registers.shown.cc_oneshot c.registers) reset)
      a)))
      (λ f. stays c.normal refl f)
    where
      stays : (t : Bool) → c.normal ≡ t → fits e ≡ false → with_shown dark c.registers
          ≡ cond t (moved c.setup e (wrote c.setup (core_of c) e) c.registers.shown.cc_oneshot c.registers) reset
      stays true h f = sym (unmoved e (wrote c.setup (core_of c) e) (wrote_unfit c.setup (core_of c) e f) f)
      stays false h f = z h

module _ (u : Setup) where
  -- THE REGISTERS, but for SYS_STAT and the drives
  pub rest_is : (past : List Event) → with_shown dark (chip u past).registers ≡ rest u past
  unfolding chip rest
  rest_is [] = refl
  rest_is (e ∷ past) =
      next_moves (chip u past) e (λ z. ap (λ (d : Chip). with_shown dark d.registers) (in_ship_is u past z))
      ∙ (λ i. cond (core_is u (e ∷ past) i).normal
      (moved (setup_is u past i) e (wrote (setup_is u past i) (core_is u past i) e) (shown u past).cc_oneshot (rest_is past i)) reset)
