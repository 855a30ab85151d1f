-- CHIP G16, bare counts: no event looks at the gain code or the offset. Two chips whose setups differ in these alone have, after any
-- events, the same registers, runs, mode and bus line, and read the same at every address but the three that hold them. Assumes nothing.
use Rattle.std.specs.Prelude.{◌≡◌, Bool, true, false, cond, ℕ, eqb}
use Rattle.std.proofs.Math.Path.{refl, sym, ap}
use Rattle.std.proofs.Common.{◌∙◌}
use mathlib.Core.List.{List, [], ◌∷◌}
use Rattle.events.specs.declared.Setup.{Setup}
use Rattle.events.specs.declared.BusEvent.{BusEvent}
use Rattle.events.specs.declared.BusEvent.TheVariants.{Start, Stop, Out, In}
use Rattle.events.specs.Setup.{groups, inputs}
use Rattle.events.specs.Event.{Event, Por, Boot, Pin, Xready, Scan, Temp, Count, Sense, Load, OnBus, Level, fits}
use Rattle.bus.specs.declared.Phase.{Phase}
use Rattle.bus.specs.declared.Phase.TheVariants.{Idle, Address, Pointing, Writing, Checking, Reading, Summing}
use Rattle.bus.specs.declared.Line.{Line}
use Rattle.bus.specs.Bus.{Store}
use Rattle.std.specs.Prelude.{Some, None}
use Rattle.bus.specs.Bus.{with_line, idle_bus, out_in, outed, addressed, fed, in_line, taken}
use Rattle.settings.specs.Write.{ships}
use Rattle.registers.specs.declared.Registers.{Registers}
use Rattle.registers.specs.Write.{cellbal_with}
use Rattle.registers.specs.Read.{cellbal_byte, control_byte, word_at, fixed_byte, read_at}
use Rattle.chip.specs.declared.Chip.{Chip}
use Rattle.chip.specs.Chip.{numbered, in_ship, accepted, stored_at, stored, reads, on_bus, watched, settled, normally, asleep, happened}
use Rattle.chip.specs.Chip.{stepped, next}
use Rattle.demands.specs.Demand.{chip}
use Rattle.demands.proofs.History.{setup_is}

abbrev pub calibrated : ℕ → ℕ → Setup → Setup
calibrated gain offset u =
    record { part = u.part; crc = u.crc; address = u.address; gain_code = gain; offset = offset; floor = u.floor; cells = u.cells }

-- the chip without gain code and offset, and without the two bytes that the bus owes of what it read
abbrev pub bared : Chip → Chip
bared c =
    record {
      setup = calibrated 0 0 c.setup;
      normal = c.normal;
      bus = with_line c.bus.line idle_bus;
      registers = c.registers;
      runs = c.runs;
    }

-- ── the bus ──
out_bare : (u : Setup) (p : Phase) (a b : ℕ) → out_in u p a b ≡ out_in (calibrated 0 0 u) p a b
unfolding addressed fed
out_bare u Idle a b = refl
out_bare u Address a b = refl
out_bare u (Pointing s) a b = refl
out_bare u (Writing s) a b = refl
out_bare u (Checking v s) a b = refl
out_bare u (Reading s k) a b = refl
out_bare u (Summing k) a b = refl

in_bare : (u : Setup) (l : Line) (p : Phase) (nack : Bool) → in_line u l p nack ≡ in_line (calibrated 0 0 u) l p nack
in_bare u l Idle nack = refl
in_bare u l Address nack = refl
in_bare u l (Pointing s) nack = refl
in_bare u l (Writing s) nack = refl
in_bare u l (Checking v s) nack = refl
in_bare u l (Reading s k) nack = refl
in_bare u l (Summing k) nack = refl

stored_bare : (l : Line) (t : Store) (c : Chip) → bared (stored l t c) ≡ bared (stored l t (bared c))
unfolding stored_at cellbal_with groups
stored_bare l None c = refl
stored_bare l (Some w) c = by (ships w.at w.value c.registers.settings)
  where
    by : (b : Bool)
        → bared (cond b (in_ship c.setup) (accepted l w.at w.value c))
        ≡ bared (cond b (in_ship (calibrated 0 0 c.setup)) (accepted l w.at w.value (bared c)))
    by true = refl
    by false = refl

bus_bare : (b : BusEvent) (c : Chip) → bared (on_bus b c).chip ≡ bared (on_bus b (bared c)).chip
unfolding outed taken
bus_bare Start c = refl
bus_bare Stop c = refl
bus_bare (Out b) c =
    stored_bare (outed c.setup c.bus.line b).line (outed c.setup c.bus.line b).store c
    ∙ ap (λ o. bared (stored o.line o.store (bared c))) (out_bare c.setup c.bus.line.phase c.bus.line.pointer b)
bus_bare (In nack) c =
    ap (λ l. record {
      setup = calibrated 0 0 c.setup;
      normal = c.normal;
      bus = with_line l idle_bus;
      registers = c.registers;
      runs = c.runs;
    })
    (in_bare c.setup c.bus.line c.bus.line.phase nack)

-- ── each event ──
normal_bare : (e : Event) (c : Chip) → bared (normally e c).chip ≡ bared (normally e (bared c)).chip
normal_bare Por c = refl
normal_bare Boot c = refl
normal_bare Pin c = refl
normal_bare Xready c = refl
normal_bare (Scan xs) c = refl
normal_bare (Temp xs) c = refl
normal_bare (Count n) c = refl
normal_bare (Sense v) c = refl
normal_bare (Load l) c = refl
normal_bare (OnBus b) c = bus_bare b c
normal_bare (Level l) c = refl

asleep_bare : (e : Event) (c : Chip) → bared (asleep e c).chip ≡ bared (asleep e (bared c)).chip
asleep_bare Por c = refl
asleep_bare Boot c = refl
asleep_bare Pin c = refl
asleep_bare Xready c = refl
asleep_bare (Scan xs) c = refl
asleep_bare (Temp xs) c = refl
asleep_bare (Count n) c = refl
asleep_bare (Sense v) c = refl
asleep_bare (Load l) c = refl
asleep_bare (OnBus Start) c = refl
asleep_bare (OnBus Stop) c = refl
asleep_bare (OnBus (Out b)) c = refl
asleep_bare (OnBus (In nack)) c = refl
asleep_bare (Level l) c = refl

pub next_bare : (e : Event) (c : Chip) → bared (next e c) ≡ bared (next e (bared c))
unfolding stepped happened
next_bare e c = by (fits e) c.normal
  where
    by : (f a : Bool) → bared (cond f (cond a (settled (normally e c)) (asleep e c)) (numbered 3 c)).chip
        ≡ bared (cond f (cond a (settled (normally e (bared c))) (asleep e (bared c))) (numbered 3 (bared c))).chip
    by true true = ap watched (normal_bare e c)
    by true false = asleep_bare e c
    by false a = refl

module _ (u : Setup) (gain offset : ℕ) where
  abbrev other : Setup
  other = calibrated gain offset u

  -- ── any events ──
  pub same_bare : (past : List Event) → bared (chip u past) ≡ bared (chip other past)
  unfolding chip
  same_bare [] = refl
  same_bare (e ∷ past) = next_bare e (chip u past) ∙ ap (λ c. bared (next e c)) (same_bare past) ∙ sym (next_bare e (chip other past))

  pub same_registers : (past : List Event) → (chip u past).registers ≡ (chip other past).registers
  same_registers past = ap (λ c. c.registers) (same_bare past)

  pub same_runs : (past : List Event) → (chip u past).runs ≡ (chip other past).runs
  same_runs past = ap (λ c. c.runs) (same_bare past)

  pub same_mode : (past : List Event) → (chip u past).normal ≡ (chip other past).normal
  same_mode past = ap (λ c. c.normal) (same_bare past)

  pub same_line : (past : List Event) → (chip u past).bus.line ≡ (chip other past).bus.line
  same_line past = ap (λ c. c.bus.line) (same_bare past)

  -- ── reads: 0x50 and 0x59 hold the gain code, 0x51 the offset ──
  read_bare : (r : Registers) (a : ℕ) → fixed_byte u a ≡ fixed_byte other a → read_at u r a ≡ read_at other r a
  unfolding read_at control_byte cellbal_byte word_at groups inputs
  read_bare r a h = rw h

  same_read : (past : List Event) (a : ℕ) → fixed_byte u a ≡ fixed_byte other a → reads (chip u past) a ≡ reads (chip other past) a
  same_read past a h =
      (λ i. read_at (setup_is u past i) (same_registers past i) a) ∙ read_bare (chip other past).registers a h
      ∙ sym (λ i. read_at (setup_is other past i) (chip other past).registers a)

  pub reads_no_calibration : (past : List Event) (a : ℕ) → eqb a 0x50 ≡ false → eqb a 0x51 ≡ false → eqb a 0x59 ≡ false
      → reads (chip u past) a ≡ reads (chip other past) a
  unfolding fixed_byte
  reads_no_calibration past a h i j = same_read past a (rw (h, i, j))

-- with the gain code the same, 0x51 alone tells the offset
pub reads_no_offset : (u : Setup) (offset : ℕ) (past : List Event) (a : ℕ) → eqb a 0x51 ≡ false
    → reads (chip u past) a ≡ reads (chip (calibrated u.gain_code offset u) past) a
unfolding fixed_byte
reads_no_offset u offset past a h = same_read u u.gain_code offset past a (rw h)
