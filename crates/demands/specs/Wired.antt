-- CHIP W4: the number of cells moves nothing. A chip with another number of cells answers every event alike and is left alike but
-- for that number, so that every claim over events holds of a wired chip as it does of one without a wiring record. Assumes nothing.
use Rattle.std.specs.Prelude.{◌≡◌, Bool, ℕ, zero, suc, ℤ}
use Rattle.std.proofs.Math.Path.{refl, ap}
use Rattle.std.proofs.Common.{◌∙◌}
use Rattle.std.proofs.Math.Bool.{true, false, cond}
use mathlib.Core.List.{List, [], ◌∷◌}
use Rattle.events.specs.declared.Setup.{Setup}
use Rattle.events.specs.declared.Counts.{Counts}
use Rattle.events.specs.declared.BusEvent.{BusEvent}
use Rattle.events.specs.declared.BusEvent.TheVariants.{Start, Stop, Out, In}
use Rattle.events.specs.declared.Event.{Event as Coded}
use Rattle.events.specs.declared.Event.TheVariants.{Setup as CodedSetup, Por as CodedPor, Boot as CodedBoot, Pin as CodedPin}
use Rattle.events.specs.declared.Event.TheVariants.{Xready as CodedXready}
use Rattle.events.specs.declared.Event.TheVariants.{Scan as CodedScan, Temp as CodedTemp, Count as CodedCount, Sense as CodedSense}
use Rattle.events.specs.declared.Event.TheVariants.{Load as CodedLoad}
use Rattle.events.specs.declared.Event.TheVariants.{OnBus as CodedOnBus, Level as CodedLevel, Ticks as CodedTicks, Soak as CodedSoak}
use Rattle.events.specs.declared.Event.TheVariants.{Wires as CodedWires}
use Rattle.events.specs.Setup.{groups, inputs, with_cells}
use Rattle.events.specs.Event.{Event, Por, Boot, Pin, Xready, Scan, Temp, Count, Sense, Load, OnBus, Level, fits, ticks_fit, Meant}
use Rattle.events.specs.Event.{means, ticks, unfit, meant_of}
use Rattle.bus.specs.declared.Phase.{Phase}
use Rattle.bus.specs.declared.Phase.TheVariants.{Idle, Address, Pointing, Writing, Checking, Reading, Summing}
use Rattle.bus.specs.declared.Line.{Line}
use Rattle.bus.specs.Bus.{Store}
use Rattle.std.specs.Prelude.{Some, None}
use Rattle.bus.specs.declared.Outed.{Outed}
use Rattle.bus.specs.Bus.{out_in, outed, addressed, fed, in_line, taken, owing, byte_given, gives, grown}
use Rattle.settings.specs.Write.{ships}
use Rattle.registers.specs.Write.{cellbal_with}
use Rattle.registers.specs.Read.{cellbal_byte, control_byte, word_at, fixed_byte, read_at}
use Rattle.chip.specs.declared.Chip.{Chip}
use Rattle.chip.specs.Answer.{Stepped}
use Rattle.chip.specs.Chip.{numbered, in_ship, accepted, stored_at, stored, sent, handed, reads, on_bus, settled, normally, asleep}
use Rattle.chip.specs.Chip.{happened, stepped, ticking, stepped_as}
use Rattle.demands.specs.Demand.{chip}

-- the chip, and an answer of it, with another number of cells
abbrev pub celled : ℕ → Chip → Chip
celled n c = record { setup = with_cells n c.setup; normal = c.normal; bus = c.bus; registers = c.registers; runs = c.runs }

abbrev pub celled_in : ℕ → Stepped → Stepped
celled_in n s = record { chip = celled n s.chip; number = s.number; flag = s.flag; byte = s.byte }

module _ (n : ℕ) where
  -- ── the bus ──
  out_cells : (u : Setup) (p : Phase) (a b : ℕ) → out_in (with_cells n u) p a b ≡ out_in u p a b
  unfolding addressed fed
  out_cells u Idle a b = refl
  out_cells u Address a b = refl
  out_cells u (Pointing s) a b = refl
  out_cells u (Writing s) a b = refl
  out_cells u (Checking v s) a b = refl
  out_cells u (Reading s k) a b = refl
  out_cells u (Summing k) a b = refl

  in_cells : (u : Setup) (l : Line) (p : Phase) (nack : Bool) → in_line (with_cells n u) l p nack ≡ in_line u l p nack
  in_cells u l Idle nack = refl
  in_cells u l Address nack = refl
  in_cells u l (Pointing s) nack = refl
  in_cells u l (Writing s) nack = refl
  in_cells u l (Checking v s) nack = refl
  in_cells u l (Reading s k) nack = refl
  in_cells u l (Summing k) nack = refl

  stored_cells : (l : Line) (t : Store) (c : Chip) → stored l t (celled n c) ≡ celled n (stored l t c)
  unfolding stored_at cellbal_with groups
  stored_cells l None c = refl
  stored_cells l (Some w) c = by (ships w.at w.value c.registers.settings)
    where
      by : (b : Bool)
          → cond b (in_ship (with_cells n c.setup)) (accepted l w.at w.value (celled n c))
          ≡ celled n (cond b (in_ship c.setup) (accepted l w.at w.value c))
      by true = refl
      by false = refl

  bus_cells : (b : BusEvent) (c : Chip) → on_bus b (celled n c) ≡ celled_in n (on_bus b c)
  unfolding outed taken read_at control_byte cellbal_byte word_at fixed_byte groups inputs
  bus_cells Start c = refl
  bus_cells Stop c = refl
  bus_cells (Out b) c =
      ap (λ (o : Outed). sent o (celled n c)) (out_cells c.setup c.bus.line.phase c.bus.line.pointer b)
      ∙ (λ i. record {
        chip = stored_cells (outed c.setup c.bus.line b).line (outed c.setup c.bus.line b).store c i;
        number = 0;
        flag = true;
        byte = (outed c.setup c.bus.line b).byte;
      })
  bus_cells (In nack) c =
      ap (λ (l : Line). handed
      (gives l (owing (reads c c.bus.line.pointer) (reads c (grown c.bus.line.pointer)) c.bus)
      (byte_given (reads c c.bus.line.pointer) c.bus)) (celled n c))
      (in_cells c.setup c.bus.line c.bus.line.phase nack)

  -- ── each event ──
  normal_cells : (e : Event) (c : Chip) → normally e (celled n c) ≡ celled_in n (normally e c)
  normal_cells Por c = refl
  normal_cells Boot c = refl
  normal_cells Pin c = refl
  normal_cells Xready c = refl
  normal_cells (Scan xs) c = refl
  normal_cells (Temp xs) c = refl
  normal_cells (Count n) c = refl
  normal_cells (Sense v) c = refl
  normal_cells (Load l) c = refl
  normal_cells (OnBus b) c = bus_cells b c
  normal_cells (Level l) c = refl

  asleep_cells : (e : Event) (c : Chip) → asleep e (celled n c) ≡ celled_in n (asleep e c)
  asleep_cells Por c = refl
  asleep_cells Boot c = refl
  asleep_cells Pin c = refl
  asleep_cells Xready c = refl
  asleep_cells (Scan xs) c = refl
  asleep_cells (Temp xs) c = refl
  asleep_cells (Count n) c = refl
  asleep_cells (Sense v) c = refl
  asleep_cells (Load l) c = refl
  asleep_cells (OnBus Start) c = refl
  asleep_cells (OnBus Stop) c = refl
  asleep_cells (OnBus (Out b)) c = refl
  asleep_cells (OnBus (In nack)) c = refl
  asleep_cells (Level l) c = refl

  happened_cells : (e : Event) (c : Chip) → happened e (celled n c) ≡ celled_in n (happened e c)
  unfolding happened
  happened_cells e c = by c.normal
    where
      by : (a : Bool)
          → cond a (settled (normally e (celled n c))) (asleep e (celled n c)) ≡ celled_in n (cond a (settled (normally e c)) (asleep e c))
      by true = ap settled (normal_cells e c)
      by false = asleep_cells e c

  stepped_cells : (e : Event) (c : Chip) → stepped e (celled n c) ≡ celled_in n (stepped e c)
  unfolding stepped
  stepped_cells e c = by (fits e)
    where
      by : (f : Bool) → cond f (happened e (celled n c)) (numbered 3 (celled n c)) ≡ celled_in n (cond f (happened e c) (numbered 3 c))
      by true = happened_cells e c
      by false = refl

  ticking_cells : (m : ℕ) (v : ℤ) (c : Chip) → ticking m v (celled n c) ≡ celled n (ticking m v c)
  ticking_cells zero v c = refl
  ticking_cells (suc m) v c =
      ap (λ (d : Chip). (happened (Sense v) d).chip) (ticking_cells m v c)
      ∙ ap (λ (s : Stepped). s.chip) (happened_cells (Sense v) (ticking m v c))

  -- whatever the code's event means
  pub as_cells : (m : Meant) (c : Chip) → stepped_as m (celled n c) ≡ celled_in n (stepped_as m c)
  as_cells (means e) c = stepped_cells e c
  as_cells (ticks most v m) c = by (ticks_fit most v m) c.normal
    where
      by : (f a : Bool) → cond f (cond a (numbered 0 (ticking m v (celled n c))) (numbered 4 (celled n c))) (numbered 3 (celled n c))
          ≡ celled_in n (cond f (cond a (numbered 0 (ticking m v c)) (numbered 4 c)) (numbered 3 c))
      by true true = ap (numbered 0) (ticking_cells m v c)
      by true false = refl
      by false a = refl
  as_cells unfit c = refl

  -- ── any events ──
  pub same_but_cells : (u : Setup) (past : List Event) → chip (with_cells n u) past ≡ celled n (chip u past)
  unfolding chip
  same_but_cells u [] = refl
  same_but_cells u (e ∷ past) =
      ap (λ (c : Chip). (stepped e c).chip) (same_but_cells u past) ∙ ap (λ (s : Stepped). s.chip) (stepped_cells e (chip u past))

  -- ── and the code's events mean the same ──
  pub meant_cells : (u : Setup) (e : Coded) (k : Counts) → meant_of (with_cells n u) e k ≡ meant_of u e k
  unfolding meant_of groups inputs
  meant_cells u (CodedSetup v) k = refl
  meant_cells u CodedPor k = refl
  meant_cells u CodedBoot k = refl
  meant_cells u CodedPin k = refl
  meant_cells u CodedXready k = refl
  meant_cells u CodedScan k = refl
  meant_cells u CodedTemp k = refl
  meant_cells u (CodedCount n) k = refl
  meant_cells u (CodedSense v) k = refl
  meant_cells u (CodedLoad l) k = refl
  meant_cells u (CodedOnBus b) k = refl
  meant_cells u (CodedLevel l) k = refl
  meant_cells u (CodedTicks v n) k = refl
  meant_cells u (CodedSoak v n) k = refl
  meant_cells u (CodedWires n) k = refl
