-- What is no scan and no tick goes by no run: a chip without runs answers it alike, and is left alike, without runs. Assumes nothing.
use Rattle.std.specs.Prelude.{◌≡◌, refl, Bool, true, false, cond, List, ℕ, Some, None, Ok, Err}
use Rattle.std.proofs.Common.{sym, ap, true≢false}
use Rattle.events.specs.declared.Counts.{Counts}
use Rattle.events.specs.declared.BusEvent.{BusEvent}
use Rattle.events.specs.declared.BusEvent.TheVariants.{Start, Stop, Out, In}
use Rattle.events.specs.declared.Event.{Event as Coded}
use Rattle.events.specs.declared.Event.TheVariants.{Setup as CodedSetup, Por as CodedPor, Boot as CodedBoot, Pin as CodedPin}
use Rattle.events.specs.declared.Event.TheVariants.{Xready as CodedXready}
use Rattle.events.specs.declared.Event.TheVariants.{Scan as CodedScan, Temp as CodedTemp, Count as CodedCount, Sense as CodedSense}
use Rattle.events.specs.declared.Event.TheVariants.{Load as CodedLoad}
use Rattle.events.specs.declared.Event.TheVariants.{OnBus as CodedOnBus, Level as CodedLevel, Ticks as CodedTicks, Soak as CodedSoak}
use Rattle.events.specs.declared.Event.TheVariants.{Wires as CodedWires}
use Rattle.events.specs.Setup.{groups, with_cells}
use Rattle.events.specs.Event.{Event, Por, Boot, Pin, Xready, Scan, Temp, Count, Sense, Load, OnBus, Level, fits, means, unfit, meant_of}
use Rattle.events.specs.Event.{counts_fit}
use Rattle.wiring.specs.Rows.{has_row, wired_with}
use Rattle.constants.specs.declared.refusal.Refusal.TheVariants.{NoRow}
use Rattle.records.specs.declared.Read.TheVariants.{Record}
use Rattle.records.specs.Record.{counts_beside}
use Rattle.bus.specs.declared.Line.{Line}
use Rattle.bus.specs.Bus.{Store}
use Rattle.bus.specs.Bus.{outed}
use Rattle.settings.specs.Write.{ships}
use Rattle.protection.specs.Fault.{no_runs}
use Rattle.chip.specs.declared.Chip.{Chip}
use Rattle.chip.specs.Answer.{Stepped}
use Rattle.chip.specs.Chip.{numbered, with_runs, in_ship, accepted, stored_at, stored, on_bus, settled, normally, asleep, happened, stepped}
use Rattle.chip.specs.Chip.{stepped_as}
use Rattle.turn.specs.Turn.{Turn, wired_as, acted, stays_fresh, turn, turned}

-- the chip, an answer of it, and a turn of it, without runs
abbrev pub unrun : Chip → Chip
unrun c = with_runs no_runs c

abbrev pub unrun_in : Stepped → Stepped
unrun_in s = record { chip = unrun s.chip; number = s.number; flag = s.flag; byte = s.byte }

abbrev pub forgetful : Turn → Turn
forgetful t = record { chip = unrun t.chip; fresh = t.fresh; entry = t.entry; next = t.next; last = t.last }

-- neither a scan nor a tick
abbrev aside : Event → Bool
aside Por = true
aside Boot = true
aside Pin = true
aside Xready = true
aside (Scan xs) = false
aside (Temp xs) = true
aside (Count n) = true
aside (Sense v) = false
aside (Load l) = true
aside (OnBus b) = true
aside (Level l) = true

-- ── the bus ──
stored-unrun : (l : Line) (t : Store) (c : Chip) → stored l t (unrun c) ≡ unrun (stored l t c)
unfolding stored_at
stored-unrun l None c = refl
stored-unrun l (Some w) c = by (ships w.at w.value c.registers.settings)
  where
    by : (b : Bool) → cond b (in_ship c.setup) (accepted l w.at w.value (unrun c))
        ≡ unrun (cond b (in_ship c.setup) (accepted l w.at w.value c))
    by true = refl
    by false = refl

bus_unrun : (b : BusEvent) (c : Chip) → on_bus b (unrun c) ≡ unrun_in (on_bus b c)
bus_unrun Start c = refl
bus_unrun Stop c = refl
bus_unrun (Out b) c =
    ap (λ (d : Chip). record { chip = d; number = 0; flag = true; byte = (outed c.setup c.bus.line b).byte })
    (stored-unrun (outed c.setup c.bus.line b).line (outed c.setup c.bus.line b).store c)
bus_unrun (In nack) c = refl

-- ── each event ──
normal_unrun : (e : Event) (c : Chip) → aside e ≡ true → normally e (unrun c) ≡ unrun_in (normally e c)
normal_unrun Por c h = refl
normal_unrun Boot c h = refl
normal_unrun Pin c h = refl
normal_unrun Xready c h = refl
normal_unrun (Scan xs) c h = absurd (true≢false (sym h))
normal_unrun (Temp xs) c h = refl
normal_unrun (Count n) c h = refl
normal_unrun (Sense v) c h = absurd (true≢false (sym h))
normal_unrun (Load l) c h = refl
normal_unrun (OnBus b) c h = bus_unrun b c
normal_unrun (Level l) c h = refl

asleep-unrun : (e : Event) (c : Chip) → asleep e (unrun c) ≡ unrun_in (asleep e c)
asleep-unrun Por c = refl
asleep-unrun Boot c = refl
asleep-unrun Pin c = refl
asleep-unrun Xready c = refl
asleep-unrun (Scan xs) c = refl
asleep-unrun (Temp xs) c = refl
asleep-unrun (Count n) c = refl
asleep-unrun (Sense v) c = refl
asleep-unrun (Load l) c = refl
asleep-unrun (OnBus Start) c = refl
asleep-unrun (OnBus Stop) c = refl
asleep-unrun (OnBus (Out b)) c = refl
asleep-unrun (OnBus (In nack)) c = refl
asleep-unrun (Level l) c = refl

stepped-unrun : (e : Event) (c : Chip) → aside e ≡ true → stepped e (unrun c) ≡ unrun_in (stepped e c)
unfolding stepped happened
stepped-unrun e c h = by (fits e) c.normal
  where
    by : (f a : Bool) → cond f (cond a (settled (normally e (unrun c))) (asleep e (unrun c))) (numbered 3 (unrun c))
        ≡ unrun_in (cond f (cond a (settled (normally e c)) (asleep e c)) (numbered 3 c))
    by true true = ap settled (normal_unrun e c h)
    by true false = asleep-unrun e c
    by false a = refl

-- ── and the code's events, those that are taken before a chip moves among them ──
by_counts : (t : Bool) (e : Event) (c : Chip) → aside e ≡ true
    → stepped_as (cond t (means e) unfit) (unrun c) ≡ unrun_in (stepped_as (cond t (means e) unfit) c)
by_counts true e c h = stepped-unrun e c h
by_counts false e c h = refl

wires_unrun : (o t : Bool) (n : ℕ) (c : Chip)
    → cond o (wired_as (cond t (Ok (with_cells n c.setup)) (Err NoRow)) (unrun c)) (numbered 2 (unrun c))
    ≡ unrun_in (cond o (wired_as (cond t (Ok (with_cells n c.setup)) (Err NoRow)) c) (numbered 2 c))
wires_unrun true true n c = refl
wires_unrun true false n c = refl
wires_unrun false t n c = refl

-- the code's events that are neither
abbrev pub shared : Coded → Bool
shared (CodedSetup v) = true
shared CodedPor = true
shared CodedBoot = true
shared CodedPin = true
shared CodedXready = true
shared CodedScan = false
shared CodedTemp = true
shared (CodedCount n) = true
shared (CodedSense v) = false
shared (CodedLoad l) = true
shared (CodedOnBus b) = true
shared (CodedLevel l) = true
shared (CodedTicks v n) = false
shared (CodedSoak v n) = false
shared (CodedWires n) = true

acted-unrun : (o : Bool) (e : Coded) (k : Counts) (c : Chip) → shared e ≡ true → acted o e k (unrun c) ≡ unrun_in (acted o e k c)
unfolding acted meant_of wired_with
acted-unrun o (CodedSetup v) k c h = refl
acted-unrun o CodedPor k c h = by_counts (counts_fit 0 k) Por c refl
acted-unrun o CodedBoot k c h = by_counts (counts_fit 0 k) Boot c refl
acted-unrun o CodedPin k c h = by_counts (counts_fit 0 k) Pin c refl
acted-unrun o CodedXready k c h = by_counts (counts_fit 0 k) Xready c refl
acted-unrun o CodedScan k c h = absurd (true≢false (sym h))
acted-unrun o CodedTemp k c h = by_counts (counts_fit (groups c.setup) k) _ c refl
acted-unrun o (CodedCount n) k c h = by_counts (counts_fit 0 k) (Count n) c refl
acted-unrun o (CodedSense v) k c h = absurd (true≢false (sym h))
acted-unrun o (CodedLoad l) k c h = by_counts (counts_fit 0 k) (Load l) c refl
acted-unrun o (CodedOnBus b) k c h = by_counts (counts_fit 0 k) (OnBus b) c refl
acted-unrun o (CodedLevel l) k c h = by_counts (counts_fit 0 k) (Level l) c refl
acted-unrun o (CodedTicks v n) k c h = absurd (true≢false (sym h))
acted-unrun o (CodedSoak v n) k c h = absurd (true≢false (sym h))
acted-unrun o (CodedWires n) k c h = wires_unrun o (has_row c.setup.part n) n c

-- SO A TURN by such an event is the base engine's, and leaves a chip without runs
pub turned-unrun : (o : Bool) (c : Chip) (r : List ℕ) (e : Coded) (next : ℕ) → shared e ≡ true
    → turned o (unrun c) r (Record e next) ≡ forgetful (turned o c r (Record e next))
turned-unrun o c r e next h =
    ap (λ (s : Stepped). turn s (stays_fresh o c s) next false) (acted-unrun o e (counts_beside r (Record e next)) c h)
