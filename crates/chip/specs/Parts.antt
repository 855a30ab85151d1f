-- The parts that an event in NORMAL moves, one by one: the bus with its answer and then the store; the runs and then what rises. Assumes
-- nothing.
use Rattle.std.specs.Prelude.{◌≡◌, refl, Bool, true, false, cond, ◌||◌, ℕ, ℤ, Some, None}
use Rattle.std.proofs.Common.{ap, true≢false}
use Rattle.constants.specs.Number.{DONE, ASLEEP}
use Rattle.events.specs.declared.BusEvent.{BusEvent}
use Rattle.events.specs.declared.BusEvent.TheVariants.{Start, Stop, Out, In}
use Rattle.events.specs.Fault.{Faults}
use Rattle.events.specs.Event.{Sense}
use Rattle.events.specs.Fault.{among}
use Rattle.bus.specs.declared.Line.{Line}
use Rattle.bus.specs.declared.Bus.{Bus}
use Rattle.bus.specs.declared.Outed.{Outed}
use Rattle.bus.specs.declared.Taken.{Taken}
use Rattle.bus.specs.Bus.{Store, with_line, started, stopped, outed}
use Rattle.settings.specs.Write.{ships}
use Rattle.registers.specs.declared.Registers.{Registers}
use Rattle.registers.specs.declared.Shown.{Shown}
use Rattle.registers.specs.State.{with_shown}
use Rattle.registers.specs.Write.{written}
use Rattle.registers.specs.Fault.{raised}
use Rattle.protection.specs.Fault.{Runs}
use Rattle.settings.specs.declared.Settings.{Settings}
use Rattle.protection.specs.Judged.{tick_judged, tick_judged_lem}
use Rattle.chip.specs.declared.Chip.{Chip}
use Rattle.chip.specs.Answer.{Heard}
use Rattle.chip.specs.Answer.{Stepped}
use Rattle.chip.specs.Chip.{numbered, answered, with_bus, with_registers, with_runs, in_ship, line_moved, accepted, watched, settled}
use Rattle.chip.specs.Chip.{stored_at, stored, sent, taken_by, on_bus, normally}

-- ── an event that moves the registers alone ──
abbrev pub moved_to : Registers → Chip → Stepped
moved_to r c = cond c.normal (settled (numbered DONE (with_registers r c))) (numbered ASLEEP c)

-- ── the bus: what is heard at once ──
abbrev pub unheard : Line → Bus → Heard
unheard l b = record { bus = with_line l b; flag = false; byte = 0; store = None }

abbrev pub sent_on : Outed → Bus → Heard
sent_on o b = record { bus = with_line o.line b; flag = true; byte = o.byte; store = o.store }

abbrev pub handed_over : Taken → Heard
handed_over t = record { bus = t.bus; flag = true; byte = t.byte; store = None }

unfoldable pub heard_of : BusEvent → Chip → Heard
heard_of Start c = unheard (started c.bus.line) c.bus
heard_of Stop c = unheard (stopped c.bus.line) c.bus
heard_of (Out b) c = sent_on (outed c.setup c.bus.line b) c.bus
heard_of (In nack) c = handed_over (taken_by nack c)

-- ── then the store: an accepted write, after which the outside level is looked at, or SHIP ──
unfoldable pub wrote : ℕ → ℕ → Chip → Chip
wrote a v c =
    cond (ships a v c.registers.settings) (in_ship c.setup) (watched (with_registers (written c.setup a v c.registers) c))

abbrev pub landed : Store → Chip → Chip
landed None c = watched c
landed (Some w) c = wrote w.at w.value c

abbrev pub told : Heard → Chip → Stepped
told h c = record { chip = landed h.store (with_bus h.bus c); number = 0; flag = h.flag; byte = h.byte }

sent_parts : (o : Outed) (c : Chip) → told (sent_on o c.bus) c ≡ settled (sent o c)
unfolding wrote stored_at
sent_parts o c = by o.store
  where
    or_ships : (a v : ℕ) (t : Bool)
        → cond t (in_ship c.setup) (watched (accepted o.line a v c)) ≡ watched (cond t (in_ship c.setup) (accepted o.line a v c))
    or_ships a v true = refl
    or_ships a v false = refl

    by : (t : Store)
        → ◌≡◌ {A = Stepped} (record { chip = landed t (line_moved o.line c); number = 0; flag = true; byte = o.byte })
        (settled (answered o.byte (stored o.line t c)))
    by None = refl
    by (Some w) = ap (answered o.byte) (or_ships w.at w.value (ships w.at w.value c.registers.settings))

pub bus_parts : (e : BusEvent) (c : Chip) → told (heard_of e c) c ≡ settled (on_bus e c)
unfolding heard_of
bus_parts Start c = refl
bus_parts Stop c = refl
bus_parts (Out b) c = sent_parts (outed c.setup c.bus.line b) c
bus_parts (In nack) c = refl

-- ── a tick: the runs go on, and then what rises is shown and puts off its drive ──
abbrev pub raised_by : Faults → Chip → Chip
raised_by f c = with_registers (with_shown (raised (among f) c.registers.shown) c.registers) c

pub tick_parts : (v : ℤ) (c : Chip)
    → numbered 0
    (raised_by (tick_judged c.registers.settings v c.runs).risen
    (with_runs (tick_judged c.registers.settings v c.runs).runs c))
    ≡ normally (Sense v) c
tick_parts v c = simp (tick_judged_lem c.setup.floor)

-- where nothing rises, nothing is shown anew
none_raised : (f : Faults) (s : Shown) → f.ov ≡ false → f.uv ≡ false → f.scd ≡ false → f.ocd ≡ false → raised (among f) s ≡ s
none_raised f s o u d c = simp (o, u, d, c)

neither : (a b : Bool) → (a || b) ≡ false → (a ≡ false) × (b ≡ false)
neither true b h = absurd (true≢false h)
neither false b h = (refl, h)

pub still_tick : (s : Settings) (v : ℤ) (n : Runs) (c : Chip) → ((tick_judged s v n).risen.scd || (tick_judged s v n).risen.ocd) ≡ false
    → raised_by (tick_judged s v n).risen c ≡ c
unfolding tick_judged
still_tick s v n c h =
    let q = neither (tick_judged s v n).risen.scd (tick_judged s v n).risen.ocd h in
    ap (λ (w : Shown). with_registers (with_shown w c.registers) c)
    (none_raised (tick_judged s v n).risen c.registers.shown refl refl q.0 q.1)
