-- CHIP M3 over any events: whenever the chip is in SHIP it is as after setup, every register at its reset value, all runs
-- ended, the load level, the outside level and the pointer 0, the bus idle. Assumes nothing.
use Rattle.std.specs.Prelude.{◌≡◌, true, false}
use Rattle.std.proofs.Math.Path.{refl, ap}
use Rattle.std.proofs.Common.{sym, ◌∙◌, true≢false}
use mathlib.Core.List.{List, [], ◌∷◌}
use Rattle.events.specs.declared.Setup.{Setup}
use Rattle.events.specs.declared.BusEvent.{BusEvent}
use Rattle.events.specs.declared.BusEvent.TheVariants.{Start, Stop, Out, In}
use Rattle.events.specs.Event.{Event, Por, Boot, Pin, Xready, Scan, Temp, Count, Sense, Load, OnBus, Level}
use Rattle.bus.specs.Bus.{outed}
use Rattle.chip.specs.declared.Chip.{Chip}
use Rattle.chip.specs.Chip.{in_ship, on_bus, watched, normally, next}
use Rattle.chip.proofs.MovesLaws.{next_by, stored_by, asleep_by}
use Rattle.demands.specs.Demand.{chip}
use Rattle.demands.proofs.History.{setup_is}

-- from u on: asleep, it is that chip
abbrev Rests : Setup → Chip → Type 0
Rests u d = d.normal ≡ false → d ≡ in_ship u

-- an event that leaves the mode of a chip in NORMAL
awake_rests : (u : Setup) (d : Chip) → d.normal ≡ true → Rests u d
awake_rests u d a z = absurd (true≢false (sym a ∙ z))

bus_rests : (b : BusEvent) (c : Chip) → c.normal ≡ true → Rests c.setup (on_bus b c).chip
bus_rests Start c a = awake_rests c.setup (on_bus Start c).chip a
bus_rests Stop c a = awake_rests c.setup (on_bus Stop c).chip a
bus_rests (Out b) c a =
    stored_by (Rests c.setup) (outed c.setup c.bus.line b).line (outed c.setup c.bus.line b).store c
    (λ t z. absurd (true≢false (sym a ∙ z))) (λ x v t s z. refl) (λ x v t s z. absurd (true≢false (sym a ∙ z)))
bus_rests (In nack) c a = awake_rests c.setup (on_bus (In nack) c).chip a

normal_rests : (e : Event) (c : Chip) → c.normal ≡ true → Rests c.setup (normally e c).chip
normal_rests Por c a = λ z. refl
normal_rests Boot c a = awake_rests c.setup (normally Boot c).chip a
normal_rests Pin c a = awake_rests c.setup (normally Pin c).chip a
normal_rests Xready c a = awake_rests c.setup (normally Xready c).chip a
normal_rests (Scan xs) c a = awake_rests c.setup (normally (Scan xs) c).chip a
normal_rests (Temp xs) c a = awake_rests c.setup (normally (Temp xs) c).chip a
normal_rests (Count n) c a = awake_rests c.setup (normally (Count n) c).chip a
normal_rests (Sense v) c a = awake_rests c.setup (normally (Sense v) c).chip a
normal_rests (Load l) c a = awake_rests c.setup (normally (Load l) c).chip a
normal_rests (OnBus b) c a = bus_rests b c a
normal_rests (Level l) c a = awake_rests c.setup (normally (Level l) c).chip a

-- in SHIP the outside level does nothing
watched_rests : (u : Setup) (d : Chip) → Rests u d → Rests u (watched d)
watched_rests u d h z = ap watched (h z)

next_rests : (e : Event) (c : Chip) → Rests c.setup c → Rests c.setup (next e c)
next_rests e c h =
    next_by (Rests c.setup) e c (λ f a. watched_rests c.setup (normally e c).chip (normal_rests e c a))
    (λ f a. asleep_by (Rests c.setup) e c (λ z. refl) (λ w z. absurd (true≢false z)) h) (λ f. h)

module _ (u : Setup) where
  pub in_ship_is : (past : List Event) → (chip u past).normal ≡ false → chip u past ≡ in_ship u
  unfolding chip
  in_ship_is [] z = refl
  in_ship_is (e ∷ past) z =
      next_rests e (chip u past) (λ w. in_ship_is past w ∙ ap in_ship (sym (setup_is u past))) z ∙ ap in_ship (setup_is u past)
