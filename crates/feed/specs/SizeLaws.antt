-- The arrays of a chip keep their lengths over every event. Assumes nothing.
use Rattle.std.specs.Prelude.{◌≡◌, refl, Bool, cond, ◌||◌, List, [], ◌∷◌, ℕ, zero, suc, ℤ, length}
use Rattle.std.proofs.Common.{ap, ◌∙◌}
use Rattle.std.proofs.Math.Bool.{true, false}
use Rattle.events.specs.declared.Setup.{Setup}
use Rattle.events.specs.declared.BusEvent.{BusEvent}
use Rattle.events.specs.declared.BusEvent.TheVariants.{Start, Stop, Out, In}
use Rattle.events.specs.Event.{Event, Por, Boot, Pin, Xready, Scan, Temp, Count, Sense, Load, OnBus, Level, ticks_fit, Meant, means}
use Rattle.events.specs.Event.{ticks, unfit}
use Rattle.bus.specs.Bus.{outed}
use Rattle.cell_counts.specs.Scan.{padded}
use Rattle.registers.specs.declared.Measured.{Measured}
use Rattle.registers.specs.Judging.{cells_of, ts_of, cc_of}
use Rattle.chip.specs.declared.Chip.{Chip}
use Rattle.chip.specs.Chip.{numbered, in_ship, on_bus, watched, settled, normally, asleep, happened, next, ticking, stepped_as}
use Rattle.chip.proofs.MovesLaws.{next_by, asleep_by, stored_by}
use Rattle.chip_bytes_layout.proofs.TripLaws.{Sized}

padded-length : (k : ℕ) (xs : List ℕ) → length (padded k xs) ≡ k
padded-length zero xs = refl
padded-length (suc k) [] = ap suc (padded-length k [])
padded-length (suc k) (x ∷ xs) = ap suc (padded-length k xs)

pub ship_sized : (u : Setup) → Sized (in_ship u)
ship_sized u = record { cells = refl; ts = refl }

-- the same counts, whatever else moved
same : {c : Chip} → Sized c → {d : Chip} → d.registers.measured ≡ c.registers.measured → Sized d
same z e = record { cells = ap (λ (m : Measured). length m.cells) e ∙ z.cells; ts = ap (λ (m : Measured). length m.ts) e ∙ z.ts }

module _ (c : Chip) (z : Sized c) where
  scan_sized : (xs : List ℕ) → Sized (watched (normally (Scan xs) c).chip)
  scan_sized xs = record { cells = by c.registers.settings.adc_en; ts = by_ts c.registers.settings.adc_en }
    where
      by : (t : Bool) → length (cond t (cells_of xs c.registers.measured) c.registers.measured).cells ≡ 15
      by true = padded-length 15 xs
      by false = z.cells

      by_ts : (t : Bool) → length (cond t (cells_of xs c.registers.measured) c.registers.measured).ts ≡ 3
      by_ts true = z.ts
      by_ts false = z.ts

  temp_sized : (xs : List ℕ) → Sized (watched (normally (Temp xs) c).chip)
  temp_sized xs = record { cells = by c.registers.settings.adc_en; ts = by_ts c.registers.settings.adc_en }
    where
      by : (t : Bool) → length (cond t (ts_of xs c.registers.measured) c.registers.measured).cells ≡ 15
      by true = z.cells
      by false = z.cells

      by_ts : (t : Bool) → length (cond t (ts_of xs c.registers.measured) c.registers.measured).ts ≡ 3
      by_ts true = padded-length 3 xs
      by_ts false = z.ts

  count_sized : (n : ℕ) → Sized (watched (normally (Count n) c).chip)
  count_sized n =
      record {
        cells = by (c.registers.settings.cc_en || c.registers.shown.cc_oneshot);
        ts = by_ts (c.registers.settings.cc_en || c.registers.shown.cc_oneshot);
      }
    where
      by : (t : Bool) → length (cond t (cc_of n c.registers.measured) c.registers.measured).cells ≡ 15
      by true = z.cells
      by false = z.cells

      by_ts : (t : Bool) → length (cond t (cc_of n c.registers.measured) c.registers.measured).ts ≡ 3
      by_ts true = z.ts
      by_ts false = z.ts

  bus_sized : (b : BusEvent) → Sized (on_bus b c).chip
  bus_sized Start = same z refl
  bus_sized Stop = same z refl
  bus_sized (Out b) =
      stored_by Sized (outed c.setup c.bus.line b).line (outed c.setup c.bus.line b).store c
      (λ t. same z refl) (λ a v t h. ship_sized c.setup) (λ a v t h. same z refl)
  bus_sized (In nack) = same z refl

  normal_sized : (e : Event) → Sized (watched (normally e c).chip)
  normal_sized Por = ship_sized c.setup
  normal_sized Boot = same z refl
  normal_sized Pin = same z refl
  normal_sized Xready = same z refl
  normal_sized (Scan xs) = scan_sized xs
  normal_sized (Temp xs) = temp_sized xs
  normal_sized (Count n) = count_sized n
  normal_sized (Sense v) = same z refl
  normal_sized (Load l) = same z refl
  normal_sized (OnBus b) = same (bus_sized b) refl
  normal_sized (Level l) = same z refl

  next_sized : (e : Event) → Sized (next e c)
  next_sized e =
      next_by Sized e c (λ f a. normal_sized e) (λ f a. asleep_by Sized e c (ship_sized c.setup) (λ w. same z refl) z) (λ f. z)

  tick_sized : (v : ℤ) → Sized (happened (Sense v) c).chip
  unfolding happened
  tick_sized v = by c.normal
    where
      by : (t : Bool) → Sized (cond t (settled (normally (Sense v) c)) (asleep (Sense v) c)).chip
      by true = normal_sized (Sense v)
      by false = z

ticking_sized : (n : ℕ) (v : ℤ) (c : Chip) → Sized c → Sized (ticking n v c)
ticking_sized zero v c z = z
ticking_sized (suc n) v c z = tick_sized (ticking n v c) (ticking_sized n v c z) v

pub sized_as : (m : Meant) (c : Chip) → Sized c → Sized (stepped_as m c).chip
sized_as (means e) c z = next_sized c z e
sized_as (ticks most v n) c z = by (ticks_fit most v n) c.normal
  where
    by : (f t : Bool) → Sized (cond f (cond t (numbered 0 (ticking n v c)) (numbered 4 c)) (numbered 3 c)).chip
    by true true = ticking_sized n v c z
    by true false = z
    by false t = z
sized_as unfit c z = z
