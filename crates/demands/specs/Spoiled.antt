-- CHIP H8 as it is read: which records of a stream a spoiled frame drops, what remains, and what is seen of a record. Assumes nothing.
use Rattle.std.specs.Prelude.{◌≡◌, refl, Bool, true, false, not, ◌&&◌, ◌||◌, cond, List, [], ◌∷◌, ℕ, eqb}
use Rattle.crc8.specs.Crc.{byte_on}
use Rattle.events.specs.declared.Setup.{Setup}
use Rattle.events.specs.declared.BusEvent.TheVariants.{Start, Stop, Out, In}
use Rattle.events.specs.Event.{Event, Por, Boot, Pin, Xready, Scan, Temp, Count, Sense, Load, OnBus, Level, fits}
use Rattle.bus.specs.declared.Phase.{Phase}
use Rattle.bus.specs.declared.Phase.TheVariants.{Idle, Address, Pointing, Writing, Checking, Reading, Summing}
use Rattle.bus.specs.Bus.{with_phase, addressed, fed, checked, outed, taken, byte_given, owing, after_data, after_sum, keeps}
use Rattle.settings.specs.Write.{settings_with}
use Rattle.registers.specs.Write.{shown_with, cellbal_with}
use Rattle.limits.specs.Rule.{rule, over, under}
use Rattle.chip.specs.declared.Chip.{Chip}
use Rattle.chip.specs.Answer.{Stepped}
use Rattle.chip.specs.Chip.{with_bus, in_ship, stored_at, happened, stepped, next}

-- ── what is dropped ──
pub data Sort : Type 0 where
  for_chips for_resets for_frames for_sends for_takes : Sort

abbrev pub sort_of : Event → Sort
sort_of Por = for_resets
sort_of Boot = for_chips
sort_of Pin = for_chips
sort_of Xready = for_chips
sort_of (Scan xs) = for_chips
sort_of (Temp xs) = for_chips
sort_of (Count n) = for_chips
sort_of (Sense v) = for_chips
sort_of (Load l) = for_chips
sort_of (OnBus Start) = for_frames
sort_of (OnBus Stop) = for_frames
sort_of (OnBus (Out b)) = for_sends
sort_of (OnBus (In nack)) = for_takes
sort_of (Level l) = for_chips

abbrev pub is_sends : Sort → Bool
is_sends for_chips = false
is_sends for_resets = false
is_sends for_frames = false
is_sends for_sends = true
is_sends for_takes = false

abbrev pub is_takes : Sort → Bool
is_takes for_chips = false
is_takes for_resets = false
is_takes for_frames = false
is_takes for_sends = false
is_takes for_takes = true

abbrev pub is_frames : Sort → Bool
is_frames for_chips = false
is_frames for_resets = false
is_frames for_frames = true
is_frames for_sends = false
is_frames for_takes = false

-- a data byte waits for its CRC
abbrev pub checks : Phase → Bool
checks Idle = false
checks Address = false
checks (Pointing s) = false
checks (Writing s) = false
checks (Checking v s) = true
checks (Reading s k) = false
checks (Summing k) = false

abbrev pub waiting : Chip → Bool
waiting c = c.normal && checks c.bus.line.phase

-- the next OUT comes while the byte still waits, and is not acknowledged
unfoldable pub spoiled : Chip → List Event → Bool
spoiled c [] = false
spoiled c (e ∷ es) = waiting c && cond (is_sends (sort_of e)) (eqb (stepped e c).byte 1) (spoiled (next e c) es)

-- in the stream: no spoiled byte is open; one is, and its CRC has not come; its CRC was refused, and no START, STOP or SHIP has come
pub data Mode : Type 0 where
  frame_whole frame_open frame_lost : Mode

abbrev pub drops : Mode → Sort → Bool → Bool
drops frame_whole t spoils = is_sends t && spoils
drops frame_open t spoils = is_sends t
drops frame_lost t spoils = is_sends t || is_takes t

abbrev pub then : Mode → Sort → Bool → Bool → Mode
then frame_whole t spoils awake = cond (is_sends t && spoils) frame_open frame_whole
then frame_open t spoils awake = cond (is_sends t) frame_lost frame_open
then frame_lost t spoils awake = cond (is_frames t || not awake) frame_whole frame_lost

-- ── what is seen of a record: its answer, and the chip after it but for the bus's phase ──
pub record Seen : Type 0 where
  pub event : Event
  pub number : ℕ
  pub flag : Bool
  pub byte : ℕ
  pub after : Chip

abbrev pub phased : Phase → Chip → Chip
phased p c = with_bus (with_phase p c.bus) c

abbrev pub seen_of : Event → Stepped → Seen
seen_of e s = record { event = e; number = s.number; flag = s.flag; byte = s.byte; after = phased Idle s.chip }

abbrev pub seen : Event → Chip → Seen
seen e c = seen_of e (stepped e c)

-- a stream as it is played
unfoldable pub played : Chip → List Event → List Seen
played c [] = []
played c (e ∷ es) = seen e c ∷ played (next e c) es

-- what remains of a stream, and what was seen of that in the full stream
unfoldable pub remains : Mode → Chip → List Event → List Event
remains m c [] = []
remains m c (e ∷ es) =
    cond (drops m (sort_of e) (spoiled (next e c) es))
    (remains (then m (sort_of e) (spoiled (next e c) es) (next e c).normal) (next e c) es)
    (e ∷ remains (then m (sort_of e) (spoiled (next e c) es) (next e c).normal) (next e c) es)

unfoldable pub remained : Mode → Chip → List Event → List Seen
remained m c [] = []
remained m c (e ∷ es) =
    cond (drops m (sort_of e) (spoiled (next e c) es))
    (remained (then m (sort_of e) (spoiled (next e c) es) (next e c).normal) (next e c) es)
    (seen e c ∷ remained (then m (sort_of e) (spoiled (next e c) es) (next e c).normal) (next e c) es)

-- ── a worked case: 10 05 03 with a wrong CRC. The byte 03, its CRC and what follows go; the IN before the CRC, the scan and PIN remain ──
abbrev guarded : Setup
guarded = record { part = 1; crc = true; address = 8; gain_code = 10; offset = 30; floor = 1000; cells = 0 }

abbrev out : ℕ → Event
out b = OnBus (Out b)

pub cleaned : remains frame_whole (in_ship guarded) (
    Boot ∷ OnBus Start ∷ out 0x10 ∷ out 0x05 ∷ out 0x03 ∷ OnBus (In false) ∷ Scan (7000 ∷ []) ∷ out 0xEB ∷ out 0x01 ∷ OnBus
    (In false) ∷ Pin ∷ OnBus Stop ∷ []
    ) ≡ Boot ∷ OnBus Start ∷ out 0x10 ∷ out 0x05 ∷ OnBus (In false) ∷ Scan (7000 ∷ []) ∷ Pin ∷ OnBus Stop ∷ []
unfolding remains spoiled stepped happened fits outed taken byte_given owing settings_with shown_with cellbal_with byte_on rule over under
    addressed fed checked after_data after_sum keeps stored_at
cleaned = refl
