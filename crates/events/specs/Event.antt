-- CHIP R3: an event with its counts, as the definitions and the theorems speak of it,
-- and what makes it out of the code's enum and the counts beside it. Assumes nothing.
use Rattle.std.specs.Prelude.{Bool, true, false, not, ◌&&◌, cond, List, [], ◌∷◌, ℕ, leb, eqb, ℤ, pos, neg_ℤ, take, drop, replicate}
use Rattle.std.specs.Int.Signed.{lt_z}
use Rattle.bits.specs.Numbers.{within}
use Rattle.constants.specs.Range.{COUNT_MOST, SENSE_MOST, TICKS_MOST, SOAK_MOST}
use Rattle.events.specs.Setup.{groups, inputs}
use Rattle.events.specs.declared.Setup.{Setup}
use Rattle.events.specs.declared.Counts.{Counts}
use Rattle.events.specs.declared.Beside.{Beside}
use Rattle.events.specs.declared.Beside.TheVariants.{Inputs, Groups, Nothing}
use Rattle.events.specs.declared.BusEvent.{BusEvent}
use Rattle.events.specs.declared.Event.{Event as Coded}
use Rattle.events.specs.declared.Event.TheVariants.{Setup as CodedSetup, Por as CodedPor, Boot as CodedBoot, Pin as CodedPin}
use Rattle.events.specs.declared.Event.TheVariants.{Xready as CodedXready}
use Rattle.events.specs.declared.Event.TheVariants.{Scan as CodedScan, Temp as CodedTemp, Count as CodedCount, Sense as CodedSense}
use Rattle.events.specs.declared.Event.TheVariants.{Load as CodedLoad, OnBus as CodedOnBus, Level as CodedLevel, Ticks as CodedTicks}
use Rattle.events.specs.declared.Event.TheVariants.{Soak as CodedSoak, Wires as CodedWires}

-- an event of a chip that stands: SCAN has a count for each input, TEMP one for each five
pub data Event : Type 0 where
  Por Boot Pin Xready : Event
  Scan Temp : List ℕ → Event
  Count : ℕ → Event
  Sense : ℤ → Event
  Load : Bool → Event
  OnBus : BusEvent → Event
  Level : Bool → Event

-- ── values in range (CHIP R3), else 3 ──
-- a count is 0 to 16,383
abbrev pub count_most : ℕ
count_most = COUNT_MOST

-- SENSE is within ±500,000 µV
abbrev pub sense_most : ℕ
sense_most = SENSE_MOST

abbrev pub sense_fits : ℤ → Bool
sense_fits v = not (lt_z (pos sense_most) v) && not (lt_z (pos sense_most) (neg_ℤ v))

unfoldable pub fits : Event → Bool
fits Por = true
fits Boot = true
fits Pin = true
fits Xready = true
fits (Scan xs) = within count_most xs
fits (Temp xs) = within count_most xs
fits (Count n) = true
fits (Sense v) = sense_fits v
fits (Load l) = true
fits (OnBus b) = true
fits (Level l) = true

-- how often TICKS repeats at most
abbrev pub ticks_most : ℕ
ticks_most = TICKS_MOST

-- and SOAK
abbrev pub soak_most : ℕ
soak_most = SOAK_MOST

-- a value, and how often it is repeated: 1 to the most that its kind allows
unfoldable pub ticks_fit : ℕ → ℤ → ℕ → Bool
ticks_fit most v n = sense_fits v && leb 1 n && leb n most

-- ── number 2: SETUP not first, or counts that do not fit the part (CHIP R10) ──
-- which counts stand beside an event of the code: SCAN has one for each input, TEMP one for each group
abbrev pub beside_of : Coded → Beside
beside_of (CodedSetup v) = Nothing
beside_of CodedPor = Nothing
beside_of CodedBoot = Nothing
beside_of CodedPin = Nothing
beside_of CodedXready = Nothing
beside_of CodedScan = Inputs
beside_of CodedTemp = Groups
beside_of (CodedCount n) = Nothing
beside_of (CodedSense v) = Nothing
beside_of (CodedLoad l) = Nothing
beside_of (CodedOnBus b) = Nothing
beside_of (CodedLevel l) = Nothing
beside_of (CodedTicks v n) = Nothing
beside_of (CodedSoak v n) = Nothing
beside_of (CodedWires n) = Nothing

-- .. and how many these are
abbrev pub many_beside : Setup → Beside → ℕ
many_beside u Inputs = inputs u
many_beside u Groups = groups u
many_beside u Nothing = 0

abbrev pub counts_wanted : Setup → Coded → ℕ
counts_wanted u e = many_beside u (beside_of e)

-- as many as wanted, and 0 in every place after them
unfoldable pub counts_fit : ℕ → Counts → Bool
counts_fit n k = eqb k.many n && within 0 (drop n k.of)

-- what the code's event means to a chip that stands: an event, ticks of one value with the most that their kind allows, or the number 2,
-- which SETUP and a wiring record have there
pub data Meant : Type 0 where
  means : Event → Meant
  ticks : ℕ → ℤ → ℕ → Meant
  unfit : Meant

abbrev pub event_of : Setup → Coded → List ℕ → Meant
event_of u (CodedSetup v) xs = unfit
event_of u CodedPor xs = means Por
event_of u CodedBoot xs = means Boot
event_of u CodedPin xs = means Pin
event_of u CodedXready xs = means Xready
event_of u CodedScan xs = means (Scan (take (inputs u) xs))
event_of u CodedTemp xs = means (Temp (take (groups u) xs))
event_of u (CodedCount n) xs = means (Count n)
event_of u (CodedSense v) xs = means (Sense v)
event_of u (CodedLoad l) xs = means (Load l)
event_of u (CodedOnBus b) xs = means (OnBus b)
event_of u (CodedLevel l) xs = means (Level l)
event_of u (CodedTicks v n) xs = ticks ticks_most v n
event_of u (CodedSoak v n) xs = ticks soak_most v n
event_of u (CodedWires n) xs = unfit

unfoldable pub meant_of : Setup → Coded → Counts → Meant
meant_of u e k = cond (counts_fit (counts_wanted u e) k) (event_of u e k.of) unfit

-- ── the numbers 2 and 3 of what was meant, or neither ──
abbrev pub in_range : Meant → Bool
in_range (means e) = fits e
in_range (ticks most v n) = ticks_fit most v n
in_range unfit = false

-- the events that it is, newest first: of ticks, each tick
abbrev pub events_in : Meant → List Event
events_in (means e) = e ∷ []
events_in (ticks most v n) = cond (ticks_fit most v n) (replicate n (Sense v)) []
events_in unfit = []
