-- CHIP.md, "Events and their records": the values of each kind, as whole numbers. Assumes nothing.
use Rattle.std.specs.Prelude.{List, [], ◌∷◌, map, ℤ, pos, take}
use Rattle.events.specs.declared.Setup.{Setup as SetupValues}
use Rattle.events.specs.declared.Counts.{Counts}
use Rattle.events.specs.declared.BusEvent.TheVariants.{Start, Out, In, Stop}
use Rattle.events.specs.declared.Event.{Event}
use Rattle.events.specs.declared.Event.TheVariants.{Setup, Por, Boot, Scan, Temp, Count, Sense, Pin, Load, Xready, OnBus, Level, Ticks}
use Rattle.events.specs.declared.Event.TheVariants.{Soak, Wires}
use Rattle.bits.specs.Numbers.{bit_of}

-- ── the values of an event: its payload's, in their order ──
abbrev pub setup_values : SetupValues → List ℤ
setup_values v = pos v.part ∷ pos (bit_of v.crc) ∷ pos v.address ∷ pos v.gain_code ∷ pos v.offset ∷ pos v.floor ∷ []

abbrev pub count_values : Counts → List ℤ
count_values k = map pos (take k.many k.of)

abbrev pub values_for : Event → Counts → List ℤ
values_for (Setup v) k = setup_values v
values_for Por k = []
values_for Boot k = []
values_for Scan k = count_values k
values_for Temp k = count_values k
values_for (Count n) k = pos n ∷ []
values_for (Sense v) k = v ∷ []
values_for Pin k = []
values_for (Load l) k = pos (bit_of l) ∷ []
values_for Xready k = []
values_for (OnBus Start) k = []
values_for (OnBus (Out b)) k = pos b ∷ []
values_for (OnBus (In n)) k = pos (bit_of n) ∷ []
values_for (OnBus Stop) k = []
values_for (Level l) k = pos (bit_of l) ∷ []
values_for (Ticks v n) k = v ∷ pos n ∷ []
values_for (Soak v n) k = v ∷ pos n ∷ []
values_for (Wires n) k = pos n ∷ []
