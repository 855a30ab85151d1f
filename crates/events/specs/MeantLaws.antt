-- CHIP R2 and R3: what happens to a chip tells the code's event that it was made of, with its number, level, value or byte; and how many
-- counts a SCAN and a TEMP take of what stands beside them. Assumes nothing.
use Rattle.std.specs.Prelude.{◌≡◌, refl, List, ℕ, ◌*◌, ◌≤◌, take}
use Rattle.std.proofs.Common.{ap, subst}
use Rattle.events.specs.declared.Setup.{Setup}
use Rattle.events.specs.declared.Event.{Event as Coded}
use Rattle.events.specs.declared.Event.TheVariants.{Setup as CodedSetup, Por as CodedPor, Boot as CodedBoot, Pin as CodedPin}
use Rattle.events.specs.declared.Event.TheVariants.{Xready as CodedXready}
use Rattle.events.specs.declared.Event.TheVariants.{Scan as CodedScan, Temp as CodedTemp, Count as CodedCount, Sense as CodedSense}
use Rattle.events.specs.declared.Event.TheVariants.{Load as CodedLoad, OnBus as CodedOnBus, Level as CodedLevel, Ticks as CodedTicks}
use Rattle.events.specs.declared.Event.TheVariants.{Soak as CodedSoak, Wires as CodedWires}
use Rattle.events.specs.Event.{Event, Por, Boot, Pin, Xready, Scan, Temp, Count, Sense, Load, OnBus, Level, means, event_of}
use Rattle.events.specs.Setup.{groups, inputs}
use Rattle.events.specs.RangesLaws.{five_a_part}

-- the code's event of what happens
abbrev pub code_of : Event → Coded
code_of Por = CodedPor
code_of Boot = CodedBoot
code_of Pin = CodedPin
code_of Xready = CodedXready
code_of (Scan xs) = CodedScan
code_of (Temp xs) = CodedTemp
code_of (Count n) = CodedCount n
code_of (Sense v) = CodedSense v
code_of (Load l) = CodedLoad l
code_of (OnBus b) = CodedOnBus b
code_of (Level l) = CodedLevel l

told : (e f : Event) (x : Coded) → means e ≡ means f → code_of e ≡ x → code_of f ≡ x
told e f x h k = let q : e ≡ f = cc in subst (λ d. code_of d ≡ x) q k

pub code_back : (u : Setup) (e : Coded) (xs : List ℕ) (f : Event) → event_of u e xs ≡ means f → code_of f ≡ e
code_back u (CodedSetup v) xs f h = cc
code_back u CodedPor xs f h = told Por f CodedPor h refl
code_back u CodedBoot xs f h = told Boot f CodedBoot h refl
code_back u CodedPin xs f h = told Pin f CodedPin h refl
code_back u CodedXready xs f h = told Xready f CodedXready h refl
code_back u CodedScan xs f h = told (Scan (take (inputs u) xs)) f CodedScan h refl
code_back u CodedTemp xs f h = told (Temp (take (groups u) xs)) f CodedTemp h refl
code_back u (CodedCount n) xs f h = told (Count n) f (CodedCount n) h refl
code_back u (CodedSense v) xs f h = told (Sense v) f (CodedSense v) h refl
code_back u (CodedLoad l) xs f h = told (Load l) f (CodedLoad l) h refl
code_back u (CodedOnBus b) xs f h = told (OnBus b) f (CodedOnBus b) h refl
code_back u (CodedLevel l) xs f h = told (Level l) f (CodedLevel l) h refl
code_back u (CodedTicks v n) xs f h = cc
code_back u (CodedSoak v n) xs f h = cc
code_back u (CodedWires n) xs f h = cc

-- five counts a part for SCAN, one for TEMP
pub counts_taken : (u : Setup) (xs : List ℕ) → u.part ≤ 3
    → (event_of u CodedScan xs ≡ means (Scan (take (5 * u.part) xs))) × (event_of u CodedTemp xs ≡ means (Temp (take u.part xs)))
counts_taken u xs h = (
  ap (λ (n : ℕ). means (Scan (take n xs))) (five_a_part u h).1,
  ap (λ (n : ℕ). means (Temp (take n xs))) (five_a_part u h).0,
)
