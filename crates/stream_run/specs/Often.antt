-- What a stream is made of for the most part: scans, ticks and the bus. Assumes nothing.
use Rattle.std.specs.Prelude.{◌≡◌, refl, Bool, true, false, cond, ◌&&◌}
use Rattle.std.proofs.Common.{ap, sym, ◌∙◌}
use Rattle.constants.specs.Number.{DONE, ASLEEP}
use Rattle.events.specs.declared.Event.{Event}
use Rattle.registers.specs.declared.Registers.{Registers}
use Rattle.chip.specs.declared.Chip.{Chip}
use Rattle.chip.specs.Answer.{Stepped}
use Rattle.chip.specs.Chip.{numbered, with_registers}
use Rattle.stream_run.specs.declared.Work.{Work}
use Rattle.stream_run.specs.declared.Work.TheVariants.{Scans, Ticks, Hears, Other}
use Rattle.events.specs.declared.Event.TheVariants.{Setup, Por, Boot, Scan, Temp, Count, Sense, Pin, Load, Xready, OnBus, Level}
use Rattle.events.specs.declared.Event.TheVariants.{Ticks as Repeated, Soak, Wires}

-- ── what each is to the loop, in NORMAL and in SHIP ──
abbrev pub awake_work : Event → Work
awake_work (Setup v) = Other
awake_work Por = Other
awake_work Boot = Other
awake_work Scan = Scans
awake_work Temp = Other
awake_work (Count n) = Other
awake_work (Sense v) = Ticks v
awake_work Pin = Other
awake_work (Load l) = Other
awake_work Xready = Other
awake_work (OnBus b) = Hears b
awake_work (Level l) = Other
awake_work (Repeated v n) = Other
awake_work (Soak v n) = Other
awake_work (Wires n) = Other

-- one that has an arm of its own
abbrev pub own_arm : Work → Bool
own_arm Scans = true
own_arm (Ticks v) = true
own_arm (Hears b) = true
own_arm Other = false

abbrev pub often : Event → Bool
often e = own_arm (awake_work e)

abbrev pub work_of : Bool → Event → Work
work_of a e = cond a (awake_work e) Other

-- an event that moves registers alone, to these; number 4 in SHIP
unfoldable pub registers_moved : Registers → Chip → Stepped
registers_moved r c = cond c.normal (numbered DONE (with_registers r c)) (numbered ASLEEP c)

-- what is known of an event by its work
abbrev pub Sorted : Bool → Event → Work → Type 0
Sorted a e Scans = (a ≡ true) × (e ≡ Scan)
Sorted a e (Ticks v) = (a ≡ true) × (e ≡ Sense v)
Sorted a e (Hears b) = (a ≡ true) × (e ≡ OnBus b)
Sorted a e Other = (a && often e) ≡ false

pub sorted : (a : Bool) (e : Event) → Sorted a e (work_of a e)
sorted false e = refl
sorted true (Setup v) = refl
sorted true Por = refl
sorted true Boot = refl
sorted true Scan = (refl, refl)
sorted true Temp = refl
sorted true (Count n) = refl
sorted true (Sense v) = (refl, refl)
sorted true Pin = refl
sorted true (Load l) = refl
sorted true Xready = refl
sorted true (OnBus b) = (refl, refl)
sorted true (Level l) = refl
sorted true (Repeated v n) = refl
sorted true (Soak v n) = refl
sorted true (Wires n) = refl

-- .. and the work by the mode and the case
pub work_normal : (a : Bool) (e f : Event) → a ≡ true → e ≡ f → awake_work f ≡ work_of a e
work_normal a e f h q = sym (ap (λ (b : Bool). cond b (awake_work e) Other) h ∙ ap awake_work q)

pub work_asleep : (a : Bool) (e : Event) → a ≡ false → Other ≡ work_of a e
work_asleep a e h = sym (ap (λ (b : Bool). cond b (awake_work e) Other) h)

pub work_other : (a : Bool) (e : Event) → Other ≡ awake_work e → Other ≡ work_of a e
work_other true e h = h
work_other false e h = refl
