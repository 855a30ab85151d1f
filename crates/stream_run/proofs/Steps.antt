-- What is known of an event or a record that was taken apart, put to use: a record that was read needs no second check. Assumes nothing.
use mathlib.Core.Path.{◌≡◌, refl, ap, sym, ◌∙◌, subst}
use mathlib.Core.Bool.{Bool, true, false, cond, not, ◌&&◌, ◌||◌}
use Rattle.std.specs.Prelude.{Option, Result}
use mathlib.Core.List.{List}
use Prim.Native.Nat.{ℕ}
use native.Mathlib.Omega.{arith}
use lib.Dec.{eqb}
use borrow.Author.Tests.{eqb-true, eqb-false, eq-eqb}
use Rattle.events.specs.declared.Counts.{Counts}
use Rattle.events.specs.declared.BusEvent.{BusEvent}
use Rattle.events.specs.Role.{role_of, by_role}
use Rattle.events.specs.declared.Role.TheVariants.{Happens}
use Rattle.events.specs.declared.Event.{Event}
use Rattle.events.specs.declared.Event.TheVariants.{Scan, Sense, OnBus}
use Rattle.events.specs.Event.{Event as Happening, Boot as Booted, Scan as Scanned, Sense as Ticked, OnBus as Signalled, Level as Leveled}
use Rattle.events.specs.Event.{Meant, means, ticks, unfit, fits, in_range, event_of, meant_of, counts_fit, counts_wanted}
use Rattle.records.specs.declared.Read.{Read}
use Rattle.records.specs.declared.Read.TheVariants.{Record, Refused, Cut}
use Rattle.records.specs.Record.{read_of, number_of, counts_beside}
use Rattle.turn.specs.Passed.{answer_of}
use Rattle.events.specs.Setup.{inputs}
use lib.ListN.{take}
use lib.IntN.{ℤ}
use Rattle.records.specs.SoundLaws.{first_setup, no_setup, no_wires, Meaning, later_means}
use Rattle.chip.specs.declared.Chip.{Chip}
use Rattle.chip.specs.Answer.{Stepped, Heard, stepped_with}
use Rattle.constants.specs.declared.refusal.Refusal.{Refusal}
use Rattle.protection.specs.declared.Judged.{Judged}
use Rattle.protection.specs.Judged.{tick_judged}
use Rattle.chip.specs.Parts.{raised_by, heard_of, landed, told, tick_parts, still_tick, bus_parts}
use Rattle.chip.proofs.Modes.{in_normal}
use Rattle.chip.specs.Calm.{Calmed}
use Rattle.chip.proofs.Calm.{settles, calm_scan, calm_tick}
use Rattle.registers.specs.declared.Registers.{Registers}
use Rattle.registers.specs.State.{with_outside_level}
use Rattle.registers.specs.Judging.{pulled_by_level}
use Rattle.registers.specs.LevelLaws.{Calm}
use Rattle.chip.specs.Chip.{numbered, with_normal, with_bus, with_registers, with_runs, settled, normally, asleep, happened, stepped}
use Rattle.chip.specs.Chip.{ticked, stepped_as, stepped_by, happened_as, happened_by}
use Rattle.stream_run.specs.Stream.{face_of, entry_with}
use Rattle.turn.specs.Turn.{entry_of, acted, stays_fresh, turn, turned, turn_of}
use Rattle.turn.specs.declared.Entry.{Entry}
use Rattle.turn.proofs.Cases.{acted_as_lem}
use Rattle.stream_run.specs.declared.Face.{Face}
use Rattle.stream_run.specs.Often.{often, registers_moved}

-- what is in range steps as it happens
step_is : (e : Happening) (c : Chip) → fits e ≡ true → stepped e c ≡ happened e c
unfolding stepped
step_is e c f = simp f

as_meant : (m : Meant) (c : Chip) → in_range m ≡ true → happened_as m c ≡ stepped_as m c
as_meant (means e) c f = sym (step_is e c f)
as_meant (ticks most v n) c f = ap (λ (t : Bool). cond t (ticked n v c) (numbered 3 c)) (sym f)
as_meant unfit c f = cc

counts_by : (t : Bool) (m : Meant) (c : Chip) → in_range (cond t m unfit) ≡ true → happened_as m c ≡ stepped_as (cond t m unfit) c
counts_by true m c h = as_meant m c h
counts_by false m c h = cc

checked : (c : Chip) (e : Event) (k : Counts) → Meaning c.setup e k → happened_by e k.of c ≡ stepped_by e k c
unfolding meant_of
checked c e k m = counts_by (counts_fit (counts_wanted c.setup e) k) (event_of c.setup e k.of) c m

meaning : (c : Chip) (r : List ℕ) (e : Event) (next : ℕ) (t : Bool) → eqb c.setup.part 0 ≡ t → read_of c.setup.part r ≡ Record e next → role_of e ≡ Happens
    → Meaning c.setup e (counts_beside r (Record e next))
meaning c r e next true t q o =
    absurd (no_setup e o (first_setup r e next (subst (λ (p : ℕ). read_of p r ≡ Record e next) (eqb-true c.setup.part 0 t) q)))
meaning c r e next false t q o = later_means c.setup r e next (eqb-false c.setup.part 0 t) q (no_wires e o)

happens_acted : (o : Bool) (c : Chip) (e : Event) (k : Counts) → role_of e ≡ Happens → stepped_by e k c ≡ acted o e k c
happens_acted o c e k h = acted_as_lem o c e k Happens refl h refl

pub other_is : {s : Stepped} (op : Bool) (c : Chip) (r : List ℕ) (e : Event) (next : ℕ) (xs : List ℕ) → read_of c.setup.part r ≡ Record e next → role_of e ≡ Happens
    → xs ≡ (counts_beside r (Record e next)).of → s ≡ happened_by e xs c → s ≡ acted op e (counts_beside r (Record e next)) c
other_is op c r e next xs q o b h =
    h ∙ ap (λ (xs : List ℕ). happened_by e xs c) b ∙ checked c e (counts_beside r (Record e next)) (meaning c r e next (eqb c.setup.part 0) refl q o)
    ∙ happens_acted op c e (counts_beside r (Record e next)) o

-- what is often done, found to be e'
clash : false ≡ true → ⊥
clash q = let z : ◌≡◌ {A = ℕ} 0 1 = cc in omega (arith, z)

other_often : (e : Event) → often e ≡ true → role_of e ≡ Happens
other_often = by_role (λ (e : Event). often e ≡ true → role_of e ≡ Happens) (λ v q. absurd (clash q)) (λ n q. absurd (clash q)) (λ e h q. h)

pub as_event : {s : Stepped} {e e' : Event} (xs : List ℕ) (c : Chip) → e ≡ e' → s ≡ happened_by e' xs c → s ≡ happened_by e xs c
as_event xs c q h = h ∙ ap (λ (e : Event). happened_by e xs c) (sym q)

pub often_is : {s : Stepped} (op : Bool) (c : Chip) (r : List ℕ) (e e' : Event) (next : ℕ) (xs : List ℕ) → read_of c.setup.part r ≡ Record e next → e ≡ e' → often e' ≡ true
    → xs ≡ (counts_beside r (Record e next)).of → s ≡ happened_by e' xs c → s ≡ acted op e (counts_beside r (Record e next)) c
often_is op c r e e' next xs q t o b h = other_is op c r e next xs q (other_often e (ap often t ∙ o)) b (as_event xs c t h)

-- in SHIP
off : (a t : Bool) → (a && t) ≡ false → t ≡ true → a ≡ false
off false t p q = refl
off true true p q = p
off true false p q = sym q

pub sleeping : (c : Chip) (e e' : Event) → (c.normal && often e) ≡ false → e ≡ e' → often e' ≡ true → c.normal ≡ false
sleeping c e e' p q o = off c.normal (often e) p (ap often q ∙ o)

pub in_sleep : {s : Stepped} (e : Happening) (c : Chip) → c.normal ≡ false → s ≡ asleep e c → s ≡ happened e c
unfolding happened
in_sleep e c a h = h ∙ sym (by c.normal a)
  where
    by : (b : Bool) → b ≡ false → cond b (settled (normally e c)) (asleep e c) ≡ asleep e c
    by true q = cc
    by false q = refl

-- the registers moved, by the mode
pub moved_awake : {s : Stepped} (r : Registers) (c : Chip) → c.normal ≡ true → s ≡ numbered 0 (with_registers r c) → s ≡ registers_moved r c
unfolding registers_moved
moved_awake r c a h = h ∙ ap (λ (b : Bool). cond b (numbered 0 (with_registers r c)) (numbered 4 c)) (sym a)

pub moved_asleep : {s : Stepped} (r : Registers) (c : Chip) → c.normal ≡ false → s ≡ numbered 4 c → s ≡ registers_moved r c
unfolding registers_moved
moved_asleep r c a h = h ∙ ap (λ (b : Bool). cond b (numbered 0 (with_registers r c)) (numbered 4 c)) (sym a)

pub moved_to : {s : Stepped} {q r : Registers} (c : Chip) → q ≡ r → s ≡ registers_moved q c → s ≡ registers_moved r c
moved_to c e h = h ∙ ap (λ (q : Registers). registers_moved q c) e

-- an event that moves registers alone, and leaves the outside level no work
pub moves : {s : Stepped} (e : Happening) (c : Chip) (r : Registers) → normally e c ≡ numbered 0 (with_registers r c) → asleep e c ≡ numbered 4 c → Calm r → s ≡ registers_moved r c → s ≡ happened e c
unfolding happened registers_moved
moves e c r n z k h = h ∙ sym (by c.normal)
  where
    by : (b : Bool) → cond b (settled (normally e c)) (asleep e c) ≡ cond b (numbered 0 (with_registers r c)) (numbered 4 c)
    by true = ap settled n ∙ settles (numbered 0 (with_registers r c)) k
    by false = z

-- the outside level itself
pub levels : {s : Stepped} (l : Bool) (c : Chip) → s ≡ registers_moved (pulled_by_level (with_outside_level l c.registers)) c → s ≡ happened (Leveled l) c
unfolding happened registers_moved
levels l c h = h ∙ sym (by c.normal)
  where
    by : (b : Bool) → cond b (settled (normally (Leveled l) c)) (asleep (Leveled l) c) ≡ cond b (numbered 0 (with_registers (pulled_by_level (with_outside_level l c.registers)) c)) (numbered 4 c)
    by true = refl
    by false = refl

-- BOOT
pub boots : {s : Stepped} (c : Chip) → Calmed c → s ≡ numbered 0 (with_normal true c) → s ≡ happened Booted c
unfolding happened
boots c k h = h ∙ sym (by c.normal refl)
  where
    by : (b : Bool) → c.normal ≡ b → cond b (settled (normally Booted c)) (asleep Booted c) ≡ numbered 0 (with_normal true c)
    by true e = settles (numbered 0 c) k ∙ ap (λ (a : Bool). numbered 0 (with_normal a c)) e
    by false e = settles (numbered 0 (with_normal true c)) k

-- an entry of what was answered and what the chip shows
pub entry_is : {e : Entry} {f : Face} (a : Result (Option ℕ) Refusal) (c : Chip) → e ≡ entry_with a f → f ≡ face_of c → e ≡ entry_of (stepped_with a c)
entry_is a c h q = h ∙ ap (entry_with a) q

pub refused_entry : {e : Entry} {f : Face} (x : Read) (c : Chip) → e ≡ entry_with (answer_of x) f → f ≡ face_of c → e ≡ entry_of (numbered (number_of x) c)
refused_entry x c h q = h ∙ ap (entry_with (answer_of x)) q ∙ by x
  where
    by : (x : Read) → entry_with (answer_of x) (face_of c) ≡ entry_of (numbered (number_of x) c)
    by (Record e next) = refl
    by (Refused why next) = refl
    by Cut = refl

-- a record that was read and done
pub done_turn : (o : Bool) (c : Chip) (rest : List ℕ) (e : Event) (next : ℕ) (s : Stepped) → read_of c.setup.part rest ≡ Record e next
    → s ≡ acted o e (counts_beside rest (Record e next)) c → turn s (stays_fresh o c s) next false ≡ turn_of o c rest
unfolding turn_of
done_turn o c rest e next s q d = ap (λ (s : Stepped). turn s (stays_fresh o c s) next false) d ∙ sym (ap (turned o c rest) q)

-- after what is often done no wiring record is taken
pub closes : (o : Bool) (c : Chip) (r : List ℕ) (e e' : Event) (next : ℕ) (s : Stepped) → read_of c.setup.part r ≡ Record e next → e ≡ e' → often e' ≡ true → s.number ≡ 0 → false ≡ stays_fresh o c s
closes o c r e e' next s q t f z =
    by o (eqb c.setup.part 0) refl (eqb s.number 0) (eq-eqb s.number 0 z)
  where
    by : (o b : Bool) → eqb c.setup.part 0 ≡ b → (n : Bool) → n ≡ true → false ≡ b || (o && not n)
    by o true h n m = absurd (no_setup e (other_often e (ap often t ∙ f)) (first_setup r e next (subst (λ (p : ℕ). read_of p r ≡ Record e next) (eqb-true c.setup.part 0 h) q)))
    by true false h true m = refl
    by true false h false m = absurd (clash m)
    by false false h n m = refl

-- ── what each arm of the loop comes to, in NORMAL; the outside level does something after a store alone ──
pub scan_arm : (c : Chip) (xs : List ℕ) (d : Chip) → Calmed c → c.normal ≡ true → d ≡ (normally (Scanned (take (inputs c.setup) xs)) c).chip → numbered 0 d ≡ happened_by Scan xs c
scan_arm c xs d m a h = in_normal (Scanned (take (inputs c.setup) xs)) c a (ap (numbered 0) h ∙ calm_scan (take (inputs c.setup) xs) c m)

pub tick_arm : (c : Chip) (v : ℤ) (xs : List ℕ) (j : Judged) (d : Chip) → Calmed c → c.normal ≡ true → j ≡ tick_judged c.registers.settings v c.runs → d ≡ raised_by j.risen (with_runs j.runs c)
    → numbered 0 d ≡ happened_by (Sense v) xs c
tick_arm c v xs j d m a hj h =
    in_normal (Ticked v) c a
    (ap (numbered 0) (h ∙ calm_tick j.risen j.runs c m) ∙ ap (λ (j : Judged). settled (numbered 0 (raised_by j.risen (with_runs j.runs c)))) hj ∙ ap settled (tick_parts v c))

-- nothing rises: nothing is shown anew
pub still_arm : (c : Chip) (v : ℤ) (j : Judged) → j ≡ tick_judged c.registers.settings v c.runs → (j.risen.scd || j.risen.ocd) ≡ false → with_runs j.runs c ≡ raised_by j.risen (with_runs j.runs c)
still_arm c v j hj n =
    subst (λ (j : Judged). with_runs j.runs c ≡ raised_by j.risen (with_runs j.runs c)) (sym hj)
    (sym (still_tick c.registers.settings v c.runs (with_runs (tick_judged c.registers.settings v c.runs).runs c) (subst (λ (j : Judged). (j.risen.scd || j.risen.ocd) ≡ false) hj n)))

abbrev pub heard_with : Heard → Chip → Stepped
heard_with h d = record { chip = d; number = 0; flag = h.flag; byte = h.byte }

pub bus_arm : (c : Chip) (b : BusEvent) (xs : List ℕ) (h : Heard) (d : Chip) → c.normal ≡ true → h ≡ heard_of b c → d ≡ landed h.store (with_bus h.bus c)
    → heard_with h d ≡ happened_by (OnBus b) xs c
bus_arm c b xs h d a hh hd = in_normal (Signalled b) c a (ap (heard_with h) hd ∙ ap (λ (h : Heard). told h c) hh ∙ bus_parts b c)
