-- An event by its values and the mode that the chip is in: what a method shows of its answer out of range, in NORMAL, or in SHIP, is what the event
-- does. Assumes nothing.
use mathlib.Core.Path.{◌≡◌, refl, sym, ap, ◌∙◌}
use mathlib.Core.Bool.{Bool, true, false, cond}
use mathlib.Core.List.{List}
use Prim.Native.Nat.{ℕ}
use lib.ListN.{take}
use Rattle.events.specs.declared.Event.{Event as Coded}
use Rattle.events.specs.Event.{Event, Por, Boot, Scan, Temp, count_most, fits, event_of}
use Rattle.bits.specs.Numbers.{within}
use Rattle.settings.specs.Write.{ships}
use Rattle.registers.specs.declared.Registers.{Registers}
use Rattle.registers.specs.Write.{written}
use Rattle.registers.specs.Judging.{pulled_by_level}
use Rattle.chip.specs.declared.Chip.{Chip}
use Rattle.chip.specs.Answer.{Stepped}
use Rattle.chip.specs.Chip.{with_normal, with_registers, numbered, in_ship, watched, settled, normally, asleep, happened, stepped}
use Rattle.chip.specs.Chip.{stepped_as}
use Rattle.chip.specs.Parts.{moved_to, wrote}

pub in_normal : {s : Stepped} (e : Event) (c : Chip) → c.normal ≡ true → s ≡ settled (normally e c) → s ≡ happened e c
unfolding happened
in_normal e c a h = h ∙ sym (by c.normal a)
  where
    by : (b : Bool) → b ≡ true → cond b (settled (normally e c)) (asleep e c) ≡ settled (normally e c)
    by true q = refl
    by false q = cc

pub in_sleep : {s : Stepped} (e : Event) (c : Chip) → c.normal ≡ false → s ≡ asleep e c → s ≡ happened e c
unfolding happened
in_sleep e c a h = h ∙ sym (by c.normal a)
  where
    by : (b : Bool) → b ≡ false → cond b (settled (normally e c)) (asleep e c) ≡ asleep e c
    by true q = cc
    by false q = refl

-- an event that is done: with the chip as it is said elsewhere
pub done_as : {s : Stepped} {d e : Chip} → s ≡ settled (numbered 0 d) → d ≡ e → s ≡ settled (numbered 0 e)
done_as h e = h ∙ ap (λ (d : Chip). settled (numbered 0 d)) e

-- the registers alone
pub moves : {s : Stepped} (r : Registers) (c : Chip) → c.normal ≡ true → s ≡ settled (numbered 0 (with_registers r c)) → s ≡ moved_to r c
moves r c a h = h ∙ ap (λ (t : Bool). cond t (settled (numbered 0 (with_registers r c))) (numbered 4 c)) (sym a)

pub stays : {s : Stepped} (r : Registers) (c : Chip) → c.normal ≡ false → s ≡ numbered 4 c → s ≡ moved_to r c
stays r c a h = h ∙ ap (λ (t : Bool). cond t (settled (numbered 0 (with_registers r c))) (numbered 4 c)) (sym a)

-- a write ships, or is accepted
pub wrote-ships : {d : Chip} {t : Bool} (a v : ℕ) (c : Chip) → t ≡ ships a v c.registers.settings → t ≡ true → d ≡ in_ship c.setup → d ≡ wrote a v c
unfolding wrote
wrote-ships a v c p e h = h ∙ ap (λ (t : Bool). cond t (in_ship c.setup) (watched (with_registers (written c.setup a v c.registers) c))) (sym e ∙ p)

pub wrote_stays : {t : Bool} {r w : Registers} (a v : ℕ) (c : Chip) → t ≡ ships a v c.registers.settings → t ≡ false → w ≡ written c.setup a v c.registers
    → r ≡ pulled_by_level w → with_registers r c ≡ wrote a v c
unfolding wrote
wrote_stays a v c p e h k =
    ap (λ (r : Registers). with_registers r c) (k ∙ ap pulled_by_level h)
    ∙ ap (λ (t : Bool). cond t (in_ship c.setup) (watched (with_registers (written c.setup a v c.registers) c))) (sym e ∙ p)

-- POR does the same in both
pub in_either : {s : Stepped} (c : Chip) → s ≡ numbered 0 (in_ship c.setup) → s ≡ happened Por c
unfolding happened
in_either c h = h ∙ sym (by c.normal)
  where
    by : (b : Bool) → cond b (settled (normally Por c)) (asleep Por c) ≡ numbered 0 (in_ship c.setup)
    by true = refl
    by false = refl

-- after BOOT the mode is NORMAL
pub boots : {s : Stepped} (c : Chip) → s ≡ settled (numbered 0 (with_normal true c)) → s ≡ happened Boot c
unfolding happened
boots c h = h ∙ sym (by c.normal refl)
  where
    by : (b : Bool) → c.normal ≡ b → cond b (settled (normally Boot c)) (asleep Boot c) ≡ settled (numbered 0 (with_normal true c))
    by true q = ap (λ (a : Bool). settled (numbered 0 (with_normal a c))) q
    by false q = refl

-- ── 3 before 4 ──
pub in_range_lem : {s : Stepped} (e : Event) (c : Chip) → fits e ≡ true → s ≡ happened e c → s ≡ stepped e c
unfolding stepped
in_range_lem e c f h = h ∙ ap (λ (t : Bool). cond t (happened e c) (numbered 3 c)) (sym f)

pub out_of_range : {s : Stepped} (e : Event) (c : Chip) → fits e ≡ false → s ≡ numbered 3 c → s ≡ stepped e c
unfolding stepped
out_of_range e c f h = h ∙ ap (λ (t : Bool). cond t (happened e c) (numbered 3 c)) (sym f)

-- a look at as many counts as the event has
pub scan_fits : {r b : Bool} (xs : List ℕ) {n m : ℕ} → r ≡ within count_most (take n xs) → n ≡ m → r ≡ b → fits (Scan (take m xs)) ≡ b
unfolding fits
scan_fits xs h q k = ap (λ (n : ℕ). within count_most (take n xs)) (sym q) ∙ sym h ∙ k

pub temp_fits : {r b : Bool} (xs : List ℕ) {n m : ℕ} → r ≡ within count_most (take n xs) → n ≡ m → r ≡ b → fits (Temp (take m xs)) ≡ b
unfolding fits
temp_fits xs h q k = ap (λ (n : ℕ). within count_most (take n xs)) (sym q) ∙ sym h ∙ k

-- what follows for an event from what follows for the one it was found to be
pub as_event : {s : Stepped} {e e' : Coded} (xs : List ℕ) (c : Chip) → e ≡ e' → s ≡ stepped_as (event_of c.setup e' xs) c → s ≡ stepped_as (event_of c.setup e xs) c
as_event xs c q h = h ∙ ap (λ (e : Coded). stepped_as (event_of c.setup e xs) c) (sym q)
