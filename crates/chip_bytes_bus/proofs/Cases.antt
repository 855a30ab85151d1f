-- The bus of a chip that bytes have, event by event. Assumes nothing.
use mathlib.Core.Path.{◌≡◌, sym, ap, ap₂, ◌∙◌}
use mathlib.Core.Bool.{Bool}
use mathlib.Core.List.{List}
use Prim.Native.Nat.{ℕ}
use Rattle.events.specs.declared.Setup.{Setup}
use Rattle.events.specs.declared.BusEvent.{BusEvent}
use Rattle.events.specs.declared.BusEvent.TheVariants.{Start, Out, In, Stop}
use Rattle.bus.specs.declared.Line.{Line}
use Rattle.bus.specs.declared.Bus.{Bus}
use Rattle.bus.specs.declared.Outed.{Outed}
use Rattle.bus.specs.declared.Taken.{Taken}
use Rattle.std.specs.Prelude.{Some, None}
use Rattle.bus.specs.Bus.{started, stopped, outed, wanted, takes}
use Rattle.registers.specs.declared.Pair.{Pair}
use Rattle.registers.specs.Read.{pair_at}
use Rattle.chip.specs.Answer.{Heard}
use Rattle.chip.specs.Chip.{taken_by}
use Rattle.chip.specs.Parts.{unheard, sent_on, handed_over, heard_of}
use Rattle.chip.proofs.Told.{told_pair, told_none}
use Rattle.chip_bytes_layout.specs.Layout.{setup_at, bus_at, registers_at, chip_at}

module _ (b : List ℕ) {u : Bus} (hu : u ≡ bus_at b) where
  -- IN
  module _ (nack : Bool) {v : Setup} {t : Taken} (hv : v ≡ setup_at b) where
    pub taken_pair : (a : ℕ) {p : Pair} → wanted (bus_at b) ≡ Some a → p ≡ pair_at v (registers_at b) a → t ≡ takes v p.here p.low nack u
        → t ≡ taken_by nack (chip_at b)
    unfolding chip_at
    taken_pair a {p} w hp h =
        told_pair (chip_at b) nack a p w (hp ∙ ap (λ (v : Setup). pair_at v (registers_at b) a) hv)
        (h ∙ ap₂ (λ (v : Setup) (u : Bus). takes v p.here p.low nack u) hv hu)

    pub taken_none : wanted (bus_at b) ≡ None → t ≡ takes v 0 0 nack u → t ≡ taken_by nack (chip_at b)
    unfolding chip_at
    taken_none w h = told_none (chip_at b) nack w (h ∙ ap₂ (λ (v : Setup) (u : Bus). takes v 0 0 nack u) hv hu)

  module _ (e : BusEvent) {h : Heard} where
    pub hears_start : {l : Line} → e ≡ Start → l ≡ started u.line → h ≡ unheard l u → h ≡ heard_of e (chip_at b)
    unfolding heard_of chip_at
    hears_start q hl k =
        k ∙ ap (λ (l : Line). unheard l u) hl ∙ ap (λ (u : Bus). unheard (started u.line) u) hu ∙ ap (λ (e : BusEvent). heard_of e (chip_at b)) (sym q)

    pub hears_stop : {l : Line} → e ≡ Stop → l ≡ stopped u.line → h ≡ unheard l u → h ≡ heard_of e (chip_at b)
    unfolding heard_of chip_at
    hears_stop q hl k =
        k ∙ ap (λ (l : Line). unheard l u) hl ∙ ap (λ (u : Bus). unheard (stopped u.line) u) hu ∙ ap (λ (e : BusEvent). heard_of e (chip_at b)) (sym q)

    pub hears_out : (y : ℕ) {v : Setup} {o : Outed} → e ≡ Out y → v ≡ setup_at b → o ≡ outed v u.line y → h ≡ sent_on o u → h ≡ heard_of e (chip_at b)
    unfolding heard_of chip_at
    hears_out y q hv ho k =
        k ∙ ap (λ (o : Outed). sent_on o u) ho ∙ ap₂ (λ (v : Setup) (u : Bus). sent_on (outed v u.line y) u) hv hu
        ∙ ap (λ (e : BusEvent). heard_of e (chip_at b)) (sym q)

    pub hears_in : (nack : Bool) {t : Taken} → e ≡ In nack → t ≡ taken_by nack (chip_at b) → h ≡ handed_over t → h ≡ heard_of e (chip_at b)
    unfolding heard_of
    hears_in nack q ht k = k ∙ ap handed_over ht ∙ ap (λ (e : BusEvent). heard_of e (chip_at b)) (sym q)
