-- An event of the bus moves the bus and what it stores, in the bytes as in the chip. Assumes nothing.
use Rattle.std.specs.Prelude.{◌≡◌, refl, Bool, true, false, cond, List, ◌++◌, ℕ, Some, None, take, drop}
use Rattle.std.proofs.Common.{sym, ap, ◌∙◌, subst}
use Rattle.events.specs.declared.BusEvent.{BusEvent}
use Rattle.events.specs.declared.BusEvent.TheVariants.{Start, Out, In, Stop}
use Rattle.events.specs.Event.{OnBus}
use Rattle.bus.specs.declared.Bus.{Bus}
use Rattle.bus.specs.Bus.{Store}
use Rattle.bus.specs.declared.Outed.{Outed}
use Rattle.bus.specs.Bus.{with_line, outed}
use Rattle.settings.specs.Write.{ships}
use Rattle.registers.specs.declared.Shown.{Shown}
use Rattle.chip.specs.declared.Chip.{Chip}
use Rattle.chip.specs.Answer.{Heard}
use Rattle.chip.specs.Chip.{with_bus, answered, in_ship, accepted, stored_at, stored, normally}
use Rattle.chip.specs.Calm.{Calmed}
use Rattle.chip.specs.Parts.{heard_of}
use Rattle.chip_bytes_layout.specs.Place.{FRESH}
use Rattle.chip_bytes_layout.specs.Layout.{plain_of, switches_of, words_of, chip_bytes, switch_at, shown_at, good_of}
use Rattle.chip_bytes_layout.specs.Did.{Awake, chip_here, says, Did}
use Rattle.chip_bytes_layout.proofs.DidLaws.{calm, bytes_are, did, shown_back}
use Rattle.chip_bytes_bus.specs.Heard.{bus_in, KeptBy, kept_chip}

moved : (c : Chip) (f : Bool) (u : Bus) (rest : List ℕ) → bus_in u (chip_bytes c f ++ rest) ≡ chip_bytes (with_bus u c) false ++ rest
unfolding chip_bytes plain_of switches_of words_of
moved c f u rest = refl

-- ── the store ──
pub kept_not : (t : Store) (b new : List ℕ) → KeptBy t b false new → new ≡ b
kept_not None b new k = k
kept_not (Some w) b new k = k

-- it does not ship
abbrev Stays : Store → Chip → Type 0
Stays None c = Unit
Stays (Some w) c = ships w.at w.value c.registers.settings ≡ false

module _ (b new : List ℕ) where
  kept_stays : (t : Store) → KeptBy t b true new → Stays t (chip_here b)
  kept_stays None k = tt
  kept_stays (Some w) k = k.stays

  kept_calm : (t : Store) → KeptBy t b true new → Calmed (chip_here b) → Calmed (kept_chip t (chip_here b))
  kept_calm None k = λ h. h
  kept_calm (Some w) k = k.calm

  kept_are : (t : Store) → KeptBy t b true new → (f : Bool) (rest : List ℕ) → b ≡ chip_bytes (chip_here b) f ++ rest
      → new ≡ chip_bytes (kept_chip t (chip_here b)) f ++ rest
  kept_are None k = λ f rest e. k ∙ e
  kept_are (Some w) k = k.leaves

  kept_part : (t : Store) → (kept_chip t (chip_here b)).setup.part ≡ (chip_here b).setup.part
  kept_part None = refl
  kept_part (Some w) = refl

-- the bus, and what it stores, are all that it moves
heard_normal : (e : BusEvent) (c : Chip) → Stays (heard_of e c).store c
    → says (heard_of e c).flag (heard_of e c).byte (with_bus (heard_of e c).bus (kept_chip (heard_of e c).store c)) ≡ normally (OnBus e) c
unfolding heard_of stored_at
heard_normal Start c n = refl
heard_normal Stop c n = refl
heard_normal (In k) c n = refl
heard_normal (Out b) c n = by (outed c.setup c.bus.line b).store n
  where
    o : Outed
    o = outed c.setup c.bus.line b

    by : (t : Store) → Stays t c
        → answered o.byte (with_bus (with_line o.line c.bus) (kept_chip t c)) ≡ answered o.byte (stored o.line t c)
    by None n = refl
    by (Some w) n = ap (λ (t : Bool). answered o.byte (cond t (in_ship c.setup) (accepted o.line w.at w.value c))) (sym n)

-- by what was read of them
pub hears_did : (b : List ℕ) (e : BusEvent) {h : Heard} (mid : List ℕ) {shown : Shown} {new : List ℕ} → Awake b
    → h ≡ heard_of e (chip_here b)
    → KeptBy h.store b true mid → new ≡ bus_in h.bus mid → shown ≡ shown_at (take 96 new) → good_of b ≡ true
    → Did b (OnBus e) h.flag h.byte shown new
hears_did b e {h = h} mid {shown = shown} {new = new} w q k m s g =
    let c : Chip = kept_chip h.store (chip_here b) in
    let are : new ≡ chip_bytes (with_bus h.bus c) false ++ drop 96 b =
    m ∙ ap (bus_in h.bus) (kept_are b mid h.store k (switch_at (take 96 b) FRESH) (drop 96 b) (sym (bytes_are b w g)))
    ∙ moved c (switch_at (take 96 b) FRESH) h.bus (drop 96 b) in
    did b w g (OnBus e) (with_bus h.bus c) h.flag h.byte shown new (kept_part b mid h.store)
    (kept_calm b mid h.store k (calm b w g))
    (ap (λ (h : Heard). says h.flag h.byte (with_bus h.bus (kept_chip h.store (chip_here b)))) q
    ∙ heard_normal e (chip_here b) (subst (λ (h : Heard). Stays h.store (chip_here b)) q (kept_stays b mid h.store k)))
    (s ∙ ap (λ (l : List ℕ). shown_at (take 96 l)) are ∙ shown_back (with_bus h.bus c) false (drop 96 b))
    are
