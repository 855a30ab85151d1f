-- CHIP H8, the proof: what remains of a stream, played by itself, shows what the full stream showed. Assumes nothing.
use Rattle.std.specs.Prelude.{◌≡◌, Bool, not, cond, List, [], ◌∷◌, ℕ, eqb}
use Rattle.std.proofs.Math.Path.{refl, ap, subst, subst₂}
use Rattle.std.proofs.Common.{sym, ◌∙◌, true≢false}
use Rattle.std.proofs.Math.Bool.{true, false, and-false}
use Rattle.crc8.specs.Crc.{byte_on}
use Rattle.events.specs.declared.Setup.{Setup}
use Rattle.events.specs.declared.BusEvent.TheVariants.{Start, Stop, Out, In}
use Rattle.events.specs.Event.{Event, Por, Boot, Pin, Xready, Scan, Temp, Count, Sense, Load, OnBus, Level}
use Rattle.bus.specs.declared.Phase.TheVariants.{Idle, Address, Writing, Checking}
use Rattle.bus.specs.Bus.{checked, outed, taken, byte_given, owing, refuses, stores}
use Rattle.chip.specs.declared.Chip.{Chip}
use Rattle.chip.specs.Answer.{Stepped}
use Rattle.chip.specs.Chip.{numbered, answered, in_ship, sent, on_bus, settled, stepped, next}
use Rattle.chip.specs.Calm.{Calmed}
use Rattle.chip.proofs.Calm.{ship_calm, calm_next, settles}
use Rattle.demands.specs.Demand.{chip}
use Rattle.demands.proofs.History.{calm_is}
use Rattle.demands.specs.Spoiled.{Sort, for_chips, for_resets, for_frames, for_sends, for_takes, sort_of, waiting, spoiled, Mode}
use Rattle.demands.specs.Spoiled.{frame_whole, frame_open, frame_lost, then, phased, seen_of, seen, played, remains, remained}
use Rattle.demands.specs.Opened.{mapped, apart, bus_is, bus_still, reset_is, spoiled_waits, spoiled_on, spoiled_out, opens}

-- ── the three ways through a stream ──
-- `base` is the chip but for its phase: the full stream's chip has the one phase, the remaining stream's chip the other
record Claim (es : List Event) : Type 0 where
  whole : (c : Chip) → Calmed c → played c (remains frame_whole c es) ≡ remained frame_whole c es
  opened : (v t s : ℕ) (base : Chip) → Calmed base → base.normal ≡ true → spoiled (phased (Checking v t) base) es ≡ true
      → played (phased (Writing s) base) (remains frame_open (phased (Checking v t) base) es)
      ≡ remained frame_open (phased (Checking v t) base) es
  lost : (s : ℕ) (base : Chip) → Calmed base → base.normal ≡ true
      → played (phased (Writing s) base) (remains frame_lost (phased Idle base) es) ≡ remained frame_lost (phased Idle base) es

-- an event by its sort
data View : Event → Type 0 where
  chips : (e : Event) → sort_of e ≡ for_chips → View e
  resets : View Por
  starts : View (OnBus Start)
  stops : View (OnBus Stop)
  sends : (b : ℕ) → View (OnBus (Out b))
  takes : (nack : Bool) → View (OnBus (In nack))

view : (e : Event) → View e
view Por = resets
view Boot = chips Boot refl
view Pin = chips Pin refl
view Xready = chips Xready refl
view (Scan xs) = chips (Scan xs) refl
view (Temp xs) = chips (Temp xs) refl
view (Count n) = chips (Count n) refl
view (Sense v) = chips (Sense v) refl
view (Load l) = chips (Load l) refl
view (OnBus Start) = starts
view (OnBus Stop) = stops
view (OnBus (Out b)) = sends b
view (OnBus (In nack)) = takes nack
view (Level l) = chips (Level l) refl

-- ── the CRC is refused ──
pub denied : (v t x : ℕ) (base : Chip) → Calmed base → base.normal ≡ true
    → eqb (stepped (OnBus (Out x)) (phased (Checking v t) base)).byte 1 ≡ true
    → stepped (OnBus (Out x)) (phased (Checking v t) base) ≡ answered 1 (phased Idle base)
unfolding outed checked
denied v t x base m a h =
    bus_is (Out x) (phased (Checking v t) base) a
    ∙ by (eqb x t) (subst (λ s. eqb s.byte 1 ≡ true) (bus_is (Out x) (phased (Checking v t) base) a) h)
  where
    by : (w : Bool)
        → eqb (sent (cond w (stores base.bus.line.pointer v) (refuses base.bus.line.pointer))
        (phased (Checking v t) base)).byte 1 ≡ true
        → settled
        (sent (cond w (stores base.bus.line.pointer v) (refuses base.bus.line.pointer)) (phased (Checking v t) base))
        ≡ answered 1 (phased Idle base)
    by true h = absurd (true≢false (sym h))
    by false h = settles (answered 1 (phased Idle base)) m

module _ (es : List Event) (ih : Claim es) where
  -- nothing spoiled is open: an OUT that opens such a byte is dropped, and the remaining stream's chip stays writing
  whole_out : (b : ℕ) (c : Chip) (x : Bool) → Calmed c → spoiled (next (OnBus (Out b)) c) es ≡ x
      → played c
      (cond x (remains (cond x frame_open frame_whole) (next (OnBus (Out b)) c) es)
      (OnBus (Out b) ∷ remains (cond x frame_open frame_whole) (next (OnBus (Out b)) c) es))
      ≡ cond x (remained (cond x frame_open frame_whole) (next (OnBus (Out b)) c) es)
      (seen (OnBus (Out b)) c ∷ remained (cond x frame_open frame_whole) (next (OnBus (Out b)) c) es)
  unfolding played
  whole_out b c true m h =
      let f = opens b c m (spoiled_waits (next (OnBus (Out b)) c) es h) in
      subst₂ (λ d c'. played d (remains frame_open c' es) ≡ remained frame_open c' es) (sym f.1) (sym f.2)
      (ih.opened b (byte_on f.0 b) f.0 c m f.3 (subst (λ d. spoiled d es ≡ true) f.2 h))
  whole_out b c false m h = ap (◌∷◌ (seen (OnBus (Out b)) c)) (ih.whole (next (OnBus (Out b)) c) (calm_next (OnBus (Out b)) c m))

  whole_step : (e : Event) (c : Chip) → Calmed c → View e → played c (remains frame_whole c (e ∷ es)) ≡ remained frame_whole c (e ∷ es)
  unfolding played remains remained
  whole_step e c m (chips _ h) = rw h (ap (◌∷◌ (seen e c)) (ih.whole (next e c) (calm_next e c m)))
  whole_step e c m resets = ap (◌∷◌ (seen Por c)) (ih.whole (next Por c) (calm_next Por c m))
  whole_step e c m starts = ap (◌∷◌ (seen (OnBus Start) c)) (ih.whole (next (OnBus Start) c) (calm_next (OnBus Start) c m))
  whole_step e c m stops = ap (◌∷◌ (seen (OnBus Stop) c)) (ih.whole (next (OnBus Stop) c) (calm_next (OnBus Stop) c m))
  whole_step e c m (sends b) = whole_out b c (spoiled (next (OnBus (Out b)) c) es) m refl
  whole_step e c m (takes nack) =
      ap (◌∷◌ (seen (OnBus (In nack)) c)) (ih.whole (next (OnBus (In nack)) c) (calm_next (OnBus (In nack)) c m))

  -- a record that remains, and one that is dropped, by what it did in the full stream (x) and in the remaining one (y); m is the way on
  abbrev Stays : Mode → Event → Stepped → Stepped → Type 0
  Stays m e x y = (seen_of e y ∷ played y.chip (remains m x.chip es)) ≡ (seen_of e x ∷ remained m x.chip es)

  abbrev Goes : Mode → Chip → Stepped → Type 0
  Goes m d x = played d (remains m x.chip es) ≡ remained m x.chip es

  abbrev on : Mode → Sort → Stepped → Mode
  on m t x = then m t (spoiled x.chip es) x.chip.normal

  -- while it is awake the stream is still lost
  lost_on : (P : Mode → Type 0) (w : Bool) → w ≡ true → P frame_lost → P (cond (not w) frame_whole frame_lost)
  lost_on P w h p = subst P (sym (ap (λ v. cond (not v) frame_whole frame_lost) h)) p

  -- its CRC was refused: the full stream's bus is idle, the remaining stream's is writing
  lost_step : (e : Event) (s : ℕ) (base : Chip) → Calmed base → base.normal ≡ true → View e
      → played (phased (Writing s) base) (remains frame_lost (phased Idle base) (e ∷ es)) ≡ remained frame_lost (phased Idle base) (e ∷ es)
  unfolding played remains remained outed taken owing byte_given
  lost_step e s base m a (chips _ h) =
      rw h (subst₂ (λ x y. Stays (on frame_lost for_chips x) e x y) (sym (apart Idle e base h a).0) (sym (apart (Writing s) e base h a).0)
      (lost_on (λ w. Stays w e (mapped Idle (stepped e base)) (mapped (Writing s) (stepped e base))) (next e base).normal
      (apart Idle e base h a).1
      (ap (◌∷◌ (seen e base)) (ih.lost s (next e base) (calm_next e base m) (apart Idle e base h a).1))))
  lost_step e s base m a resets =
      subst₂ (λ x y. Stays (on frame_lost for_resets x) Por x y) (sym (reset_is (phased Idle base)))
      (sym (reset_is (phased (Writing s) base)))
      (ap (◌∷◌ (seen_of Por (numbered 0 (in_ship base.setup)))) (ih.whole (in_ship base.setup) (ship_calm base.setup)))
  lost_step e s base m a starts =
      subst₂ (λ x y. Stays (on frame_lost for_frames x) (OnBus Start) x y) (sym (bus_still Start (phased Idle base) a m))
      (sym (bus_still Start (phased (Writing s) base) a m))
      (ap (◌∷◌ (seen_of (OnBus Start) (on_bus Start base))) (ih.whole (phased Address base) m))
  lost_step e s base m a stops =
      subst₂ (λ x y. Stays (on frame_lost for_frames x) (OnBus Stop) x y) (sym (bus_still Stop (phased Idle base) a m))
      (sym (bus_still Stop (phased (Writing s) base) a m))
      (ap (◌∷◌ (seen_of (OnBus Stop) (on_bus Stop base))) (ih.whole (phased Idle base) m))
  lost_step e s base m a (sends b) =
      subst (λ x. Goes (on frame_lost for_sends x) (phased (Writing s) base) x) (sym (bus_still (Out b) (phased Idle base) a m))
      (lost_on (λ w. Goes w (phased (Writing s) base) (answered 1 (phased Idle base))) base.normal a (ih.lost s base m a))
  lost_step e s base m a (takes nack) =
      subst (λ x. Goes (on frame_lost for_takes x) (phased (Writing s) base) x) (sym (bus_still (In nack) (phased Idle base) a m))
      (lost_on (λ w. Goes w (phased (Writing s) base) (answered 0xFF (phased Idle base))) base.normal a (ih.lost s base m a))

  -- its CRC has not come: the full stream's chip waits for it, the remaining stream's is writing
  not_open : {A : Type 0} (c : Chip) → waiting c ≡ false → spoiled c es ≡ true → A
  not_open c w h = absurd (true≢false (sym (spoiled_waits c es h) ∙ w))

  open_step : (e : Event) (v t s : ℕ) (base : Chip) → Calmed base → base.normal ≡ true
      → spoiled (phased (Checking v t) base) (e ∷ es) ≡ true → View e
      → played (phased (Writing s) base) (remains frame_open (phased (Checking v t) base) (e ∷ es))
      ≡ remained frame_open (phased (Checking v t) base) (e ∷ es)
  unfolding played remains remained taken owing byte_given
  open_step e v t s base m a h (chips _ k) =
      let p : stepped e (phased (Checking v t) base) ≡ mapped (Checking v t) (stepped e base) = (apart (Checking v t) e base k a).0 in
      let w : (next e base).normal ≡ true = (apart Idle e base k a).1 in
      rw k (subst₂ (λ x y. Stays frame_open e x y) (sym p) (sym (apart (Writing s) e base k a).0)
      (ap (◌∷◌ (seen e base))
      (ih.opened v t s (next e base) (calm_next e base m) w
      (subst (λ x. spoiled x.chip es ≡ true) p (spoiled_on (phased (Checking v t) base) e es (rw k) h)))))
  open_step e v t s base m a h resets =
      not_open (in_ship base.setup) refl
      (subst (λ x. spoiled x.chip es ≡ true) (reset_is (phased (Checking v t) base))
      (spoiled_on (phased (Checking v t) base) Por es refl h))
  open_step e v t s base m a h starts =
      not_open (phased Address base) (and-false base.normal)
      (subst (λ x. spoiled x.chip es ≡ true) (bus_still Start (phased (Checking v t) base) a m)
      (spoiled_on (phased (Checking v t) base) (OnBus Start) es refl h))
  open_step e v t s base m a h stops =
      not_open (phased Idle base) (and-false base.normal)
      (subst (λ x. spoiled x.chip es ≡ true) (bus_still Stop (phased (Checking v t) base) a m)
      (spoiled_on (phased (Checking v t) base) (OnBus Stop) es refl h))
  open_step e v t s base m a h (sends x) =
      subst (λ z. Goes frame_lost (phased (Writing s) base) z)
      (sym (denied v t x base m a (spoiled_out (phased (Checking v t) base) x es h)))
      (ih.lost s base m a)
  open_step e v t s base m a h (takes nack) =
      subst₂ (λ x y. Stays frame_open (OnBus (In nack)) x y) (sym (bus_still (In nack) (phased (Checking v t) base) a m))
      (sym (bus_still (In nack) (phased (Writing s) base) a m))
      (ap (◌∷◌ (seen_of (OnBus (In nack)) (answered 0xFF base))) (ih.opened v t s base m a
      (subst (λ x. spoiled x.chip es ≡ true) (bus_still (In nack) (phased (Checking v t) base) a m)
      (spoiled_on (phased (Checking v t) base) (OnBus (In nack)) es refl h))))

claim : (es : List Event) → Claim es
unfolding played remains remained spoiled
claim [] = record { whole = λ c m. refl; opened = λ v t s base m a h. refl; lost = λ s base m a. refl }
claim (e ∷ es) =
    record {
      whole = λ c m. whole_step es (claim es) e c m (view e);
      opened = λ v t s base m a h. open_step es (claim es) e v t s base m a h (view e);
      lost = λ s base m a. lost_step es (claim es) e s base m a (view e);
    }

-- CHIP H8: what remains of a stream, played by itself, shows at every record what the full stream showed there, its registers with the
-- outside level included; from any chip in which the level 1 and SYS_STAT 0 do not stand together ..
pub no_trace : (c : Chip) (es : List Event) → Calmed c → played c (remains frame_whole c es) ≡ remained frame_whole c es
no_trace c es m = (claim es).whole c m

-- .. and so from any state that events from power-up can reach
pub no_trace_reached : (u : Setup) (past es : List Event)
    → played (chip u past) (remains frame_whole (chip u past) es) ≡ remained frame_whole (chip u past) es
no_trace_reached u past es = no_trace (chip u past) es (calm_is u past)
