-- CHIP H8, one record at a time: what a record does when a byte waits for its CRC, and what opens such a byte. Assumes nothing.
use Rattle.std.specs.Prelude.{◌≡◌, refl, Bool, true, false, cond, List, [], ◌∷◌, ℕ, ◌+◌, ◌*◌, eqb}
use Rattle.std.proofs.Common.{sym, ap, subst, ◌∙◌, true≢false}
use Rattle.bits.specs.BoolLaws.{and_left, and_right}
use Rattle.crc8.specs.Crc.{byte_on}
use Rattle.events.specs.declared.Setup.{Setup}
use Rattle.events.specs.declared.BusEvent.{BusEvent}
use Rattle.events.specs.declared.BusEvent.TheVariants.{Start, Stop, Out, In}
use Rattle.events.specs.Event.{Event, Por, Boot, Pin, Xready, Scan, Temp, Count, Sense, Load, OnBus, Level, fits}
use Rattle.bus.specs.declared.Phase.{Phase}
use Rattle.bus.specs.declared.Line.{Line}
use Rattle.bus.specs.Bus.{Store}
use Rattle.bus.specs.declared.Outed.{Outed}
use Rattle.bus.specs.declared.Phase.TheVariants.{Idle, Address, Pointing, Writing, Checking, Reading, Summing}
use Rattle.bus.specs.Bus.{addressed, fed, checked, out_in, outed, goes, refuses, stores}
use Rattle.chip.specs.declared.Chip.{Chip}
use Rattle.chip.specs.Answer.{Stepped}
use Rattle.chip.specs.Chip.{numbered, in_ship, stored, on_bus, watched, settled, normally, asleep, happened, stepped, next}
use Rattle.chip.proofs.MovesLaws.{normal_is, stored_by}
use Rattle.chip.specs.Calm.{Calmed}
use Rattle.chip.proofs.Calm.{calm_watched, settles}
use Rattle.demands.specs.Spoiled.{for_chips, sort_of, is_sends, checks, waiting, spoiled, phased}

-- ── the phase apart, a chip event does the same ──
abbrev pub mapped : Phase → Stepped → Stepped
mapped p s = record { chip = phased p s.chip; number = s.number; flag = s.flag; byte = s.byte }

apart_normal : (p : Phase) (e : Event) (c : Chip) → sort_of e ≡ for_chips
    → (normally e (phased p c) ≡ mapped p (normally e c)) × ((normally e c).chip.normal ≡ c.normal)
apart_normal p Por c h = (cc, cc)
apart_normal p Boot c h = (refl, refl)
apart_normal p Pin c h = (refl, refl)
apart_normal p Xready c h = (refl, refl)
apart_normal p (Scan xs) c h = (refl, refl)
apart_normal p (Temp xs) c h = (refl, refl)
apart_normal p (Count n) c h = (refl, refl)
apart_normal p (Sense v) c h = (refl, refl)
apart_normal p (Load l) c h = (refl, refl)
apart_normal p (OnBus Start) c h = (cc, cc)
apart_normal p (OnBus Stop) c h = (cc, cc)
apart_normal p (OnBus (Out b)) c h = (cc, cc)
apart_normal p (OnBus (In nack)) c h = (cc, cc)
apart_normal p (Level l) c h = (refl, refl)

pub apart : (p : Phase) (e : Event) (c : Chip) → sort_of e ≡ for_chips → c.normal ≡ true
    → (stepped e (phased p c) ≡ mapped p (stepped e c)) × ((next e c).normal ≡ true)
unfolding stepped happened
apart p e c h a = by (fits e) c.normal a
  where
    by : (f w : Bool) → w ≡ true
        → (cond f (cond w (settled (normally e (phased p c))) (asleep e (phased p c))) (numbered 3 (phased p c))
        ≡ mapped p (cond f (cond w (settled (normally e c)) (asleep e c)) (numbered 3 c)))
        × ((cond f (cond w (settled (normally e c)) (asleep e c)) (numbered 3 c)).chip.normal ≡ true)
    by true true w = (ap settled (apart_normal p e c h).0, (apart_normal p e c h).1 ∙ a)
    by true false w = (cc, cc)
    by false w z = (refl, a)

-- ── a bus event in NORMAL ──
pub bus_is : (b : BusEvent) (c : Chip) → c.normal ≡ true → stepped (OnBus b) c ≡ settled (on_bus b c)
unfolding fits
bus_is b c a = normal_is (OnBus b) c refl a

-- where it leaves no work for the outside level
pub bus_still : (b : BusEvent) (c : Chip) → c.normal ≡ true → Calmed (on_bus b c).chip → stepped (OnBus b) c ≡ on_bus b c
bus_still b c a m = bus_is b c a ∙ settles (on_bus b c) m

pub reset_is : (c : Chip) → stepped Por c ≡ numbered 0 (in_ship c.setup)
unfolding stepped happened fits
reset_is c = by c.normal
  where
    by : (a : Bool) → cond a (settled (normally Por c)) (asleep Por c) ≡ numbered 0 (in_ship c.setup)
    by true = refl
    by false = refl

asleep_out : (b : ℕ) (c : Chip) → c.normal ≡ false → next (OnBus (Out b)) c ≡ c
unfolding stepped happened fits
asleep_out b c a = by c.normal a
  where
    by : (w : Bool) → w ≡ false → (cond w (settled (normally (OnBus (Out b)) c)) (asleep (OnBus (Out b)) c)).chip ≡ c
    by w h = rw h

-- ── Bools ──
-- ── nothing is spoiled where no byte waits ──
pub spoiled_waits : (c : Chip) (es : List Event) → spoiled c es ≡ true → waiting c ≡ true
unfolding spoiled
spoiled_waits c [] h = cc
spoiled_waits c (e ∷ es) h = and_left (waiting c) (cond (is_sends (sort_of e)) (eqb (stepped e c).byte 1) (spoiled (next e c) es)) h

pub spoiled_on : (c : Chip) (e : Event) (es : List Event) → is_sends (sort_of e) ≡ false → spoiled c (e ∷ es) ≡ true
    → spoiled (next e c) es ≡ true
unfolding spoiled
spoiled_on c e es n h = rw n at (and_right (waiting c) (cond (is_sends (sort_of e)) (eqb (stepped e c).byte 1) (spoiled (next e c) es)) h)

pub spoiled_out : (c : Chip) (b : ℕ) (es : List Event) → spoiled c (OnBus (Out b) ∷ es) ≡ true
    → eqb (stepped (OnBus (Out b)) c).byte 1 ≡ true
unfolding spoiled
spoiled_out c b es h = and_right (waiting c) (eqb (stepped (OnBus (Out b)) c).byte 1) h

-- ── the byte that opens: before it the bus was writing, and it moved nothing but the phase ──
by_cond : {A : Type 0} (P : A → Type 0) (b : Bool) (x y : A) → (b ≡ true → P x) → (b ≡ false → P y) → P (cond b x y)
by_cond P true x y p q = p refl
by_cond P false x y p q = q refl

abbrev Opens : Phase → ℕ → ℕ → Outed → Type 0
Opens p a b o = checks o.line.phase ≡ true → (s : ℕ) × (p ≡ Writing s) × (o ≡ goes (Checking b (byte_on s b)) a)

opening : (u : Setup) (p : Phase) (a b : ℕ) → Opens p a b (out_in u p a b)
unfolding addressed fed checked
opening u Idle a b = λ h. absurd (true≢false (sym h))
opening u Address a b =
    by_cond (Opens Address a b) (eqb b (u.address * 2)) (goes (Pointing (byte_on 0 b)) a)
    (cond (eqb b (u.address * 2 + 1)) (goes (Reading (byte_on 0 b) false) a) (refuses a))
    (λ t h. absurd (true≢false (sym h)))
    (λ t. by_cond (Opens Address a b) (eqb b (u.address * 2 + 1)) (goes (Reading (byte_on 0 b) false) a) (refuses a)
    (λ t h. absurd (true≢false (sym h))) (λ t h. absurd (true≢false (sym h))))
opening u (Pointing s) a b = λ h. absurd (true≢false (sym h))
opening u (Writing s) a b =
    by_cond (Opens (Writing s) a b) u.crc (goes (Checking b (byte_on s b)) a) (stores a b) (λ t h. (s, refl, refl))
    (λ t h. absurd (true≢false (sym h)))
opening u (Checking v s) a b =
    by_cond (Opens (Checking v s) a b) (eqb b s) (stores a v) (refuses a) (λ t h. absurd (true≢false (sym h)))
    (λ t h. absurd (true≢false (sym h)))
opening u (Reading s k) a b = λ h. absurd (true≢false (sym h))
opening u (Summing k) a b = λ h. absurd (true≢false (sym h))

stored_waits : (l : Line) (t : Store) (c : Chip) → waiting (stored l t c) ≡ true → checks l.phase ≡ true
stored_waits l t c =
    stored_by (λ d. waiting d ≡ true → checks l.phase ≡ true) l t c
    (λ n h. and_right c.normal (checks l.phase) h)
    (λ a v n s h. cc)
    (λ a v n s h. and_right c.normal (checks l.phase) h)

pub opens : (b : ℕ) (c : Chip) → Calmed c → waiting (next (OnBus (Out b)) c) ≡ true
    → (s : ℕ) × (c ≡ phased (Writing s) c) × (next (OnBus (Out b)) c ≡ phased (Checking b (byte_on s b)) c) × (c.normal ≡ true)
unfolding outed
opens b c m h = (
  f.0,
  λ i. phased_at (f.1 i),
  ap (λ s. s.chip) (bus_is (Out b) c a) ∙ ap (λ o. watched (stored o.line o.store c)) f.2
      ∙ calm_watched (phased_at (Checking b (byte_on f.0 b))) m,
  a,
)
  where
    a : c.normal ≡ true
    a = by c.normal refl
      where
        by : (w : Bool) → c.normal ≡ w → w ≡ true
        by true z = refl
        by false z = sym (sym (and_left c.normal (checks c.bus.line.phase) (rw (asleep_out b c z) at h)) ∙ z)

    o : Outed
    o = out_in c.setup c.bus.line.phase c.bus.line.pointer b

    f : (s : ℕ) × (c.bus.line.phase ≡ Writing s) × (o ≡ goes (Checking b (byte_on s b)) c.bus.line.pointer)
    f = opening c.setup c.bus.line.phase c.bus.line.pointer b
        (stored_waits o.line o.store c (subst (λ s. waiting s.chip ≡ true) (bus_is (Out b) c a) h))

    phased_at : Phase → Chip
    phased_at p = phased p c
