-- What the chip owes, of its definitions: SHIP leaves the reset registers and the setup and nothing else. Assumes nothing.
use Rattle.std.specs.Prelude.{◌≡◌, refl, Bool, true, false, cond, ℕ, ◌+◌, ◌*◌, eqb, None}
use Rattle.std.proofs.Common.{ap, ◌∙◌}
use Rattle.events.specs.declared.Setup.{Setup}
use Rattle.events.specs.declared.BusEvent.TheVariants.{Out}
use Rattle.events.specs.Event.{Por, OnBus, fits}
use Rattle.crc8.specs.Crc.{byte_on}
use Rattle.bus.specs.declared.Line.{Line}
use Rattle.bus.specs.declared.Phase.{Phase}
use Rattle.bus.specs.declared.Phase.TheVariants.{Idle, Address, Pointing, Writing, Checking, Reading, Summing}
use Rattle.bus.specs.declared.Outed.{Outed}
use Rattle.bus.specs.Bus.{Store, At, goes, refuses, stores, addressed, fed, checked, out_in, outed}
use Rattle.settings.specs.Write.{ships}
use Rattle.chip.specs.declared.Chip.{Chip}
use Rattle.chip.specs.Chip.{numbered, answered, in_ship, accepted, stored_at, stored, settled, normally, asleep, happened, stepped}
use Rattle.chip.proofs.MovesLaws.{normal_is}

-- ── SHIP ──
-- POR, in either mode
pub por_ships : (c : Chip) → stepped Por c ≡ numbered 0 (in_ship c.setup)
unfolding stepped happened fits
por_ships c = by c.normal
  where
    by : (a : Bool) → cond a (settled (normally Por c)) (asleep Por c) ≡ numbered 0 (in_ship c.setup)
    by true = refl
    by false = refl

-- a store that ships, whatever the line, the registers and the runs
pub store_ships : (l : Line) (a v : ℕ) (c : Chip) → ships a v c.registers.settings ≡ true → stored l (At a v) c ≡ in_ship c.setup
unfolding stored_at
store_ships l a v c h = ap (λ (t : Bool). cond t (in_ship c.setup) (accepted l a v c)) h

-- a byte that stores is acknowledged
stores_by : (t : Bool) (o p : Outed) (a v : ℕ) → (o.store ≡ At a v → o.byte ≡ 0) → (p.store ≡ At a v → p.byte ≡ 0)
    → (cond t o p).store ≡ At a v → (cond t o p).byte ≡ 0
stores_by true o p a v h k s = h s
stores_by false o p a v h k s = k s

no_store : (a v : ℕ) → None ≡ At a v → ◌≡◌ {A = ℕ} 1 0
no_store a v s = cc

stored_acked : (u : Setup) (p : Phase) (at b a v : ℕ) → (out_in u p at b).store ≡ At a v → (out_in u p at b).byte ≡ 0
unfolding addressed fed checked
stored_acked u Idle at b a v s = no_store a v s
stored_acked u Address at b a v s =
    stores_by (eqb b (u.address * 2)) (goes (Pointing (byte_on 0 b)) at)
    (cond (eqb b (u.address * 2 + 1)) (goes (Reading (byte_on 0 b) false) at) (refuses at)) a v
    (λ z. refl)
    (stores_by (eqb b (u.address * 2 + 1)) (goes (Reading (byte_on 0 b) false) at) (refuses at) a v (λ z. refl) (no_store a v)) s
stored_acked u (Pointing w) at b a v s = refl
stored_acked u (Writing w) at b a v s = stores_by u.crc (goes (Checking b (byte_on w b)) at) (stores at b) a v (λ z. refl) (λ z. refl) s
stored_acked u (Checking x w) at b a v s = stores_by (eqb b w) (stores at x) (refuses at) a v (λ z. refl) (no_store a v) s
stored_acked u (Reading w k) at b a v s = no_store a v s
stored_acked u (Summing k) at b a v s = no_store a v s

-- the byte that ships is acknowledged, and leaves the chip of SHIP
pub out_ships : (b a v : ℕ) (c : Chip) → c.normal ≡ true → (outed c.setup c.bus.line b).store ≡ At a v
    → ships a v c.registers.settings ≡ true
    → stepped (OnBus (Out b)) c ≡ answered 0 (in_ship c.setup)
unfolding fits outed
out_ships b a v c on s h =
    normal_is (OnBus (Out b)) c refl on
    ∙ ap (λ (t : ℕ). settled (answered t (stored o.line o.store c)))
    (stored_acked c.setup c.bus.line.phase c.bus.line.pointer b a v s)
    ∙ ap (λ (t : Store). settled (answered 0 (stored o.line t c))) s
    ∙ ap (λ (d : Chip). settled (answered 0 d)) (store_ships o.line a v c h)
  where
    o : Outed
    o = out_in c.setup c.bus.line.phase c.bus.line.pointer b
