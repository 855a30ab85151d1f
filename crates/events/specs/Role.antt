-- CHIP R4 and W1: what an event's record does to the chip that stands. Assumes nothing.
use Rattle.std.specs.Prelude.{◌≡◌, refl, ℕ}
use Rattle.events.specs.declared.Setup.{Setup as SetupValues}
use Rattle.events.specs.declared.Role.{Role}
use Rattle.events.specs.declared.Role.TheVariants.{Makes, Rewires, Happens}
use Rattle.events.specs.declared.Event.{Event}
use Rattle.events.specs.declared.Event.TheVariants.{Setup, Por, Boot, Scan, Temp, Count, Sense, Pin, Load, Xready, OnBus, Level}
use Rattle.events.specs.declared.Event.TheVariants.{Ticks, Soak, Wires}

-- SETUP makes a chip, a wiring record makes it anew with its cells, every other event happens to it
abbrev pub role_of : Event → Role
role_of (Setup v) = Makes v
role_of Por = Happens
role_of Boot = Happens
role_of Scan = Happens
role_of Temp = Happens
role_of (Count n) = Happens
role_of (Sense v) = Happens
role_of Pin = Happens
role_of (Load l) = Happens
role_of Xready = Happens
role_of (OnBus b) = Happens
role_of (Level l) = Happens
role_of (Ticks v n) = Happens
role_of (Soak v n) = Happens
role_of (Wires n) = Rewires n

-- what holds of SETUP, of a wiring record and of every event that happens holds of all
pub by_role : (P : Event → Type 0) → ((v : SetupValues) → P (Setup v)) → ((n : ℕ) → P (Wires n))
    → ((e : Event) → role_of e ≡ Happens → P e) → (e : Event) → P e
by_role P s w h (Setup v) = s v
by_role P s w h Por = h Por refl
by_role P s w h Boot = h Boot refl
by_role P s w h Scan = h Scan refl
by_role P s w h Temp = h Temp refl
by_role P s w h (Count n) = h (Count n) refl
by_role P s w h (Sense v) = h (Sense v) refl
by_role P s w h Pin = h Pin refl
by_role P s w h (Load l) = h (Load l) refl
by_role P s w h Xready = h Xready refl
by_role P s w h (OnBus b) = h (OnBus b) refl
by_role P s w h (Level l) = h (Level l) refl
by_role P s w h (Ticks v n) = h (Ticks v n) refl
by_role P s w h (Soak v n) = h (Soak v n) refl
by_role P s w h (Wires n) = w n

-- what makes a chip is SETUP, what makes it anew a wiring record
pub makes_is : (e : Event) (v : SetupValues) → role_of e ≡ Makes v → e ≡ Setup v
makes_is = by_role (λ (e : Event). (v : SetupValues) → role_of e ≡ Makes v → e ≡ Setup v) (λ u v q. cc) (λ n v q. cc) (λ e h v q. cc)

pub rewires_is : (e : Event) (n : ℕ) → role_of e ≡ Rewires n → e ≡ Wires n
rewires_is = by_role (λ (e : Event). (n : ℕ) → role_of e ≡ Rewires n → e ≡ Wires n) (λ u n q. cc) (λ m n q. cc) (λ e h n q. cc)
