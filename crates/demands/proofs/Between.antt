-- CHIP H4 over several scans or ticks: host traffic put in anywhere, that leaves the rule of a fault (that it is
-- measured, its limit, its delay) and the mode as they were, leaves every verdict on it, and so what is due. Assumes nothing.
use Rattle.std.specs.Prelude.{◌≡◌, Bool, ◌↔◌}
use Rattle.std.proofs.Math.Path.{refl, sym, ap}
use Rattle.std.proofs.Common.{◌∙◌, true≢false}
use Rattle.std.proofs.Math.Bool.{true, false, cond}
use mathlib.Core.List.{List, [], ◌∷◌, ◌++◌}
use Rattle.std.proofs.Math.Logic.Iff
use Rattle.events.specs.declared.Setup.{Setup}
use Rattle.events.specs.declared.BusEvent.{BusEvent}
use Rattle.events.specs.Event.{Event, Por, Boot, Pin, Xready, Scan, Temp, Count, Sense, Load, OnBus, Level, fits}
use Rattle.events.specs.declared.Fault.{Fault}
use Rattle.limits.specs.declared.Rule.{Rule}
use Rattle.limits.specs.Rule.{rule, opinion}
use Rattle.chip.specs.declared.Chip.{Chip}
use Rattle.chip.specs.Chip.{in_ship, next}
use Rattle.chip.specs.Core.{Core, core_of, bare, core_next}
use Rattle.chip.proofs.MovesLaws.{next_by}
use Rattle.demands.specs.Demand.{core, verdicts, Due}
use Rattle.demands.proofs.History.{asleep_none}

-- an event that is no host traffic
abbrev pub Outside : Event → Type 0
Outside Por = Unit
Outside Boot = Unit
Outside Pin = Unit
Outside Xready = Unit
Outside (Scan xs) = Unit
Outside (Temp xs) = Unit
Outside (Count n) = Unit
Outside (Sense v) = Unit
Outside (Load l) = Unit
Outside (OnBus b) = ⊥
Outside (Level l) = Unit

module _ (u : Setup) (k : Fault) where
  -- one rule for k, and one mode
  abbrev pub Alike : Core → Core → Type 0
  Alike c d = (rule k c.settings ≡ rule k d.settings) × (c.normal ≡ d.normal)

  -- ── two histories, the second with traffic put in ──
  pub data PutIn : List Event → List Event → Type 0 where
    start : PutIn [] []
    -- what comes from outside comes to both
    outside : (e : Event) (p q : List Event) → Outside e → PutIn p q → PutIn (e ∷ p) (e ∷ q)
    -- traffic of the second alone leaves rule and mode
    put_in : (b : BusEvent) (p q : List Event) → Alike (core u (OnBus b ∷ q)) (core u q) → PutIn p q → PutIn p (OnBus b ∷ q)
    -- traffic of both does the same to them
    shared : (b : BusEvent) (p q : List Event) → Alike (core u (OnBus b ∷ p)) (core u (OnBus b ∷ q)) → PutIn p q
        → PutIn (OnBus b ∷ p) (OnBus b ∷ q)

  -- ── what comes from outside keeps two cores alike ──
  abbrev Kept : Core → Chip → Type 0
  Kept c d = (d.registers.settings ≡ c.settings) × (d.normal ≡ c.normal)

  settled : (e : Event) (c d : Core) → Alike c d → ((c : Core) → Kept c (next e (bare u c))) → Alike (core_next u e c) (core_next u e d)
  settled e c d a h = (ap (rule k) (h c).0 ∙ a.0 ∙ sym (ap (rule k) (h d).0), (h c).1 ∙ a.1 ∙ sym (h d).1)

  por_is : (c : Core) → core_next u Por c ≡ core_of (in_ship u)
  unfolding fits
  por_is c = next_by (λ d. core_of d ≡ core_of (in_ship u)) Por (bare u c) (λ f a. refl) (λ f a. refl) (λ f. absurd (true≢false f))

  boot_is : (c : Core) → ((core_next u Boot c).settings ≡ c.settings) × ((core_next u Boot c).normal ≡ true)
  unfolding fits
  boot_is c =
      next_by (λ d. (d.registers.settings ≡ c.settings) × (d.normal ≡ true)) Boot (bare u c) (λ f a. (refl, a)) (λ f a. (refl, refl))
      (λ f. absurd (true≢false f))

  alike_next : (e : Event) → Outside e → (c d : Core) → Alike c d → Alike (core_next u e c) (core_next u e d)
  alike_next Por o c d a = (ap (λ x. rule k x.settings) (por_is c ∙ sym (por_is d)), ap (λ x. x.normal) (por_is c ∙ sym (por_is d)))
  alike_next Boot o c d a = (ap (rule k) (boot_is c).0 ∙ a.0 ∙ sym (ap (rule k) (boot_is d).0), (boot_is c).1 ∙ sym (boot_is d).1)
  alike_next Pin o c d a =
      settled Pin c d a (λ c. next_by (Kept c) Pin (bare u c) (λ f a. (refl, refl)) (λ f a. (refl, refl)) (λ f. (refl, refl)))
  alike_next Xready o c d a =
      settled Xready c d a (λ c. next_by (Kept c) Xready (bare u c) (λ f a. (refl, refl)) (λ f a. (refl, refl)) (λ f. (refl, refl)))
  alike_next (Scan xs) o c d a =
      settled (Scan xs) c d a (λ c. next_by (Kept c) (Scan xs) (bare u c) (λ f a. (refl, refl)) (λ f a. (refl, refl)) (λ f. (refl, refl)))
  alike_next (Temp xs) o c d a =
      settled (Temp xs) c d a (λ c. next_by (Kept c) (Temp xs) (bare u c) (λ f a. (refl, refl)) (λ f a. (refl, refl)) (λ f. (refl, refl)))
  alike_next (Count n) o c d a =
      settled (Count n) c d a (λ c. next_by (Kept c) (Count n) (bare u c) (λ f a. (refl, refl)) (λ f a. (refl, refl)) (λ f. (refl, refl)))
  alike_next (Sense v) o c d a =
      settled (Sense v) c d a (λ c. next_by (Kept c) (Sense v) (bare u c) (λ f a. (refl, refl)) (λ f a. (refl, refl)) (λ f. (refl, refl)))
  alike_next (Load l) o c d a =
      settled (Load l) c d a (λ c. next_by (Kept c) (Load l) (bare u c) (λ f a. (refl, refl)) (λ f a. (refl, refl)) (λ f. (refl, refl)))
  alike_next (OnBus b) o c d a = absurd o
  alike_next (Level l) o c d a =
      settled (Level l) c d a (λ c. next_by (Kept c) (Level l) (bare u c) (λ f a. (refl, refl)) (λ f a. (refl, refl)) (λ f. (refl, refl)))

  -- ── the verdicts ──
  pub alike : {p q : List Event} → PutIn p q → Alike (core u p) (core u q)
  unfolding core
  alike start = (refl, refl)
  alike (outside e p q o h) = alike_next e o (core u p) (core u q) (alike h)
  alike (put_in b p q a h) = ((alike h).0 ∙ sym a.0, (alike h).1 ∙ sym a.1)
  alike (shared b p q a h) = a

  -- one event of both
  both_say : (e : Event) (p q : List Event) → Alike (core u p) (core u q) → (core u (e ∷ p)).normal ≡ (core u (e ∷ q)).normal
      → verdicts u k p ≡ verdicts u k q
      → verdicts u k (e ∷ p) ≡ verdicts u k (e ∷ q)
  unfolding verdicts
  both_say e p q a w same = λ i. cond (w i) (cond (fits e) (opinion k u.floor (a.0 i) e) [] ++ same i) []

  -- traffic says nothing of k
  silent : (b : BusEvent) (q : List Event) → (core u (OnBus b ∷ q)).normal ≡ (core u q).normal → verdicts u k (OnBus b ∷ q) ≡ verdicts u k q
  unfolding verdicts fits
  silent b q w = ap (λ (t : Bool). cond t (verdicts u k q) []) w ∙ by (core u q).normal (asleep_none u k q)
    where
      by : (t : Bool) → (t ≡ false → verdicts u k q ≡ []) → cond t (verdicts u k q) [] ≡ verdicts u k q
      by true s = refl
      by false s = sym (s refl)

  -- THE VERDICTS on k are the same with the traffic and without it
  pub verdicts_same : {p q : List Event} → PutIn p q → verdicts u k p ≡ verdicts u k q
  verdicts_same start = refl
  verdicts_same (outside e p q o h) = both_say e p q (alike h) (alike (outside e p q o h)).1 (verdicts_same h)
  verdicts_same (put_in b p q a h) = verdicts_same h ∙ sym (silent b q a.1)
  verdicts_same (shared b p q a h) = both_say (OnBus b) p q (alike h) a.1 (verdicts_same h)

  -- .. and so is what is due
  pub due_same : {p q : List Event} → PutIn p q → Due u k p ↔ Due u k q
  due_same h = rw (verdicts_same h, ap (λ (r : Rule). r.need) (alike h).0) Iff.rfl
