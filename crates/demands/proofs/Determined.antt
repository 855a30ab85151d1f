-- CHIP H1 to H6 leave nothing open: any four bits that keep them over all events are the chip's. So a stand-in that judges only the
-- first scan and then pretends, or that starts a run again when its bit is cleared, breaks one of them. Assumes nothing.
use Rattle.std.specs.Prelude.{◌≡◌, Bool, true, false, ◌↔◌}
use Rattle.std.proofs.Math.Path.{refl, sym, ap}
use Rattle.std.proofs.Common.{subst, ◌∙◌, eqb-true}
use mathlib.Core.List.{List, [], ◌∷◌}
use Rattle.std.proofs.Math.Logic.{◌∨₁◌}
use Rattle.events.specs.declared.Setup.{Setup}
use Rattle.events.specs.Event.{Event}
use Rattle.events.specs.declared.Fault.{Fault}
use Rattle.registers.specs.Fault.{bit_of}
use Rattle.demands.specs.Demand.{judges, wrote, clears, chip, up, Accepted, core, Due}
use Rattle.demands.proofs.Aside.{is_done, refuses}
use Rattle.demands.specs.Refused.{refused}
use Rattle.demands.proofs.Theorem.{rising, nothing_else_raises, lowers, down_in_ship, stays}

module _ (u : Setup) where
  -- what the claims say of one event, of any bits
  pub record Meets (b : Fault → List Event → Bool) : Type 0 where
    pub rises : (k : Fault) (past : List Event) (e : Event) → judges k e ≡ true → Accepted u past e
        → (b k (e ∷ past) ≡ true) ↔ ((b k past ≡ true) ∨₁ Due u k (e ∷ past))
    pub nothing_else_raises : (k : Fault) (past : List Event) (e : Event) → judges k e ≡ false → b k past ≡ false → b k (e ∷ past) ≡ false
    pub stays : (k : Fault) (past : List Event) (e : Event) → (core u (e ∷ past)).normal ≡ true → b k past ≡ true
        → clears k (wrote u (core u past) e) ≡ false → b k (e ∷ past) ≡ true
    pub lowers : (k : Fault) (past : List Event) (e : Event) → clears k (wrote u (core u past) e) ≡ true → b k (e ∷ past) ≡ false
    pub down_in_ship : (k : Fault) (past : List Event) → (core u past).normal ≡ false → b k past ≡ false
    pub refused_aside : (k : Fault) (past : List Event) (e : Event) → (Accepted u past e → ⊥) → b k (e ∷ past) ≡ b k past

  -- the chip's bits keep them
  pub chip_meets : Meets (up u)
  unfolding chip
  chip_meets =
      record {
        rises = rising u;
        nothing_else_raises = nothing_else_raises u;
        stays = stays u;
        lowers = lowers u;
        down_in_ship = down_in_ship u;
        refused_aside = λ k past e h. ap (λ c. bit_of k c.registers.shown.status) (refused e (chip u past) h);
      }

  same_when : (a b : Bool) → (a ≡ true → b ≡ true) → (b ≡ true → a ≡ true) → a ≡ b
  same_when true b f g = sym (f refl)
  same_when false true f g = g refl
  same_when false false f g = refl

  -- and any two that keep them are the same
  module _ (b d : Fault → List Event → Bool) (mb : Meets b) (md : Meets d) (k : Fault) where
    module _ (past : List Event) (e : Event) (before : b k past ≡ d k past) where
      judged : judges k e ≡ true → (x : Bool) → is_done u past e ≡ x → b k (e ∷ past) ≡ d k (e ∷ past)
      judged j true h =
          let n : Accepted u past e = eqb-true _ 0 h in
          let p = mb.rises k past e j n in
          let q = md.rises k past e j n in
          same_when (b k (e ∷ past)) (d k (e ∷ past))
          (λ t. q.1 (subst (λ w. (w ≡ true) ∨₁ Due u k (e ∷ past)) before (p.0 t)))
          (λ t. p.1 (subst (λ w. (w ≡ true) ∨₁ Due u k (e ∷ past)) (sym before) (q.0 t)))
      judged j false h =
          mb.refused_aside k past e (refuses u past e h) ∙ before ∙ sym (md.refused_aside k past e (refuses u past e h))

      unjudged : judges k e ≡ false → (core u (e ∷ past)).normal ≡ true → (c x : Bool) → clears k (wrote u (core u past) e) ≡ c
          → b k past ≡ x → b k (e ∷ past) ≡ d k (e ∷ past)
      unjudged j a true x h y = mb.lowers k past e h ∙ sym (md.lowers k past e h)
      unjudged j a false true h y = mb.stays k past e a y h ∙ sym (md.stays k past e a (sym before ∙ y) h)
      unjudged j a false false h y = mb.nothing_else_raises k past e j y ∙ sym (md.nothing_else_raises k past e j (sym before ∙ y))

      step : (a j : Bool) → (core u (e ∷ past)).normal ≡ a → judges k e ≡ j → b k (e ∷ past) ≡ d k (e ∷ past)
      step true true a j = judged j (is_done u past e) refl
      step true false a j = unjudged j a (clears k (wrote u (core u past) e)) (b k past) refl refl
      step false j a i = mb.down_in_ship k (e ∷ past) a ∙ sym (md.down_in_ship k (e ∷ past) a)

    pub determined : (past : List Event) → b k past ≡ d k past
    unfolding core
    determined [] = mb.down_in_ship k [] refl ∙ sym (md.down_in_ship k [] refl)
    determined (e ∷ past) = step past e (determined past) (core u (e ∷ past)).normal (judges k e) refl refl

  pub only_the_chip : (b : Fault → List Event → Bool) → Meets b → (k : Fault) (past : List Event) → b k past ≡ up u k past
  only_the_chip b m k past = determined b (up u) m chip_meets k past
