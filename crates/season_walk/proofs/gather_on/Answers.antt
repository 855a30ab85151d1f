-- The loop over a stream, by the laws of Going.
use Rattle.std.proofs.Common.{Bool, Err, List, Result, ap, arith, refl, rules, cond, length, subst, sym, ℕ, ◌+◌, ◌∙◌, ◌≡◌}
use Rattle.chip.specs.declared.Chip.{Chip}
use Rattle.season.specs.Columns.{Season, in_columns, reported, refused_by}
use Rattle.turn.specs.TurnedLaws.{as_turn}
use Rattle.constants.specs.Refusal.{number_of, said_of}
use Rattle.constants.specs.declared.refusal.Refusal.{Refusal}
use Rattle.constants.proofs.RefusalLaws.{no_zero}
use Rattle.season_rows.proofs.SaidLaws.{said_reported}
use Rattle.season_walk.specs.Scans.{place_after}
use Rattle.season_walk.specs.PiecesLaws.{place_is}
use Rattle.season_walk.proofs.Going.{Going, going_none, going_end, going_first, going_full, going_place, next_inside, going_more}
use Rattle.season_walk.proofs.gather_on.Goals as goal
use Rattle.season_walk.proofs.gather_on.Goals.{After-turn-turned, Start}

-- at a record that was heard
module _ (r : Start) where
  abbrev s : List ℕ
  s = r.args.s.now

going-as : {o₀ : Bool} {c₀ : Chip} {s : List ℕ} {o : Bool} {c : Chip} {v w : Season} {a b : ℕ} → v ≡ w → a ≡ b → Going o₀ c₀ s o c v a → Going o₀ c₀ s o c w b
going-as {o₀ = o₀} {c₀ = c₀} {s = s} {o = o} {c = c} {w = w} {a = a} p q g = subst (λ (a : ℕ). Going o₀ c₀ s o c w a) q (subst (λ (v : Season). Going o₀ c₀ s o c v a) p g)

-- at its turn
module _ (t : After-turn-turned) where
  -- the place after it
  placed : {a : ℕ} → a ≡ place_after t.loop-at.at (as_turn t.turn-turned.result).next (as_turn t.turn-turned.result).last (length t.args.s.now) → a ≡ cond (as_turn t.turn-turned.result).last (length t.args.s.now) (t.loop-at.at + (as_turn t.turn-turned.result).next)
  placed e =
      e ∙ place_is t.loop-at.at (as_turn t.turn-turned.result).next (as_turn t.turn-turned.result).last (length t.args.s.now)
      (next_inside t.args.fresh t.args.chip t.args.s.now t.loop-at.takes t.loop-at.stands (in_columns t.loop-at.report) t.loop-at.at t.loop-at.invariant t.loop-at-test.true (as_turn t.turn-turned.result) t.turn-turned.ensures)

pub loop-at-init : goal.loop-at-init
loop-at-init c = going_none c.args.fresh c.args.chip c.args.s.now (in_columns c.args.report.now) c.requires

pub loop-at-smaller : goal.loop-at-smaller
loop-at-smaller c = omega (arith, placed (goal.at.loop-at-smaller c).After-turn-turned c.place_after-at.ensures, going_place c.args.fresh c.args.chip c.args.s.now c.loop-at.takes c.loop-at.stands (in_columns c.loop-at.report) c.loop-at.at c.loop-at.invariant c.loop-at-test.true (as_turn c.turn-turned.result) c.turn-turned.ensures)

pub returns-in_err-hear : goal.returns-in_err-hear
returns-in_err-hear c = let was = in_columns c.loop-at.report in
    let now = in_columns c.hear.new.report in
    let why = c.in_err-hear.field-0.0 in
    let e : c.from_residual.result ≡ Err why = search rules in
    ap (said_of (λ (t : Unit). now)) e ∙ sym (said_reported now (Err why))
    ∙ going_full c.args.fresh c.args.chip c.args.s.now c.loop-at.takes c.loop-at.stands was c.loop-at.at c.loop-at.invariant c.loop-at-test.true (reported (number_of why) now)
    (ap (λ (r : Result Unit Refusal). reported (refused_by r) now) (sym c.in_err-hear.was) ∙ c.hear.ensures) (no_zero why)

pub begin-requires : goal.begin-requires
begin-requires c = let was = in_columns c.loop-at.report in
    let now = in_columns c.hear.new.report in
    going_first c.args.fresh c.args.chip c.args.s.now c.loop-at.takes c.loop-at.stands was c.loop-at.at c.loop-at.invariant c.loop-at-test.true (reported 0 now)
    (ap (λ (r : Result Unit Refusal). reported (refused_by r) now) (sym c.in_ok-hear.was) ∙ c.hear.ensures) refl

pub loop-at-preserved : goal.loop-at-preserved
loop-at-preserved c = let was = in_columns c.loop-at.report in
    let now = in_columns c.hear.new.report in
    going-as (sym c.begin.ensures) (sym (placed (goal.at.loop-at-preserved c).After-turn-turned c.place_after-at.ensures))
    (going_more c.args.fresh c.args.chip c.args.s.now c.loop-at.takes c.loop-at.stands was c.loop-at.at c.loop-at.invariant c.loop-at-test.true (reported 0 now)
    (ap (λ (r : Result Unit Refusal). reported (refused_by r) now) (sym c.in_ok-hear.was) ∙ c.hear.ensures) refl (as_turn c.turn-turned.result) c.turn-turned.ensures)

pub returns : goal.returns
returns c = going_end c.args.fresh c.args.chip c.args.s.now c.loop-at.takes c.loop-at.stands (in_columns c.loop-at.report) c.loop-at.at c.loop-at.invariant c.loop-at-test.false (reported 0 (in_columns c.loop-at.report)) refl
