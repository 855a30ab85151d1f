-- The walk: what stands at its head, by the laws of Loop.
use Rattle.std.proofs.Common.{List, ap, arith, drop, length, of_z, rules, subst, sym, take, to_z, w32, ℕ, ◌+◌, ◌-◌, ◌∙◌, ◌≡◌, ◌≤◌, Some}
use Rattle.records.specs.declared.Read.TheVariants.{Record}
use Rattle.events.specs.declared.Event.{Event}
use Rattle.events.specs.declared.Event.TheVariants.{Sense}
use Rattle.records.specs.Record.{read_of}
use Rattle.plain_due.specs.Streaks.{Streaks, no_streaks}
use borrow.Enum.Refused.{opened}
use Rattle.plain_back.specs.declared.Walk.{Walk}
use Rattle.plain_back.specs.declared.Tick.{Tick}
use Rattle.plain_back.specs.declared.Passed.{Passed}
use Rattle.plain_back.specs.Walk.{TickIn, ticks_said, passed_on}
use Rattle.plain_back.proofs.Loop.{Walking, walking_first, said_none, first_other, walking_end, walking_cut, walking_more, tick_passes, small}
use Rattle.plain_back.proofs.walk_over.Goals as goal
use Rattle.plain_back.proofs.walk_over.Goals.{After-ticks_said-walk}

-- none said
none : (w : Streaks) → (w.ov ≡ 0) × ((w.uv ≡ 0) × ((w.scd ≡ 0) × (w.ocd ≡ 0))) → w ≡ no_streaks
none w e = λ i. record { ov = e.0 i; uv = e.1.0 i; scd = e.1.1.0 i; ocd = e.1.1.1 i }

-- a tick, in place
module _ (t : After-ticks_said-walk) where
  abbrev s : List ℕ
  s = t.args.s.now

  abbrev w : Walk
  w = t.loop-at.walk

  abbrev at : ℕ
  at = t.loop-at.at

  abbrev tick : Tick
  tick = t.in-Some.tick

  abbrev after : Passed
  after = record { walk = record { chip = w.chip; said = t.ticks_said-walk.result }; next = tick.next }

  read : read_of w.chip.setup.part (take (length s - at) (drop at s)) ≡ Record (Sense tick.value) tick.next
  read = subst (TickIn w.chip.setup.part (take (length s - at) (drop at s))) t.in-Some.is t.tick_in.ensures

  passes : Some after ≡ passed_on (take (length s - at) (drop at s)) w
  passes =
      let y : to_z w32 (of_z w32 tick.value) ≡ tick.value = search rules in
      ap (λ (x : Streaks). Some (record { walk = record { chip = w.chip; said = x }; next = tick.next })) (t.ticks_said-walk.ensures ∙ ap (λ v. ticks_said w.chip v 1 w.said) y)
      ∙ tick_passes (take (length s - at) (drop at s)) w tick.value tick.next read

  next : Walking s t.in-Record.next after.walk (at + tick.next) × (4 ≤ tick.next) × (at + tick.next ≤ length s)
  next = walking_more s _ w at t.loop-at.invariant t.loop-at-test.true (Some after) passes after (search rules)

pub returns-in_default : goal.returns-in_default
returns-in_default c = said_none c.args.s.now c.read_rest.result c.read_rest.ensures (opened c.in_default.in_default-own.keys2) (none c.default.result c.default.ensures)

pub returns-in_default-event : goal.returns-in_default-event
returns-in_default-event c = first_other c.args.s.now c.read_rest.result _ _ c.read_rest.ensures c.in-Record.is (opened c.in_default-event.in_default-event-own.keys2)

pub loop-at-init : goal.loop-at-init
loop-at-init c = walking_first c.args.s.now _ _ (sym c.read_rest.ensures ∙ c.in-Record.is ∙ ap (λ (e : Event). Record e c.in-Record.next) c.in-Setup.is) c.in_ship.ensures (none _ c.default-2.ensures)

pub ticks_said-walk-requires : goal.ticks_said-walk-requires
ticks_said-walk-requires c = small c.args.s.now _ c.loop-at.walk c.loop-at.at c.loop-at.invariant c.requires

pub overflow_add-at : goal.overflow_add-at
overflow_add-at c = omega (arith, c.well_formed, c.requires, next (goal.at.overflow_add-at c).After-ticks_said-walk)

pub loop-at-smaller-in-Some : goal.loop-at-smaller-in-Some
loop-at-smaller-in-Some c = omega (arith, c.loop-at-test.true, next (goal.at.loop-at-smaller-in-Some c).After-ticks_said-walk)

pub loop-at-preserved-in-Some : goal.loop-at-preserved-in-Some
loop-at-preserved-in-Some c = (next (goal.at.loop-at-preserved-in-Some c).After-ticks_said-walk).0

pub pass-requires : goal.pass-requires
pass-requires c = small c.args.s.now _ c.loop-at.walk c.loop-at.at c.loop-at.invariant c.requires

pub returns-in_default-pass : goal.returns-in_default-pass
returns-in_default-pass c = walking_cut c.args.s.now _ c.loop-at.walk c.loop-at.at c.loop-at.invariant c.loop-at-test.true c.pass.result c.pass.ensures c.in_default-pass.is

pub overflow_add-at-in-loop-at : goal.overflow_add-at-in-loop-at
overflow_add-at-in-loop-at c = omega (arith, c.well_formed, c.requires, walking_more c.args.s.now _ c.loop-at.walk c.loop-at.at c.loop-at.invariant c.loop-at-test.true c.pass.result c.pass.ensures c.in-Some-pass.passed c.in-Some-pass.is)

pub loop-at-smaller : goal.loop-at-smaller
loop-at-smaller c = omega (arith, c.loop-at-test.true, walking_more c.args.s.now _ c.loop-at.walk c.loop-at.at c.loop-at.invariant c.loop-at-test.true c.pass.result c.pass.ensures c.in-Some-pass.passed c.in-Some-pass.is)

pub loop-at-preserved : goal.loop-at-preserved
loop-at-preserved c = (walking_more c.args.s.now _ c.loop-at.walk c.loop-at.at c.loop-at.invariant c.loop-at-test.true c.pass.result c.pass.ensures c.in-Some-pass.passed c.in-Some-pass.is).0

pub returns : goal.returns
returns c = walking_end c.args.s.now _ c.loop-at.walk c.loop-at.at c.loop-at.invariant c.loop-at-test.false
