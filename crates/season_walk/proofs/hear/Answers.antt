-- By what was read.
use Rattle.std.proofs.Common.{arith, length, refl, subst, sym, ℕ, ◌∙◌, ◌≡◌, ◌≤◌}
use Rattle.events.specs.declared.Event.{Event}
use Rattle.records.specs.declared.Read.TheVariants.{Record}
use Rattle.records.specs.ReadingLaws.{Placed, placed}
use Rattle.season.specs.Columns.{in_columns}
use Rattle.season_walk.proofs.Cases.{other, read}
use Rattle.season_walk.proofs.hear.Goals as goal
use Rattle.season_walk.proofs.hear.Goals.{After-read_rest}

module _ (r : After-read_rest) where
  inside : (e : Event) (next : ℕ) → r.read_rest.result ≡ Record e next → (4 ≤ next) × (next ≤ length r.args.rest.now)
  inside e next h = subst (Placed (length r.args.rest.now)) (sym r.read_rest.ensures ∙ h) (placed r.args.chip.setup.part r.args.rest.now)

pub slice_bounds-counts_in-count : goal.slice_bounds-counts_in-count
slice_bounds-counts_in-count c = (inside (goal.at.slice_bounds-counts_in-count c).After-read_rest _ _ c.in-Record.is).0

pub slice_bounds-counts_in-start : goal.slice_bounds-counts_in-start
slice_bounds-counts_in-start c = omega (arith, inside (goal.at.slice_bounds-counts_in-start c).After-read_rest _ _ c.in-Record.is)

pub slice_bounds-counts_in-end : goal.slice_bounds-counts_in-end
slice_bounds-counts_in-end c = omega (arith, inside (goal.at.slice_bounds-counts_in-end c).After-read_rest _ _ c.in-Record.is)

pub returns-in-Record : goal.returns-in-Record
returns-in-Record c = read (in_columns c.args.report.now) c.args.chip c.args.rest.now c.read_rest.result c.read_rest.ensures _ _ c.in-Record.is c.counts_in-counts.ensures c.go_on.ensures

pub returns-in_default : goal.returns-in_default
returns-in_default c = other (in_columns c.args.report.now) c.args.chip c.args.rest.now c.read_rest.result c.read_rest.ensures _ refl c.in_default.not-Record
