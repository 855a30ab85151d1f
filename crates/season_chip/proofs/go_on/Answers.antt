-- `go_on` meets its contract: a scan that is stored is joined as a part of its own (Asked).
use Rattle.std.proofs.Common.{sym, ◌∙◌}
use Rattle.season.specs.Columns.{in_columns}
use Rattle.season_chip.specs.AskedLaws.{after_scan, after_none}
use Rattle.season_chip.proofs.go_on.Goals as goal

pub returns-then-stores : goal.returns-then-stores
returns-then-stores c = c.store.ensures ∙ after_scan c.args.chip c.args.counts c.args.event (in_columns c.args.report.now) (sym c.stores.ensures ∙ c.if-stores.true)

pub returns : goal.returns
returns c = after_none c.args.chip c.args.counts c.args.event (in_columns c.args.report.now) (sym c.stores.ensures ∙ c.if-stores.false)
