-- By what a report of no scans is (Going).
use Rattle.season.specs.Columns.{in_columns}
use Rattle.std.proofs.Common.{◌≡◌}
use Rattle.season_walk.proofs.Going.{begun_head}
use Rattle.season_walk.proofs.begin.Goals as goal

pub returns-then-report-eq0 : goal.returns-then-report-eq0
returns-then-report-eq0 c = begun_head c.args.was c.args.setup (in_columns c.args.report.now) (c.requires c.if-report-eq0.true)
