-- Each turn takes one count more into the places, the sum and both verdicts.
use Rattle.std.proofs.Common.{take, ◌*◌, ◌≡◌, ◌≤◌}
use Rattle.cell_counts.specs.Scan.{total, some_above, some_between, padded}
use Rattle.cell_counts.proofs.look.Given as goal

abbrev pub invariant-loop-i : goal.invariant-loop-i
invariant-loop-i l = record {
  cells : l.cells ≡ padded 15 (take l.i l.counts);
  sum : l.sum ≡ total (take l.i l.counts);
  few : l.sum ≤ 65535 * l.i;
  over : l.over ≡ some_above l.most (take l.i l.counts);
  under : l.under ≡ some_between l.floor l.least (take l.i l.counts);
}
