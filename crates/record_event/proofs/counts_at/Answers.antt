-- `counts_at` fills 15 places; the loop keeps those of the values passed (Meant).
use Rattle.std.proofs.Common.{List, ap, arith, length, rules, set, ℕ, ◌%◌, ◌∙◌}
use Rattle.events.specs.declared.Counts.{Counts}
use Rattle.record_event.proofs.Meant.{counts_more, counts_past, counts_all}
use Rattle.record_event.proofs.counts_at.Goals as goal
use Rattle.record_event.proofs.counts_at.Goals.{else-i-values, then-i-values}

abbrev as-counts : ℕ → List ℕ → Counts
as-counts n of = record { many = n; of = of }

pub loop-i-preserved : goal.loop-i-preserved
loop-i-preserved c = (
  omega (arith, c.loop-i-test.true),
  elim c.if-i-values.branch [
    | then-i-values w ↦ w.of-is ∙ ap (λ (of : List ℕ). set of c.loop-i.i (w.natural.result % 65536)) c.loop-i.invariant.1 ∙ counts_more c.args.values.now c.loop-i.i c.loop-i-test.true w.if-i-values.true w.natural.result (search rules) w.natural.ensures
    | else-i-values w ↦ w.of-is ∙ c.loop-i.invariant.1 ∙ counts_past c.args.values.now c.loop-i.i w.if-i-values.false
  ],
)

pub returns : goal.returns
returns c = ap (λ (of : List ℕ). as-counts (length c.args.values.now % 256) of) (c.loop-i.invariant.1 ∙ counts_all c.args.values.now c.loop-i.i (omega (arith, c.loop-i.invariant.0, c.loop-i-test.false)))
