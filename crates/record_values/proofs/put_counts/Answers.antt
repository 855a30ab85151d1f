-- `put_counts`: the loop keeps the counts laid so far before what stood there (Laid).
use Rattle.std.proofs.Common.{Fits, List, ap, arith, get_or, length, rules, set, to_z, w16, w64, ℕ, ℤ, ◌<◌, ◌^◌, ◌∙◌, ◌≡◌}
use Rattle.record_values.proofs.Laid.{laid_more}
use Rattle.record_values.proofs.put_counts.Goals as goal
use Rattle.record_values.proofs.put_counts.Goals.{Start}

module _ (s : Start) where
  fifteen : length s.args.counts.of ≡ 15
  fifteen = search rules

  small : (i : ℕ) → get_or s.args.counts.of i 0 < 2 ^ 63
  small i = let f : Fits w16 (get_or s.args.counts.of i 0) = search rules in omega (arith, f.fits)

pub loop-i-preserved : goal.loop-i-preserved
loop-i-preserved c = let r = (goal.at.loop-i-preserved c).Start in (
  omega (arith, c.loop-i-test.true),
  rw c.from.ensures (ap (λ (t : List ℤ). set t c.loop-i.i (to_z w64 (get_or c.args.counts.of c.loop-i.i 0))) c.loop-i.invariant.1
      ∙ laid_more c.args.counts.of c.args.out.now c.loop-i.i (omega (arith, fifteen r, c.loop-i-test.true, c.counts_many-n.ensures.1)) (omega (arith, c.loop-i-test.true, c.counts_many-n.ensures.0, c.requires)) (small r c.loop-i.i)),
)
