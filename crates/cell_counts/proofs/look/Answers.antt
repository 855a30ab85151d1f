-- `look` meets its contract: each turn takes one count more into the places, the sum and both verdicts.
use Rattle.std.proofs.Common.{Bool, Fits, List, ap, arith, get_or, length, min, rules, take, w16, ℕ, ◌<◌, ◌∙◌, ◌≡◌}
use Rattle.cell_counts.specs.declared.Looked.{Looked}
use Rattle.cell_counts.specs.Scan.{total, some_above, some_between, padded, looked_at}
use Rattle.cell_counts.specs.PaddedLaws.{total_more, some_more, padded_more, take_min}
use Rattle.cell_counts.proofs.look.Goals as goal

seen : (most floor least : ℕ) (xs cells : List ℕ) (sum : ℕ) (over under : Bool)
    → cells ≡ padded 15 xs → sum ≡ total xs → over ≡ some_above most xs → under ≡ some_between floor least xs
    → ◌≡◌ {A = Looked} (record { cells = cells; sum = sum; over = over; under = under }) (looked_at most floor least xs)
unfolding looked_at
seen most floor least xs cells sum over under p q r s = cc

pub loop-i-preserved : goal.loop-i-preserved
loop-i-preserved c = let xs = c.args.counts in
    let i = c.loop-i.i in
    let v = c.loop-i.invariant in
    let b : Fits w16 (get_or xs i 0) = search rules in
    let l : length xs ≡ 15 = search rules in
    let k : i < 15 = omega arith in
    let h : i < length xs = omega arith in
    record {
      cells = rw (v.cells, padded_more 15 i xs k h);
      sum = rw (v.sum, c.from-sum.ensures, total_more);
      few = omega arith;
      over = rw (v.over, some_more);
      under = rw (c.is_under-under.ensures, v.under, some_more);
    }

pub returns : goal.returns
returns c = let v = c.loop-i.invariant in
    let l : length c.args.counts ≡ 15 = search rules in
    let e : c.loop-i.i ≡ min c.args.inputs 15 = omega arith in
    let t : take c.loop-i.i c.args.counts ≡ take c.args.inputs c.args.counts = ap (λ m. take m c.args.counts) e ∙ take_min c.args.inputs 15 c.args.counts l in
    seen c.args.most c.args.floor c.args.least _ _ _ _ _ v.cells v.sum v.over v.under ∙ ap (looked_at c.args.most c.args.floor c.args.least) t
