-- By whether the counter is on.
use Rattle.std.proofs.Common.{List, ap, eq-eqb, false, ne_eqb, refl, set, true, ℕ}
use Rattle.chip_bytes_done.specs.SeldomLaws.{count_moves}
use Rattle.chip_bytes_done.proofs.seldom.put_count.Goals as goal
use Rattle.chip_bytes_done.proofs.seldom.put_count.Goals.{then-out-eq1-via-then-out-eq1, then-out-eq1-via-else-out-eq1+then-out-eq1-2}

pub returns-then-out-eq1 : goal.returns-then-out-eq1
returns-then-out-eq1 c = count_moves c.args.out.now c.args.cc true
    (elim c.then-out-eq1.branch [
      | then-out-eq1-via-then-out-eq1 w ↦ simp (eq-eqb _ _ w.if-out-eq1.true)
      | then-out-eq1-via-else-out-eq1+then-out-eq1-2 w ↦ simp (ne_eqb _ _ w.if-out-eq1.false, eq-eqb _ _ w.if-out-eq1-2.true)
    ]) (ap (λ (l : List ℕ). set (set l 29 1) 36 0) c.put_words.ensures)

pub returns-else-out-eq1-2 : goal.returns-else-out-eq1-2
returns-else-out-eq1-2 c = count_moves c.args.out.now c.args.cc false (simp (ne_eqb _ _ c.if-out-eq1.false, ne_eqb _ _ c.if-out-eq1-2.false)) refl
