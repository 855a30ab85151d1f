-- `values::forecast` meets its contract: the loop has found the least, the greatest and the total of the voltages so far (`Found`). Assumes nothing.
use Rattle.std.proofs.Common.{Fits, ap, arith, get_or, length, length-take, of_z, rules, take, List, min, to_z, w16, w64, ℕ, ◌*◌, ◌+ℤ◌, ◌+◌, ◌≤◌, ◌∙◌, ◌≡◌}
use Rattle.values.specs.Values.{cell_microvolts}
use Rattle.values.specs.Forecast.{lesser, greater}
use Rattle.values.proofs.Exact.{moved}
use Rattle.values.proofs.Within.{Within, own, back, fits, plus, result}
use Rattle.values.proofs.Found.{none, more, done, most, cell_size}
use Rattle.values.proofs.forecast.Goals as goal
use Rattle.values.proofs.forecast.Goals.{After-max-greatest}

-- a turn, at its last call
module _ (c : After-max-greatest) where
  abbrev items : List ℕ
  items = take c.min.result c.args.counts

  long : length items ≤ 15
  long = omega (arith, c.min.ensures, length-take {A = ℕ})

  small : Fits w16 (get_or items c.loop-count.count-index 0)
  small = search rules

  voltage : to_z w64 (of_z w64 c.cell-v.result) ≡ cell_microvolts c.args.code c.args.offset (get_or items c.loop-count.count-index 0)
  voltage = result c.cell-v.type_inv c.cell-v.ensures

  sum : Within (most * 15 + most) (to_z w64 c.loop-count.total-bits +ℤ to_z w64 (of_z w64 c.cell-v.result))
      (to_z w64 c.loop-count.total-bits +ℤ cell_microvolts c.args.code c.args.offset (get_or items c.loop-count.count-index 0))
  sum = plus (own (most * 15) (to_z w64 c.loop-count.total-bits) (omega (arith, long, length-take {A = ℕ})))
      (record { is = voltage; size = cell_size _ _ _ c.ranges.code c.ranges.offset small })

pub loop-count-init : goal.loop-count-init
loop-count-init c = none c.ranges.code c.ranges.offset c.args.counts c.element_fits (result c.cell-least.type_inv c.cell-least.ensures)

pub overflow_add-total : goal.overflow_add-total
overflow_add-total c = fits tt (sum c)

pub loop-count-preserved : goal.loop-count-preserved
loop-count-preserved c =
    more c.ranges.code c.ranges.offset (items c) c.loop-count.count-index c.loop-count-test.true (small c) c.loop-count.invariant
    (result c.min-least.type_inv (c.min-least.ensures.value ∙ ap (lesser (to_z w64 c.loop-count.least-bits)) (voltage c)))
    (result c.max-greatest.type_inv (c.max-greatest.ensures.value ∙ ap (greater (to_z w64 c.loop-count.greatest-bits)) (voltage c)))
    (back tt (sum c)).is

pub returns : goal.returns
returns c = let l : length c.args.counts ≡ 15 = search rules in
    let n : c.min.result ≡ min c.args.many 15 = rw c.from.ensures at c.min.ensures in
    done c.loop-count.invariant c.loop-count-test.false n l
    c.doubled.ensures
    c.doubled-2.ensures
    c.doubled-3.ensures
    (moved c.doubled-4.ensures (result c.cc_hundredths.type_inv c.cc_hundredths.ensures))
