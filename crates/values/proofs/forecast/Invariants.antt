-- `values::forecast` meets its contract: the loop has found the least, the greatest and the total of the voltages so far (`Found`). Assumes nothing.
use Rattle.std.proofs.Common.{take}
use Rattle.values.proofs.Found.{Found}
use Rattle.values.specs.Forecast.{first_of}
use Rattle.values.proofs.forecast.Given as goal

abbrev pub invariant-loop-count : goal.invariant-loop-count
invariant-loop-count l = Found l.code l.offset (first_of l.code l.offset l.fn.counts) (take l.count-index l.count-items) l.least l.greatest l.total
