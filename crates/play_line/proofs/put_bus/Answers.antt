-- The bus answer, by its flag.
use Rattle.std.proofs.Common.{arith, eq-eqb, ne_eqb}
use Rattle.play_line.proofs.Putting.{as_text}
use Rattle.play_line.specs.Line.{bus_text}
use Rattle.play_line.proofs.put_bus.Goals as goal

pub returns-then-flag-eq1 : goal.returns-then-flag-eq1
unfolding bus_text
returns-then-flag-eq1 c = as_text (simp (eq-eqb _ _ c.if-flag-eq1.true)) (omega arith) c.put_hex.ensures

pub returns : goal.returns
unfolding bus_text
returns c = as_text (simp (ne_eqb _ _ c.if-flag-eq1.false)) (omega arith) c.put_two.ensures
