-- How many entries records have at the part that stands.
use Rattle.std.proofs.Common.{eq-eqb, ne_eqb}
use Rattle.turn.specs.Frames.{frames_from}
use Rattle.turn.proofs.frames.count_from.Goals as goal

pub returns-then-part-eq0 : goal.returns-then-part-eq0
unfolding frames_from
returns-then-part-eq0 c = simp (eq-eqb _ _ c.if-part-eq0.true) c.count.ensures

pub returns : goal.returns
unfolding frames_from
returns c = simp (ne_eqb _ _ c.if-part-eq0.false) c.frames_in.ensures
