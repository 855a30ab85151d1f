-- What the bus does with an event, by its case.
use Rattle.chip.specs.Parts.{heard_of}
use Rattle.chip.proofs.Chip.heard.Goals as goal

pub returns-in-Start : goal.returns-in-Start
unfolding heard_of
returns-in-Start c = rw c.in-Start.is (simp (c.unheard.ensures, c.start.ensures))

pub returns-in-Out : goal.returns-in-Out
unfolding heard_of
returns-in-Out c = rw c.in-Out.is (simp (c.sent.ensures, c.out.ensures))

pub returns-in-In : goal.returns-in-In
unfolding heard_of
returns-in-In c = rw c.in-In.is (simp (c.handed.ensures, c.fetched.ensures))

pub returns-in-Stop : goal.returns-in-Stop
unfolding heard_of
returns-in-Stop c = rw c.in-Stop.is (simp (c.unheard-in-Stop.ensures, c.stop.ensures))
