-- The event by its payload.
use Rattle.feed.proofs.Ones.{seldom_one}
use Rattle.feed.proofs.alone.seldom_by.Goals as goal

pub returns : goal.returns
returns c = λ counts. seldom_one c.args.chip.now c.args.payload c.in-Ok.event counts c.happened.new.bytes c.happened.result c.in-Ok.is c.happened.ensures
