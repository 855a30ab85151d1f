-- By the room.
use Rattle.chip_bytes_layout.proofs.Bytes.{awake_by}
use Rattle.chip_bytes_layout.proofs.awake.Goals as goal

pub returns : goal.returns
returns c = let f = c.in-Some.ensures.cases in awake_by c.args.bytes.now c.awake_at.result f.enough f.same c.awake_at.ensures
