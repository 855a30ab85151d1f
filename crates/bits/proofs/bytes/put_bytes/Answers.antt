-- A copy at a place puts the bytes there.
use Rattle.std.proofs.Common.{arith}
use Rattle.std.proofs.lemmas.Grind.{common_steps}
use lib.Seq.{sets-eq}
use Rattle.bits.proofs.bytes.put_bytes.Goals as goal

pub returns : goal.returns
returns c = rw (sets-eq c.args.from.now c.args.out.now c.args.at c.requires) (grind (arith, common_steps))
