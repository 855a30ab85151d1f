-- The C call: too long, too little room, or run into the buffer.
use Rattle.std.proofs.Common.{arith}
use Rattle.plain.proofs.Loop.{played_short, played_all}
use Rattle.plain.proofs.play.Goals as goal

pub returns-then-entries-n : goal.returns-then-entries-n
returns-then-entries-n c = played_short c.args.bytes.now c.args.entries.now c.count-n.result c.if-bytes-gt-STREAM_MOST.false c.count-n.ensures c.if-entries-n.true

pub returns : goal.returns
returns c = played_all c.args.bytes.now c.args.entries.now c.count-n.result c.if-bytes-gt-STREAM_MOST.false c.count-n.ensures c.run.new.out c.if-entries-n.false (omega (arith, c.well_formed)) c.run.ensures
