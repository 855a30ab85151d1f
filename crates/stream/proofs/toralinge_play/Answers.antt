-- The C call: counted by framing, refused whole or run into the buffer.
use Rattle.std.proofs.Common.{arith, sym, ◌∙◌}
use Rattle.turn.specs.CountedLaws.{entries_count}
use Rattle.stream_run.proofs.Loop.{from_none}
use Rattle.stream.proofs.Calls.{played_short, played_all}
use Rattle.stream.proofs.toralinge_play.Goals as goal

pub returns-then-entries-n : goal.returns-then-entries-n
returns-then-entries-n c = played_short c.args.stream.now c.args.entries.now c.count-n.result (c.count-n.ensures ∙ sym (entries_count c.args.stream.now)) c.if-entries-n.true

pub returns : goal.returns
returns c = played_all c.args.stream.now c.args.entries.now c.count-n.result c.run_from.result c.run_from.new.out (c.count-n.ensures ∙ sym (entries_count c.args.stream.now)) c.if-entries-n.false (omega (arith, c.well_formed))
    (from_none c.no_chip.result c.no_chip.ensures c.run_from.ensures)
