-- The counts of a record that was read lie within it.
use Rattle.std.proofs.Common.{arith}
use Rattle.records.specs.ReadingLaws.{read_whole}
use Rattle.stream_run.proofs.counted.Goals as goal

pub slice_bounds-counts_in-count : goal.slice_bounds-counts_in-count
slice_bounds-counts_in-count c = let w = read_whole c.args.part c.args.rest.now c.args.event c.args.next c.requires in omega (arith, w.header, w.room, w.ended)

pub slice_bounds-counts_in-start : goal.slice_bounds-counts_in-start
slice_bounds-counts_in-start c = let w = read_whole c.args.part c.args.rest.now c.args.event c.args.next c.requires in omega (arith, w.header, w.room, w.ended)

pub slice_bounds-counts_in-end : goal.slice_bounds-counts_in-end
slice_bounds-counts_in-end c = let w = read_whole c.args.part c.args.rest.now c.args.event c.args.next c.requires in omega (arith, w.header, w.room, w.ended)
