-- `put_list` puts a word's events a turn, and STOP at the end (Listing).
use Rattle.std.proofs.Common.{arith}
use Rattle.i2c_lists.proofs.Listing.{listing_none, listing_asks, listing_more, listing_room, listing_end}
use Rattle.i2c_lists.proofs.Steps.{turn_within}
use Rattle.i2c_lists.proofs.put_list.Goals as goal

pub loop-at-init : goal.loop-at-init
loop-at-init c = listing_none c.args.line.now c.args.out.now c.requires

pub slice_bounds-word_of-end : goal.slice_bounds-word_of-end
slice_bounds-word_of-end c = let t = turn_within c.args.line.now c.loop-at.at c.end_of-end.result c.loop-at-test.true c.end_of-end.ensures in omega (arith, t.0, t.1)

pub put_word-next-requires : goal.put_word-next-requires
put_word-next-requires c = let the_parts = listing_asks c.loop-at.invariant c.end_of-end.result c.loop-at-test.true c.end_of-end.ensures c.word_of.result c.word_of.ensures in record { word_in_bounds = the_parts.0; word_value = the_parts.1 }

pub loop-at-preserved : goal.loop-at-preserved
loop-at-preserved c = listing_more c.loop-at.invariant c.end_of-end.result c.loop-at-test.true c.end_of-end.ensures c.word_of.result c.word_of.ensures c.put_word-next.result c.put_word-next.new.out c.put_word-next.ensures

pub put-requires : goal.put-requires
put-requires c = listing_room c.loop-at.invariant c.loop-at-test.false

pub returns : goal.returns
returns c = listing_end c.loop-at.invariant c.loop-at-test.false c.put.result c.put.new.out c.put.ensures
