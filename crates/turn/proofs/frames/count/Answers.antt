-- How many entries a stream has: by its first record, then by its frames.
use Rattle.std.proofs.Common.{length, sym, ◌∙◌}
use borrow.Author.Tests.{eqb-true, eqb-false}
use Rattle.turn.proofs.Counting.{count_none, count_good, count_only}
use Rattle.turn.proofs.frames.count.Goals as goal

pub returns-then-is_empty : goal.returns-then-is_empty
returns-then-is_empty c = count_none c.args.s.now (eqb-true (length c.args.s.now) 0 (sym c.is_empty.ensures ∙ c.if-is_empty.true))

pub returns-then-first_number-ne0 : goal.returns-then-first_number-ne0
returns-then-first_number-ne0 c = count_only c.args.s.now c.first_number.result (eqb-false (length c.args.s.now) 0 (sym c.is_empty.ensures ∙ c.if-is_empty.false)) c.first_number.ensures c.if-first_number-ne0.true

pub returns : goal.returns
returns c = c.frames_in.ensures ∙ count_good c.args.s.now c.first_number.result (eqb-false (length c.args.s.now) 0 (sym c.is_empty.ensures ∙ c.if-is_empty.false)) c.first_number.ensures c.if-first_number-ne0.false
