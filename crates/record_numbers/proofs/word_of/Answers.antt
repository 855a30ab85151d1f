-- `word_of`, by its one test.
use Rattle.record_numbers.proofs.Tests.{tests}
use Rattle.record_numbers.specs.Values.{word_of}
use Rattle.record_numbers.proofs.word_of.Goals as goal

pub returns-then-n-le-WORD_MOST : goal.returns-then-n-le-WORD_MOST
unfolding word_of
returns-then-n-le-WORD_MOST c = search tests

pub returns-else-n-le-WORD_MOST : goal.returns-else-n-le-WORD_MOST
unfolding word_of
returns-else-n-le-WORD_MOST c = search tests
