-- `byte_of`, by its one test.
use Rattle.record_numbers.proofs.Tests.{tests}
use Rattle.record_numbers.specs.Values.{byte_of}
use Rattle.record_numbers.proofs.byte_of.Goals as goal

pub returns-then-n-le-BYTE_MOST : goal.returns-then-n-le-BYTE_MOST
unfolding byte_of
returns-then-n-le-BYTE_MOST c = search tests

pub returns-else-n-le-BYTE_MOST : goal.returns-else-n-le-BYTE_MOST
unfolding byte_of
returns-else-n-le-BYTE_MOST c = search tests
