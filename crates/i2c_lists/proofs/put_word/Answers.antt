-- `put_word` goes by the word; an address in range makes a byte.
use Rattle.std.proofs.Common.{[], ◌∷◌}
use Rattle.i2c_lists.specs.Records.{to_read, taken}
use Rattle.i2c_words.specs.declared.Word.TheVariants.{Read}
use Rattle.events.specs.declared.BusEvent.TheVariants.{Start, Out}
use Rattle.i2c_lists.proofs.Writing.{and_then, word_puts}
use Rattle.i2c_lists.proofs.put_word.Goals as goal

pub returns-in-Read : goal.returns-in-Read
returns-in-Read c = word_puts (Read c.in-Read.count c.in-Read.address) c.in-Read.is (and_then (Start ∷ Out (to_read c.in-Read.address) ∷ []) (taken c.in-Read.count) c.put_start-next.ensures c.put_taken.ensures)
