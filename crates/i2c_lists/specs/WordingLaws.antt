-- The events of a list by its words, and which addresses and how many bytes these make. The laws stand in proofs/WordingLaws. Assumes
-- nothing.
use Rattle.std.specs.Prelude.{List, [], ◌∷◌, ◌++◌, Bool, true}
use Rattle.events.specs.declared.BusEvent.{BusEvent}
use Rattle.events.specs.declared.BusEvent.TheVariants.{Start, Out}
use Rattle.i2c_words.specs.declared.Word.{Word}
use Rattle.i2c_words.specs.declared.Word.TheVariants.{Write, Read, Byte, Unknown}
use Rattle.i2c_lists.specs.Records.{to_write, to_read, taken, near}

abbrev pub on_word : Word → List BusEvent
on_word (Write n a) = Start ∷ Out (to_write a) ∷ []
on_word (Read n a) = Start ∷ Out (to_read a) ∷ taken n
on_word (Byte b) = Out b ∷ []
on_word Unknown = []

abbrev pub on_words : List Word → List BusEvent
on_words [] = []
on_words (x ∷ xs) = on_word x ++ on_words xs

abbrev pub near_word : Word → Bool
near_word (Write n a) = near a
near_word (Read n a) = near a
near_word (Byte b) = true
near_word Unknown = true
