-- Records put into a buffer, one after the other. Assumes nothing.
use Rattle.std.specs.Prelude.{◌≡◌, ℕ, ◌+◌, List, length}
use Rattle.std.proofs.lemmas.List.Edits.{sets}
use Rattle.events.specs.declared.BusEvent.{BusEvent}
use Rattle.i2c_lists.specs.Records.{records_of}

-- the records of events, from a place on, with the place after them
pub record Puts (es : List BusEvent) (at : ℕ) (old : List ℕ) (r : ℕ) (new : List ℕ) : Type 0 where
  pub next : r ≡ at + length (records_of es)
  pub wrote : new ≡ sets old at (records_of es)
