-- CHIP J12, the word: the events that one of the code's events means, put before those of the past. The laws stand in proofs/Aside.
-- Assumes nothing.
use mathlib.Core.List.{List, ◌++◌}
use Rattle.events.specs.declared.Setup.{Setup}
use Rattle.events.specs.Event.{Event, Meant, events_in}

module _ (u : Setup) where
  -- of ticks each tick is one
  abbrev pub with_meant : Meant → List Event → List Event
  with_meant m past = events_in m ++ past
