-- CHIP H1 to H6 of streams, the words: what follows a record, and the events that records mean. The laws stand in proofs/Streams.
-- Assumes nothing.
use Rattle.std.specs.Prelude.{ℕ, zero, suc, ◌-◌, length, drop}
use mathlib.Core.List.{List, [], ◌∷◌}
use Rattle.events.specs.declared.Setup.{Setup as SetupValues}
use Rattle.events.specs.Event.{Event, meant_of}
use Rattle.records.specs.declared.Read.{Read}
use Rattle.records.specs.declared.Read.TheVariants.{Record, Refused, Cut}
use Rattle.records.specs.Record.{read_of, counts_beside}
use Rattle.demands.specs.Aside.{with_meant}

-- what follows a record: after one that is cut short, nothing
abbrev pub rest_after : List ℕ → Read → List ℕ
rest_after r (Record e next) = drop next r
rest_after r (Refused k next) = drop next r
rest_after r Cut = []

module _ (u : SetupValues) where
  -- ── the events that records mean, newest first, once SETUP was read as u; a refused record means none, and one that is cut short ends
  -- them ──
  -- after what was read at the start of r
  abbrev pub heard_next : List ℕ → Read → List Event → List Event
  heard_next r (Record e next) past = with_meant u (meant_of u e (counts_beside r (Record e next))) past
  heard_next r (Refused k next) past = past
  heard_next r Cut past = past

  abbrev pub heard_by : ℕ → List ℕ → List Event → List Event
  heard_by zero r past = past
  heard_by (suc f) [] past = past
  heard_by (suc f) (b ∷ r) past =
      heard_by f (rest_after (b ∷ r) (read_of u.part (b ∷ r))) (heard_next (b ∷ r) (read_of u.part (b ∷ r)) past)

-- ── a stream whose first record is a SETUP, read with success as u, up to the place next ──
-- the events that the records after it mean
abbrev pub heard : SetupValues → ℕ → List ℕ → List Event
heard u next s = heard_by u (length s - 1) (drop next s) []
