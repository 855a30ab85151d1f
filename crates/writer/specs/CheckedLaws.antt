-- The writer's numbers 2 and 3 are those of the checks that the chip makes: at its part, for every event but SETUP and a wiring record.
-- The laws stand in proofs/CheckedLaws. Assumes nothing.
use Rattle.std.specs.Prelude.{ℕ, cond, ◌&&◌, leb}
use Rattle.events.specs.Event.{meant_of}
use Rattle.events.specs.declared.Counts.{Counts}
use Rattle.events.specs.declared.Event.{Event}
use Rattle.ranges.specs.Refusal.{refusal_of}
use Rattle.events.specs.Setup.{standing}

-- 1 for a part that is not 1 to 3, and what the event is refused with where that part stands
unfoldable pub refusal_at : Event → Counts → ℕ → ℕ
refusal_at e k part = cond (leb 1 part && leb part 3) (refusal_of (meant_of (standing part) e k)) 1
