-- `counts_at` fills 15 places; the loop keeps those of the values passed (Meant).
use Rattle.std.proofs.Common.{◌-◌, ◌≡◌, ◌≤◌}
use Rattle.record_event.proofs.Meant.{counts_to}
use Rattle.record_event.proofs.counts_at.Given as goal

abbrev pub invariant-loop-i : goal.invariant-loop-i
invariant-loop-i l = (l.i ≤ 15) × (l.of ≡ counts_to l.values l.i)

abbrev pub decreases-loop-i : goal.decreases-loop-i
decreases-loop-i l = 15 - l.i
