-- Each turn fills one place more.
use Rattle.std.proofs.Common.{get_or, ℕ, ◌%◌, ◌≡◌, ◌≤◌}
use Rattle.std.specs.Prelude.{replicate}
use Rattle.season.specs.PlacesLaws.{placed}
use Rattle.season_bytes_layout.proofs.lows_of.Given as goal

abbrev pub invariant-loop-i : goal.invariant-loop-i
invariant-loop-i l = (l.i ≤ 15) × (l.low ≡ placed (replicate 15 0) l.i (λ (j : ℕ). get_or l.x-items j 0 % 65536))
