-- CHIP J9: the runs after an event, and what rises. Assumes nothing.
use Rattle.std.specs.Prelude.{Bool, true, false, ◌&&◌, List, [], ◌∷◌, ℕ, leb}
use Rattle.events.specs.Event.{Event}
use Rattle.events.specs.declared.Fault.{Fault}
use Rattle.settings.specs.declared.Settings.{Settings}
use Rattle.limits.specs.Rule.{cap, rule, opinion}
use Rattle.protection.specs.Streak.{bumps}
use Rattle.protection.specs.Fault.{Runs}
use Rattle.protection.specs.Fault.{run_of, runs_of}

abbrev pub some_opinion : List Bool → Bool
some_opinion [] = false
some_opinion (b ∷ l) = true

abbrev pub run_after : ℕ → Settings → Runs → Event → Fault → ℕ
run_after floor s n e k = bumps (cap k) (opinion k floor (rule k s) e) (run_of k n)

abbrev pub counted : ℕ → Settings → Runs → Event → Runs
counted floor s n e = runs_of (run_after floor s n e)

abbrev pub risen : ℕ → Settings → Runs → Event → Fault → Bool
risen floor s n e k = some_opinion (opinion k floor (rule k s) e) && leb (rule k s).need (run_after floor s n e k)
