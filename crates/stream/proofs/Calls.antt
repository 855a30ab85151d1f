-- What the C call makes of a run from no chip. Assumes nothing.
use mathlib.Core.Path.{◌≡◌, ap, ◌∙◌}
use Prim.Native.Nat.{ℕ, ◌*◌, ◌/◌, ◌^◌, ◌<◌, ◌≤◌}
use mathlib.Core.List.{List}
use mathlib.Core.Bool.{true, false}
use native.Mathlib.Omega.{arith}
use lib.ListN.{length}
use lib.Dec.{leb}
use lib.IntN.{pos, negsuc}
use mir.Syntax.{w64}
use mir.Val.{to_z}
use mir.Facts.{to_z_pos}
use borrow.Author.Tests.{le-leb, lt-leb}
use Rattle.turn.specs.Turn.{none}
use Rattle.turn.specs.Entries.{entries, entries_from}
use Rattle.turn.proofs.Runs.{entered_all}
use Rattle.stream_run.specs.declared.Left.{Left}
use Rattle.stream_run.specs.Stream.{Ran, Played}

-- the C call: the count by framing, and a run that is lent room enough
pub played_short : (s old : List ℕ) (n : ℕ) → n ≡ length (entries s) → length old / 5 < n → Played s old (negsuc 4) old
played_short s old n c h =
    let t : leb (5 * length (entries s)) (length old) ≡ false = lt-leb (5 * length (entries s)) (length old) (omega arith) in
    record { answer = simp t; contents = simp t }

pub played_all : (s old : List ℕ) (n : ℕ) (left : Left) (new : List ℕ) → n ≡ length (entries s) → n ≤ length old / 5 → length old < 2 ^ 63 → Ran false none s old left new
    → Played s old (to_z w64 n) new
unfolding entries entries_from
played_all s old n left new e h b r =
    let t : leb (5 * length (entries s)) (length old) ≡ true = le-leb (5 * length (entries s)) (length old) (omega arith) in
    record { answer = simp t (to_z_pos w64 (omega arith) ∙ ap pos e); contents = simp t (r.wrote ∙ entered_all old (entries s) (omega arith)) }
