-- What a turn of the code is among the definitions, and that it loses nothing. Assumes nothing.
use Rattle.std.specs.Prelude.{◌≡◌}
use Rattle.std.proofs.Common.{ap}
use Rattle.turn.specs.Turn.{Turn}
use Rattle.turn.specs.declared.Turned.{Turned}

abbrev pub as_turn : Turned → Turn
as_turn r = record { chip = r.chip; fresh = r.fresh; entry = r.entry; next = r.next; last = r.last }

abbrev back : Turn → Turned
back t = record { chip = t.chip; fresh = t.fresh; entry = t.entry; next = t.next; last = t.last }

-- two turns of the code that are one among the definitions are the same
pub same_turned : {a b : Turned} → as_turn a ≡ as_turn b → a ≡ b
same_turned h = ap back h
