-- The outside level 1 and SYS_STAT 0 never stand together on a chip that records are played on, where they did not before. Assumes nothing.
use Rattle.std.specs.Prelude.{Bool, true, false, cond, List, [], ◌∷◌, ℕ, zero, suc, length, drop}
use Rattle.events.specs.declared.Counts.{Counts}
use Rattle.events.specs.declared.Event.{Event}
use Rattle.events.specs.declared.Event.TheVariants.{Setup, Por, Boot, Scan, Temp, Count, Sense, Pin, Load, Xready, OnBus, Level, Ticks}
use Rattle.events.specs.declared.Event.TheVariants.{Soak, Wires}
use Rattle.events.specs.declared.Setup.{Setup as SetupValues}
use Rattle.events.specs.Setup.{with_cells}
use Rattle.events.specs.Event.{meant_of}
use Rattle.wiring.specs.Rows.{has_row, wired_with}
use Rattle.std.specs.Prelude.{Ok, Err}
use Rattle.constants.specs.declared.refusal.Refusal.TheVariants.{NoRow}
use Rattle.records.specs.declared.Read.{Read}
use Rattle.records.specs.declared.Read.TheVariants.{Record, Refused, Cut}
use Rattle.records.specs.Record.{read_of, counts_beside}
use Rattle.chip.specs.declared.Chip.{Chip}
use Rattle.chip.specs.Chip.{numbered}
use Rattle.chip.specs.Calm.{Calmed}
use Rattle.chip.proofs.Calm.{ship_calm}
use Rattle.chip.proofs.RepeatLaws.{calm_as}
use Rattle.turn.specs.Turn.{wired_as, acted, turned, turn_of}
use Rattle.turn.specs.Entries.{stands, chip_from}

-- after a record
wires_calm : (o t : Bool) (u : SetupValues) (c : Chip) → Calmed c
    → Calmed (cond o (wired_as (cond t (Ok u) (Err NoRow)) c) (numbered 2 c)).chip
wires_calm true true u c k = ship_calm u
wires_calm true false u c k = k
wires_calm false t u c k = k

pub acted_calm : (o : Bool) (e : Event) (n : Counts) (c : Chip) → Calmed c → Calmed (acted o e n c).chip
unfolding acted wired_with
acted_calm o (Setup v) n c k = ship_calm v
acted_calm o Por n c k = calm_as (meant_of c.setup Por n) c k
acted_calm o Boot n c k = calm_as (meant_of c.setup Boot n) c k
acted_calm o Scan n c k = calm_as (meant_of c.setup Scan n) c k
acted_calm o Temp n c k = calm_as (meant_of c.setup Temp n) c k
acted_calm o (Count w) n c k = calm_as (meant_of c.setup (Count w) n) c k
acted_calm o (Sense v) n c k = calm_as (meant_of c.setup (Sense v) n) c k
acted_calm o Pin n c k = calm_as (meant_of c.setup Pin n) c k
acted_calm o (Load l) n c k = calm_as (meant_of c.setup (Load l) n) c k
acted_calm o Xready n c k = calm_as (meant_of c.setup Xready n) c k
acted_calm o (OnBus b) n c k = calm_as (meant_of c.setup (OnBus b) n) c k
acted_calm o (Level l) n c k = calm_as (meant_of c.setup (Level l) n) c k
acted_calm o (Ticks v w) n c k = calm_as (meant_of c.setup (Ticks v w) n) c k
acted_calm o (Soak v w) n c k = calm_as (meant_of c.setup (Soak v w) n) c k
acted_calm o (Wires w) n c k = wires_calm o (has_row c.setup.part w) (with_cells w c.setup) c k

turned_calm : (o : Bool) (chip : Chip) (rest : List ℕ) (x : Read) → Calmed chip → Calmed (turned o chip rest x).chip
turned_calm o chip rest (Record e n) k = acted_calm o e (counts_beside rest (Record e n)) chip k
turned_calm o chip rest (Refused j n) k = k
turned_calm o chip rest Cut k = k

pub turn_calm : (o : Bool) (chip : Chip) (rest : List ℕ) → Calmed chip → Calmed (turn_of o chip rest).chip
unfolding turn_of
turn_calm o chip rest k = turned_calm o chip rest (read_of chip.setup.part rest) k

-- after any
by_last : (l : Bool) (d e : Chip) → Calmed d → Calmed e → Calmed (cond l d e)
by_last true d e x y = x
by_last false d e x y = y

stands_calm : (f : ℕ) (o : Bool) (c : Chip) (s : List ℕ) → Calmed c → Calmed (stands f o c s)
stands_calm zero o c s k = k
stands_calm (suc f) o c [] k = k
stands_calm (suc f) o c (b ∷ s) k =
    let k' : Calmed (turn_of o c (b ∷ s)).chip = turn_calm o c (b ∷ s) k in
    by_last (turn_of o c (b ∷ s)).last (turn_of o c (b ∷ s)).chip
    (stands f (turn_of o c (b ∷ s)).fresh (turn_of o c (b ∷ s)).chip (drop (turn_of o c (b ∷ s)).next (b ∷ s))) k'
    (stands_calm f (turn_of o c (b ∷ s)).fresh (turn_of o c (b ∷ s)).chip (drop (turn_of o c (b ∷ s)).next (b ∷ s)) k')

pub calm_from : (o : Bool) (c : Chip) (s : List ℕ) → Calmed c → Calmed (chip_from o c s)
unfolding chip_from
calm_from o c s k = stands_calm (length s) o c s k
