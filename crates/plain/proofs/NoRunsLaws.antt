-- CHIP P11: the chip of the plain engine never has a run. It begins with none (CHIP M3), and no record gives it one: a scan or tick leaves
-- runs as they are, and what every other record leaves has none. Assumes nothing.
use Rattle.std.specs.Prelude.{◌≡◌, Bool, true, false, cond, List, ℕ, ℤ}
use Rattle.std.proofs.Math.Path.{refl}
use Rattle.std.proofs.Common.{ap}
use Rattle.events.specs.declared.Event.{Event}
use Rattle.events.specs.declared.Event.TheVariants.{Setup, Por, Boot, Scan, Temp, Count, Sense, Pin, Load, Xready, OnBus, Level, Ticks}
use Rattle.events.specs.declared.Event.TheVariants.{Soak, Wires}
use Rattle.records.specs.declared.Read.{Read}
use Rattle.records.specs.declared.Read.TheVariants.{Record, Refused, Cut}
use Rattle.records.specs.Record.{read_of}
use Rattle.protection.specs.Fault.{no_runs}
use Rattle.chip.specs.declared.Chip.{Chip}
use Rattle.chip.specs.Chip.{numbered}
use Rattle.turn.specs.Turn.{none, Turn, turned}
use Rattle.plain_due.specs.Streaks.{Streaks}
use Rattle.plain_back.specs.Said.{streaks_in}
use Rattle.plain.specs.Decision.{scan_shown, ticks_shown, scan_done, ticks_done}
use Rattle.plain.specs.Plain.{plain_done, plain_turned, plain_turn}
use Rattle.plain.specs.AsideLaws.{unrun, shared, turned-unrun}

pub begins : none.runs ≡ no_runs
begins = refl

scan_none : (w : Streaks) (xs : List ℕ) (c : Chip) → (scan_done w xs (unrun c)).chip.runs ≡ no_runs
unfolding scan_done
scan_none w xs c = by c.normal
  where
    by : (a : Bool) → (cond a (numbered 0 (scan_shown w xs (unrun c))) (numbered 4 (unrun c))).chip.runs ≡ no_runs
    by true = refl
    by false = refl

ticks_none : (w : Streaks) (v : ℤ) (these : ℕ) (c : Chip) → (ticks_done w v these (unrun c)).chip.runs ≡ no_runs
unfolding ticks_done
ticks_none w v these c = by c.normal
  where
    by : (a : Bool) → (cond a (numbered 0 (ticks_shown w v these (unrun c))) (numbered 4 (unrun c))).chip.runs ≡ no_runs
    by true = refl
    by false = refl

module _ (before : List ℕ) (o : Bool) (c : Chip) (rest : List ℕ) where
  other_none : (e : Event) (next : ℕ) → shared e ≡ true → (turned o (unrun c) rest (Record e next)).chip.runs ≡ no_runs
  other_none e next h = ap (λ (t : Turn). t.chip.runs) (turned-unrun o c rest e next h)

  done_none : (e : Event) (next : ℕ) → (plain_done before o (unrun c) rest e next).chip.runs ≡ no_runs
  done_none (Setup v) next = other_none (Setup v) next refl
  done_none Por next = other_none Por next refl
  done_none Boot next = other_none Boot next refl
  done_none Scan next = scan_none (streaks_in before) _ c
  done_none Temp next = other_none Temp next refl
  done_none (Count n) next = other_none (Count n) next refl
  done_none (Sense v) next = ticks_none (streaks_in before) v 1 c
  done_none Pin next = other_none Pin next refl
  done_none (Load l) next = other_none (Load l) next refl
  done_none Xready next = other_none Xready next refl
  done_none (OnBus b) next = other_none (OnBus b) next refl
  done_none (Level l) next = other_none (Level l) next refl
  done_none (Ticks v n) next = ticks_none (streaks_in before) v n c
  done_none (Soak v n) next = ticks_none (streaks_in before) v n c
  done_none (Wires n) next = other_none (Wires n) next refl

  pub no_runs_lem : (plain_turn before o (unrun c) rest).chip.runs ≡ no_runs
  unfolding plain_turn
  no_runs_lem = by (read_of c.setup.part rest)
    where
      by : (x : Read) → (plain_turned before o (unrun c) rest x).chip.runs ≡ no_runs
      by (Record e next) = done_none e next
      by (Refused k next) = refl
      by Cut = refl
