-- CHIP.md, "Events and their records": the event that values mean. Assumes nothing.
use Rattle.std.specs.Prelude.{cond, List, map, ℕ, ◌%◌, eqb, leb, ℤ, length}
use Rattle.events.specs.Event.{beside_of, ticks_most, soak_most}
use Rattle.events.specs.declared.Counts.{Counts}
use Rattle.events.specs.declared.Beside.{Beside}
use Rattle.events.specs.declared.Beside.TheVariants.{Inputs, Groups, Nothing}
use Rattle.events.specs.declared.BusEvent.TheVariants.{Start, Stop}
use Rattle.events.specs.declared.Event.{Event}
use Rattle.events.specs.declared.Event.TheVariants.{Por, Boot, Scan, Temp, Pin, Xready, OnBus}
use Rattle.records.specs.Kind.{SETUP}
use Rattle.constants.specs.Kind.{kind_of}
use Rattle.constants.specs.declared.kind.Kind.{Kind}
use Rattle.constants.specs.declared.refusal.Refusal.{Refusal}
use Rattle.cell_counts.specs.Scan.{padded}
use Rattle.records.specs.Record.{load_of, level_of, in_of, ticks_of, soak_of, inputs_at, groups_at, no_counts}
use Rattle.records.specs.Record.{Payload}
use Rattle.std.specs.Prelude.{Result, Ok, Err}
use Rattle.constants.specs.declared.refusal.Refusal.TheVariants.{BadSetup, BadKind}
use Rattle.record_numbers.specs.Values.{nat_of}
use Rattle.record_payload.specs.Values.{setup_by, bare_by, counted_by, one_count_by, out_by, switch_by, sense_by, repeat_by, wires_by}

-- a second SETUP is 2
abbrev pub of_values : Kind → ℕ → List ℤ → Payload
of_values Kind.Setup part vs = Err BadKind
of_values Kind.Por part vs = bare_by Por vs
of_values Kind.Boot part vs = bare_by Boot vs
of_values Kind.Scan part vs = counted_by Scan (inputs_at part) vs
of_values Kind.Temp part vs = counted_by Temp (groups_at part) vs
of_values Kind.Count part vs = one_count_by vs
of_values Kind.Sense part vs = sense_by vs
of_values Kind.Pin part vs = bare_by Pin vs
of_values Kind.Load part vs = switch_by load_of vs
of_values Kind.Xready part vs = bare_by Xready vs
of_values Kind.Start part vs = bare_by (OnBus Start) vs
of_values Kind.Out part vs = out_by vs
of_values Kind.In part vs = switch_by in_of vs
of_values Kind.Stop part vs = bare_by (OnBus Stop) vs
of_values Kind.Level part vs = switch_by level_of vs
of_values Kind.Ticks part vs = repeat_by ticks_of ticks_most vs
of_values Kind.Soak part vs = repeat_by soak_of soak_most vs
of_values Kind.Wiring part vs = wires_by vs

abbrev pub of_kind : Result Kind Refusal → ℕ → List ℤ → Payload
of_kind (Ok k) part vs = of_values k part vs
of_kind (Err why) part vs = Err why

-- as is an unknown kind
unfoldable pub later_by : ℕ → ℕ → List ℤ → Payload
later_by kind part vs = of_kind (kind_of kind) part vs

-- a part above 3 is none
unfoldable pub part_by : ℕ → ℕ
part_by part = cond (leb part 3) part 0

-- SETUP's part is its own; of another kind 1 comes first where the part is none
unfoldable pub event_by : ℕ → ℕ → List ℤ → Payload
event_by kind part vs =
    cond (eqb kind SETUP) (setup_by vs) (cond (eqb (part_by part) 0) (Err BadSetup) (later_by kind (part_by part) vs))

-- the counts beside it: 15 places, each of 16 bits
abbrev pub count_of : ℤ → ℕ
count_of v = nat_of v % 65536

abbrev pub counts_at : List ℤ → Counts
counts_at vs = record { many = length vs % 256; of = padded 15 (map count_of vs) }

abbrev pub counts_with : Beside → List ℤ → Counts
counts_with Inputs vs = counts_at vs
counts_with Groups vs = counts_at vs
counts_with Nothing vs = no_counts

unfoldable pub counts_by : Event → List ℤ → Counts
counts_by e vs = counts_with (beside_of e) vs
