-- What SCAN, SENSE, repeated ticks and the bus put together is what their definitions say. Assumes nothing.
use mathlib.Core.Path.{◌≡◌, refl, sym, ap, ◌∙◌}
use mathlib.Core.Logic.{◌≢◌}
use mathlib.Core.Bool.{Bool, true, false, cond}
use mathlib.Core.List.{List}
use Prim.Native.Nat.{ℕ, zero, suc, ◌-◌}
use native.Mathlib.Omega.{arith}
use lib.IntN.{ℤ}
use Rattle.events.specs.declared.BusEvent.{BusEvent}
use Rattle.events.specs.Event.{Scan, Sense, OnBus}
use Rattle.events.specs.declared.Fault.TheVariants.{Ov, Uv}
use Rattle.events.specs.Fault.{among}
use Rattle.cell_counts.specs.declared.Looked.{Looked}
use Rattle.cell_counts.specs.Scan.{looked_at}
use Rattle.registers.specs.declared.Registers.{Registers}
use Rattle.registers.specs.State.{with_shown}
use Rattle.registers.specs.Fault.{raised}
use Rattle.registers.specs.Judging.{scan_kept}
use Rattle.protection.specs.declared.Judged.{Judged}
use Rattle.limits.specs.Rule.{rule}
use Rattle.protection.specs.Judged.{scan_judged, scan_judged_lem, tick_judged}
use Rattle.protection.specs.Repeat.{ticks_judged}
use Rattle.chip.specs.declared.Chip.{Chip}
use Rattle.chip.specs.Answer.{Heard}
use Rattle.chip.specs.Answer.{Stepped}
use Rattle.chip.specs.Chip.{numbered, with_bus, with_registers, with_runs, settled, normally, ticking, ticked, watched}
use Rattle.chip.specs.Parts.{raised_by, heard_of, landed, told, tick_parts, bus_parts}
use Rattle.chip.specs.RepeatLaws.{ticked_by}
use Rattle.chip.proofs.RepeatLaws.{first_tick, ticking_all}

pub scan_done : {d : Chip} (c : Chip) (xs : List ℕ) (l : Looked) (j : Judged) (r : Registers)
    → l ≡ looked_at (rule Ov c.registers.settings).limit c.setup.floor (rule Uv c.registers.settings).limit xs
    → j ≡ scan_judged c.registers.settings l.over l.under c.runs
    → r ≡ scan_kept l.cells l.sum c.registers
    → d ≡ with_runs j.runs (with_registers (with_shown (raised (among j.risen) r.shown) r) c)
    → d ≡ (normally (Scan xs) c).chip
unfolding looked_at
scan_done c xs l j r hl hj hr h = h ∙ simp (hj, hr, hl, scan_judged_lem)

pub sense_done : {s : Stepped} (c : Chip) (v : ℤ) (j : Judged) (d : Chip)
    → j ≡ tick_judged c.registers.settings v c.runs
    → d ≡ raised_by j.risen (with_runs j.runs c)
    → s ≡ settled (numbered 0 d)
    → s ≡ settled (normally (Sense v) c)
sense_done c v j d hj hd h = h ∙ ap settled (ap (numbered 0) (hd ∙ ap (λ (j : Judged). raised_by j.risen (with_runs j.runs c)) hj) ∙ tick_parts v c)

pub ticked_done : {s : Stepped} (n : ℕ) (v : ℤ) (c : Chip) (one first rest : Chip) → c.normal ≡ true → n ≢ 0
    → one ≡ ticked_by (ticks_judged 1 c.registers.settings v c.runs) c
    → first ≡ watched one
    → rest ≡ ticked_by (ticks_judged (n - 1) first.registers.settings v first.runs) first
    → s ≡ numbered 0 rest
    → s ≡ ticked n v c
ticked_done zero v c one first rest a z ho hf hr h = absurd (z refl)
ticked_done (suc n) v c one first rest a z ho hf hr h =
    let e : suc n - 1 ≡ n = omega arith in
    let q : first ≡ first_tick v c = hf ∙ ap watched ho in
    h ∙ ap (numbered 0)
    (hr ∙ ap (λ (k : ℕ). ticked_by (ticks_judged k first.registers.settings v first.runs) first) e
    ∙ ap (λ (d : Chip). ticked_by (ticks_judged n d.registers.settings v d.runs) d) q ∙ sym (ticking_all n v c a))
    ∙ ap (λ (t : Bool). cond t (numbered 0 (ticking (suc n) v c)) (numbered 4 c)) (sym a)

pub ticked_none : {s : Stepped} (n : ℕ) (v : ℤ) (c : Chip) → c.normal ≡ true → n ≡ 0 → s ≡ numbered 0 c → s ≡ ticked n v c
ticked_none n v c a z h = h ∙ ap (λ (k : ℕ). numbered 0 (ticking k v c)) (sym z) ∙ ap (λ (t : Bool). cond t (numbered 0 (ticking n v c)) (numbered 4 c)) (sym a)

pub ticked_asleep : {s : Stepped} (n : ℕ) (v : ℤ) (c : Chip) → c.normal ≡ false → s ≡ numbered 4 c → s ≡ ticked n v c
ticked_asleep n v c a h = h ∙ ap (λ (t : Bool). cond t (numbered 0 (ticking n v c)) (numbered 4 c)) (sym a)

pub bus_done : {s : Stepped} (e : BusEvent) (c : Chip) (h : Heard) (d : Chip)
    → h ≡ heard_of e c
    → d ≡ landed h.store (with_bus h.bus c)
    → s ≡ record { chip = d; number = 0; flag = h.flag; byte = h.byte }
    → s ≡ settled (normally (OnBus e) c)
bus_done e c h d hh hd q = q ∙ ap (λ (d : Chip). record { chip = d; number = 0; flag = h.flag; byte = h.byte }) hd ∙ ap (λ (h : Heard). told h c) hh ∙ bus_parts e c
