-- A scan by its parts: what is read, and what is put. Assumes nothing.
use mathlib.Core.Path.{◌≡◌, refl, sym, ap, ap₂, ◌∙◌}
use mathlib.Core.Bool.{Bool, true, cond}
use mathlib.Core.List.{List, [], ◌∷◌}
use Prim.Native.Nat.{ℕ, zero, suc}
use lib.ListN.{length, take}
use lib.Seq.{sets}
use Rattle.events.specs.declared.Setup.{Setup}
use Rattle.events.specs.Setup.{inputs}
use Rattle.events.specs.declared.Fault.TheVariants.{Ov, Uv}
use Rattle.events.specs.Fault.{among}
use Rattle.cell_counts.specs.declared.Looked.{Looked}
use Rattle.cell_counts.specs.Scan.{padded, looked_at}
use Rattle.settings.specs.declared.Settings.{Settings}
use Rattle.bits.specs.Numbers.{word_bytes}
use Rattle.registers.specs.declared.Shown.{Shown}
use Rattle.registers.specs.State.{with_shown}
use Rattle.registers.specs.Fault.{raised}
use Rattle.registers.specs.Judging.{bat_of, scan_kept}
use Rattle.protection.specs.Fault.{Runs}
use Rattle.protection.specs.declared.Judged.{Judged}
use Rattle.limits.specs.Rule.{rule}
use Rattle.protection.specs.Judged.{scan_judged}
use Rattle.chip.specs.Chip.{with_registers, with_runs}
use Rattle.chip.proofs.Judged.{scan_done}
use Rattle.chip_bytes_layout.specs.Layout.{setup_at, settings_at, shown_at, runs_at, registers_at, chip_at}
use Rattle.chip_bytes_done.specs.declared.scan.Swept.{Swept}
use Rattle.chip_bytes_done.specs.Swept.{measured_in, shown_in, swept_in, SweptBy}

padded-length : (k : ℕ) (xs : List ℕ) → length (padded k xs) ≡ k
padded-length zero xs = refl
padded-length (suc k) [] = ap suc (padded-length k [])
padded-length (suc k) (x ∷ xs) = ap suc (padded-length k xs)

abbrev swept_as : Looked → Judged → Shown → Swept
swept_as l j shown = record { cells = l.cells; sum = l.sum; runs = j.runs; shown = shown }

-- what was read, looked at and judged
pub looked_is : (u : Setup) (s : Settings) (counts : List ℕ) {over under n : ℕ} {l : Looked} → over ≡ (rule Ov s).limit → under ≡ (rule Uv s).limit → n ≡ inputs u
    → l ≡ looked_at over u.floor under (take n counts) → l ≡ looked_at (rule Ov s).limit u.floor (rule Uv s).limit (take (inputs u) counts)
looked_is u s counts {over} {under} {n} ho hd hn hl =
    hl ∙ ap₂ (λ (x y : ℕ). looked_at x u.floor y (take n counts)) ho hd
    ∙ ap (λ (n : ℕ). looked_at (rule Ov s).limit u.floor (rule Uv s).limit (take n counts)) hn

pub sweep_is : (b counts : List ℕ) {u : Setup} {s : Settings} {l : Looked} {r : Runs} {j : Judged} {was shown : Shown} → u ≡ setup_at b → s ≡ settings_at b
    → l ≡ looked_at (rule Ov s).limit u.floor (rule Uv s).limit (take (inputs u) counts) → r ≡ runs_at b → j ≡ scan_judged s l.over l.under r
    → was ≡ shown_at b → shown ≡ raised (among j.risen) was → SweptBy (chip_at b) counts (swept_as l j shown)
unfolding chip_at scan_judged looked_at
sweep_is b counts {u} {s} {l} {r} {j} {was} {shown} hu hs hl hr hj hw hh =
    let looked : l ≡ looked_at (rule Ov (settings_at b)).limit (setup_at b).floor (rule Uv (settings_at b)).limit (take (inputs (setup_at b)) counts) =
    hl
    ∙ ap₂ (λ (u : Setup) (s : Settings). looked_at (rule Ov s).limit u.floor (rule Uv s).limit (take (inputs u) counts)) hu hs in
    let judged : j ≡ scan_judged (settings_at b) l.over l.under (runs_at b) =
    hj ∙ ap₂ (λ (s : Settings) (r : Runs). scan_judged s l.over l.under r) hs hr in
    record {
      leaves =
          scan_done (chip_at b) (take (inputs (setup_at b)) counts) l j (scan_kept l.cells l.sum (registers_at b)) looked judged refl
          (ap (λ (s : Shown). with_runs j.runs (with_registers (with_shown s (scan_kept l.cells l.sum (registers_at b))) (chip_at b)))
          (hh ∙ ap (raised (among j.risen)) hw));
      scd = ap (λ (j : Judged). j.runs.scd) judged;
      ocd = ap (λ (j : Judged). j.runs.ocd) judged;
      sized = ap (λ (l : Looked). length l.cells) hl ∙ padded-length 15 (take (inputs u) counts);
    }
