-- A scan and ticks, and a record by what was read, by the parts of the code. Assumes nothing.
use mathlib.Core.Path.{◌≡◌, sym, ap, ◌∙◌}
use mathlib.Core.Bool.{Bool, true, false, cond}
use mathlib.Core.List.{List}
use Prim.Native.Nat.{ℕ}
use lib.ListN.{take}
use Rattle.events.specs.Fault.{Faults}
use Rattle.events.specs.Setup.{inputs}
use Rattle.events.specs.declared.Fault.TheVariants.{Ov, Uv}
use Rattle.cell_counts.specs.declared.Looked.{Looked}
use Rattle.cell_counts.specs.Scan.{looked_at}
use Rattle.settings.specs.declared.Settings.{Settings}
use Rattle.registers.specs.declared.Registers.{Registers}
use Rattle.registers.specs.Judging.{scan_kept}
use Rattle.limits.specs.Rule.{rule}
use Rattle.chip.specs.declared.Chip.{Chip}
use Rattle.chip.specs.Answer.{Stepped}
use Rattle.chip.specs.Chip.{numbered, with_registers}
use Rattle.plain_due.specs.Streaks.{Streaks}
use Rattle.plain_due.specs.Decision.{scan_due}
use Rattle.plain_back.specs.Said.{streaks_in}
use Rattle.plain.specs.Decision.{shows, scan_shown, scan_done}

-- ── a scan and ticks, in SHIP and in NORMAL ──
module _ (c : Chip) (before : List ℕ) where
  abbrev s : Settings
  s = c.registers.settings

  pub scan_asleep : {d : Stepped} (xs : List ℕ) → c.normal ≡ false → d ≡ numbered 4 c → d ≡ scan_done (streaks_in before) xs c
  unfolding scan_done
  scan_asleep xs a e = e ∙ sym (ap (λ (t : Bool). cond t (numbered 0 (scan_shown (streaks_in before) xs c)) (numbered 4 c)) a)

  pub scan_awake : {n over under : ℕ} {l : Looked} {w : Streaks} {f : Faults} {r : Registers} {d : Chip} {x : Stepped} (counts : List ℕ) → c.normal ≡ true
      → n ≡ inputs c.setup → over ≡ (rule Ov s).limit → under ≡ (rule Uv s).limit → l ≡ looked_at over c.setup.floor under (take n counts)
      → w ≡ streaks_in before → f ≡ scan_due s l.over l.under w → r ≡ scan_kept l.cells l.sum c.registers → d ≡ shows f (with_registers r c) → x ≡ numbered 0 d
      → x ≡ scan_done (streaks_in before) (take (inputs c.setup) counts) c
  unfolding scan_done looked_at
  scan_awake {n} {over} {under} {l} {w} {f} {r} counts a en eo eu el ew ef er ed ex =
      ex ∙ ap (numbered 0) (ed ∙ (λ i. shows (f_is i) (with_registers (r_is i) c)))
      ∙ sym (ap (λ (t : Bool). cond t (numbered 0 (scan_shown (streaks_in before) (take (inputs c.setup) counts) c)) (numbered 4 c)) a)
    where
      l_is : l ≡ looked_at (rule Ov s).limit c.setup.floor (rule Uv s).limit (take (inputs c.setup) counts)
      l_is = el ∙ (λ i. looked_at (eo i) c.setup.floor (eu i) (take (en i) counts))

      f_is : f ≡ scan_due s (looked_at (rule Ov s).limit c.setup.floor (rule Uv s).limit (take (inputs c.setup) counts)).over
          (looked_at (rule Ov s).limit c.setup.floor (rule Uv s).limit (take (inputs c.setup) counts)).under (streaks_in before)
      f_is = ef ∙ (λ i. scan_due s (l_is i).over (l_is i).under (ew i))

      r_is : r ≡ scan_kept (looked_at (rule Ov s).limit c.setup.floor (rule Uv s).limit (take (inputs c.setup) counts)).cells
          (looked_at (rule Ov s).limit c.setup.floor (rule Uv s).limit (take (inputs c.setup) counts)).sum c.registers
      r_is = er ∙ ap (λ (l : Looked). scan_kept l.cells l.sum c.registers) l_is
