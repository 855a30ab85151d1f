-- Where the stream stands after a record, by the parts of the code. Assumes nothing.
use mathlib.Core.Path.{◌≡◌, sym, ap, subst, ◌∙◌}
use mathlib.Core.Bool.{Bool, false, cond}
use mathlib.Core.List.{List}
use Prim.Native.Nat.{ℕ, ◌+◌, ◌-◌, ◌≤◌}
use native.Mathlib.Omega.{arith}
use lib.ListN.{length, take, drop, length-drop}
use Rattle.records.specs.declared.Read.{Read}
use Rattle.records.specs.declared.Read.TheVariants.{Record, Refused, Cut}
use Rattle.records.specs.Record.{read_of}
use Rattle.records.specs.ReadingLaws.{Placed, placed}
use Rattle.chip.specs.declared.Chip.{Chip}
use Rattle.turn.specs.Turn.{Turn, turned, turn_of}
use Rattle.turn.proofs.Runs.{rest_is}
use Rattle.turn.specs.declared.Turned.{Turned}
use Rattle.turn.specs.TurnedLaws.{as_turn}
use Rattle.events.specs.Setup.{inputs}
use Rattle.events.specs.declared.Fault.TheVariants.{Uv}
use Rattle.limits.specs.Rule.{rule, limit_of}
use Rattle.why_scan.specs.Scan.{is_outside, says_scan}
use Rattle.why_scan.specs.declared.Says.{Says}
use Rattle.why_walk.specs.declared.Standing.{Standing}
use Rattle.why_walk.specs.Says.{scan_says, says_in, streak_after}
use Rattle.why_walk.specs.Standing.{past, advanced}

-- ── a scan, of UV ──
pub scan_uv : {w : Says} {n line : ℕ} (b : ℕ) (c : Chip) (counts : List ℕ) → b ≡ 8 → n ≡ inputs c.setup → line ≡ limit_of Uv c.registers.settings
    → w ≡ says_scan c.registers.settings.adc_en (is_outside false c.setup.floor line) (take n counts) → w ≡ scan_says b c (take (inputs c.setup) counts)
unfolding scan_says rule
scan_uv b c counts h en el e =
    rw h (e ∙ (λ i. says_scan c.registers.settings.adc_en (is_outside false c.setup.floor (el i)) (take (en i) counts)))

-- ── past a record ──
pub advanced_is : {w : Says} {streak at : ℕ} (s : List ℕ) (b : ℕ) (g : Standing) (t : Turned) → w ≡ says_in b g.chip (take (length s - g.at) (drop g.at s))
    → as_turn t ≡ turn_of g.fresh g.chip (take (length s - g.at) (drop g.at s)) → streak ≡ streak_after w t.chip.normal g.streak
    → at ≡ cond t.last (length s) (g.at + t.next)
    → record { chip = t.chip; fresh = t.fresh; at = at; streak = streak; stat = t.entry.stat; pins = t.entry.pins } ≡ advanced s b g
unfolding advanced
advanced_is {w} s b g t e q m p =
    (λ i. record { chip = t.chip; fresh = t.fresh; at = p i; streak = m i; stat = t.entry.stat; pins = t.entry.pins })
    ∙ ap (λ (w : Says). past (length s) (as_turn t) w g) e ∙ ap (λ (t : Turn). past (length s) t (says_in b g.chip (take (length s - g.at) (drop g.at s))) g) q
    ∙ ap (λ (r : List ℕ). past (length s) (turn_of g.fresh g.chip r) (says_in b g.chip r) g) (rest_is s g.at)

turn_next : (o : Bool) (c : Chip) (r : List ℕ) → (turn_of o c r).next ≤ length r
unfolding turn_of
turn_next o c r = by (read_of c.setup.part r) (placed c.setup.part r)
  where
    by : (x : Read) → Placed (length r) x → (turned o c r x).next ≤ length r
    by (Record e next) g = g.1
    by (Refused k next) g = g.1
    by Cut g = omega arith

pub next_fits : (s : List ℕ) (at : ℕ) (o : Bool) (c : Chip) (t : Turned) → at ≤ length s → as_turn t ≡ turn_of o c (take (length s - at) (drop at s)) → at + t.next ≤ length s
next_fits s at o c t h q =
    let r : List ℕ = take (length s - at) (drop at s) in
    let l : length r ≡ length s - at = ap length (rest_is s at) ∙ length-drop at s in
    let n : t.next ≤ length r = subst (λ (x : Turn). x.next ≤ length r) (sym q) (turn_next o c r) in
    omega (arith, l, n, h)
