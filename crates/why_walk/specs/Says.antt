-- CHIP P17: what a record says of a bit of SYS_STAT, by the chip that stands when it comes: one verdict of a scan on OV or UV, as many as
-- its ticks on SCD or OCD. Assumes nothing.
use Rattle.std.specs.Prelude.{Bool, true, false, cond, List, ℕ, ◌+◌, eqb, ℤ, take}
use Rattle.events.specs.declared.Counts.{Counts}
use Rattle.events.specs.declared.Event.{Event}
use Rattle.events.specs.declared.Event.TheVariants.{Setup, Por, Boot, Scan, Temp, Count, Sense, Pin, Load, Xready, OnBus, Level, Ticks}
use Rattle.events.specs.declared.Event.TheVariants.{Soak, Wires}
use Rattle.events.specs.Setup.{inputs}
use Rattle.events.specs.declared.Fault.TheVariants.{Ov, Uv, Scd, Ocd}
use Rattle.records.specs.declared.Read.{Read}
use Rattle.records.specs.declared.Read.TheVariants.{Record, Refused, Cut}
use Rattle.records.specs.Record.{read_of, counts_beside}
use Rattle.bits.specs.Numbers.{bits32}
use Rattle.limits.specs.Rule.{rule, beyond}
use Rattle.chip.specs.declared.Chip.{Chip}
use Rattle.why_scan.specs.declared.Says.{Says}
use Rattle.why_scan.specs.Scan.{is_outside, says_none, says_scan}

-- ── what a record says ──
abbrev pub says_pin : Says
says_pin = record { many = 0; verdict = false; input = 0; value = 0; pin = true }

abbrev pub says_ticks : Bool → ℤ → ℕ → Says
says_ticks verdict v n = record { many = n; verdict = verdict; input = 0; value = bits32 v; pin = false }

-- of the bit with weight 4 or 8, OV or UV
unfoldable pub scan_says : ℕ → Chip → List ℕ → Says
scan_says b c xs =
    cond (eqb b 4)
    (says_scan c.registers.settings.adc_en (is_outside true c.setup.floor (rule Ov c.registers.settings).limit) xs)
    (cond (eqb b 8)
    (says_scan c.registers.settings.adc_en (is_outside false c.setup.floor (rule Uv c.registers.settings).limit) xs) says_none)

-- .. with weight 2 or 1, SCD or OCD
unfoldable pub ticks_say : ℕ → Chip → ℤ → ℕ → Says
ticks_say b c v n =
    cond (eqb b 2) (says_ticks (beyond (rule Scd c.registers.settings) v) v n)
    (cond (eqb b 1) (says_ticks (beyond (rule Ocd c.registers.settings) v) v n) says_none)

unfoldable pub event_says : ℕ → Chip → Event → Counts → Says
event_says b c (Setup v) k = says_none
event_says b c Por k = says_none
event_says b c Boot k = says_none
event_says b c Scan k = scan_says b c (take (inputs c.setup) k.of)
event_says b c Temp k = says_none
event_says b c (Count n) k = says_none
event_says b c (Sense v) k = ticks_say b c v 1
event_says b c Pin k = says_pin
event_says b c (Load l) k = says_none
event_says b c Xready k = says_none
event_says b c (OnBus x) k = says_none
event_says b c (Level l) k = says_none
event_says b c (Ticks v n) k = ticks_say b c v n
event_says b c (Soak v n) k = ticks_say b c v n
event_says b c (Wires n) k = says_none

abbrev pub says_read : ℕ → Chip → List ℕ → Read → Says
says_read b c r (Record e next) = event_says b c e (counts_beside r (Record e next))
says_read b c r (Refused k next) = says_none
says_read b c r Cut = says_none

-- the record at the start of r
unfoldable pub says_in : ℕ → Chip → List ℕ → Says
says_in b c r = says_read b c r (read_of c.setup.part r)

-- ── how many of the newest verdicts are true, after the record: SHIP ends the spell ──
unfoldable pub streak_after : Says → Bool → ℕ → ℕ
streak_after w normal n = cond normal (cond (eqb w.many 0) n (cond w.verdict (n + w.many) 0)) 0
