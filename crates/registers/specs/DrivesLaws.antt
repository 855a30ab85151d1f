-- CHIP G9, G10 and J13: a drive is stored 1 under none of its faults, and a fault that rises puts its drive off.
-- Assumes nothing.
use Rattle.std.specs.Prelude.{◌≡◌, Bool, true, false, ℕ}
use Rattle.std.proofs.Math.Bool.{or-true, and-false}
use Rattle.events.specs.declared.Fault.{Fault}
use Rattle.events.specs.declared.Fault.TheVariants.{Ov, Uv, Scd, Ocd}
use Rattle.registers.specs.declared.Shown.{Shown}
use Rattle.registers.specs.Write.{driven}
use Rattle.registers.specs.Fault.{bit_of, drive_of, raised}

pub drive_down : (k : Fault) (v : ℕ) (s : Shown) → bit_of k s.status ≡ true → drive_of k (driven v s) ≡ false
drive_down Ov v s e = simp (e, and-false)
drive_down Uv v s e = simp (e, and-false)
drive_down Scd v s e = simp (e, or-true, and-false)
drive_down Ocd v s e = simp (e, or-true, and-false)

pub rises : (k : Fault) (f : Fault → Bool) (s : Shown) → f k ≡ true → bit_of k (raised f s).status ≡ true
rises Ov f s e = simp e
rises Uv f s e = simp e
rises Scd f s e = simp e
rises Ocd f s e = simp e

pub puts_off : (k : Fault) (f : Fault → Bool) (s : Shown) → f k ≡ true → drive_of k (raised f s) ≡ false
puts_off Ov f s e = simp e
puts_off Uv f s e = simp e
puts_off Scd f s e = simp (e, or-true)
puts_off Ocd f s e = simp (e, or-true)
