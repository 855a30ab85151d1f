-- CHIP P18, J13: the bits that are said to hold a drive are those of SYS_STAT that are up and keep it from being switched on, and no other.
-- Assumes nothing.
use Rattle.std.specs.Prelude.{◌≡◌, refl, Bool, true, false, ◌||◌, ℕ, ◌+◌, ◌*◌, ◌/◌, ◌%◌, ◌≤◌, eqb}
use Rattle.std.proofs.Common.{sym, ap, ◌∙◌, arith}
use Rattle.bits.specs.Bit.{bit, weighed}
use Rattle.registers.specs.declared.Status.{Status}
use Rattle.registers.specs.Read.{status_byte}
use Rattle.registers.specs.Write.{holds_chg, holds_dsg}
use Rattle.events.specs.declared.Fault.TheVariants.{Ov, Uv, Scd, Ocd}
use Rattle.demands.proofs.BytesLaws.{status_bit}
use Rattle.causes.specs.Hold.{held_by}

one_is : (b : Bool) → eqb (weighed b 1) 1 ≡ b
one_is true = refl
one_is false = refl

one_most : (b : Bool) → weighed b 1 ≤ 1
one_most true = omega arith
one_most false = omega arith

times : (b : Bool) (w : ℕ) → weighed b w ≡ weighed b 1 * w
times true w = omega arith
times false w = omega arith

upper : (x7 x5 x4 x3 x2 x1 x0 s : ℕ) → x5 ≤ 1 → x4 ≤ 1 → x3 ≤ 1 → x2 ≤ 1 → x1 ≤ 1 → x0 ≤ 1
    → s ≡ x7 * 128 + x5 * 32 + x4 * 16 + x3 * 8 + x2 * 4 + x1 * 2 + x0 → (s / 16 % 2 ≡ x4) × (s / 32 % 2 ≡ x5)
upper x7 x5 x4 x3 x2 x1 x0 s h5 h4 h3 h2 h1 h0 e = (omega arith, omega arith)

module _ (t : Status) where
  upper_bits : (status_byte t / 16 % 2 ≡ weighed t.ovrd_alert 1) × (status_byte t / 32 % 2 ≡ weighed t.xready 1)
  upper_bits =
      upper (weighed t.cc_ready 1) (weighed t.xready 1) (weighed t.ovrd_alert 1) (weighed t.uv 1) (weighed t.ov 1)
      (weighed t.scd 1) (weighed t.ocd 1) (status_byte t) (one_most t.xready) (one_most t.ovrd_alert) (one_most t.uv)
      (one_most t.ov) (one_most t.scd) (one_most t.ocd)
      (omega (
        arith,
        times t.cc_ready 128,
        times t.xready 32,
        times t.ovrd_alert 16,
        times t.uv 8,
        times t.ov 4,
        times t.scd 2,
      ))

  ovrd_is : bit (status_byte t) 16 ≡ t.ovrd_alert
  ovrd_is = ap (λ (n : ℕ). eqb n 1) upper_bits.0 ∙ one_is t.ovrd_alert

  xready_is : bit (status_byte t) 32 ≡ t.xready
  xready_is = ap (λ (n : ℕ). eqb n 1) upper_bits.1 ∙ one_is t.xready

  -- CHG is held by OVRD_ALERT, XREADY and OV, each shown by its own weight
  pub held_chg : held_by (status_byte t) 2 ≡ weighed t.ovrd_alert 16 + weighed t.xready 32 + weighed t.ov 4
  held_chg =
      λ i. weighed (ovrd_is i) 16 + weighed (xready_is i) 32 + weighed (status_bit t Ov i) 4

  pub held_dsg : held_by (status_byte t) 1
      ≡ weighed t.ovrd_alert 16 + weighed t.xready 32 + weighed t.uv 8 + weighed t.scd 2 + weighed t.ocd 1
  held_dsg =
      λ i. weighed (ovrd_is i) 16 + weighed (xready_is i) 32 + weighed (status_bit t Uv i) 8 + weighed (status_bit t Scd i) 2
      + weighed (status_bit t Ocd i) 1

  some_chg : (a b c : Bool) → weighed a 16 + weighed b 32 + weighed c 4 ≡ 0 → c || a || b ≡ false
  some_chg false false false h = refl
  some_chg true b c h = absurd (omega (arith, h))
  some_chg false true c h = absurd (omega (arith, h))
  some_chg false false true h = absurd (omega (arith, h))

  -- and where none is said to hold it, none does: a write that asks for CHG is then taken
  pub free_chg : held_by (status_byte t) 2 ≡ 0 → holds_chg t ≡ false
  free_chg h = some_chg t.ovrd_alert t.xready t.ov (sym held_chg ∙ h)

  some_dsg : (a b c d e : Bool) → weighed a 16 + weighed b 32 + weighed c 8 + weighed d 2 + weighed e 1 ≡ 0 → c || e || d || a || b ≡ false
  some_dsg false false false false false h = refl
  some_dsg true b c d e h = absurd (omega (arith, h))
  some_dsg false true c d e h = absurd (omega (arith, h))
  some_dsg false false true d e h = absurd (omega (arith, h))
  some_dsg false false false true e h = absurd (omega (arith, h))
  some_dsg false false false false true h = absurd (omega (arith, h))

  pub free_dsg : held_by (status_byte t) 1 ≡ 0 → holds_dsg t ≡ false
  free_dsg h = some_dsg t.ovrd_alert t.xready t.uv t.scd t.ocd (sym held_dsg ∙ h)
