-- CHIP H1 and H2 read fault by fault, in the numbers of CHIP J2 to J8: what a verdict is, how many are needed, and when the bit is up.
-- Assumes nothing.
use Rattle.std.specs.Prelude.{◌≡◌, true, ◌&&◌, cond, List, [], ◌∷◌, ◌↔◌, ℕ, ◌+◌, ◌*◌, ◌/◌, ◌%◌, get_or, ℤ, pos, neg_ℤ}
use Rattle.std.proofs.Math.Path.{refl}
use Rattle.std.proofs.Math.Logic.{◌∨₁◌}
use Rattle.std.specs.Int.Signed.{lt_z}
use Rattle.events.specs.declared.Setup.{Setup}
use Rattle.events.specs.Event.{Event, Scan, Sense, fits, sense_fits}
use Rattle.bits.specs.Numbers.{within}
use Rattle.events.specs.declared.Fault.TheVariants.{Ov, Uv, Scd, Ocd}
use Rattle.bits.specs.Bit.{bit}
use Rattle.cell_counts.specs.Scan.{some_above, some_between}
use Rattle.limits.specs.Rule.{rule, over, under, beyond, scd_limit, ocd_limit}
use Rattle.demands.specs.Demand.{up, Accepted, standing, said, delay, Due}
use Rattle.demands.proofs.Theorem.{rising}

module _ (u : Setup) (past : List Event) where
  -- ── a scan: the settings that stand when it comes, and no others ──
  module _ (xs : List ℕ) where
    -- OV: ADC_EN, and some count above 8,200 + 16 × OV_TRIP
    pub ov_verdict : said u Ov past (Scan xs)
        ≡ cond (within 16383 xs) (((standing u past).adc_en && some_above (8200 + 16 * (standing u past).ov_trip) xs) ∷ []) []
    unfolding fits rule over
    ov_verdict = refl

    -- UV: ADC_EN, and some count not below the floor and below 4,096 + 16 × UV_TRIP
    pub uv_verdict : said u Uv past (Scan xs)
        ≡ cond (within 16383 xs) (((standing u past).adc_en && some_between u.floor (4096 + 16 * (standing u past).uv_trip) xs) ∷ []) []
    unfolding fits rule under
    uv_verdict = refl

    pub ov_after_scan : Accepted u past (Scan xs) → (up u Ov (Scan xs ∷ past) ≡ true) ↔ ((up u Ov past ≡ true) ∨₁ Due u Ov (Scan xs ∷ past))
    ov_after_scan n = rising u Ov past (Scan xs) refl n

    pub uv_after_scan : Accepted u past (Scan xs) → (up u Uv (Scan xs ∷ past) ≡ true) ↔ ((up u Uv past ≡ true) ∨₁ Due u Uv (Scan xs ∷ past))
    uv_after_scan n = rising u Uv past (Scan xs) refl n

  -- ── a tick: minus the value exceeds the threshold of the code that stands ──
  module _ (v : ℤ) where
    pub scd_verdict : said u Scd past (Sense v)
        ≡ cond (sense_fits v)
        (lt_z (pos (get_or (scd_limit (bit (standing u past).protect1 128)) ((standing u past).protect1 % 8) 0)) (neg_ℤ v) ∷ []) []
    unfolding fits rule beyond
    scd_verdict = refl

    pub ocd_verdict : said u Ocd past (Sense v)
        ≡ cond (sense_fits v)
        (lt_z (pos (get_or (ocd_limit (bit (standing u past).protect1 128)) ((standing u past).protect2 % 16) 0)) (neg_ℤ v) ∷ []) []
    unfolding fits rule beyond
    ocd_verdict = refl

    pub scd_after_tick : Accepted u past (Sense v)
        → (up u Scd (Sense v ∷ past) ≡ true) ↔ ((up u Scd past ≡ true) ∨₁ Due u Scd (Sense v ∷ past))
    scd_after_tick n = rising u Scd past (Sense v) refl n

    pub ocd_after_tick : Accepted u past (Sense v)
        → (up u Ocd (Sense v ∷ past) ≡ true) ↔ ((up u Ocd past ≡ true) ∨₁ Due u Ocd (Sense v ∷ past))
    ocd_after_tick n = rising u Ocd past (Sense v) refl n

  -- ── the delays now set: scans and ticks, with DELAY_DIS one ──
  pub ov_delay : delay u Ov past
      ≡ cond (standing u past).delay_dis 1 (get_or (4 ∷ 8 ∷ 16 ∷ 32 ∷ []) ((standing u past).protect3 / 16 % 4) 0)
  unfolding rule
  ov_delay = refl

  pub uv_delay : delay u Uv past
      ≡ cond (standing u past).delay_dis 1 (get_or (4 ∷ 16 ∷ 32 ∷ 64 ∷ []) ((standing u past).protect3 / 64 % 4) 0)
  unfolding rule
  uv_delay = refl

  pub scd_delay : delay u Scd past
      ≡ cond (standing u past).delay_dis 1 (get_or (3 ∷ 4 ∷ 7 ∷ 13 ∷ []) ((standing u past).protect1 / 8 % 4) 0)
  unfolding rule
  scd_delay = refl

  pub ocd_delay : delay u Ocd past
      ≡ cond (standing u past).delay_dis 1
      (get_or (256 ∷ 640 ∷ 1280 ∷ 2560 ∷ 5120 ∷ 10240 ∷ 20480 ∷ 40960 ∷ []) ((standing u past).protect2 / 16 % 8) 0)
  unfolding rule
  ocd_delay = refl
