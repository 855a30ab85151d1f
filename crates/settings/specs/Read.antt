-- CHIP G12 to G14: what the registers read that are settings alone; bits that they have not read 0, whatever the byte holds.
-- Assumes nothing.
use Rattle.std.specs.Prelude.{cond, ℕ, eqb}
use Rattle.constants.specs.Address.{PROTECT1, PROTECT2, PROTECT3, OV_TRIP, UV_TRIP, CC_CFG}
use Rattle.settings.specs.declared.Settings.{Settings}
use Rattle.settings.specs.Write.{protect1_of, protect2_of, protect3_of, cc_cfg_of}

unfoldable pub settings_byte : Settings → ℕ → ℕ
settings_byte s a =
    cond (eqb a PROTECT1) (protect1_of s.protect1)
    (cond (eqb a PROTECT2) (protect2_of s.protect2)
    (cond (eqb a PROTECT3) (protect3_of s.protect3)
    (cond (eqb a OV_TRIP) s.ov_trip
    (cond (eqb a UV_TRIP) s.uv_trip
    (cond (eqb a CC_CFG) (cc_cfg_of s.cc_cfg)
    0)))))
