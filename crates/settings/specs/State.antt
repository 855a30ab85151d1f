-- CHIP G6, G8 and G12 to G14: the settings, which accepted writes alone move: their reset values, and one register put anew. Assumes
-- nothing.
use Rattle.std.specs.Prelude.{Bool, true, false, ℕ}
use Rattle.settings.specs.declared.Settings.{Settings}

-- the resets (CHIP G19)
abbrev pub reset_settings : Settings
reset_settings =
    record {
      adc_en = true;
      temp_sel = false;
      shut_b = false;
      delay_dis = false;
      cc_en = false;
      protect1 = 0;
      protect2 = 0;
      protect3 = 0;
      ov_trip = 0xAC;
      uv_trip = 0x97;
      cc_cfg = 0x17;
    }

abbrev pub with_ctrl1 : Bool → Bool → Bool → Settings → Settings
with_ctrl1 adc temp held s =
    record {
      adc_en = adc;
      temp_sel = temp;
      shut_b = held;
      delay_dis = s.delay_dis;
      cc_en = s.cc_en;
      protect1 = s.protect1;
      protect2 = s.protect2;
      protect3 = s.protect3;
      ov_trip = s.ov_trip;
      uv_trip =
          s.uv_trip;
      cc_cfg = s.cc_cfg;
    }

abbrev pub with_ctrl2 : Bool → Bool → Settings → Settings
with_ctrl2 dis cc s =
    record {
      adc_en = s.adc_en;
      temp_sel = s.temp_sel;
      shut_b = s.shut_b;
      delay_dis = dis;
      cc_en = cc;
      protect1 = s.protect1;
      protect2 = s.protect2;
      protect3 = s.protect3;
      ov_trip = s.ov_trip;
      uv_trip =
          s.uv_trip;
      cc_cfg = s.cc_cfg;
    }

abbrev pub with_protect1 : ℕ → Settings → Settings
with_protect1 v s =
    record {
      adc_en = s.adc_en;
      temp_sel = s.temp_sel;
      shut_b = s.shut_b;
      delay_dis = s.delay_dis;
      cc_en = s.cc_en;
      protect1 = v;
      protect2 = s.protect2;
      protect3 = s.protect3;
      ov_trip = s.ov_trip;
      uv_trip =
          s.uv_trip;
      cc_cfg = s.cc_cfg;
    }

abbrev pub with_protect2 : ℕ → Settings → Settings
with_protect2 v s =
    record {
      adc_en = s.adc_en;
      temp_sel = s.temp_sel;
      shut_b = s.shut_b;
      delay_dis = s.delay_dis;
      cc_en = s.cc_en;
      protect1 = s.protect1;
      protect2 = v;
      protect3 = s.protect3;
      ov_trip = s.ov_trip;
      uv_trip =
          s.uv_trip;
      cc_cfg = s.cc_cfg;
    }

abbrev pub with_protect3 : ℕ → Settings → Settings
with_protect3 v s =
    record {
      adc_en = s.adc_en;
      temp_sel = s.temp_sel;
      shut_b = s.shut_b;
      delay_dis = s.delay_dis;
      cc_en = s.cc_en;
      protect1 = s.protect1;
      protect2 = s.protect2;
      protect3 = v;
      ov_trip = s.ov_trip;
      uv_trip =
          s.uv_trip;
      cc_cfg = s.cc_cfg;
    }

abbrev pub with_ov_trip : ℕ → Settings → Settings
with_ov_trip v s =
    record {
      adc_en = s.adc_en;
      temp_sel = s.temp_sel;
      shut_b = s.shut_b;
      delay_dis = s.delay_dis;
      cc_en = s.cc_en;
      protect1 = s.protect1;
      protect2 = s.protect2;
      protect3 = s.protect3;
      ov_trip = v;
      uv_trip =
          s.uv_trip;
      cc_cfg = s.cc_cfg;
    }

abbrev pub with_uv_trip : ℕ → Settings → Settings
with_uv_trip v s =
    record {
      adc_en = s.adc_en;
      temp_sel = s.temp_sel;
      shut_b = s.shut_b;
      delay_dis = s.delay_dis;
      cc_en = s.cc_en;
      protect1 = s.protect1;
      protect2 = s.protect2;
      protect3 = s.protect3;
      ov_trip =
          s.ov_trip;
      uv_trip = v;
      cc_cfg = s.cc_cfg;
    }

abbrev pub with_cc_cfg : ℕ → Settings → Settings
with_cc_cfg v s =
    record {
      adc_en = s.adc_en;
      temp_sel = s.temp_sel;
      shut_b = s.shut_b;
      delay_dis = s.delay_dis;
      cc_en = s.cc_en;
      protect1 = s.protect1;
      protect2 = s.protect2;
      protect3 = s.protect3;
      ov_trip =
          s.ov_trip;
      uv_trip = s.uv_trip;
      cc_cfg = v;
    }
