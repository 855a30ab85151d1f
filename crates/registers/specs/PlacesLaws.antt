-- CHIP G7, G8 and G15: where each bit of SYS_CTRL1 and SYS_CTRL2 is read and what it says there, and which word an input reads. Assumes
-- nothing.
use Rattle.std.specs.Prelude.{◌≡◌, refl, Bool, true, false, not, ◌&&◌, cond, ℕ, ◌+◌, ◌<◌, get_or}
use Rattle.std.proofs.Common.{ap, lt-ltb}
use Rattle.events.specs.declared.Setup.{Setup}
use Rattle.events.specs.Setup.{groups, inputs}
use Rattle.bits.specs.Bit.{bit, weighed}
use Rattle.registers.specs.declared.Registers.{Registers}
use Rattle.registers.specs.declared.Measured.{Measured}
use Rattle.registers.specs.Read.{ctrl1_byte, ctrl2_byte, cell_at, ts_at}

abbrev four : Bool → Bool → Bool → Bool → ℕ
four a b c d = weighed a 128 + weighed b 16 + weighed c 8 + weighed d 1

four_apart : (a b c d : Bool)
    → (bit (four a b c d) 128 ≡ a) × (bit (four a b c d) 16 ≡ b) × (bit (four a b c d) 8 ≡ c) × (bit (four a b c d) 1 ≡ d)
four_apart true true true true = (refl, refl, refl, refl)
four_apart true true true false = (refl, refl, refl, refl)
four_apart true true false true = (refl, refl, refl, refl)
four_apart true true false false = (refl, refl, refl, refl)
four_apart true false true true = (refl, refl, refl, refl)
four_apart true false true false = (refl, refl, refl, refl)
four_apart true false false true = (refl, refl, refl, refl)
four_apart true false false false = (refl, refl, refl, refl)
four_apart false true true true = (refl, refl, refl, refl)
four_apart false true true false = (refl, refl, refl, refl)
four_apart false true false true = (refl, refl, refl, refl)
four_apart false true false false = (refl, refl, refl, refl)
four_apart false false true true = (refl, refl, refl, refl)
four_apart false false true false = (refl, refl, refl, refl)
four_apart false false false true = (refl, refl, refl, refl)
four_apart false false false false = (refl, refl, refl, refl)

abbrev five : Bool → Bool → Bool → Bool → Bool → ℕ
five a b c d e = weighed a 128 + weighed b 64 + weighed c 32 + weighed d 2 + weighed e 1

five_apart : (a b c d e : Bool)
    → (bit (five a b c d e) 128 ≡ a) × (bit (five a b c d e) 64 ≡ b) × (bit (five a b c d e) 32 ≡ c) × (bit (five a b c d e) 2 ≡ d)
    × (bit (five a b c d e) 1 ≡ e)
five_apart true true true true true = (refl, refl, refl, refl, refl)
five_apart true true true true false = (refl, refl, refl, refl, refl)
five_apart true true true false true = (refl, refl, refl, refl, refl)
five_apart true true true false false = (refl, refl, refl, refl, refl)
five_apart true true false true true = (refl, refl, refl, refl, refl)
five_apart true true false true false = (refl, refl, refl, refl, refl)
five_apart true true false false true = (refl, refl, refl, refl, refl)
five_apart true true false false false = (refl, refl, refl, refl, refl)
five_apart true false true true true = (refl, refl, refl, refl, refl)
five_apart true false true true false = (refl, refl, refl, refl, refl)
five_apart true false true false true = (refl, refl, refl, refl, refl)
five_apart true false true false false = (refl, refl, refl, refl, refl)
five_apart true false false true true = (refl, refl, refl, refl, refl)
five_apart true false false true false = (refl, refl, refl, refl, refl)
five_apart true false false false true = (refl, refl, refl, refl, refl)
five_apart true false false false false = (refl, refl, refl, refl, refl)
five_apart false true true true true = (refl, refl, refl, refl, refl)
five_apart false true true true false = (refl, refl, refl, refl, refl)
five_apart false true true false true = (refl, refl, refl, refl, refl)
five_apart false true true false false = (refl, refl, refl, refl, refl)
five_apart false true false true true = (refl, refl, refl, refl, refl)
five_apart false true false true false = (refl, refl, refl, refl, refl)
five_apart false true false false true = (refl, refl, refl, refl, refl)
five_apart false true false false false = (refl, refl, refl, refl, refl)
five_apart false false true true true = (refl, refl, refl, refl, refl)
five_apart false false true true false = (refl, refl, refl, refl, refl)
five_apart false false true false true = (refl, refl, refl, refl, refl)
five_apart false false true false false = (refl, refl, refl, refl, refl)
five_apart false false false true true = (refl, refl, refl, refl, refl)
five_apart false false false true false = (refl, refl, refl, refl, refl)
five_apart false false false false true = (refl, refl, refl, refl, refl)
five_apart false false false false false = (refl, refl, refl, refl, refl)

-- LOAD_PRESENT is the load level while CHG_ON is 0; ADC_EN, TEMP_SEL, SHUT_B
pub ctrl1_places : (r : Registers)
    → (bit (ctrl1_byte r) 128 ≡ r.load_level && not r.shown.chg_on) × (bit (ctrl1_byte r) 16 ≡ r.settings.adc_en)
    × (bit (ctrl1_byte r) 8 ≡ r.settings.temp_sel) × (bit (ctrl1_byte r) 1 ≡ r.settings.shut_b)
ctrl1_places r =
    four_apart (r.load_level && not r.shown.chg_on) r.settings.adc_en r.settings.temp_sel r.settings.shut_b

-- DELAY_DIS, CC_EN, CC_ONESHOT, DSG_ON, CHG_ON
pub ctrl2_places : (r : Registers)
    → (bit (ctrl2_byte r) 128 ≡ r.settings.delay_dis) × (bit (ctrl2_byte r) 64 ≡ r.settings.cc_en)
    × (bit (ctrl2_byte r) 32 ≡ r.shown.cc_oneshot) × (bit (ctrl2_byte r) 2 ≡ r.shown.dsg_on)
    × (bit (ctrl2_byte r) 1 ≡ r.shown.chg_on)
ctrl2_places r =
    five_apart r.settings.delay_dis r.settings.cc_en r.shown.cc_oneshot r.shown.dsg_on r.shown.chg_on

-- each input and each thermistor that the part has reads its own word
pub cell_reads : (u : Setup) (m : Measured) (k : ℕ) → k < inputs u → cell_at u m k ≡ get_or m.cells k 0
cell_reads u m k h = ap (λ (t : Bool). cond t (get_or m.cells k 0) 0) (lt-ltb k (inputs u) h)

pub ts_reads : (u : Setup) (m : Measured) (k : ℕ) → k < groups u → ts_at u m k ≡ get_or m.ts k 0
ts_reads u m k h = ap (λ (t : Bool). cond t (get_or m.ts k 0) 0) (lt-ltb k (groups u) h)
