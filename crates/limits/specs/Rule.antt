-- CHIP J2 to J8: the rule of a fault as the settings now have it, and the verdict of a scan or tick. Assumes nothing.
use Rattle.std.specs.Prelude.{Bool, true, false, ◌&&◌, cond, List, [], ◌∷◌, ℕ, zero, suc, ◌+◌, ◌*◌, ◌/◌, ◌%◌, max, get_or, ℤ, pos, neg_ℤ}
use Rattle.std.specs.Int.Signed.{lt_z}
use Rattle.events.specs.Event.{Event, Por, Boot, Pin, Xready, Scan, Temp, Count, Sense, Load, OnBus, Level}
use Rattle.events.specs.declared.Fault.{Fault}
use Rattle.events.specs.declared.Fault.TheVariants.{Ov, Uv, Scd, Ocd}
use Rattle.settings.specs.declared.Settings.{Settings}
use Rattle.limits.specs.declared.Rule.{Rule}
use Rattle.bits.specs.Bit.{bit}
use Rattle.cell_counts.specs.Scan.{some_above, some_between}

-- OCD ticks by doubling (CHIP J7)
abbrev pub doubled : ℕ → ℕ → ℕ
doubled zero x = x
doubled (suc n) x = 2 * doubled n x

abbrev pub ocd_ticks : ℕ → ℕ
ocd_ticks zero = 256
ocd_ticks (suc k) = doubled k 640

-- ── delays (CHIP J7), and the longest of each, where a run stops ──
abbrev pub delay_table : Fault → List ℕ
delay_table Ov = 4 ∷ 8 ∷ 16 ∷ 32 ∷ []
delay_table Uv = 4 ∷ 16 ∷ 32 ∷ 64 ∷ []
delay_table Scd = 3 ∷ 4 ∷ 7 ∷ 13 ∷ []
delay_table Ocd = 256 ∷ 640 ∷ 1280 ∷ 2560 ∷ 5120 ∷ 10240 ∷ 20480 ∷ 40960 ∷ []

abbrev pub longest : List ℕ → ℕ
longest [] = 0
longest (x ∷ xs) = max x (longest xs)

abbrev pub cap : Fault → ℕ
cap k = longest (delay_table k)

-- their codes in PROTECT1 to 3
abbrev pub delay_code : Fault → Settings → ℕ
delay_code Ov s = s.protect3 / 16 % 4
delay_code Uv s = s.protect3 / 64 % 4
delay_code Scd s = s.protect1 / 8 % 4
delay_code Ocd s = s.protect2 / 16 % 8

-- DELAY_DIS (CHIP J8)
abbrev pub short : Fault → Settings → Bool
short k s = s.delay_dis

-- ── thresholds (CHIP J6) ──
abbrev pub scd_limit : Bool → List ℕ
scd_limit false = 18500 ∷ 29000 ∷ 39000 ∷ 49000 ∷ 59000 ∷ 69500 ∷ 79500 ∷ 91000 ∷ []
scd_limit true = 37000 ∷ 59000 ∷ 78500 ∷ 98000 ∷ 119000 ∷ 139000 ∷ 159000 ∷ 181500 ∷ []

abbrev pub ocd_limit : Bool → List ℕ
ocd_limit false =
    9500 ∷ 11500 ∷ 14500 ∷ 17500 ∷ 19500 ∷ 22500 ∷ 25000 ∷ 28000 ∷ 31500 ∷ 33000 ∷ 36500 ∷ 40500 ∷ 42000 ∷ 44500 ∷ 46000 ∷ 48000 ∷ []
ocd_limit true =
    18500 ∷ 22500 ∷ 28500 ∷ 34500 ∷ 38500 ∷ 44500 ∷ 49500 ∷ 56500 ∷ 62500 ∷ 65000 ∷ 72500 ∷ 80500 ∷ 83500 ∷ 88500 ∷ 90500 ∷ 94000 ∷ []

abbrev pub limit_of : Fault → Settings → ℕ
limit_of Ov s = 8200 + 16 * s.ov_trip
limit_of Uv s = 4096 + 16 * s.uv_trip
limit_of Scd s = get_or (scd_limit (bit s.protect1 128)) (s.protect1 % 8) 0
limit_of Ocd s = get_or (ocd_limit (bit s.protect1 128)) (s.protect2 % 16) 0

-- ── the rule: whether it is measured (ADC_EN is the cells' alone), its limit in counts or µV, and the scans or ticks that it takes ──
-- the delay of its code
abbrev pub delay_of : Fault → Settings → ℕ
delay_of k s = get_or (delay_table k) (delay_code k s) 0

abbrev pub measured_by : Fault → Settings → Bool
measured_by Ov s = s.adc_en
measured_by Uv s = s.adc_en
measured_by Scd s = true
measured_by Ocd s = true

unfoldable pub rule : Fault → Settings → Rule
rule k s = record { on = measured_by k s; limit = limit_of k s; need = cond (short k s) 1 (delay_of k s) }

-- ── verdicts ──
-- over (CHIP J2)
unfoldable pub over : Rule → List ℕ → Bool
over r xs = r.on && some_above r.limit xs

-- under (CHIP J3)
unfoldable pub under : ℕ → Rule → List ℕ → Bool
under floor r xs = r.on && some_between floor r.limit xs

-- over, of a tick (CHIP J5)
unfoldable pub beyond : Rule → ℤ → Bool
beyond r v = r.on && lt_z (pos r.limit) (neg_ℤ v)

-- what a scan, a tick, an event says of fault k under its rule: one verdict where it judges k, none where it does not
abbrev pub of_scan : Fault → ℕ → Rule → List ℕ → List Bool
of_scan Ov floor r xs = over r xs ∷ []
of_scan Uv floor r xs = under floor r xs ∷ []
of_scan Scd floor r xs = []
of_scan Ocd floor r xs = []

abbrev pub of_sense : Fault → Rule → ℤ → List Bool
of_sense Ov r v = []
of_sense Uv r v = []
of_sense Scd r v = beyond r v ∷ []
of_sense Ocd r v = beyond r v ∷ []

abbrev pub opinion : Fault → ℕ → Rule → Event → List Bool
opinion k floor r Por = []
opinion k floor r Boot = []
opinion k floor r Pin = []
opinion k floor r Xready = []
opinion k floor r (Scan xs) = of_scan k floor r xs
opinion k floor r (Temp xs) = []
opinion k floor r (Count n) = []
opinion k floor r (Sense v) = of_sense k r v
opinion k floor r (Load l) = []
opinion k floor r (OnBus b) = []
opinion k floor r (Level l) = []
