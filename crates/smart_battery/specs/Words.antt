-- CHIP C1 to C6: the word of each command, and what refuses it. Assumes nothing.
use Rattle.std.specs.Prelude.{Bool, ◌&&◌, ◌||◌, cond, ℕ, suc, ◌-◌, ◌*◌, ◌/◌, eqb, leb, ℤ, pos, negsuc, neg_ℤ, ◌+ℤ◌}
use Rattle.constants.specs.Number.{BAD_VALUE, ASLEEP, NOT_CONNECTED, NO_FIT, EXTERNAL, BAD_COMMAND}
use Rattle.constants.specs.Answer.{Said, gives, refuses}
use Rattle.values.specs.Values.{floor, die_temperature, cc_hundredths}
use Rattle.smart_battery.specs.declared.Pack.{Pack}

-- the commands that are answered
abbrev pub TEMPERATURE : ℕ
TEMPERATURE = 0x08

abbrev pub VOLTAGE : ℕ
VOLTAGE = 0x09

abbrev pub CURRENT : ℕ
CURRENT = 0x0A

-- the largest word, and the largest signed one; the largest sense resistor in mΩ
abbrev pub word_most : ℕ
word_most = 65535

abbrev pub signed_most : ℕ
signed_most = 32767

abbrev pub milliohms_most : ℕ
milliohms_most = 100

-- ── the values ──
-- Temperature() (CHIP C3), of the count of TS1
abbrev pub kelvins : ℕ → ℤ
kelvins count = floor (die_temperature count +ℤ pos 546300) 200

-- Voltage() (CHIP C4), of the total in µV
abbrev pub millivolts : ℤ → ℤ
millivolts total = floor total 1000

-- a division of a signed number, rounded toward zero
abbrev pub toward : ℤ → ℕ → ℤ
toward (pos n) m = pos (n / m)
toward (negsuc n) m = neg_ℤ (pos (suc n / m))

-- Current() (CHIP C5)
abbrev pub milliamps : ℕ → ℕ → ℤ
milliamps cc r = toward (cc_hundredths cc) (100 * r)

-- ── 11, where a value does not fit its word (CHIP N11) ──
abbrev pub unsigned_said : ℤ → Said ℕ
unsigned_said (pos n) = cond (leb n word_most) (gives n) (refuses NO_FIT)
unsigned_said (negsuc n) = refuses NO_FIT

abbrev pub signed_said : ℤ → Said ℕ
signed_said (pos n) = cond (leb n signed_most) (gives n) (refuses NO_FIT)
signed_said (negsuc n) = cond (leb n signed_most) (gives (word_most - n)) (refuses NO_FIT)

-- ── the commands, and the refusals in their order (CHIP C6) ──
abbrev pub known : ℕ → Bool
known command = eqb command TEMPERATURE || eqb command VOLTAGE || eqb command CURRENT

abbrev pub asked_for : Pack → ℤ → ℕ → ℕ → Said ℕ
asked_for p total command r =
    cond (eqb command TEMPERATURE) (cond p.external (refuses EXTERNAL) (unsigned_said (kelvins p.warmth)))
    (cond (eqb command VOLTAGE) (cond p.connected (unsigned_said (millivolts total)) (refuses NOT_CONNECTED))
    (signed_said (milliamps p.cc r)))

abbrev pub word_for : Pack → ℤ → ℕ → ℕ → Said ℕ
word_for p total command r =
    cond (known command)
    (cond (leb 1 r && leb r milliohms_most) (cond p.normal (asked_for p total command r) (refuses ASLEEP)) (refuses BAD_VALUE))
    (refuses BAD_COMMAND)
