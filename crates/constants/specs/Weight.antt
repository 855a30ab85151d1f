-- What each named bit weighs in its register: SYS_STAT, SYS_CTRL1, SYS_CTRL2, PROTECT1, and the pins of an entry. Assumes nothing.
use Rattle.std.specs.Prelude.{ℕ}

abbrev pub CC_READY : ℕ
CC_READY = 128

abbrev pub XREADY : ℕ
XREADY = 32

abbrev pub OVRD_ALERT : ℕ
OVRD_ALERT = 16

abbrev pub UV : ℕ
UV = 8

abbrev pub OV : ℕ
OV = 4

abbrev pub SCD : ℕ
SCD = 2

abbrev pub OCD : ℕ
OCD = 1

abbrev pub LOAD_PRESENT : ℕ
LOAD_PRESENT = 128

abbrev pub ADC_EN : ℕ
ADC_EN = 16

abbrev pub TEMP_SEL : ℕ
TEMP_SEL = 8

abbrev pub SHUT_A : ℕ
SHUT_A = 2

abbrev pub SHUT_B : ℕ
SHUT_B = 1

abbrev pub DELAY_DIS : ℕ
DELAY_DIS = 128

abbrev pub CC_EN : ℕ
CC_EN = 64

abbrev pub CC_ONESHOT : ℕ
CC_ONESHOT = 32

abbrev pub DSG_ON : ℕ
DSG_ON = 2

abbrev pub CHG_ON : ℕ
CHG_ON = 1

abbrev pub RSNS : ℕ
RSNS = 128

abbrev pub PIN_ALERT : ℕ
PIN_ALERT = 4

abbrev pub PIN_CHG : ℕ
PIN_CHG = 2

abbrev pub PIN_DSG : ℕ
PIN_DSG = 1
