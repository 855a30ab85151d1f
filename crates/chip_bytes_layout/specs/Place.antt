-- The places in the bytes of a kept chip. Assumes nothing.
use Rattle.std.specs.Prelude.{ℕ}

-- what byte 0 is
abbrev pub LAYOUT : ℕ
LAYOUT = 1

-- what is a byte
abbrev pub VERSION : ℕ
VERSION = 0

abbrev pub PART : ℕ
PART = 1

abbrev pub ADDRESS : ℕ
ADDRESS = 2

abbrev pub GAIN_CODE : ℕ
GAIN_CODE = 3

abbrev pub OFFSET : ℕ
OFFSET = 4

abbrev pub CELLS : ℕ
CELLS = 5

abbrev pub POINTER : ℕ
POINTER = 6

abbrev pub SUM : ℕ
SUM = 7

abbrev pub LOW : ℕ
LOW = 8

abbrev pub PHASE : ℕ
PHASE = 9

abbrev pub FIRST : ℕ
FIRST = 10

abbrev pub SECOND : ℕ
SECOND = 11

abbrev pub PROTECT1 : ℕ
PROTECT1 = 12

abbrev pub PROTECT2 : ℕ
PROTECT2 = 13

abbrev pub PROTECT3 : ℕ
PROTECT3 = 14

abbrev pub OV_TRIP : ℕ
OV_TRIP = 15

abbrev pub UV_TRIP : ℕ
UV_TRIP = 16

abbrev pub CC_CFG : ℕ
CC_CFG = 17

abbrev pub CELLBAL1 : ℕ
CELLBAL1 = 18

abbrev pub CELLBAL2 : ℕ
CELLBAL2 = 19

abbrev pub CELLBAL3 : ℕ
CELLBAL3 = 20

-- what is 0 or 1, and how many they are
abbrev pub SWITCHES : ℕ
SWITCHES = 21

abbrev pub SWITCHED : ℕ
SWITCHED = 20

abbrev pub CRC : ℕ
CRC = 21

abbrev pub NORMAL : ℕ
NORMAL = 22

abbrev pub FRESH : ℕ
FRESH = 23

abbrev pub ADC_EN : ℕ
ADC_EN = 24

abbrev pub TEMP_SEL : ℕ
TEMP_SEL = 25

abbrev pub SHUT_B : ℕ
SHUT_B = 26

abbrev pub DELAY_DIS : ℕ
DELAY_DIS = 27

abbrev pub CC_EN : ℕ
CC_EN = 28

abbrev pub CC_READY : ℕ
CC_READY = 29

abbrev pub XREADY : ℕ
XREADY = 30

abbrev pub OVRD_ALERT : ℕ
OVRD_ALERT = 31

abbrev pub UV : ℕ
UV = 32

abbrev pub OV : ℕ
OV = 33

abbrev pub SCD : ℕ
SCD = 34

abbrev pub OCD : ℕ
OCD = 35

abbrev pub CC_ONESHOT : ℕ
CC_ONESHOT = 36

abbrev pub DSG_ON : ℕ
DSG_ON = 37

abbrev pub CHG_ON : ℕ
CHG_ON = 38

abbrev pub LOAD_LEVEL : ℕ
LOAD_LEVEL = 39

abbrev pub OUTSIDE_LEVEL : ℕ
OUTSIDE_LEVEL = 40

-- what has no field, and how many bytes that are
abbrev pub REST1 : ℕ
REST1 = 41

abbrev pub RESTS : ℕ
RESTS = 5

-- the numbers of two bytes: where they begin, how many there are, and which is which
abbrev pub WORDS : ℕ
WORDS = 46

abbrev pub NUMBERS : ℕ
NUMBERS = 25

abbrev pub FLOOR : ℕ
FLOOR = 0

abbrev pub OV_RUN : ℕ
OV_RUN = 1

abbrev pub UV_RUN : ℕ
UV_RUN = 2

abbrev pub SCD_RUN : ℕ
SCD_RUN = 3

abbrev pub OCD_RUN : ℕ
OCD_RUN = 4

abbrev pub BAT : ℕ
BAT = 5

abbrev pub CC : ℕ
CC = 6

abbrev pub TS1 : ℕ
TS1 = 7

abbrev pub VC1 : ℕ
VC1 = 10

-- the low bytes of those that events move
abbrev pub OV_LOW : ℕ
OV_LOW = 48

abbrev pub SCD_LOW : ℕ
SCD_LOW = 52

abbrev pub BAT_LOW : ℕ
BAT_LOW = 56

abbrev pub VC1_LOW : ℕ
VC1_LOW = 66
