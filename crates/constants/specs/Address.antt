-- The addresses of the registers, as the makers name them; of a word the address of its high byte. Assumes nothing.
use Rattle.std.specs.Prelude.{ℕ}

abbrev pub SYS_STAT : ℕ
SYS_STAT = 0x00

abbrev pub CELLBAL1 : ℕ
CELLBAL1 = 0x01

abbrev pub CELLBAL2 : ℕ
CELLBAL2 = 0x02

abbrev pub CELLBAL3 : ℕ
CELLBAL3 = 0x03

abbrev pub SYS_CTRL1 : ℕ
SYS_CTRL1 = 0x04

abbrev pub SYS_CTRL2 : ℕ
SYS_CTRL2 = 0x05

abbrev pub PROTECT1 : ℕ
PROTECT1 = 0x06

abbrev pub PROTECT2 : ℕ
PROTECT2 = 0x07

abbrev pub PROTECT3 : ℕ
PROTECT3 = 0x08

abbrev pub OV_TRIP : ℕ
OV_TRIP = 0x09

abbrev pub UV_TRIP : ℕ
UV_TRIP = 0x0A

abbrev pub CC_CFG : ℕ
CC_CFG = 0x0B

abbrev pub VC1 : ℕ
VC1 = 0x0C

abbrev pub BAT : ℕ
BAT = 0x2A

abbrev pub TS1 : ℕ
TS1 = 0x2C

abbrev pub CC : ℕ
CC = 0x32

abbrev pub AFTER_CC : ℕ
AFTER_CC = 0x34

abbrev pub ADCGAIN1 : ℕ
ADCGAIN1 = 0x50

abbrev pub ADCOFFSET : ℕ
ADCOFFSET = 0x51

abbrev pub ADCGAIN2 : ℕ
ADCGAIN2 = 0x59
