-- CHIP R2 and R3: the kinds. Assumes nothing.
use Rattle.std.specs.Prelude.{ℕ}

abbrev pub SETUP : ℕ
SETUP = 0x0000

abbrev pub POR : ℕ
POR = 0x0001

abbrev pub BOOT : ℕ
BOOT = 0x0002

abbrev pub SCAN : ℕ
SCAN = 0x0003

abbrev pub TEMP : ℕ
TEMP = 0x0004

abbrev pub COUNT : ℕ
COUNT = 0x0005

abbrev pub SENSE : ℕ
SENSE = 0x0006

abbrev pub PIN : ℕ
PIN = 0x0007

abbrev pub LOAD : ℕ
LOAD = 0x0008

abbrev pub XREADY : ℕ
XREADY = 0x0009

abbrev pub START : ℕ
START = 0x0010

abbrev pub OUT : ℕ
OUT = 0x0011

abbrev pub IN : ℕ
IN = 0x0012

abbrev pub STOP : ℕ
STOP = 0x0013

abbrev pub LEVEL : ℕ
LEVEL = 0x0015

-- ticks of one value (CHIP R8)
abbrev pub TICKS : ℕ
TICKS = 0x0014

-- the same with a longer repeat number
abbrev pub SOAK : ℕ
SOAK = 0x0017

-- the wiring record (CHIP W1)
abbrev pub WIRES : ℕ
WIRES = 0x0016
