-- The numbers given back: why a record or a call is refused. Assumes nothing.
use Rattle.std.specs.Prelude.{ℕ}

abbrev pub DONE : ℕ
DONE = 0

abbrev pub BAD_SETUP : ℕ
BAD_SETUP = 1

abbrev pub BAD_KIND : ℕ
BAD_KIND = 2

abbrev pub BAD_VALUE : ℕ
BAD_VALUE = 3

abbrev pub ASLEEP : ℕ
ASLEEP = 4

abbrev pub NO_ROOM : ℕ
NO_ROOM = 5

abbrev pub NO_CELL : ℕ
NO_CELL = 6

abbrev pub OPEN_SENSOR : ℕ
OPEN_SENSOR = 7

abbrev pub NO_CODE : ℕ
NO_CODE = 8

abbrev pub CUT : ℕ
CUT = 9

abbrev pub NOT_CONNECTED : ℕ
NOT_CONNECTED = 10

abbrev pub NO_FIT : ℕ
NO_FIT = 11

abbrev pub EXTERNAL : ℕ
EXTERNAL = 12

abbrev pub NO_ROW : ℕ
NO_ROW = 13

abbrev pub NO_LIST : ℕ
NO_LIST = 20

abbrev pub BAD_ADDRESS : ℕ
BAD_ADDRESS = 21

abbrev pub SEASON_FULL : ℕ
SEASON_FULL = 22

abbrev pub BAD_COMMAND : ℕ
BAD_COMMAND = 23

abbrev pub TOO_LONG : ℕ
TOO_LONG = 24

abbrev pub OTHER_CHIP : ℕ
OTHER_CHIP = 25

abbrev pub NO_CHIP : ℕ
NO_CHIP = 26

abbrev pub NO_RECORD : ℕ
NO_RECORD = 27

-- the bit is not up, or the drive is on
abbrev pub NOT_SO : ℕ
NOT_SO = 28
