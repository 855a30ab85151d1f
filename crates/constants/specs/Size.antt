-- How many bytes, or numbers, things have: a record's header, its payload by kind, the entry of a record, a kept chip; a row of a
-- season, of a scan, of why a bit is up and of since when a drive is off; a reading. Assumes nothing.
use Rattle.std.specs.Prelude.{ℕ}

abbrev pub HEADER : ℕ
HEADER = 4

abbrev pub SETUP_PAYLOAD : ℕ
SETUP_PAYLOAD = 7

abbrev pub COUNT_PAYLOAD : ℕ
COUNT_PAYLOAD = 2

abbrev pub SENSE_PAYLOAD : ℕ
SENSE_PAYLOAD = 4

abbrev pub TICKS_PAYLOAD : ℕ
TICKS_PAYLOAD = 6

abbrev pub SOAK_PAYLOAD : ℕ
SOAK_PAYLOAD = 8

abbrev pub ENTRY : ℕ
ENTRY = 5

abbrev pub KEPT_CHIP : ℕ
KEPT_CHIP = 96

abbrev pub SEASON_ROW : ℕ
SEASON_ROW = 9

abbrev pub SCAN_ROW : ℕ
SCAN_ROW = 17

abbrev pub WHY_ROW : ℕ
WHY_ROW = 36

abbrev pub OFF_ROW : ℕ
OFF_ROW = 12

abbrev pub READING : ℕ
READING = 4
