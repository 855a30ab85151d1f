-- The least and the most that values may be, and how many scans a report and bytes a stream for the programs have at most. Assumes
-- nothing.
use Rattle.std.specs.Prelude.{ℕ}

abbrev pub PART_MOST : ℕ
PART_MOST = 3

abbrev pub ADDRESS_LEAST : ℕ
ADDRESS_LEAST = 0x08

abbrev pub ADDRESS_MOST : ℕ
ADDRESS_MOST = 0x77

abbrev pub GAIN_CODE_MOST : ℕ
GAIN_CODE_MOST = 31

abbrev pub FLOOR_MOST : ℕ
FLOOR_MOST = 4095

abbrev pub COUNT_MOST : ℕ
COUNT_MOST = 16383

abbrev pub SENSE_MOST : ℕ
SENSE_MOST = 500000

abbrev pub TICKS_MOST : ℕ
TICKS_MOST = 4096

abbrev pub SOAK_MOST : ℕ
SOAK_MOST = 16777216

abbrev pub SCANS_MOST : ℕ
SCANS_MOST = 65535

abbrev pub STREAM_MOST : ℕ
STREAM_MOST = 65536
