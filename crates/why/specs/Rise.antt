-- CHIP P17, P18: the record at which what is asked about came to be so, the last time, and the last record before which a streak was no
-- longer than some, over the first records of a stream. Assumes nothing.
use Rattle.std.specs.Prelude.{Bool, cond, not, ◌&&◌, List, ℕ, zero, suc, ◌<◌, ◌^◌, eqb, leb}
use Rattle.bits.specs.Bit.{bit}
use Rattle.why_walk.specs.declared.Standing.{Standing}
use Rattle.why_walk.specs.Standing.{begun, advanced, standing_at}
use Rattle.why.specs.declared.Rose.{Rose}
use Rattle.why.specs.declared.Found.{Found}

-- no record
abbrev pub never : ℕ
never = 18446744073709551615

-- whether the bit b of SYS_STAT is up; where b is 0, whether the drive d is off
abbrev pub is_such : ℕ → ℕ → Standing → Bool
is_such b d g = cond (eqb b 0) (not (bit g.pins d)) (bit g.stat b)

-- ── one record more, its number n ──
abbrev pub rose_by : Bool → ℕ → Standing → Rose → Rose
rose_by new n g r = record { rose = cond new n r.rose; stood = cond new r.last r.stood; last = g }

unfoldable pub rose_on : ℕ → ℕ → ℕ → Standing → Rose → Rose
rose_on b d n g r = rose_by (is_such b d g && not (is_such b d r.last)) n g r

abbrev pub risen : List ℕ → ℕ → ℕ → ℕ → Rose
risen s b d zero = record { rose = never; stood = begun; last = begun }
risen s b d (suc n) = rose_on b d n (advanced s b (risen s b d n).last) (risen s b d n)

unfoldable pub searched_on : ℕ → ℕ → Standing → Found → Found
searched_on least n g r = record { first = cond (leb r.place.streak least) n r.first; place = g }

abbrev pub searched : List ℕ → ℕ → ℕ → ℕ → Found
searched s b least zero = record { first = 0; place = begun }
searched s b least (suc n) = searched_on least n (advanced s b (searched s b least n).place) (searched s b least n)

-- every streak has room for another record
abbrev pub Few : List ℕ → ℕ → Type 0
Few s b = (n : ℕ) → (standing_at s b n).streak < 2 ^ 63
