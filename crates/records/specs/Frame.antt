-- The header that bytes begin with, and how long their record is by it alone. Assumes nothing.
use Rattle.std.specs.Prelude.{ℕ, ◌+◌, ◌-◌, List, Option, Some, None, cond, length, ltb, eqb}
use Rattle.bits.specs.Numbers.{le16}
use Rattle.records.specs.declared.Header.{Header}

-- 0 where it is cut short
unfoldable pub frame_of : List ℕ → ℕ
frame_of r = cond (ltb (length r) 4) 0 (cond (ltb (length r - 4) (le16 r 0)) 0 (4 + le16 r 0))

-- .. which is no length
abbrev pub size_of : ℕ → Option ℕ
size_of n = cond (eqb n 0) None (Some n)

-- a header's kind and the place after the payload
abbrev pub framed : ℕ → ℕ → Option Header
framed kind next = Some (record { kind = kind; next = next })

-- the payload's length, the kind, and the place after the payload
unfoldable pub header_of : List ℕ → Option Header
header_of r = cond (ltb (length r) 4) None (cond (ltb (length r - 4) (le16 r 0)) None (framed (le16 r 2) (4 + le16 r 0)))

-- the number of each answer (CHIP O4)
abbrev pub framed_number : Option Header → ℕ
framed_number (Some h) = 0
framed_number None = 9
