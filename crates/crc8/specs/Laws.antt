-- Laws of the CRC's definitions.
-- Assumes nothing.
use Rattle.std.specs.Prelude.{◌≡◌, refl, ℕ, ◌+◌, ◌<◌, List, [], ◌∷◌, ◌++◌, length, drop, get_or}
use Rattle.std.proofs.Common.{add-one, drop-cons}
use Rattle.std.proofs.Math.Seq.{drop-length}
use Rattle.crc8.specs.Crc.{byte_on, crc_on}

pub crc_on-append : (c : ℕ) (a b : List ℕ) → crc_on c (a ++ b) ≡ crc_on (crc_on c a) b
crc_on-append c [] b = refl
crc_on-append c (x ∷ a) b = crc_on-append (byte_on c x) a b

-- a turn of a loop over s: the byte at i goes into the CRC, and the rest is shorter by it
pub crc_on_next : (c : ℕ) (s : List ℕ) (i : ℕ) → i < length s → crc_on (byte_on c (get_or s i 0)) (drop (i + 1) s) ≡ crc_on c (drop i s)
crc_on_next c s i h = rw (add-one, drop-cons s i 0)

pub crc_on_done : (c : ℕ) (s : List ℕ) (i : ℕ) → i ≡ length s → crc_on c (drop i s) ≡ c
crc_on_done c s i e = simp (e, drop-length)
