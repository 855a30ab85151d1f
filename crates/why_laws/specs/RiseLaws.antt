-- CHIP P17, P18: the record at which a bit rose, or a drive went off, the last time, said of the entries alone. The laws stand in
-- proofs/RiseLaws. Assumes nothing.
use Rattle.std.specs.Prelude.{◌≡◌, Bool, true, false, cond, not, List, eqb, get_or}
use Prim.Native.Nat.{ℕ, suc, ◌≤◌}
use Rattle.bits.specs.Bit.{bit}
use Rattle.turn.specs.declared.Entry.{Entry}
use Rattle.turn.specs.Entries.{entries}
use Rattle.demands.proofs.BytesLaws.{no_entry}

-- ── the same of the entries ──
-- whether the bit b is up in an entry; where b is 0, whether the drive d is off in it
abbrev pub shown_in : ℕ → ℕ → Entry → Bool
shown_in b d e = cond (eqb b 0) (not (bit e.pins d)) (bit e.stat b)

-- THE RISE: it is so in the entries from i to n, and not in the one before
pub record RoseAt (s : List ℕ) (b d n i : ℕ) : Type 0 where
  pub not_after : i ≤ n
  pub so_since : (m : ℕ) → i ≤ m → m ≤ n → shown_in b d (get_or (entries s) m no_entry) ≡ true
  pub not_before : (j : ℕ) → i ≡ suc j → shown_in b d (get_or (entries s) j no_entry) ≡ false
