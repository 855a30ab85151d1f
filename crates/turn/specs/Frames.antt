-- How many entries a stream has, by its framing and its first record alone. Assumes nothing.
use Rattle.std.specs.Prelude.{ℕ, zero, suc, ◌-◌, List, [], ◌∷◌, cond, length, drop, eqb}
use Rattle.records.specs.Frame.{frame_of}
use Rattle.records.specs.Record.{read_of}
use Rattle.records.specs.declared.Read.{Read}
use Rattle.records.specs.declared.Read.TheVariants.{Record, Refused, Cut}

-- the records of bytes, one that is cut short counted too
abbrev pub frames : ℕ → List ℕ → ℕ
frames zero s = 0
frames (suc f) [] = 0
frames (suc f) (b ∷ s) = suc (cond (eqb (frame_of (b ∷ s)) 0) 0 (frames f (drop (frame_of (b ∷ s)) (b ∷ s))))

-- a refused first record, or one that is cut short, is the only entry
abbrev pub frames_after : List ℕ → Read → ℕ
frames_after s (Record e next) = suc (frames (length s - 1) (drop next s))
frames_after s (Refused k next) = 1
frames_after s Cut = 1

unfoldable pub frames_of : List ℕ → ℕ
frames_of [] = 0
frames_of (b ∷ s) = frames_after (b ∷ s) (read_of 0 (b ∷ s))

-- at the part that stands, 0 where none does
unfoldable pub frames_from : ℕ → List ℕ → ℕ
frames_from part s = cond (eqb part 0) (frames_of s) (frames (length s) s)
