-- Bytes stored one after the other are bytes stored at once, and a record so stored is written.
-- Assumes nothing.
use mir.Val.{bool_byte}
use mathlib.Core.Path.{refl, ◌≡◌, ap, ap₂, sym, ◌∙◌, subst}
use Prim.Native.Nat.{ℕ, ◌+◌, ◌*◌, ◌≤◌}
use mathlib.Core.List.{List, ◌++◌}
use mathlib.Core.Bool.{Bool, true, false}
use native.Mathlib.Omega.{arith}
use lib.Dec.{leb}
use lib.ListN.{length, take, drop, replicate, length-replicate}
use lib.Seq.{sets, sets-eq, take-append_seam}
use borrow.Author.Tests.{le-leb}
use Rattle.bits.specs.BytesLaws.{words_length}
use Rattle.writer.specs.Write.{Writes, record_of, written_of}
use Rattle.bits.specs.Numbers.{bit_of, word_bytes}
use Rattle.writer.specs.Write.{Wrote}
use Rattle.constants.specs.Answer.{gives}

-- bytes stored at the start of a buffer that has room for them
pub stored_whole : (bytes old : List ℕ) → length bytes ≤ length old → sets old 0 bytes ≡ written_of bytes old
stored_whole bytes old h =
    let n : 0 + length bytes ≡ length bytes = omega arith in
    sets-eq bytes old 0 (omega arith) ∙ ap (λ (k : ℕ). bytes ++ drop k old) n

-- numbers stored in a payload's room are its first bytes
module _ (ws : List ℕ) {new : List ℕ} (few : length ws ≤ 15) (e : new ≡ sets (replicate 30 0) 0 (word_bytes ws)) where
  pub words_taken : take (2 * length ws) new ≡ word_bytes ws
  words_taken =
      let l : length (word_bytes ws) ≡ 2 * length ws = words_length ws in
      let r : length (replicate {A = ℕ} 30 0) ≡ 30 = length-replicate {A = ℕ} 30 0 in
      ap₂ (λ (n : ℕ) (o : List ℕ). take n o) (sym l) (e ∙ stored_whole (word_bytes ws) (replicate 30 0) (omega arith))
      ∙ take-append_seam (word_bytes ws) (drop (length (word_bytes ws)) (replicate 30 0))

-- a record that has room is written, and one that has none is refused
pub stored : (bytes old : List ℕ) {new : List ℕ} {n : ℕ} → n ≡ length bytes → length bytes ≤ length old → new ≡ sets old 0 bytes
    → Writes bytes old (gives n) new
stored bytes old e h w =
    let t : leb (length bytes) (length old) ≡ true = le-leb (length bytes) (length old) h in
    record { answer = simp t (ap gives e); contents = simp t (w ∙ stored_whole bytes old h) }

-- what holds of a record holds of the same payload made another way
pub at_payload : (kind : ℕ) (old : List ℕ) {b b' new : List ℕ} {r : Wrote} → b ≡ b' → Writes (record_of kind b) old r new
    → Writes (record_of kind b') old r new
at_payload kind old {b} {b'} {new} {r} e w = subst (λ (l : List ℕ). Writes (record_of kind l) old r new) e w

-- a switch as the code has it in a byte
pub bit_byte : (t : Bool) → bool_byte t ≡ bit_of t
bit_byte true = refl
bit_byte false = refl
