-- What is known of bytes that are looked at. Assumes nothing.
use mathlib.Core.Path.{◌≡◌, refl, sym, ap, ap₂, subst, ◌∙◌}
use mathlib.Core.Bool.{Bool, true, false, not, ◌&&◌}
use mathlib.Core.List.{List, [], ◌∷◌}
use Prim.Native.Nat.{ℕ, suc, ◌≤◌}
use native.Mathlib.Omega.{arith}
use lib.ListN.{length, get_or, take}
use Rattle.std.proofs.lemmas.List.{take_all}
use borrow.Author.Tests.{le-leb}
use mir.Syntax.{w8}
use mir.Val.{Fits}
use Rattle.bits.specs.BytesLaws.{Bytes}
use Rattle.chip_bytes_layout.specs.Layout.{switch_at}
use Rattle.chip_bytes_layout.specs.Did.{Awake, AwakeBy}

-- a slice's numbers are bytes
pub bytes_all : (b : List ℕ) → ((i : ℕ) → Fits w8 (get_or b i 0)) → Bytes b
bytes_all [] h = refl
bytes_all (x ∷ b) h =
    let f : Fits w8 x = h 0 in
    ap₂ ◌&&◌ (le-leb x 255 (omega arith)) (bytes_all b (λ i. h (suc i)))

-- 96 bytes are the first 96 of them
pub as_first : {b : List ℕ} → length b ≡ 96 → take 96 b ≡ b
as_first {b} l = take_all 96 b (omega arith)

pub of_first : {A : Type 0} (f : List ℕ → A) {b : List ℕ} {x : A} → length b ≡ 96 → x ≡ f b → x ≡ f (take 96 b)
of_first f l e = e ∙ ap f (sym (as_first l))

-- a test that says not to go on
pub up : (t : Bool) → not t ≡ false → t ≡ true
up true h = refl
up false h = sym h

-- and one that says to
pub down : (t : Bool) → not t ≡ true → t ≡ false
down true h = sym h
down false h = refl

-- 96 bytes that keep a chip in NORMAL
pub awake : {b : List ℕ} {r : Bool} → length b ≡ 96 → (r ≡ switch_at b 22) × Bytes b → not r ≡ false → Awake b
awake {b} {r} l h n =
    record {
      room = omega arith;
      bytes = subst Bytes (sym (as_first l)) h.1;
      normal = sym (of_first (λ (b : List ℕ). switch_at b 22) l h.0) ∙ up r n;
    }

-- of a buffer that begins with them
pub awake_by : (b : List ℕ) {x : List ℕ} (r : Bool) → 96 ≤ length b → x ≡ take 96 b → (r ≡ switch_at x 22) × Bytes x → AwakeBy b r
awake_by b true room first h =
    record { room = room; bytes = subst Bytes first h.1; normal = ap (λ (x : List ℕ). switch_at x 22) (sym first) ∙ sym h.0 }
awake_by b false room first h = tt
