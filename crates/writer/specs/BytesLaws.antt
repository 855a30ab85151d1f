-- Laws of values written as bytes and read back, both ways, over those of numbers (bits/BytesLaws). Assumes nothing.
use Rattle.std.specs.Prelude.{◌≡◌, refl, ℕ, suc, ◌+◌, ◌-◌, ◌*◌, ◌/◌, ◌%◌, ◌<◌, ◌≤◌, ◌^◌, List, [], ◌∷◌, ◌++◌, Bool, true, false, not, ◌&&◌}
use Rattle.std.specs.Prelude.{cond, leb, ltb, ℤ, pos, negsuc, length}
use Rattle.std.proofs.Common.{ap, ap₂, sym, ◌∙◌, arith, ltb-true, ltb-false}
use Rattle.std.proofs.lemmas.Bool.{not-true}
use Rattle.bits.specs.BytesLaws.{Bytes, byte_first, byte_rest, low_forth, high_forth, two_forth}
use Rattle.bits.specs.Numbers.{le16, le32, signed32, bytes16, bytes32, bits32}
use Rattle.events.specs.Event.{sense_fits, sense_most, ticks_fit}
use Rattle.events.specs.declared.Event.{Event}
use Rattle.events.specs.declared.Event.TheVariants.{Sense}
use Rattle.records.specs.Record.{sense_of, repeat_of}
use Rattle.records.specs.RangesLaws.{fits_pos, fits_neg, as_pos, as_neg}
use Rattle.bits.specs.BoolLaws.{and_left}
use Rattle.std.specs.Prelude.{Ok, Err}
use Rattle.constants.specs.declared.refusal.Refusal.TheVariants.{BadValue}

-- ── written, then read ──
sense_most_lem : (n : ℕ) → not (ltb sense_most n) ≡ true → n ≤ 500000
sense_most_lem n h = ltb-false _ _ (not-true _ h)

value_back : (z : ℤ) → sense_fits z ≡ true → signed32 (bits32 z) ≡ z
unfolding bits32
value_back (pos n) h = let l : n ≤ 500000 = sense_most_lem n (sym (fits_pos n) ∙ h) in as_pos n (omega arith)
value_back (negsuc n) h =
    let l : suc n ≤ 500000 = sense_most_lem (suc n) (sym (fits_neg n) ∙ h) in
    let e : 4294967295 - (4294967295 - n) ≡ n = omega arith in
    as_neg (4294967295 - n) (omega arith) ∙ ap negsuc e

pub sense_back : (z : ℤ) → sense_fits z ≡ true → sense_of (bits32 z) ≡ Ok (Sense z)
sense_back z h =
    ap (λ (z : ℤ). cond (sense_fits z) (Ok (Sense z)) (Err BadValue)) (value_back z h)
    ∙ ap (λ (t : Bool). cond t (Ok (Sense z)) (Err BadValue)) h

fit_value : (most : ℕ) (z : ℤ) (n : ℕ) → ticks_fit most z n ≡ true → sense_fits z ≡ true
unfolding ticks_fit
fit_value most z n h = and_left (sense_fits z) (leb 1 n) (and_left (sense_fits z && leb 1 n) (leb n most) h)

pub ticks_back : (e : ℤ → ℕ → Event) (most : ℕ) (z : ℤ) (n : ℕ) → ticks_fit most z n ≡ true → repeat_of e most (bits32 z) n ≡ Ok (e z n)
ticks_back e most z n h =
    ap (λ (z : ℤ). cond (ticks_fit most z n) (Ok (e z n)) (Err BadValue)) (value_back z (fit_value most z n h))
    ∙ ap (λ (t : Bool). cond t (Ok (e z n)) (Err BadValue)) h

signed_by : (u : ℕ) (t : Bool) → ltb u 2147483648 ≡ t → u < 2 ^ 32 → bits32 (signed32 u) ≡ u
unfolding bits32
signed_by u true e h = ap bits32 (as_pos u (ltb-true _ _ e))
signed_by u false e h = ap bits32 (as_neg u (ltb-false _ _ e)) ∙ omega arith

signed_forth : (u : ℕ) → u < 2 ^ 32 → bits32 (signed32 u) ≡ u
signed_forth u = signed_by u (ltb u 2147483648) refl

-- four bytes as a number, and the bytes of that
long_bytes : (x y z w : ℕ) → x < 256 → y < 256 → z < 256 → bytes32 (x + 256 * y + 65536 * (z + 256 * w)) ≡ x ∷ y ∷ z ∷ w ∷ []
long_bytes x y z w hx hy hz =
    let u : ℕ = x + 256 * y + 65536 * (z + 256 * w) in
    let a : u % 65536 ≡ x + 256 * y = omega arith in
    let b : u / 65536 ≡ z + 256 * w = omega arith in
    ap₂ ◌∷◌ (ap (λ (n : ℕ). n % 256) a ∙ low_forth x y hx)
    (ap₂ ◌∷◌ (ap (λ (n : ℕ). n / 256) a ∙ high_forth x y hx)
    (ap₂ ◌∷◌ (ap (λ (n : ℕ). n % 256) b ∙ low_forth z w hz)
    (ap (λ (n : ℕ). n ∷ []) (ap (λ (n : ℕ). n / 256) b ∙ high_forth z w hz))))

four_bytes : (x y z w : ℕ) → x < 256 → y < 256 → z < 256 → w < 256
    → bytes32 (bits32 (signed32 (x + 256 * y + 65536 * (z + 256 * w)))) ≡ x ∷ y ∷ z ∷ w ∷ []
four_bytes x y z w hx hy hz hw = ap bytes32 (signed_forth (x + 256 * y + 65536 * (z + 256 * w)) (omega arith)) ∙ long_bytes x y z w hx hy hz

pub four_forth : (b : List ℕ) → length b ≡ 4 → Bytes b → bytes32 (bits32 (signed32 (le32 b 0))) ≡ b
four_forth [] l h = absurd (omega arith)
four_forth (x ∷ []) l h = absurd (omega arith)
four_forth (x ∷ y ∷ []) l h = absurd (omega arith)
four_forth (x ∷ y ∷ z ∷ []) l h = absurd (omega arith)
four_forth (x ∷ y ∷ z ∷ w ∷ []) l h =
    let h1 : Bytes (y ∷ z ∷ w ∷ []) = byte_rest x (y ∷ z ∷ w ∷ []) h in
    let h2 : Bytes (z ∷ w ∷ []) = byte_rest y (z ∷ w ∷ []) h1 in
    let h3 : Bytes (w ∷ []) = byte_rest z (w ∷ []) h2 in
    four_bytes x y z w (byte_first x (y ∷ z ∷ w ∷ []) h) (byte_first y (z ∷ w ∷ []) h1) (byte_first z (w ∷ []) h2) (byte_first w [] h3)
four_forth (x ∷ y ∷ z ∷ w ∷ v ∷ b) l h = absurd (omega arith)

-- a number of four bytes without a sign
pub long_forth : (b : List ℕ) → length b ≡ 4 → Bytes b → bytes32 (le32 b 0) ≡ b
long_forth [] l h = absurd (omega arith)
long_forth (x ∷ []) l h = absurd (omega arith)
long_forth (x ∷ y ∷ []) l h = absurd (omega arith)
long_forth (x ∷ y ∷ z ∷ []) l h = absurd (omega arith)
long_forth (x ∷ y ∷ z ∷ w ∷ []) l h =
    let h1 : Bytes (y ∷ z ∷ w ∷ []) = byte_rest x (y ∷ z ∷ w ∷ []) h in
    let h2 : Bytes (z ∷ w ∷ []) = byte_rest y (z ∷ w ∷ []) h1 in
    long_bytes x y z w (byte_first x (y ∷ z ∷ w ∷ []) h) (byte_first y (z ∷ w ∷ []) h1) (byte_first z (w ∷ []) h2)
long_forth (x ∷ y ∷ z ∷ w ∷ v ∷ b) l h = absurd (omega arith)

-- a value of four bytes, then a number whose bytes are the rest of them
value_then : (n : ℕ) (tail : List ℕ → List ℕ) → ((b : List ℕ) → length b ≡ n → Bytes b → tail b ≡ b)
    → (x y z w : ℕ) (b : List ℕ) → length b ≡ n → Bytes (x ∷ y ∷ z ∷ w ∷ b)
    → bytes32 (bits32 (signed32 (le32 (x ∷ y ∷ z ∷ w ∷ b) 0))) ++ tail b ≡ x ∷ y ∷ z ∷ w ∷ b
value_then n tail forth x y z w b l h =
    let h1 : Bytes (y ∷ z ∷ w ∷ b) = byte_rest x (y ∷ z ∷ w ∷ b) h in
    let h2 : Bytes (z ∷ w ∷ b) = byte_rest y (z ∷ w ∷ b) h1 in
    let h3 : Bytes (w ∷ b) = byte_rest z (w ∷ b) h2 in
    ap₂ ◌++◌ (four_bytes x y z w (byte_first x (y ∷ z ∷ w ∷ b) h) (byte_first y (z ∷ w ∷ b) h1) (byte_first z (w ∷ b) h2)
    (byte_first w b h3)) (forth b l (byte_rest w b h3))

pub six_forth : (b : List ℕ) → length b ≡ 6 → Bytes b → bytes32 (bits32 (signed32 (le32 b 0))) ++ bytes16 (le16 b 4) ≡ b
six_forth [] l h = absurd (omega arith)
six_forth (x ∷ []) l h = absurd (omega arith)
six_forth (x ∷ y ∷ []) l h = absurd (omega arith)
six_forth (x ∷ y ∷ z ∷ []) l h = absurd (omega arith)
six_forth (x ∷ y ∷ z ∷ w ∷ b) l h = value_then 2 (λ b. bytes16 (le16 b 0)) two_forth x y z w b (omega arith) h

pub eight_forth : (b : List ℕ) → length b ≡ 8 → Bytes b → bytes32 (bits32 (signed32 (le32 b 0))) ++ bytes32 (le32 b 4) ≡ b
eight_forth [] l h = absurd (omega arith)
eight_forth (x ∷ []) l h = absurd (omega arith)
eight_forth (x ∷ y ∷ []) l h = absurd (omega arith)
eight_forth (x ∷ y ∷ z ∷ []) l h = absurd (omega arith)
eight_forth (x ∷ y ∷ z ∷ w ∷ b) l h = value_then 4 (λ b. bytes32 (le32 b 0)) long_forth x y z w b (omega arith) h
