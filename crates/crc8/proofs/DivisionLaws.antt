-- The CRC by bytes is the remainder of the long division of the message times x^8, over any length. Assumes nothing.
use Rattle.std.specs.Prelude.{◌≡◌, refl, ℕ, suc, zero, ◌+◌, ◌-◌, ◌*◌, ◌/◌, ◌%◌, ◌<◌, ◌≤◌, ◌^◌, List, [], ◌∷◌, ◌++◌, Bool, true, false, ltb}
use Rattle.std.specs.Prelude.{replicate}
use Rattle.std.proofs.Common.{ap, ap₂, sym, ◌∙◌, arith, zero-add, add-zero, not-suc-le-zero, le_of_suc-le-suc, lt-ltb, le-ltb, ltb-true}
use Rattle.std.proofs.Common.{ltb-false}
use Rattle.std.proofs.Math.Arith.{bin_ind}
use Rattle.std.specs.Int.Bits.{bit_xor, differ, xor_step, xor_zero_r}
use Rattle.std.proofs.lemmas.Nat.{xor_block, xor_comm, xor_shr, xor_lt}
use Rattle.crc8.specs.Crc.{reduced, remainder, bits, crc, turn, turns, byte_on, crc_on}
use Rattle.crc8.specs.Laws.{crc_on-append}

-- high bit first: the lowest bit of a byte is its last; and no bytes have the CRC 0
pub high_first : bits (1 ∷ []) ≡ (0 ∷ 0 ∷ 0 ∷ 0 ∷ 0 ∷ 0 ∷ 0 ∷ 1 ∷ [])
high_first = refl

pub crc_none : crc [] ≡ 0
unfolding crc
crc_none = refl

-- a bit is 0 or 1
data Bit : ℕ → Type 0 where
  off : Bit 0
  on : Bit 1

bit : (n : ℕ) → n < 2 → Bit n
bit zero h = off
bit (suc zero) h = on
bit (suc (suc n)) h = absurd (not-suc-le-zero (le_of_suc-le-suc (le_of_suc-le-suc h)))

differ_swap : {x y z : ℕ} → Bit x → Bit y → Bit z → differ (differ x y) z ≡ differ (differ x z) y
differ_swap off off off = refl
differ_swap off off on = refl
differ_swap off on off = refl
differ_swap off on on = refl
differ_swap on off off = refl
differ_swap on off on = refl
differ_swap on on off = refl
differ_swap on on on = refl

differ-lt : {x y : ℕ} → Bit x → Bit y → differ x y < 2
differ-lt off off = omega arith
differ-lt off on = omega arith
differ-lt on off = omega arith
differ-lt on on = omega arith

half : (a b : ℕ) → bit_xor a b / 2 ≡ bit_xor (a / 2) (b / 2)
half a b = xor_shr a b 1

low : (a b : ℕ) → bit_xor a b % 2 ≡ differ (a % 2) (b % 2)
low a b =
    let h : differ (a % 2) (b % 2) < 2 = differ-lt (bit (a % 2) (omega arith)) (bit (b % 2) (omega arith)) in
    let e : bit_xor a b ≡ bit_xor (a / 2) (b / 2) * 2 + differ (a % 2) (b % 2) = xor_step a b in
    omega arith

-- xor may go by its last two numbers in either order
xor_swap : (a b c : ℕ) → bit_xor (bit_xor a b) c ≡ bit_xor (bit_xor a c) b
xor_swap =
    bin_ind (λ (a : ℕ). (b c : ℕ) → bit_xor (bit_xor a b) c ≡ bit_xor (bit_xor a c) b) (λ b c. xor_comm b c)
    (λ a ih b c. xor_step (bit_xor a b) c
    ∙ ap₂ (λ (x y : ℕ). x * 2 + y)
    (ap (λ (x : ℕ). bit_xor x (c / 2)) (half a b) ∙ ih (b / 2) (c / 2) ∙ ap (λ (x : ℕ). bit_xor x (b / 2)) (sym (half a c)))
    (ap (λ (x : ℕ). differ x (c % 2)) (low a b)
    ∙ differ_swap (bit (a % 2) (omega arith)) (bit (b % 2) (omega arith)) (bit (c % 2) (omega arith))
    ∙ ap (λ (x : ℕ). differ x (b % 2)) (sym (low a c)))
    ∙ sym (xor_step (bit_xor a c) b))

-- what is added to a polynomial without x^8 goes into its remainder as it is
reduced_xor : (n m : ℕ) → n < 512 → m < 256 → (t : Bool) → ltb n 256 ≡ t → reduced (bit_xor n m) ≡ bit_xor (reduced n) m
reduced_xor n m hn hm true e = simp (e, lt-ltb (bit_xor n m) 256 (xor_lt 8 n m (ltb-true n 256 e) hm))
reduced_xor n m hn hm false e =
    let h : 256 ≤ n = ltb-false n 256 e in
    let s : n ≡ 1 * 2 ^ 8 + (n - 256) = omega arith in
    let b : bit_xor n m ≡ 1 * 2 ^ 8 + bit_xor (n - 256) m =
    ap₂ bit_xor s (sym (zero-add m)) ∙ xor_block 8 1 0 (n - 256) m (omega arith) hm in
    simp (e, le-ltb (bit_xor n m) 256 (omega arith)) (xor_swap n m 263)

-- one coefficient more
down : (x y e : ℕ) → x < 256 → y < 128 → e < 2 → reduced (2 * bit_xor x y + e) ≡ bit_xor (turn x) (2 * y + e)
down x y e hx hy he =
    let b : bit_xor (x * 2 ^ 1 + 0) (y * 2 ^ 1 + e) ≡ bit_xor x y * 2 ^ 1 + bit_xor 0 e = xor_block 1 x y 0 e (omega arith) he in
    let p : 2 * bit_xor x y + e ≡ bit_xor x y * 2 ^ 1 + bit_xor 0 e = omega arith in
    let q : x * 2 ^ 1 + 0 ≡ 2 * x = omega arith in
    let r : y * 2 ^ 1 + e ≡ 2 * y + e = omega arith in
    ap reduced (p ∙ sym b ∙ ap₂ bit_xor q r) ∙ reduced_xor (2 * x) (2 * y + e) (omega arith) (omega arith) (ltb (2 * x) 256) refl

turn-lt : (x : ℕ) → x < 256 → (t : Bool) → ltb (2 * x) 256 ≡ t → turn x < 256
turn-lt x h true e = simp e (ltb-true (2 * x) 256 e)
turn-lt x h false e =
    let g : 256 ≤ 2 * x = ltb-false (2 * x) 256 e in
    let s : 2 * x ≡ 1 * 2 ^ 8 + (2 * x - 256) = omega arith in
    let b : bit_xor (2 * x) 263 ≡ 0 * 2 ^ 8 + bit_xor (2 * x - 256) 7 =
    ap (λ (n : ℕ). bit_xor n 263) s ∙ xor_block 8 1 1 (2 * x - 256) 7 (omega arith) (omega arith) in
    let l : bit_xor (2 * x - 256) 7 < 2 ^ 8 = xor_lt 8 (2 * x - 256) 7 (omega arith) (omega arith) in
    simp e (omega arith)

turned : (x : ℕ) → x < 256 → turn x < 256
turned x h = turn-lt x h (ltb (2 * x) 256) refl

-- the next coefficient is brought down
next : (x y e z : ℕ) (bs : List ℕ) → x < 256 → y < 128 → e < 2 → 2 * y + e ≡ z
    → remainder (bit_xor x y) (e ∷ bs) ≡ remainder (bit_xor (turn x) z) bs
next x y e z bs hx hy he q = ap (λ (n : ℕ). remainder n bs) (down x y e hx hy he ∙ ap (bit_xor (turn x)) q)

-- the eight bits of a byte
byte : (r b : ℕ) (bs : List ℕ) → r < 256 → b < 256 → remainder r (bits (b ∷ []) ++ bs) ≡ remainder (bit_xor (turns r) b) bs
byte r b bs hr hb =
    let h1 : turn r < 256 = turned r hr in
    let h2 : turn (turn r) < 256 = turned (turn r) h1 in
    let h3 : turn (turn (turn r)) < 256 = turned (turn (turn r)) h2 in
    let h4 : turn (turn (turn (turn r))) < 256 = turned (turn (turn (turn r))) h3 in
    let h5 : turn (turn (turn (turn (turn r)))) < 256 = turned (turn (turn (turn (turn r)))) h4 in
    let h6 : turn (turn (turn (turn (turn (turn r))))) < 256 = turned (turn (turn (turn (turn (turn r))))) h5 in
    let h7 : turn (turn (turn (turn (turn (turn (turn r)))))) < 256 = turned (turn (turn (turn (turn (turn (turn r)))))) h6 in
    ap (λ (n : ℕ). remainder n (bits (b ∷ []) ++ bs)) (sym (xor_zero_r r))
    ∙ next r 0 (b / 128 % 2) (b / 128)
    ((b / 64 % 2) ∷ (b / 32 % 2) ∷ (b / 16 % 2) ∷ (b / 8 % 2) ∷ (b / 4 % 2) ∷ (b / 2 % 2) ∷ (b % 2) ∷ bs) hr (omega arith)
    (omega arith) (omega arith)
    ∙ next (turn r) (b / 128) (b / 64 % 2) (b / 64)
    ((b / 32 % 2) ∷ (b / 16 % 2) ∷ (b / 8 % 2) ∷ (b / 4 % 2) ∷ (b / 2 % 2) ∷ (b % 2) ∷ bs) h1 (omega arith) (omega arith) (omega arith)
    ∙ next (turn (turn r)) (b / 64) (b / 32 % 2) (b / 32) ((b / 16 % 2) ∷ (b / 8 % 2) ∷ (b / 4 % 2) ∷ (b / 2 % 2) ∷ (b % 2) ∷ bs) h2
    (omega arith) (omega arith) (omega arith)
    ∙ next (turn (turn (turn r))) (b / 32) (b / 16 % 2) (b / 16) ((b / 8 % 2) ∷ (b / 4 % 2) ∷ (b / 2 % 2) ∷ (b % 2) ∷ bs) h3 (omega arith)
    (omega arith) (omega arith)
    ∙ next (turn (turn (turn (turn r)))) (b / 16) (b / 8 % 2) (b / 8) ((b / 4 % 2) ∷ (b / 2 % 2) ∷ (b % 2) ∷ bs) h4 (omega arith)
    (omega arith) (omega arith)
    ∙ next (turn (turn (turn (turn (turn r))))) (b / 8) (b / 4 % 2) (b / 4) ((b / 2 % 2) ∷ (b % 2) ∷ bs) h5 (omega arith) (omega arith)
    (omega arith)
    ∙ next (turn (turn (turn (turn (turn (turn r)))))) (b / 4) (b / 2 % 2) (b / 2) ((b % 2) ∷ bs) h6 (omega arith) (omega arith)
    (omega arith)
    ∙ next (turn (turn (turn (turn (turn (turn (turn r))))))) (b / 2) (b % 2) b (bs) h7 (omega arith) (omega arith) (omega arith)

-- all elements are bytes
abbrev pub Bytes : List ℕ → Type 0
Bytes [] = Unit
Bytes (b ∷ s) = (b < 256) × Bytes s

-- a 0 brought down is a turn; eight of them
turned_by : (r : ℕ) (bs : List ℕ) → remainder r (0 ∷ bs) ≡ remainder (turn r) bs
turned_by r bs = ap (λ (n : ℕ). remainder (reduced n) bs) (add-zero (2 * r))

zeros : (r : ℕ) → remainder r (replicate 8 0) ≡ turns r
zeros r =
    turned_by r (replicate 7 0)
    ∙ turned_by (turn r) (replicate 6 0)
    ∙ turned_by (turn (turn r)) (replicate 5 0)
    ∙ turned_by (turn (turn (turn r))) (replicate 4 0)
    ∙ turned_by (turn (turn (turn (turn r)))) (replicate 3 0)
    ∙ turned_by (turn (turn (turn (turn (turn r))))) (replicate 2 0)
    ∙ turned_by (turn (turn (turn (turn (turn (turn r)))))) (replicate 1 0)
    ∙ turned_by (turn (turn (turn (turn (turn (turn (turn r))))))) (replicate 0 0)

whole : (r : ℕ) (s : List ℕ) → r < 256 → Bytes s → remainder r (bits s ++ replicate 8 0) ≡ crc_on (turns r) s
unfolding byte_on
whole r [] hr hs = zeros r
whole r (b ∷ s) hr hs =
    let h : bit_xor (turns r) b < 256 =
    xor_lt 8 (turns r) b (turned _ (turned _ (turned _ (turned _ (turned _ (turned _ (turned _ (turned _ hr)))))))) hs.0 in
    byte r b (bits s ++ replicate 8 0) hr hs.0 ∙ whole (bit_xor (turns r) b) s h hs.1

-- the CRC is what the code's turns give from 0
pub crc_is : (s : List ℕ) → Bytes s → crc s ≡ crc_on 0 s
unfolding crc
crc_is s hs = whole 0 s (omega arith) hs

-- the CRC of bytes that follow others, from the CRC of those
pub crc-append : (a b : List ℕ) → Bytes (a ++ b) → Bytes a → crc (a ++ b) ≡ crc_on (crc a) b
crc-append a b hab ha = crc_is (a ++ b) hab ∙ crc_on-append 0 a b ∙ ap (λ (c : ℕ). crc_on c b) (sym (crc_is a ha))
