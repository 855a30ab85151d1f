-- The words by whole numbers without sign, as the code finds them. Assumes nothing.
use Rattle.std.specs.Prelude.{◌≡◌, refl, List, [], ◌∷◌, ℕ, zero, suc, ◌+◌, ◌-◌, ◌*◌, ◌/◌, ◌%◌, ◌<◌, ◌≤◌, ℤ, pos, negsuc, neg_ℤ, ◌+ℤ◌}
use Rattle.std.specs.Prelude.{length, set, drop}
use Rattle.std.proofs.Common.{sym, ap, ◌∙◌, mul_comm, arith, lt-ltb, le-ltb, le-leb}
use Rattle.std.proofs.Math.IntN.{+ℤ_assoc, +ℤ_comm}
use Rattle.std.proofs.lemmas.Bool.{lt-leb}
use Rattle.constants.specs.Answer.{gives, refuses}
use Rattle.smart_battery.specs.Words.{kelvins, milliamps, toward, unsigned_said, signed_said}

-- ── Temperature ──
die : (z : ℤ) → pos 680000 +ℤ z +ℤ pos 546300 ≡ pos 1226300 +ℤ z
die z = +ℤ_assoc (pos 680000) z (pos 546300) ∙ ap (λ (y : ℤ). pos 680000 +ℤ y) (+ℤ_comm z (pos 546300))
    ∙ sym (+ℤ_assoc (pos 680000) (pos 546300) z)

less : (a b : ℕ) → b ≤ a → pos a +ℤ neg_ℤ (pos b) ≡ pos (a - b)
less a zero h = ap pos (omega arith)
less a (suc k) h = rw (le-ltb a (suc k) h)

under : (a b : ℕ) → a < b → pos a +ℤ neg_ℤ (pos b) ≡ negsuc (b - suc a)
under a zero h = absurd (omega arith)
under a (suc k) h = rw (lt-ltb a (suc k) h)

pub warm_is : (count : ℕ) → 177 * count ≤ 1226300 → unsigned_said (kelvins count) ≡ gives ((1226300 - 177 * count) / 200)
warm_is count h =
    rw (die (neg_ℤ (pos (177 * count))), less 1226300 (177 * count) h, le-leb ((1226300 - 177 * count) / 200) 65535 (omega arith))

pub cold_is : (count : ℕ) → 1226300 < 177 * count → unsigned_said (kelvins count) ≡ refuses 11
cold_is count h = rw (die (neg_ℤ (pos (177 * count))), under 1226300 (177 * count) h)

-- ── Current ──
charging : (cc r : ℕ) → cc < 32768 → milliamps cc r ≡ pos (844 * cc / (100 * r))
charging cc r h = rw (lt-ltb cc 32768 h) (ap (λ (n : ℕ). pos (n / (100 * r))) (mul_comm cc 844))

back : (n m : ℕ) → 0 < n → toward (neg_ℤ (pos n)) m ≡ neg_ℤ (pos (n / m))
back zero m h = absurd (omega arith)
back (suc n) m h = refl

drawing : (cc r : ℕ) → 32768 ≤ cc → cc < 65536 → milliamps cc r ≡ neg_ℤ (pos (844 * (65536 - cc) / (100 * r)))
drawing cc r h k =
    let e : suc (65536 - suc cc) ≡ 65536 - cc = omega arith in
    rw (le-ltb cc 32768 h)
    (ap (λ (z : ℤ). toward z (100 * r)) (ap (λ (n : ℕ). neg_ℤ (pos n)) (ap (λ (n : ℕ). n * 844) e ∙ mul_comm (65536 - cc) 844))
    ∙ back (844 * (65536 - cc)) (100 * r) (omega arith))

pub charge_is : (cc r : ℕ) → cc < 32768 → 844 * cc / (100 * r) ≤ 32767 → signed_said (milliamps cc r) ≡ gives (844 * cc / (100 * r))
charge_is cc r h l = rw (charging cc r h, le-leb (844 * cc / (100 * r)) 32767 l)

pub charge_far : (cc r : ℕ) → cc < 32768 → 32767 < 844 * cc / (100 * r) → signed_said (milliamps cc r) ≡ refuses 11
charge_far cc r h l = rw (charging cc r h, lt-leb (844 * cc / (100 * r)) 32767 l)

minus_said : (q : ℕ) → q ≤ 32768 → signed_said (neg_ℤ (pos q)) ≡ gives ((65536 - q) % 65536)
minus_said zero h = refl
minus_said (suc q) h = rw (le-leb q 32767 (omega arith)) (ap gives (omega arith))

minus_far : (q : ℕ) → 32768 < q → signed_said (neg_ℤ (pos q)) ≡ refuses 11
minus_far zero h = absurd (omega arith)
minus_far (suc q) h = rw (lt-leb q 32767 (omega arith))

pub draw_is : (cc r : ℕ) → 32768 ≤ cc → cc < 65536 → 844 * (65536 - cc) / (100 * r) ≤ 32768
    → signed_said (milliamps cc r) ≡ gives ((65536 - 844 * (65536 - cc) / (100 * r)) % 65536)
draw_is cc r h k l = ap signed_said (drawing cc r h k) ∙ minus_said (844 * (65536 - cc) / (100 * r)) l

pub draw_far : (cc r : ℕ) → 32768 ≤ cc → cc < 65536 → 32768 < 844 * (65536 - cc) / (100 * r) → signed_said (milliamps cc r) ≡ refuses 11
draw_far cc r h k l = ap signed_said (drawing cc r h k) ∙ minus_far (844 * (65536 - cc) / (100 * r)) l

-- ── three bytes written at the start ──
pub three_set : (old : List ℕ) (a b c : ℕ) → 3 ≤ length old → set (set (set old 0 a) 1 b) 2 c ≡ a ∷ b ∷ c ∷ drop 3 old
three_set [] a b c h = absurd (omega arith)
three_set (x ∷ []) a b c h = absurd (omega arith)
three_set (x ∷ y ∷ []) a b c h = absurd (omega arith)
three_set (x ∷ y ∷ z ∷ l) a b c h = refl
