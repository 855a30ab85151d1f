-- The cases of what values mean, as the code comes to them. Assumes nothing.
use Rattle.events.specs.declared.Setup.{Setup}
use Rattle.constants.specs.declared.refusal.Refusal.{Refusal}
use mathlib.Core.Path.{◌≡◌, ap, ◌∙◌, subst}
use mathlib.Core.List.{List}
use Prim.Native.Nat.{ℕ, ◌^◌, ◌<◌, ◌≤◌}
use lib.IntN.{ℤ, pos}
use lib.ListN.{length, get_or}
use lib.Signed.{mag}
use borrow.Author.Tests.{eq-eqb, le-leb}
use Rattle.events.specs.Setup.{checked_of}
use Rattle.records.specs.Record.{checked_in}
use Rattle.std.specs.Prelude.{Result}
use Rattle.record_numbers.specs.Values.{nat_of, nat_at, byte_of, word_of}
use Rattle.record_numbers.proofs.Ints.{bits_at, nat_at_lem}
use Rattle.record_payload.specs.Values.{setup_by}

-- SETUP
six : {a b c d e f a' b' c' d' e' f' : ℕ} → a ≡ a' → b ≡ b' → c ≡ c' → d ≡ d' → e ≡ e' → f ≡ f' → checked_of a b c d e f ≡ checked_of a' b' c' d' e' f'
six p q r s t u = cc

module _ (vs : List ℤ) (l : length vs ≡ 6) (n : ℕ) (g : mag (get_or vs 4 (pos 0)) < 2 ^ 63) (e : n ≡ nat_of (bits_at vs 4)) where
  pub setup_is : n ≤ 255 → (x : Result Setup Refusal) (part crc address gain offset high floor : ℕ) → mag (get_or vs 5 (pos 0)) < 2 ^ 63
      → part ≡ byte_of (nat_at vs 0) → crc ≡ byte_of (nat_at vs 1) → address ≡ byte_of (nat_at vs 2) → gain ≡ byte_of (nat_at vs 3) → offset ≡ byte_of (nat_at vs 4) → high ≡ nat_of (bits_at vs 5) → floor ≡ word_of high
      → x ≡ checked_of part crc address gain offset floor → checked_in x ≡ setup_by vs
  setup_is h x part crc address gain offset high floor g5 e0 e1 e2 e3 e4 e5 e6 q =
      let m : floor ≡ word_of (nat_at vs 5) = e6 ∙ ap word_of (nat_at_lem vs 5 high g5 e5) in
      simp (eq-eqb (length vs) 6 l, le-leb (nat_at vs 4) 255 (subst (λ (m : ℕ). m ≤ 255) (nat_at_lem vs 4 n g e) h)) (ap checked_in (q ∙ six e0 e1 e2 e3 e4 m))
