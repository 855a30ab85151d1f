-- A record is read by its header and its payload: what `read_of` says, by what stands in the header. Assumes nothing.
use Rattle.std.specs.Prelude.{◌≡◌, refl, Bool, List, ℕ, ◌+◌, ◌-◌, ◌≤◌, length, take, drop, ltb, Option, Some, None, Ok, Err}
use Rattle.std.proofs.Common.{sym, ◌∙◌, true≢false, ltb-false, eq-eqb, ne_eqb}
use Rattle.std.proofs.Math.Path.{ap}
use Rattle.std.proofs.Math.Bool.{true, false, cond}
use native.Mathlib.Omega.{arith}
use Rattle.constants.specs.Refusal.{number_of as refusal_number}
use Rattle.constants.proofs.RefusalLaws.{no_zero}
use Rattle.constants.specs.declared.refusal.Refusal.{Refusal}
use Rattle.constants.specs.declared.refusal.Refusal.TheVariants.{BadKind}
use Rattle.bits.specs.Numbers.{le16}
use Rattle.records.specs.Frame.{framed, header_of, framed_number}
use Rattle.records.specs.Record.{Payload, setup_in, payload_of, as_read, read_of, number_of}
use Rattle.records.specs.declared.Header.{Header}
use Rattle.records.specs.declared.Read.{Read}
use Rattle.records.specs.declared.Read.TheVariants.{Refused, Cut}

abbrev kind_in : Option Header → ℕ
kind_in (Some h) = h.kind
kind_in None = 0

abbrev next_in : Option Header → ℕ
next_in (Some h) = h.next
next_in None = 0

abbrev is_short : Option Header → Bool
is_short (Some h) = false
is_short None = true

short_header : (h : Header) → None ≡ Some h → ⊥
short_header h e = true≢false (ap is_short e)

module _ (r : List ℕ) (h : Header) (e : header_of r ≡ Some h) where
  -- the header is whole, and so is the payload
  pub header_is : (ltb (length r) 4 ≡ false) × ((ltb (length r - 4) (le16 r 0) ≡ false)
      × ((le16 r 2 ≡ h.kind) × (4 + le16 r 0 ≡ h.next)))
  unfolding header_of
  header_is = by (ltb (length r) 4) (ltb (length r - 4) (le16 r 0)) e
    where
      by : (s t : Bool) → cond s None (cond t None (framed (le16 r 2) (4 + le16 r 0))) ≡ Some h
          → (s ≡ false) × ((t ≡ false) × ((le16 r 2 ≡ h.kind) × (4 + le16 r 0 ≡ h.next)))
      by false false q = (refl, (refl, (ap kind_in q, ap next_in q)))
      by false true q = absurd (short_header h q)
      by true t q = absurd (short_header h q)

  pub framed_place : (4 ≤ h.next) × (h.next ≤ length r)
  framed_place =
      let p : 4 ≤ length r = ltb-false (length r) 4 header_is.0 in
      let q : le16 r 0 ≤ length r - 4 = ltb-false (length r - 4) (le16 r 0) header_is.1.0 in
      let n : 4 + le16 r 0 ≡ h.next = header_is.1.1.1 in
      (omega arith, omega arith)

  pub framed_reads : (part : ℕ) → read_of part r ≡ as_read h.next (payload_of h.kind part (take (h.next - 4) (drop 4 r)))
  unfolding read_of
  framed_reads part =
      let n : 4 + le16 r 0 ≡ h.next = header_is.1.1.1 in
      let m : le16 r 0 ≡ h.next - 4 = omega arith in
      simp (header_is.0, header_is.1.0)
      (ap (λ (k : ℕ). as_read (4 + le16 r 0) (payload_of k part (take (le16 r 0) (drop 4 r)))) header_is.1.1.0
      ∙ ap (λ (m : ℕ). as_read (4 + le16 r 0) (payload_of h.kind part (take m (drop 4 r)))) m
      ∙ ap (λ (n : ℕ). as_read n (payload_of h.kind part (take (h.next - 4) (drop 4 r)))) n)

pub short_reads : (part : ℕ) (r : List ℕ) → header_of r ≡ None → read_of part r ≡ Cut
unfolding header_of read_of
short_reads part r = by (ltb (length r) 4) (ltb (length r - 4) (le16 r 0))
  where
    x : Read
    x = as_read (4 + le16 r 0) (payload_of (le16 r 2) part (take (le16 r 0) (drop 4 r)))

    by : (s t : Bool) → cond s None (cond t None (framed (le16 r 2) (4 + le16 r 0))) ≡ None → cond s Cut (cond t Cut x) ≡ Cut
    by true t e = refl
    by false true e = refl
    by false false e = absurd (short_header (record { kind = le16 r 2; next = 4 + le16 r 0 }) (sym e))

-- ── the header's number is its record's: 9 where either is cut short, whatever the part ──
pub framed_number_lem : (part : ℕ) (r : List ℕ) → header_of r ≡ None → number_of (read_of part r) ≡ framed_number (header_of r)
framed_number_lem part r h = ap number_of (short_reads part r h) ∙ sym (ap framed_number h)

-- ── the number of a stream's first record ──
abbrev pub payload_number : Payload → ℕ
payload_number (Ok e) = 0
payload_number (Err why) = refusal_number why

read_number : (next : ℕ) (p : Payload) → number_of (as_read next p) ≡ payload_number p
read_number next (Ok e) = refl
read_number next (Err k) = refl

pub first_short : (r : List ℕ) → header_of r ≡ None → 9 ≡ number_of (read_of 0 r)
first_short r h = ap number_of (sym (short_reads 0 r h))

pub first_other : (r : List ℕ) (h : Header) → header_of r ≡ Some h → (h.kind ≡ 0 → ⊥) → 2 ≡ number_of (read_of 0 r)
unfolding payload_of
first_other r h e k =
    let p : payload_of h.kind 0 (take (h.next - 4) (drop 4 r)) ≡ Err BadKind = simp (ne_eqb h.kind 0 k) in
    sym (ap number_of (framed_reads r h e 0 ∙ ap (as_read h.next) p))

pub first_setup : (r : List ℕ) (h : Header) (p : Payload) → header_of r ≡ Some h → h.kind ≡ 0
    → p ≡ setup_in (take (h.next - 4) (drop 4 r)) → payload_number p ≡ number_of (read_of 0 r)
unfolding payload_of
first_setup r h p e k q =
    let s : payload_of h.kind 0 (take (h.next - 4) (drop 4 r)) ≡ p = simp (eq-eqb h.kind 0 k) (sym q) in
    sym (ap number_of (framed_reads r h e 0 ∙ ap (as_read h.next) s) ∙ read_number h.next p)

-- a first record that is refused has a number other than 0
pub first_refused : (r : List ℕ) (why : Refusal) (next : ℕ) → read_of 0 r ≡ Refused why next → refusal_number why ≡ 0 → ⊥
first_refused r why next h = no_zero why
