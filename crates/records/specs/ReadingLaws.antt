-- Laws of reading: where the next place is, what a record that was read is made of, and that reading moves with its place.
-- Assumes nothing.
use Rattle.std.specs.Prelude.{◌≡◌, refl, ◌≢◌, ◌⊎◌, ℕ, ◌+◌, ◌-◌, ◌<◌, ◌≤◌, List, ◌++◌, Bool, true, false, cond, ltb, eqb, length, take, drop}
use Rattle.std.specs.Prelude.{Result, Ok, Err}
use Rattle.std.proofs.Common.{sym, subst, ⊎_elim, arith, length-append, ltb-false, le-ltb, eqb-true, ne_eqb}
use Rattle.std.proofs.Math.Seq.{drop-append_seam}
use Rattle.bits.specs.Numbers.{le16}
use Rattle.records.specs.Kind.{SETUP, POR, BOOT, SCAN, TEMP, COUNT, SENSE, PIN, LOAD, XREADY, START, OUT, IN, STOP, LEVEL, TICKS}
use Rattle.records.specs.Kind.{SOAK, WIRES}
use Rattle.records.specs.Record.{Payload, bare_in, counted_in, count_in, sense_in, switch_in, load_of, level_of, in_of, out_in, ticks_in}
use Rattle.records.specs.Record.{soak_in}
use Rattle.records.specs.Record.{wires_in, groups_at, inputs_at, of_kind, later_of, payload_of, as_read, read_of, number_of, taken_from}
use Rattle.records.specs.Record.{taken_at}
use Rattle.events.specs.declared.BusEvent.TheVariants.{Start, Stop}
use Rattle.events.specs.declared.Event.{Event}
use Rattle.events.specs.declared.Event.TheVariants.{Por, Boot, Scan, Temp, Pin, Xready, OnBus}
use Rattle.constants.specs.declared.refusal.Refusal.TheVariants.{BadKind}
use Rattle.constants.specs.declared.refusal.Refusal.{Refusal}
use Rattle.constants.specs.declared.kind.Kind.{Kind}
use Rattle.records.specs.declared.Read.{Read}
use Rattle.records.specs.declared.Read.TheVariants.{Record, Refused, Cut}

-- the place after a record is past its header and within the bytes
abbrev pub Placed : ℕ → Read → Type 0
Placed len (Record e next) = (4 ≤ next) × (next ≤ len)
Placed len (Refused k next) = (4 ≤ next) × (next ≤ len)
Placed len Cut = Unit

placed_as : (len next : ℕ) (p : Payload) → 4 ≤ next → next ≤ len → Placed len (as_read next p)
placed_as len next (Ok e) a b = (a, b)
placed_as len next (Err k) a b = (a, b)

placed_by : (part : ℕ) (r : List ℕ) (t u : Bool) → ltb (length r) 4 ≡ t → ltb (length r - 4) (le16 r 0) ≡ u
    → Placed (length r) (read_of part r)
unfolding read_of
placed_by part r true u et eu = simp et tt
placed_by part r false true et eu = simp (et, eu) tt
placed_by part r false false et eu =
    let a : 4 ≤ length r = ltb-false _ _ et in
    let b : le16 r 0 ≤ length r - 4 = ltb-false _ _ eu in
    simp (et, eu) (placed_as (length r) (4 + le16 r 0) (payload_of (le16 r 2) part (take (le16 r 0) (drop 4 r))) (omega arith)
    (omega arith))

pub placed : (part : ℕ) (r : List ℕ) → Placed (length r) (read_of part r)
placed part r = placed_by part r (ltb (length r) 4) (ltb (length r - 4) (le16 r 0)) refl refl

-- what a record that was read is made of
pub record WholeAt (part : ℕ) (r : List ℕ) (e : Event) (next : ℕ) : Type 0 where
  pub header : 4 ≤ length r
  pub room : le16 r 0 ≤ length r - 4
  pub ended : next ≡ 4 + le16 r 0
  pub payload : payload_of (le16 r 2) part (take (le16 r 0) (drop 4 r)) ≡ Ok e

whole_as : (n next : ℕ) (p : Payload) (e : Event) → as_read n p ≡ Record e next → (next ≡ n) × (p ≡ Ok e)
whole_as n next (Ok f) e h = (cc, cc)
whole_as n next (Err k) e h = (cc, cc)

whole_by : (part : ℕ) (r : List ℕ) (e : Event) (next : ℕ) (t u : Bool) → ltb (length r) 4 ≡ t → ltb (length r - 4) (le16 r 0) ≡ u
    → read_of part r ≡ Record e next → WholeAt part r e next
unfolding read_of
whole_by part r e next true u et eu h = let m : Cut ≡ Record e next = simp et at h in absurd (let z : ◌≡◌ {A = ℕ} 0 1 = cc in omega arith)
whole_by part r e next false true et eu h = let m : Cut ≡ Record e next =
    simp (et, eu) at h in absurd (let z : ◌≡◌ {A = ℕ} 0 1 = cc in omega arith)
whole_by part r e next false false et eu h =
    let m : (next ≡ 4 + le16 r 0) × (payload_of (le16 r 2) part (take (le16 r 0) (drop 4 r)) ≡ Ok e) =
    whole_as (4 + le16 r 0) next _ e (simp (et, eu) at h) in
    record { header = ltb-false _ _ et; room = ltb-false _ _ eu; ended = m.0; payload = m.1 }

pub read_whole : (part : ℕ) (r : List ℕ) (e : Event) (next : ℕ) → read_of part r ≡ Record e next → WholeAt part r e next
read_whole part r e next = whole_by part r e next (ltb (length r) 4) (ltb (length r - 4) (le16 r 0)) refl refl

-- reading at the place after p is reading what follows p, moved
pub taken_moved : (part : ℕ) (p s : List ℕ) → taken_at part (p ++ s) (length p) ≡ taken_from (length p) s (read_of part s)
unfolding taken_at
taken_moved part p s =
    let l : length (p ++ s) ≡ length p + length s = length-append p s in
    simp (le-ltb (length (p ++ s)) (length p) (omega arith), drop-append_seam p s)

-- to know something of a later record's payload, it is enough to know it kind by kind
module _ (P : ℕ → Payload → Type 0) where
  kind_bool : (part : ℕ) (b : List ℕ) (code k : ℕ) (x y : Result Kind Refusal) (t : Bool) → eqb code k ≡ t → P k (of_kind x part b)
      → P code (of_kind y part b) → P code (of_kind (cond (eqb code k) x y) part b)
  kind_bool part b code k x y true e a o = simp e (subst (λ (n : ℕ). P n (of_kind x part b)) (sym (eqb-true code k e)) a)
  kind_bool part b code k x y false e a o = simp e o

  pub later_by : (part : ℕ) (b : List ℕ)
      → P POR (bare_in Por b) → P BOOT (bare_in Boot b) → P SCAN (counted_in Scan (inputs_at part) b)
      → P TEMP (counted_in Temp (groups_at part) b)
      → P COUNT (count_in b) → P SENSE (sense_in b) → P PIN (bare_in Pin b) → P LOAD (switch_in load_of b) → P XREADY (bare_in Xready b)
      → P START (bare_in (OnBus Start) b) → P OUT (out_in b) → P IN (switch_in in_of b) → P STOP (bare_in (OnBus Stop) b)
      → P LEVEL (switch_in level_of b)
      → P TICKS (ticks_in b) → P SOAK (soak_in b) → P WIRES (wires_in b)
      → ((kind : ℕ) → P kind (Err BadKind)) → (kind : ℕ) → P kind (later_of kind part b)
  unfolding later_of
  later_by part b por boot scan temp count sense pin load xready start out in' stop level ticks soak wires other kind =
      kind_by SETUP _ _ (other SETUP)
      (kind_by POR _ _ por
      (kind_by BOOT _ _ boot
      (kind_by SCAN _ _ scan
      (kind_by TEMP _ _ temp
      (kind_by COUNT _ _ count
      (kind_by SENSE _ _ sense
      (kind_by PIN _ _ pin
      (kind_by LOAD _ _ load
      (kind_by XREADY _ _ xready
      (kind_by START _ _ start
      (kind_by OUT _ _ out
      (kind_by IN _ _ in'
      (kind_by STOP _ _ stop
      (kind_by TICKS _ _ ticks
      (kind_by LEVEL _ _ level
      (kind_by WIRES _ _ wires
      (kind_by SOAK (Ok Kind.Soak) (Err BadKind) soak (other kind))))))))))))))))))
    where
      kind_by : (k : ℕ) (x y : Result Kind Refusal) → P k (of_kind x part b) → P kind (of_kind y part b)
          → P kind (of_kind (cond (eqb kind k) x y) part b)
      kind_by k x y = kind_bool part b kind k x y (eqb kind k) refl

-- a test that a definition picks its case by, passed or not
pub cond_by : (P : Payload → Type 0) (t : Bool) (x y : Payload) → (t ≡ true → P x) → P y → P (cond t x y)
cond_by P true x y a b = a refl
cond_by P false x y a b = b

-- ── the order of the numbers ──
nine_by : (part : ℕ) (r : List ℕ) (t u : Bool) → ltb (length r) 4 ≡ t → ltb (length r - 4) (le16 r 0) ≡ u → length r < 4 + le16 r 0
    → number_of (read_of part r) ≡ 9
unfolding read_of
nine_by part r true u et eu h = simp et
nine_by part r false true et eu h = simp (et, eu)
nine_by part r false false et eu h = absurd (omega (arith, ltb-false (length r) 4 et, ltb-false (length r - 4) (le16 r 0) eu))

-- 9 comes before all, whatever the kind and the part
pub nine_first : (part : ℕ) (r : List ℕ) → length r < 4 + le16 r 0 → number_of (read_of part r) ≡ 9
nine_first part r h = nine_by part r (ltb (length r) 4) (ltb (length r - 4) (le16 r 0)) refl refl h

-- 2: a first record that is no SETUP, a second SETUP, and every unknown kind (CHIP R2, R4)
pub first_other : (kind : ℕ) (b : List ℕ) → kind ≢ SETUP → payload_of kind 0 b ≡ Err BadKind
unfolding payload_of
first_other kind b h = simp (ne_eqb kind SETUP h)

pub second_setup : (part : ℕ) (b : List ℕ) → part ≢ 0 → payload_of SETUP part b ≡ Err BadKind
unfolding payload_of later_of
second_setup part b h = simp (ne_eqb part 0 h)

pub unknown_kind : (kind part : ℕ) (b : List ℕ) → part ≢ 0 → XREADY < kind → (kind < START) ⊎ (SOAK < kind)
    → payload_of kind part b ≡ Err BadKind
unfolding payload_of later_of
unknown_kind kind part b h l m =
    simp (
      ne_eqb part 0 h,
      ne_eqb kind SETUP (λ e. omega (arith, e)),
      ne_eqb kind POR (λ e. omega (arith, e)),
      ne_eqb kind BOOT (λ e. omega (arith, e)),
      ne_eqb kind SCAN (λ e. omega (arith, e)),
      ne_eqb kind TEMP (λ e. omega (arith, e)),
      ne_eqb kind COUNT (λ e. omega (arith, e)),
      ne_eqb kind SENSE (λ e. omega (arith, e)),
      ne_eqb kind PIN (λ e. omega (arith, e)),
      ne_eqb kind LOAD (λ e. omega (arith, e)),
      ne_eqb kind XREADY (λ e. omega (arith, e)),
      ne_eqb kind START (λ e. apart START (omega arith) (omega arith) e),
      ne_eqb kind OUT (λ e. apart OUT (omega arith) (omega arith) e),
      ne_eqb kind IN (λ e. apart IN (omega arith) (omega arith) e),
      ne_eqb kind STOP (λ e. apart STOP (omega arith) (omega arith) e),
      ne_eqb kind LEVEL (λ e. apart LEVEL (omega arith) (omega arith) e),
      ne_eqb kind TICKS (λ e. apart TICKS (omega arith) (omega arith) e),
      ne_eqb kind SOAK (λ e. apart SOAK (omega arith) (omega arith) e),
      ne_eqb kind WIRES (λ e. apart WIRES (omega arith) (omega arith) e),
    )
  where
    apart : (k : ℕ) → START ≤ k → k ≤ SOAK → kind ≡ k → ⊥
    apart k a z e = ⊎_elim (λ g. omega (arith, g, e)) (λ g. omega (arith, g, e)) m
