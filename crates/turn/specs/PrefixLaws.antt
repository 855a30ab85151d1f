-- A prefix of whole records gives a prefix of the entries: what follows them moves nothing of what they gave. Assumes nothing.
use Rattle.std.specs.Prelude.{◌≡◌, refl, Bool, true, false, cond, List, [], ◌∷◌, ◌++◌, ℕ, zero, suc, ◌+◌, ◌-◌, ◌<◌, ◌≤◌, ltb, length, take}
use Rattle.std.specs.Prelude.{drop}
use Rattle.std.proofs.Common.{ap, sym, ◌∙◌, subst, append-nil, arith, zero-add, length-append, length-take, length-drop, take-append-drop}
use Rattle.std.proofs.Common.{ltb-false, le-ltb}
use Rattle.std.proofs.Math.ListN.{get_or-append}
use Rattle.std.proofs.lemmas.List.{take-append-le, drop-append-le}
use Rattle.std.specs.Prelude.{Ok, Err}
use Rattle.records.specs.declared.Read.{Read}
use Rattle.records.specs.declared.Read.TheVariants.{Record, Refused, Cut}
use Rattle.bits.specs.Numbers.{le16}
use Rattle.records.specs.Record.{Payload, payload_of, as_read, read_of, counts_in}
use Rattle.records.specs.ReadingLaws.{Placed, placed}
use Rattle.chip.specs.declared.Chip.{Chip}
use Rattle.turn.specs.declared.Entry.{Entry}
use Rattle.turn.specs.Turn.{Turn, none, acted, stays_fresh, turn, turned, turn_of}
use Rattle.turn.specs.Entries.{runs, stands, stays, entries}

suc-add : (m n : ℕ) → suc m + n ≡ suc (m + n)
suc-add m n = omega arith

-- ── a record that is whole reads the same whatever follows ──
same16 : (p s : List ℕ) (i : ℕ) → i + 1 < length p → le16 (p ++ s) i ≡ le16 p i
same16 p s i h = rw (get_or-append p s 0 i (omega arith), get_or-append p s 0 (i + 1) h) refl

pub same_part : (p s : List ℕ) (n : ℕ) → 4 + n ≤ length p → take n (drop 4 (p ++ s)) ≡ take n (drop 4 p)
same_part p s n h =
    let d : length (drop 4 p) ≡ length p - 4 = length-drop 4 p in
    ap (take n) (drop-append-le 4 p s (omega arith)) ∙ take-append-le n (drop 4 p) s (omega arith)

abbrev IsWhole : Read → Type 0
IsWhole (Record e next) = Unit
IsWhole (Refused k next) = Unit
IsWhole Cut = ⊥

same_read : (part : ℕ) (p s : List ℕ) (t u : Bool) → ltb (length p) 4 ≡ t → ltb (length p - 4) (le16 p 0) ≡ u → IsWhole (read_of part p)
    → read_of part (p ++ s) ≡ read_of part p
unfolding read_of
same_read part p s true u et eu w = absurd (subst IsWhole (cut_is part p et) w)
  where
    cut_is : (part : ℕ) (p : List ℕ) → ltb (length p) 4 ≡ true → read_of part p ≡ Cut
    cut_is part p e = simp e
same_read part p s false true et eu w = absurd (subst IsWhole (cut_is part p et eu) w)
  where
    cut_is : (part : ℕ) (p : List ℕ) → ltb (length p) 4 ≡ false → ltb (length p - 4) (le16 p 0) ≡ true → read_of part p ≡ Cut
    cut_is part p e f = simp (e, f)
same_read part p s false false et eu w =
    let a : 4 ≤ length p = ltb-false _ _ et in
    let b : le16 p 0 ≤ length p - 4 = ltb-false _ _ eu in
    let l : length (p ++ s) ≡ length p + length s = length-append p s in
    let n : le16 (p ++ s) 0 ≡ le16 p 0 = same16 p s 0 (omega arith) in
    let k : le16 (p ++ s) 2 ≡ le16 p 2 = same16 p s 2 (omega arith) in
    let q : take (le16 p 0) (drop 4 (p ++ s)) ≡ take (le16 p 0) (drop 4 p) = same_part p s (le16 p 0) (omega arith) in
    let e1 : ltb (length (p ++ s)) 4 ≡ false = le-ltb (length (p ++ s)) 4 (omega arith) in
    let e2 : ltb (length (p ++ s) - 4) (le16 (p ++ s) 0) ≡ false = le-ltb (length (p ++ s) - 4) (le16 (p ++ s) 0) (omega arith) in
    simp (e1, e2, et, eu)
    (ap (λ (m : ℕ). as_read (4 + m) (payload_of (le16 (p ++ s) 2) part (take m (drop 4 (p ++ s))))) n
    ∙ ap (λ (m : ℕ). as_read (4 + le16 p 0) (payload_of m part (take (le16 p 0) (drop 4 (p ++ s))))) k
    ∙ ap (λ (m : List ℕ). as_read (4 + le16 p 0) (payload_of (le16 p 2) part m)) q)

-- a turn that is not the last is the same whatever follows
same_turned : (o : Bool) (c : Chip) (p s : List ℕ) (x : Read) → Placed (length p) x → (turned o c p x).last ≡ false
    → turned o c (p ++ s) x ≡ turned o c p x
same_turned o c p s (Record e next) g l =
    ap (λ (b : List ℕ). turn (acted o e (counts_in e b) c) (stays_fresh o c (acted o e (counts_in e b) c)) next false)
    (same_part p s (next - 4) (omega (arith, g.0, g.1)))
same_turned o c p s (Refused k next) g l = refl
same_turned o c p s Cut g l = cc

last_whole : (o : Bool) (c : Chip) (p : List ℕ) (x : Read) → (turned o c p x).last ≡ false → IsWhole x
last_whole o c p (Record e next) l = tt
last_whole o c p (Refused k next) l = tt
last_whole o c p Cut l = let z : ◌≡◌ {A = ℕ} 0 1 = cc in absurd (omega arith)

pub same_record : (o : Bool) (c : Chip) (p s : List ℕ) → (turn_of o c p).last ≡ false
    → read_of c.setup.part (p ++ s) ≡ read_of c.setup.part p
unfolding turn_of
same_record o c p s l =
    let part : ℕ = c.setup.part in
    same_read part p s (ltb (length p) 4) (ltb (length p - 4) (le16 p 0)) refl refl (last_whole o c p (read_of part p) l)

pub same_turn : (o : Bool) (c : Chip) (p s : List ℕ) → (turn_of o c p).last ≡ false → turn_of o c (p ++ s) ≡ turn_of o c p
unfolding turn_of
same_turn o c p s l =
    ap (turned o c (p ++ s)) (same_record o c p s l) ∙ same_turned o c p s (read_of c.setup.part p) (placed c.setup.part p) l

turned_inside : (o : Bool) (c : Chip) (p : List ℕ) (x : Read) → Placed (length p) x → (turned o c p x).last ≡ false
    → (turned o c p x).next ≤ length p
turned_inside o c p (Record e next) g l = g.1
turned_inside o c p (Refused k next) g l = g.1
turned_inside o c p Cut g l = omega arith

pub turn_inside : (o : Bool) (c : Chip) (p : List ℕ) → (turn_of o c p).last ≡ false → (turn_of o c p).next ≤ length p
unfolding turn_of
turn_inside o c p l = turned_inside o c p (read_of c.setup.part p) (placed c.setup.part p) l

-- ── a record alone: cut out of its stream, and whatever follows it there, it makes the same turn ──
whole_as : (n : ℕ) (p : Payload) → IsWhole (as_read n p)
whole_as n (Ok e) = tt
whole_as n (Err why) = tt

alone_whole : (part : ℕ) (p : List ℕ) → length p ≡ 4 + le16 p 0 → IsWhole (read_of part p)
unfolding read_of
alone_whole part p l =
    let e1 : ltb (length p) 4 ≡ false = le-ltb (length p) 4 (omega arith) in
    let e2 : ltb (length p - 4) (le16 p 0) ≡ false = le-ltb (length p - 4) (le16 p 0) (omega arith) in
    simp (e1, e2) (whole_as (4 + le16 p 0) (payload_of (le16 p 2) part (take (le16 p 0) (drop 4 p))))

-- where the record that bytes begin with ends, by what was read
abbrev Ends : List ℕ → Read → Type 0
Ends r (Record e next) = (next ≡ 4 + le16 r 0) × (next ≤ length r)
Ends r (Refused k next) = (next ≡ 4 + le16 r 0) × (next ≤ length r)
Ends r Cut = Unit

ends_as : (r : List ℕ) (p : Payload) → 4 + le16 r 0 ≤ length r → Ends r (as_read (4 + le16 r 0) p)
ends_as r (Ok e) h = (refl, h)
ends_as r (Err why) h = (refl, h)

ends : (part : ℕ) (r : List ℕ) → Ends r (read_of part r)
unfolding read_of
ends part r = by (ltb (length r) 4) (ltb (length r - 4) (le16 r 0)) refl refl
  where
    by : (t u : Bool) → ltb (length r) 4 ≡ t → ltb (length r - 4) (le16 r 0) ≡ u
        → Ends r (cond t Cut (cond u Cut (as_read (4 + le16 r 0) (payload_of (le16 r 2) part (take (le16 r 0) (drop 4 r))))))
    by true u et eu = tt
    by false true et eu = tt
    by false false et eu =
        let a : 4 ≤ length r = ltb-false _ _ et in
        let b : le16 r 0 ≤ length r - 4 = ltb-false _ _ eu in
        ends_as r (payload_of (le16 r 2) part (take (le16 r 0) (drop 4 r))) (omega arith)

read_alone : (part : ℕ) (r : List ℕ) (n : ℕ) → n ≡ 4 + le16 r 0 → n ≤ length r → read_of part (take n r) ≡ read_of part r
read_alone part r n e h =
    let p : List ℕ = take n r in
    let l : length p ≡ n = simp length-take (omega arith) in
    let j : p ++ drop n r ≡ r = take-append-drop n r in
    let w : le16 r 0 ≡ le16 p 0 = ap (λ (b : List ℕ). le16 b 0) (sym j) ∙ same16 p (drop n r) 0 (omega arith) in
    sym (same_read part p (drop n r) (ltb (length p) 4) (ltb (length p - 4) (le16 p 0)) refl refl
    (alone_whole part p (omega (arith, l, w, e))))
    ∙ ap (read_of part) j

turned_alone : (o : Bool) (c : Chip) (r : List ℕ) (x : Read) → Ends r x → Placed (length r) x → (turned o c r x).last ≡ false
    → (turned o c (take (turned o c r x).next r) x ≡ turned o c r x)
    × (read_of c.setup.part (take (turned o c r x).next r) ≡ read_of c.setup.part r)
turned_alone o c r (Record e next) q g l = (
  ap (λ (b : List ℕ). turn (acted o e (counts_in e b) c) (stays_fresh o c (acted o e (counts_in e b) c)) next false)
      (sym (same_part (take next r) (drop next r) (next - 4) (simp length-take (omega (arith, g.0, g.1))))
      ∙ ap (λ (b : List ℕ). take (next - 4) (drop 4 b)) (take-append-drop next r)),
  read_alone c.setup.part r next q.0 q.1,
)
turned_alone o c r (Refused k next) q g l = (refl, read_alone c.setup.part r next q.0 q.1)
turned_alone o c r Cut q g l = let z : ◌≡◌ {A = ℕ} 0 1 = cc in absurd (omega arith)

turn_alone : (o : Bool) (c : Chip) (r : List ℕ) → (turn_of o c r).last ≡ false → turn_of o c (take (turn_of o c r).next r) ≡ turn_of o c r
unfolding turn_of
turn_alone o c r l =
    let part : ℕ = c.setup.part in
    let t = turned_alone o c r (read_of part r) (ends part r) (placed part r) l in
    ap (turned o c (take (turned o c r (read_of part r)).next r)) t.1 ∙ t.0

-- THE RECORD that bytes begin with makes one turn, whatever follows it
pub same_frame : (o : Bool) (c : Chip) (r q : List ℕ) → (turn_of o c r).last ≡ false
    → turn_of o c (take (turn_of o c r).next r ++ q) ≡ turn_of o c r
same_frame o c r q l =
    let a : turn_of o c (take (turn_of o c r).next r) ≡ turn_of o c r = turn_alone o c r l in
    same_turn o c (take (turn_of o c r).next r) q (ap (λ (t : Turn). t.last) a ∙ l) ∙ a

-- ── whole records: each turn but the last is followed by another, and the last ends with the bytes ──
pub data WholeRecords : Bool → Chip → List ℕ → Type 0 where
  none_left : (o : Bool) (c : Chip) → WholeRecords o c []
  one_more : (o : Bool) (c : Chip) (b : ℕ) (p : List ℕ) → (turn_of o c (b ∷ p)).last ≡ false
      → WholeRecords (turn_of o c (b ∷ p)).fresh (turn_of o c (b ∷ p)).chip (drop (turn_of o c (b ∷ p)).next (b ∷ p))
      → WholeRecords o c (b ∷ p)

-- how many they are
abbrev pub many : {o : Bool} {c : Chip} {p : List ℕ} → WholeRecords o c p → ℕ
many (none_left o c) = 0
many (one_more o c b p l w) = suc (many w)

-- THE PREFIX: the entries of whole records and what follows them are the entries of the records, then those of what follows on the chip
-- that they leave
pub prefix : {o : Bool} {c : Chip} {p : List ℕ} (w : WholeRecords o c p) (f : ℕ) (s : List ℕ)
    → runs (many w + f) o c (p ++ s) ≡ runs (many w) o c p ++ runs f (stays (many w) o c p) (stands (many w) o c p) s
prefix (none_left o c) f s = ap (λ (n : ℕ). runs n o c s) (zero-add f)
prefix (one_more o c b p l w) f s =
    let g : (turn_of o c (b ∷ p)).next ≤ length (b ∷ p) = turn_inside o c (b ∷ p) l in
    ap (λ (n : ℕ). runs n o c (b ∷ (p ++ s))) (suc-add (many w) f)
    ∙ ap (λ (t : Turn). t.entry ∷ cond t.last [] (runs (many w + f) t.fresh t.chip (drop t.next (b ∷ (p ++ s)))))
    (same_turn o c (b ∷ p) s l)
    ∙ simp l (ap (λ (e : List Entry). (turn_of o c (b ∷ p)).entry ∷ e)
    (ap (runs (many w + f) (turn_of o c (b ∷ p)).fresh (turn_of o c (b ∷ p)).chip) (drop-append-le (turn_of o c (b ∷ p)).next (b ∷ p) s g)
    ∙ prefix w f s))

-- each record takes a byte at least
turned_past : (o : Bool) (c : Chip) (p : List ℕ) (x : Read) → Placed (length p) x → (turned o c p x).last ≡ false
    → 1 ≤ (turned o c p x).next
turned_past o c p (Record e next) g l = omega (arith, g.0)
turned_past o c p (Refused k next) g l = omega (arith, g.0)
turned_past o c p Cut g l = let z : ◌≡◌ {A = ℕ} 0 1 = cc in absurd (omega arith)

pub turn_past : (o : Bool) (c : Chip) (p : List ℕ) → (turn_of o c p).last ≡ false → 1 ≤ (turn_of o c p).next
unfolding turn_of
turn_past o c p l = turned_past o c p (read_of c.setup.part p) (placed c.setup.part p) l

few : {o : Bool} {c : Chip} {p : List ℕ} (w : WholeRecords o c p) → many w ≤ length p
few (none_left o c) = omega arith
few (one_more o c b p l w) =
    let h : many w ≤ length (drop (turn_of o c (b ∷ p)).next (b ∷ p)) = few w in
    let d : length (drop (turn_of o c (b ∷ p)).next (b ∷ p)) ≡ length (b ∷ p) - (turn_of o c (b ∷ p)).next =
    length-drop (turn_of o c (b ∷ p)).next (b ∷ p) in
    omega (arith, turn_past o c (b ∷ p) l)

no_more : (f : ℕ) (o : Bool) (c : Chip) → runs f o c [] ≡ []
no_more zero o c = refl
no_more (suc f) o c = refl

-- the entries of whole records alone
alone : {o : Bool} {c : Chip} {p : List ℕ} (w : WholeRecords o c p) → runs (length p) o c p ≡ runs (many w) o c p
alone {o} {c} {p} w =
    let k : ℕ = length p - many w in
    let e : length p ≡ many w + k = omega (arith, few w) in
    ap (λ (n : ℕ). runs n o c p) e ∙ ap (runs (many w + k) o c) (sym (append-nil p)) ∙ prefix w k []
    ∙ ap (λ (l : List Entry). runs (many w) o c p ++ l) (no_more k _ _) ∙ append-nil _

-- the same of streams: whole records from the first on give a prefix of the entries of every stream that they begin
pub entries_prefix : (p s : List ℕ) (w : WholeRecords false none p)
    → entries (p ++ s) ≡ entries p ++ runs (length (p ++ s) - many w) (stays (many w) false none p) (stands (many w) false none p) s
unfolding entries
entries_prefix p s w =
    let k : ℕ = length (p ++ s) - many w in
    let l : length (p ++ s) ≡ length p + length s = length-append p s in
    let e : length (p ++ s) ≡ many w + k = omega (arith, few w) in
    ap (λ (n : ℕ). runs n false none (p ++ s)) e ∙ prefix w k s
    ∙ ap (λ (x : List Entry). x ++ runs k (stays (many w) false none p) (stands (many w) false none p) s) (sym (alone w))
