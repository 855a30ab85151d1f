-- The parts of the calls, by the tests of the code. Assumes nothing.
use mathlib.Core.Path.{◌≡◌, refl, sym, ap, ap₂, subst, ◌∙◌}
use mathlib.Core.Bool.{Bool, true, false, not, cond, true≢false}
use mathlib.Core.List.{List, ◌++◌}
use Prim.Native.Nat.{ℕ, zero, suc, ◌+◌, ◌-◌, ◌%◌, ◌≤◌, ◌<◌, ◌^◌}
use native.Mathlib.Omega.{arith}
use native.Mathlib.Nat.{div-zero}
use native.Mathlib.Numerals.{add-one}
use lib.Dec.{eqb, leb, ltb}
use lib.IntN.{ℤ, pos, neg_ℤ}
use lib.ListN.{length, take, drop}
use borrow.Author.Tests.{ne_eqb, le-leb, lt-leb}
use Rattle.bits.specs.Bit.{bit}
use Rattle.settings.specs.declared.Settings.{Settings}
use Rattle.turn.specs.Entries.{entries}
use Rattle.turn.specs.Frames.{frames_of}
use Rattle.turn.specs.CountedLaws.{entries_count}
use Rattle.turn.proofs.Runs.{rest_is}
use Rattle.bits.specs.Numbers.{word_bytes}
use Rattle.why_rows.specs.declared.Why.{Why}
use Rattle.std.specs.Prelude.{◌||◌, Some, None}
use Rattle.events.specs.declared.Fault.{Fault}
use Rattle.events.specs.declared.Fault.TheVariants.{Ov, Uv, Scd, Ocd}
use Rattle.limits.specs.declared.Rule.{Rule}
use Rattle.limits.specs.Rule.{rule}
use Rattle.causes.specs.Cause.{is_judged, cause_of, need_of, limit_of, is_known, known, known_bit, fault_of}
use Rattle.causes.specs.Hold.{drive_of, held_by, is_drive}
use Rattle.why_rows.specs.Row.{why_words, off_words}
use Rattle.why_scan.specs.declared.Says.{Says}
use Rattle.why_walk.specs.declared.Standing.{Standing}
use Rattle.why_walk.specs.Says.{says_in}
use Rattle.why_walk.specs.Standing.{begun, advanced, standing_at}
use Rattle.why.specs.declared.Rose.{Rose}
use Rattle.why.specs.declared.Found.{Found}
use Rattle.why.specs.Rise.{is_such, rose_on, risen, searched_on, searched, Few}
use Rattle.why.specs.Why.{least_of, unjudged, judged, why_of, stream_most, why_row, why_number, Explained}
use Rattle.why.specs.Off.{off_row, off_number, Held}
use Rattle.why.proofs.Few.{inside, few_short, last_is, place_is, stood_inside, rose_known, none_up}

-- ── the loops ──
standing_good : (s : List ℕ) (b n : ℕ) (g : Standing) → g ≡ standing_at s b n → Few s b → (g.at ≤ length s) × (g.streak < 2 ^ 63)
standing_good s b n g e f = subst (λ (g : Standing). (g.at ≤ length s) × (g.streak < 2 ^ 63)) (sym e) ((inside s b n).0, f n)

pub rise_good : (s : List ℕ) (b d n : ℕ) (r : Rose) → r ≡ risen s b d n → Few s b → (r.last.at ≤ length s) × (r.last.streak < 2 ^ 63)
rise_good s b d n r e f = standing_good s b n r.last (ap (λ (r : Rose). r.last) e ∙ last_is s b d n) f

pub rise_next : {g : Standing} {new : Rose} (s : List ℕ) (b d n : ℕ) (r : Rose) → r ≡ risen s b d n → g ≡ advanced s b r.last → new ≡ rose_on b d n g r → new ≡ risen s b d (n + 1)
rise_next s b d n r e q h =
    h ∙ ap (λ (g : Standing). rose_on b d n g r) q ∙ ap (λ (r : Rose). rose_on b d n (advanced s b r.last) r) e ∙ ap (risen s b d) (sym (add-one n))

pub search_good : (s : List ℕ) (b least n : ℕ) (r : Found) → r ≡ searched s b least n → Few s b → (r.place.at ≤ length s) × (r.place.streak < 2 ^ 63)
search_good s b least n r e f = standing_good s b n r.place (ap (λ (r : Found). r.place) e ∙ place_is s b least n) f

pub search_next : {g : Standing} {new : Found} (s : List ℕ) (b least n : ℕ) (r : Found) → r ≡ searched s b least n → g ≡ advanced s b r.place → new ≡ searched_on least n g r
    → new ≡ searched s b least (n + 1)
search_next s b least n r e q h =
    h ∙ ap (λ (g : Standing). searched_on least n g r) q ∙ ap (λ (r : Found). searched_on least n (advanced s b r.place) r) e ∙ ap (searched s b least) (sym (add-one n))

-- ── why it rose ──
-- the rule of a bit that is judged
by_fault : (b : ℕ) (t : Settings) (k : Fault) → fault_of b ≡ Some k → (is_judged b ≡ true) × (need_of b t ≡ (rule k t).need) × (limit_of b t ≡ (rule k t).limit)
by_fault b t k h = by (eqb b 4) (eqb b 8) (eqb b 2) (eqb b 1) h
  where
    by : (o u s c : Bool) → cond o (Some Ov) (cond u (Some Uv) (cond s (Some Scd) (cond c (Some Ocd) None))) ≡ Some k
        → ((o || u || s || c) ≡ true)
        × (cond o (rule Ov t).need (cond u (rule Uv t).need (cond s (rule Scd t).need (rule Ocd t).need)) ≡ (rule k t).need)
        × (cond o (rule Ov t).limit (cond u (rule Uv t).limit (cond s (rule Scd t).limit (rule Ocd t).limit)) ≡ (rule k t).limit)
    by true u s c h = let e : Ov ≡ k = cc in (refl, ap (λ (k : Fault). (rule k t).need) e, ap (λ (k : Fault). (rule k t).limit) e)
    by false true s c h = let e : Uv ≡ k = cc in (refl, ap (λ (k : Fault). (rule k t).need) e, ap (λ (k : Fault). (rule k t).limit) e)
    by false false true c h = let e : Scd ≡ k = cc in (refl, ap (λ (k : Fault). (rule k t).need) e, ap (λ (k : Fault). (rule k t).limit) e)
    by false false false true h = let e : Ocd ≡ k = cc in (refl, ap (λ (k : Fault). (rule k t).need) e, ap (λ (k : Fault). (rule k t).limit) e)
    by false false false false h = absurd cc

no_fault : (b : ℕ) → fault_of b ≡ None → is_judged b ≡ false
no_fault b h = by (eqb b 4) (eqb b 8) (eqb b 2) (eqb b 1) h
  where
    by : (o u s c : Bool) → cond o (Some Ov) (cond u (Some Uv) (cond s (Some Scd) (cond c (Some Ocd) None))) ≡ None → (o || u || s || c) ≡ false
    by true u s c h = absurd cc
    by false true s c h = absurd cc
    by false false true c h = absurd cc
    by false false false true h = absurd cc
    by false false false false h = refl

module _ (s : List ℕ) (b : ℕ) (r : Rose) {w : Says} {cause : ℕ}
    (e : w ≡ says_in b r.stood.chip (take (length s - r.stood.at) (drop r.stood.at s))) (p : cause ≡ cause_of b w.pin) where
  abbrev said : Says
  said = says_in b r.stood.chip (drop r.stood.at s)

  said_is : w ≡ said
  said_is = e ∙ ap (says_in b r.stood.chip) (rest_is s r.stood.at)

  cause_is : cause ≡ cause_of b said.pin
  cause_is = p ∙ ap (λ (w : Says). cause_of b w.pin) said_is

  abbrev t : Settings
  t = r.stood.chip.registers.settings

  why_as_is : (u : Bool) → is_judged b ≡ u → cond u (judged s b r t said (cause_of b said.pin)) (unjudged r (cause_of b said.pin)) ≡ why_of s b r
  unfolding why_of
  why_as_is u h = sym (ap (λ (u : Bool). cond u (judged s b r t said (cause_of b said.pin)) (unjudged r (cause_of b said.pin))) h)

  pub why_unjudged : fault_of b ≡ None → record { rose = r.rose; first = r.rose; cause = cause; many = 0; limit = 0; input = 0; value = 0 } ≡ why_of s b r
  why_unjudged h = ap (unjudged r) cause_is ∙ why_as_is false (no_fault b h)

  pub why_judged : {least many : ℕ} {f : Found} {y : Rule} (k : Fault) → fault_of b ≡ Some k → y ≡ rule k t → least ≡ least_of r.stood.streak y.need → f ≡ searched s b least (r.rose + 1) → many ≡ y.need
      → record { rose = r.rose; first = f.first; cause = cause; many = many; limit = y.limit; input = w.input; value = w.value } ≡ why_of s b r
  why_judged {least} {many} {f} {y} k h q m z v =
      let g = by_fault b t k h in
      let n : y.need ≡ need_of b t = ap (λ (y : Rule). y.need) q ∙ sym g.1 in
      let l : y.limit ≡ limit_of b t = ap (λ (y : Rule). y.limit) q ∙ sym g.2 in
      let first_is : f.first ≡ (searched s b (least_of r.stood.streak (need_of b t)) (suc r.rose)).first =
      ap (λ (f : Found). f.first) (z ∙ ap₂ (λ (x y : ℕ). searched s b x y) (m ∙ ap (least_of r.stood.streak) n) (add-one r.rose)) in
      (λ i. record { rose = r.rose; first = first_is i; cause = cause_is i; many = (v ∙ n) i; limit = l i; input = (said_is i).input; value = (said_is i).value })
      ∙ why_as_is true g.0

-- ── the calls ──
pub explained_by : (s : List ℕ) (n b : ℕ) (old new : List ℕ) (z : ℤ) (k : ℕ) → why_number s n b (length old) ≡ k → z ≡ neg_ℤ (pos k)
    → new ≡ cond (eqb k 0) (why_row s n b ++ drop 36 old) old → Explained s n b old z new
explained_by s n b old new z k q e w =
    record { answer = e ∙ ap (λ (k : ℕ). neg_ℤ (pos k)) (sym q); contents = w ∙ ap (λ (k : ℕ). cond (eqb k 0) (why_row s n b ++ drop 36 old) old) (sym q) }

pub held_by_lem : (s : List ℕ) (n d : ℕ) (old new : List ℕ) (z : ℤ) (k : ℕ) → off_number s n d (length old) ≡ k → z ≡ neg_ℤ (pos k)
    → new ≡ cond (eqb k 0) (off_row s n d ++ drop 12 old) old → Held s n d old z new
held_by_lem s n d old new z k q e w =
    record { answer = e ∙ ap (λ (k : ℕ). neg_ℤ (pos k)) (sym q); contents = w ∙ ap (λ (k : ℕ). cond (eqb k 0) (off_row s n d ++ drop 12 old) old) (sym q) }

pub why_as : (s : List ℕ) (n b room : ℕ) (t u v w : Bool) → ltb stream_most (length s) ≡ t → leb (length (entries s)) n ≡ u
    → bit (risen s (known_bit b) 0 (suc n)).last.stat (known_bit b) ≡ v → ltb room 36 ≡ w → why_number s n b room ≡ cond t 24 (cond u 27 (cond v (cond w 5 0) 28))
why_as s n b room t u v w p q r m =
    ap₂ (λ (t u : Bool). cond {A = ℕ} t 24 (cond u 27 (cond (bit (risen s (known_bit b) 0 (suc n)).last.stat (known_bit b)) (cond (ltb room 36) 5 0) 28))) p q
    ∙ ap₂ (λ (v w : Bool). cond {A = ℕ} t 24 (cond u 27 (cond v (cond w 5 0) 28))) r m

pub off_as : (s : List ℕ) (n d room : ℕ) (u k v w : Bool) → leb (length (entries s)) n ≡ u → is_drive d ≡ k → bit (risen s 0 d (suc n)).last.pins d ≡ v → ltb room 12 ≡ w
    → off_number s n d room ≡ cond u 27 (cond k (cond v 28 (cond w 5 0)) 28)
off_as s n d room u k v w p q r m =
    ap₂ (λ (u k : Bool). cond {A = ℕ} u 27 (cond k (cond (bit (risen s 0 d (suc n)).last.pins d) 28 (cond (ltb room 12) 5 0)) 28)) p q
    ∙ ap₂ (λ (v w : Bool). cond {A = ℕ} u 27 (cond k (cond v 28 (cond w 5 0)) 28)) r m

-- the records that there are
pub counted : {k n : ℕ} (s : List ℕ) → k ≡ frames_of s → k ≤ n → leb (length (entries s)) n ≡ true
counted {k} {n} s e h = le-leb (length (entries s)) n (omega (arith, entries_count s, e, h))

pub uncounted : {k n : ℕ} (s : List ℕ) → k ≡ frames_of s → n < k → leb (length (entries s)) n ≡ false
uncounted {k} {n} s e h = lt-leb (length (entries s)) n (omega (arith, entries_count s, e, h))

module _ (s : List ℕ) (n b w : ℕ) (r : Rose) (e : r ≡ risen s w 0 (n + 1)) (k : w ≡ known_bit b) where
  abbrev there : Rose
  there = risen s (known_bit b) 0 (suc n)

  rose_is : r ≡ there
  rose_is = e ∙ ap₂ (λ (w n : ℕ). risen s w 0 n) k (add-one n)

  pub up_is : {x : Bool} → x ≡ bit r.last.stat w → bit there.last.stat (known_bit b) ≡ x
  up_is q = sym (q ∙ ap₂ (λ (r : Rose) (w : ℕ). bit r.last.stat w) rose_is k)

  -- what is asked of the stream before its cause is looked for
  pub why_good : {x : Bool} → length s ≤ 4294967295 → n + 1 ≤ 18446744073709551615 → x ≡ bit r.last.stat w → x ≡ true
      → Few s w × (r.stood.at ≤ length s) × (r.stood.streak < 2 ^ 63) × (r.rose < 18446744073709551615)
  why_good h m q u =
      let f : Few s w = few_short s w h in
      let up : bit r.last.stat w ≡ true = sym q ∙ u in
      let v : bit (risen s w 0 (n + 1)).last.stat w ≡ true = ap (λ (r : Rose). bit r.last.stat w) (sym e) ∙ up in
      let o : (risen s w 0 (n + 1)).rose < n + 1 = known w v in
      let g = stood_inside s w 0 (n + 1) f in (
        f,
        subst (λ (r : Rose). r.stood.at ≤ length s) (sym e) g.0,
        subst (λ (r : Rose). r.stood.streak < 2 ^ 63) (sym e) g.1,
        subst (λ (r : Rose). r.rose < 18446744073709551615) (sym e) (omega (arith, o, m)),
      )
    where
      known : (w : ℕ) → bit (risen s w 0 (n + 1)).last.stat w ≡ true → (risen s w 0 (n + 1)).rose < n + 1
      known zero v = absurd (true≢false (sym v ∙ ap (λ (q : ℕ). eqb (q % 2) 1) (div-zero (risen s 0 0 (n + 1)).last.stat)))
      known (suc w) v =
          let z : eqb (suc w) 0 ≡ false = ne_eqb (suc w) 0 (λ z. omega (arith, z)) in
          rose_known s (suc w) 0 (n + 1) (such_up_at begun z (none_up (suc w))) (such_up_at (risen s (suc w) 0 (n + 1)).last z v)
        where
          such_up_at : {t : Bool} (g : Standing) → eqb (suc w) 0 ≡ false → bit g.stat (suc w) ≡ t → is_such (suc w) 0 g ≡ t
          such_up_at g z q = ap (λ (t : Bool). cond t (not (bit g.pins 0)) (bit g.stat (suc w))) z ∙ q

-- ── the row ──
module _ (s : List ℕ) (n b w : ℕ) (r : Rose) (old : List ℕ) (e : r ≡ risen s w 0 (n + 1)) (k : w ≡ known_bit b) where
  pub row_is : {y : Why} {row : List ℕ} → y ≡ why_of s w r → row ≡ word_bytes (why_words y) → row ++ drop 36 old ≡ why_row s n b ++ drop 36 old
  row_is q h =
      ap (λ (l : List ℕ). l ++ drop 36 old)
      (h ∙ ap (λ (y : Why). word_bytes (why_words y)) (q ∙ ap₂ (λ (w : ℕ) (r : Rose). why_of s w r) k (e ∙ ap₂ (λ (w n : ℕ). risen s w 0 n) k (add-one n))))

pub off_row_is : {row : List ℕ} {held : ℕ} (s : List ℕ) (n d w : ℕ) → w ≡ d → (r : Rose) (old : List ℕ) → r ≡ risen s 0 w (n + 1) → held ≡ held_by r.last.stat w
    → row ≡ word_bytes (off_words r.rose held) → row ++ drop 12 old ≡ off_row s n d ++ drop 12 old
off_row_is s n d w k r old e q h =
    ap (λ (l : List ℕ). l ++ drop 12 old)
    (h ∙ ap (λ (k : ℕ). word_bytes (off_words r.rose k)) q
    ∙ ap₂ (λ (r : Rose) (w : ℕ). word_bytes (off_words r.rose (held_by r.last.stat w))) (e ∙ ap₂ (risen s 0) k (add-one n)) k)

-- ── a bit or a drive that is known, and none ──
pub bit_known : (b w : ℕ) → known b ≡ Some w → w ≡ known_bit b
bit_known b w h = by (is_known b) h
  where
    by : (t : Bool) → cond t (Some b) None ≡ Some w → w ≡ cond t b 0
    by true h = cc
    by false h = absurd cc

pub bit_none : (b : ℕ) → known b ≡ None → known_bit b ≡ 0
bit_none b h = by (is_known b) h
  where
    by : (t : Bool) → cond t (Some b) None ≡ None → cond t b 0 ≡ 0
    by true h = absurd cc
    by false h = refl

pub never_up : (s : List ℕ) (n b : ℕ) → known b ≡ None → bit (risen s (known_bit b) 0 (suc n)).last.stat (known_bit b) ≡ false
never_up s n b h =
    ap (λ (w : ℕ). bit (risen s w 0 (suc n)).last.stat w) (bit_none b h) ∙ ap (λ (q : ℕ). eqb (q % 2) 1) (div-zero (risen s 0 0 (suc n)).last.stat)

pub drive_known : (d w : ℕ) → drive_of d ≡ Some w → (is_drive d ≡ true) × (w ≡ d)
drive_known d w h = by (is_drive d) h
  where
    by : (t : Bool) → cond t (Some d) None ≡ Some w → (t ≡ true) × (w ≡ d)
    by true h = (refl, cc)
    by false h = absurd cc

pub drive_none : (d : ℕ) → drive_of d ≡ None → is_drive d ≡ false
drive_none d h = by (is_drive d) h
  where
    by : (t : Bool) → cond t (Some d) None ≡ None → t ≡ false
    by true h = absurd cc
    by false h = refl

pub off_is : {x : Bool} (s : List ℕ) (n d w : ℕ) → w ≡ d → (r : Rose) → r ≡ risen s 0 w (n + 1) → x ≡ bit r.last.pins w → bit (risen s 0 d (suc n)).last.pins d ≡ x
off_is s n d w k r e q = sym (q ∙ ap₂ (λ (r : Rose) (w : ℕ). bit r.last.pins w) (e ∙ ap₂ (risen s 0) k (add-one n)) k)
