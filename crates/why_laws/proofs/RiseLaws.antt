-- CHIP P17, P18: the record at which a bit rose, or a drive went off, the last time, said of the entries alone. The words stand in
-- specs/RiseLaws. Assumes nothing.
use Rattle.std.specs.Prelude.{◌≡◌, Bool, true, false, cond, not, ◌&&◌, ◌≢◌, List, eqb, leb, length, get_or}
use Rattle.std.proofs.Math.Path.{refl, ap}
use Rattle.std.proofs.Common.{sym, ap₂, subst, ◌∙◌, true≢false, arith, leb-true, leb-false, ne_eqb}
use Prim.Native.Nat.{ℕ, zero, suc, ◌%◌, ◌<◌, ◌≤◌}
use Rattle.std.proofs.Math.Nat.{zero-div}
use Rattle.bits.specs.Bit.{bit}
use Rattle.turn.specs.Entries.{entries}
use Rattle.demands.proofs.BytesLaws.{no_entry}
use Rattle.why_walk.specs.declared.Standing.{Standing}
use Rattle.why_walk.specs.Standing.{advanced, standing_at}
use Rattle.why.specs.declared.Rose.{Rose}
use Rattle.why.specs.Rise.{never, is_such, rose_by, rose_on, risen}
use Rattle.why_laws.specs.StandingLaws.{shows}
use Rattle.why_laws.specs.RiseLaws.{shown_in, RoseAt}

-- ── the loop, by the walk: `such m` is what is asked about, before record m ──
module _ (s : List ℕ) (b d : ℕ) where
  abbrev such : ℕ → Bool
  such n = is_such b d (standing_at s b n)

  -- before record i it was not so, and after it and up to record n it is
  pub record Since (n i : ℕ) : Type 0 where
    pub before : i < n
    pub was_not : such i ≡ false
    pub is_so : (m : ℕ) → i < m → m ≤ n → such m ≡ true

  -- it has always been so, or it came to be so
  pub data Came (n : ℕ) (r : Rose) : Type 0 where
    always : r.rose ≡ never → ((m : ℕ) → m ≤ n → such m ≡ true) → Came n r
    since : Since n r.rose → r.stood ≡ standing_at s b r.rose → Came n r

  pub last_is : (n : ℕ) → (risen s b d n).last ≡ standing_at s b n
  unfolding rose_on
  last_is zero = refl
  last_is (suc n) = ap (advanced s b) (last_is n)

  abbrev newly : ℕ → Bool
  newly n = is_such b d (advanced s b (risen s b d n).last) && not (is_such b d (risen s b d n).last)

  newly_is : (n : ℕ) → newly n ≡ such (suc n) && not (such n)
  newly_is n = ap (λ (g : Standing). is_such b d (advanced s b g) && not (is_such b d g)) (last_is n)

  next_is : (n : ℕ) (t : Bool) → newly n ≡ t
      → risen s b d (suc n) ≡ rose_by t n (advanced s b (risen s b d n).last) (risen s b d n)
  unfolding rose_on
  next_is n t e = ap (λ (t : Bool). rose_by t n (advanced s b (risen s b d n).last) (risen s b d n)) e

  split : (n m : ℕ) (t : Bool) → leb m n ≡ t → m ≤ suc n → (m ≤ n → such m ≡ true) → such (suc n) ≡ true → such m ≡ true
  split n m true e h i j = i (leb-true m n e)
  split n m false e h i j = subst (λ (k : ℕ). such k ≡ true) (let q : suc n ≡ m = omega (arith, h, leb-false m n e) in q) j

  -- it was so before, and stays
  stays : (n : ℕ) → such (suc n) ≡ true → Came n (risen s b d n)
      → risen s b d (suc n) ≡ rose_by false n (advanced s b (risen s b d n).last) (risen s b d n) → Came (suc n) (risen s b d (suc n))
  stays n h (always q f) e =
      always (ap (λ (r : Rose). r.rose) e ∙ q) (λ m z. split n m (leb m n) refl z (λ y. f m y) h)
  stays n h (since a q) e =
      let i : (risen s b d (suc n)).rose ≡ (risen s b d n).rose = ap (λ (r : Rose). r.rose) e in
      since
      (subst (Since (suc n)) (sym i)
      (record {
        before = omega (arith, a.before);
        was_not = a.was_not;
        is_so = λ m x z. split n m (leb m n) refl z (λ y. a.is_so m x y) h;
      }))
      (ap (λ (r : Rose). r.stood) e ∙ q ∙ ap (standing_at s b) (sym i))

  -- it was not, and now is
  comes : (n : ℕ) → such n ≡ false → such (suc n) ≡ true
      → risen s b d (suc n) ≡ rose_by true n (advanced s b (risen s b d n).last) (risen s b d n) → Came (suc n) (risen s b d (suc n))
  comes n w h e =
      let i : (risen s b d (suc n)).rose ≡ n = ap (λ (r : Rose). r.rose) e in
      since
      (subst (Since (suc n)) (sym i)
      (record {
        before = omega arith;
        was_not = w;
        is_so = λ m x z. subst (λ (k : ℕ). such k ≡ true) (let q : suc n ≡ m = omega (arith, x, z) in q) h;
      }))
      (ap (λ (r : Rose). r.stood) e ∙ last_is n ∙ ap (standing_at s b) (sym i))

  came_by : (n : ℕ) (t : Bool) → such n ≡ t → such (suc n) ≡ true → (such n ≡ true → Came n (risen s b d n))
      → Came (suc n) (risen s b d (suc n))
  came_by n true w h i = stays n h (i w) (next_is n false (newly_is n ∙ ap₂ (λ (x y : Bool). x && not y) h w))
  came_by n false w h i = comes n w h (next_is n true (newly_is n ∙ ap₂ (λ (x y : Bool). x && not y) h w))

  pub came : (n : ℕ) → such n ≡ true → Came n (risen s b d n)
  came zero h = always refl (λ m z. subst (λ (k : ℕ). such k ≡ true) (let q : 0 ≡ m = omega (arith, z) in q) h)
  came (suc n) h = came_by n (such n) refl h (λ w. came n w)

such_shown : (s : List ℕ) (b d m : ℕ) → m < length (entries s)
    → is_such b d (standing_at s b (suc m)) ≡ shown_in b d (get_or (entries s) m no_entry)
such_shown s b d m h =
    let t = shows s b m h in ap₂ (λ (x y : ℕ). cond (eqb b 0) (not (bit y d)) (bit x b)) t.stat_is t.pins_is

rose_by_lem : (s : List ℕ) (b d n i : ℕ) → n < length (entries s) → Since s b d (suc n) i → RoseAt s b d n i
rose_by_lem s b d n i h a =
    record {
      not_after = omega (arith, a.before);
      so_since = λ m x y. sym (such_shown s b d m (omega (arith, h, y))) ∙ a.is_so (suc m) (omega (arith, x)) (omega (arith, y));
      not_before = λ j q.
          sym (such_shown s b d j (omega (arith, h, q, a.before)))
          ∙ subst (λ (k : ℕ). is_such b d (standing_at s b k) ≡ false) q a.was_not;
    }

-- ── a bit: nothing is up before the first record ──
none_up : (b : ℕ) → bit 0 b ≡ false
none_up b = ap (λ (q : ℕ). eqb (q % 2) 1) (zero-div b)

module _ (s : List ℕ) (b n : ℕ) (z : b ≢ 0) (h : n < length (entries s)) (up : bit (get_or (entries s) n no_entry).stat b ≡ true) where
  abbrev found : Rose
  found = risen s b 0 (suc n)

  not_so : cond (eqb b 0) (not (bit 0 0)) (bit 0 b) ≡ false
  not_so = ap (λ (t : Bool). cond t (not (bit 0 0)) (bit 0 b)) (ne_eqb b 0 z) ∙ none_up b

  is_so : is_such b 0 (standing_at s b (suc n)) ≡ true
  is_so = such_shown s b 0 n h
      ∙ ap (λ (t : Bool). cond t (not (bit (get_or (entries s) n no_entry).pins 0)) (bit (get_or (entries s) n no_entry).stat b))
      (ne_eqb b 0 z)
      ∙ up

  by_came : Came s b 0 (suc n) found → RoseAt s b 0 n found.rose × (found.stood ≡ standing_at s b found.rose)
  by_came (always q f) = absurd (true≢false (sym (f 0 (omega arith)) ∙ not_so))
  by_came (since a q) = (rose_by_lem s b 0 n found.rose h a, q)

  -- WHERE A BIT IS UP that is up in entry n: it has been up from entry `rose` on, and in the one before it is not
  pub bit_rose : RoseAt s b 0 n found.rose
  bit_rose = (by_came (came s b 0 (suc n) is_so)).0

  -- and the walk stands before that record
  pub bit_stood : found.stood ≡ standing_at s b found.rose
  bit_stood = (by_came (came s b 0 (suc n) is_so)).1

-- ── a drive that is off in entry n: since the record that is given, or it has never been on ──
pub data OffSince (s : List ℕ) (d n since : ℕ) : Type 0 where
  never_on : since ≡ never → ((m : ℕ) → m ≤ n → bit (get_or (entries s) m no_entry).pins d ≡ false) → OffSince s d n since
  went_off : RoseAt s 0 d n since → OffSince s d n since

is_off : (t : Bool) → not t ≡ true → t ≡ false
is_off true h = absurd (true≢false (sym h))
is_off false h = refl

off_by : (s : List ℕ) (d n : ℕ) → n < length (entries s) → Came s 0 d (suc n) (risen s 0 d (suc n))
    → OffSince s d n (risen s 0 d (suc n)).rose
off_by s d n h (always q f) =
    never_on q (λ m y. is_off (bit (get_or (entries s) m no_entry).pins d) (
    sym (such_shown s 0 d m (omega (arith, h, y))) ∙ f (suc m) (omega (arith, y))
    ))
off_by s d n h (since a q) = went_off (rose_by_lem s 0 d n (risen s 0 d (suc n)).rose h a)

pub drive_off : (s : List ℕ) (d n : ℕ) → n < length (entries s) → bit (get_or (entries s) n no_entry).pins d ≡ false
    → OffSince s d n (risen s 0 d (suc n)).rose
drive_off s d n h e = off_by s d n h (came s 0 d (suc n) (such_shown s 0 d n h ∙ ap not e))
