-- CHIP E1 to E5, the theorem of the call: what a chip gives as a proposal is the best choice that is allowed, in the words of Proposes.
-- Assumes nothing.
use Rattle.std.specs.Prelude.{◌≡◌, Bool, false, ◌&&◌, ◌||◌, ◌≢◌, List, leb, ltb}
use Rattle.std.proofs.Math.Path.{refl, sym, ap}
use Rattle.std.proofs.Common.{subst, ◌∙◌, true≢false}
use Rattle.std.proofs.Math.Bool.{true, not, cond}
use Prim.Native.Nat.{ℕ, zero, suc, ◌+◌, ◌-◌, ◌*◌, ◌%◌, ◌≤◌, ◌<◌}
use native.Mathlib.Omega.{arith}
use Rattle.std.proofs.Math.Dec.{eqb}
use Rattle.std.proofs.Math.ListN.{get_or}
use borrow.Author.Tests.{ltb-true, ltb-false, lt-ltb, leb-true, eq-eqb, ne_eqb, eqb-false}
use Rattle.bits.specs.Bit.{bit, weighed}
use Rattle.events.specs.Setup.{inputs}
use Rattle.events.specs.FewLaws.{few_inputs}
use Rattle.wiring.specs.Rows.{bits, connected, linked_bits}
use Rattle.constants.specs.Answer.{Said, gives, refuses}
use Rattle.bleed.specs.declared.Choice.{Choice}
use Rattle.bleed.specs.Choice.{excess_in, near, low, may_in, chosen, allowed, total}
use Rattle.bleed.proofs.BestLaws.{Best as BleedBest, chosen_best, right_of}
use Rattle.bleed.specs.Excess.{linked_at, lowest, may_bleed, excess_at, excesses_over, excesses, proposed}
use Rattle.bleed.proofs.Excess.{fifteen}
use Rattle.bleed.proofs.ReadingsLaws.{Has, lowest_below_lem, lowest_is, none_zero}
use Rattle.chip.specs.declared.Chip.{Chip}
use Rattle.chip_voltage.specs.Care.{cells_of, linked_of, proposal_said}
use Rattle.chip_voltage.specs.ConnectedLaws.{linked_is, bled_is}
use Rattle.chip_voltage.specs.Proposes.{names, sum_of, Allowed, Best, count_of, is_linked, Lowest, may_of, Proposes}

-- ── Bools ──
none_of_four : (a b c d : Bool) → (a || b || c || d) ≡ false → (a ≡ false) × (b ≡ false) × (c ≡ false) × (d ≡ false)
none_of_four false false false false h = (refl, refl, refl, refl)
none_of_four true b c d h = absurd (true≢false h)
none_of_four false true c d h = absurd (true≢false h)
none_of_four false false true d h = absurd (true≢false h)
none_of_four false false false true h = absurd (true≢false h)

none_of_five : (a b c d e : Bool) → (a || b || c || d || e) ≡ false
    → (a ≡ false) × (b ≡ false) × (c ≡ false) × (d ≡ false) × (e ≡ false)
none_of_five false false false false false h = (refl, refl, refl, refl, refl)
none_of_five true b c d e h = absurd (true≢false h)
none_of_five false true c d e h = absurd (true≢false h)
none_of_five false false true d e h = absurd (true≢false h)
none_of_five false false false true e h = absurd (true≢false h)
none_of_five false false false false true h = absurd (true≢false h)

no_four : (a b c d : Bool) → a ≡ false → b ≡ false → c ≡ false → d ≡ false → (a || b || c || d) ≡ false
no_four a b c d p q r s = rw (p, q, r, s)

no_five : (a b c d e : Bool) → a ≡ false → b ≡ false → c ≡ false → d ≡ false → e ≡ false → (a || b || c || d || e) ≡ false
no_five a b c d e p q r s t = rw (p, q, r, s, t)

not-true : (t : Bool) → not t ≡ true → t ≡ false
not-true true h = sym h
not-true false h = refl

all_three : (a b c : Bool) → (a && b && c) ≡ true → (a ≡ true) × (b ≡ true) × (c ≡ true)
all_three true true true h = (refl, refl, refl)
all_three true true false h = absurd (true≢false (sym h))
all_three true false c h = absurd (true≢false (sym h))
all_three false b c h = absurd (true≢false (sym h))

both : (a b : Bool) → a ≡ true → b ≡ true → (a && b) ≡ true
both a b p q = rw (p, q)

three_all : (a b c : Bool) → a ≡ true → b ≡ true → c ≡ true → (a && b && c) ≡ true
three_all a b c p q r = rw (p, q, r)

-- ── excesses that are 0 just where an input may not be bled ──
module _ (e : List ℕ) (may : ℕ → Bool) (over : ℕ → ℕ) (is : (i : ℕ) → i < 15 → get_or e i 0 ≡ cond (may i) (over i) 0)
    (up : (i : ℕ) → i < 15 → may i ≡ true → 1 ≤ over i) where
  -- an input that is named and not low may be bled, and the other way round
  named_may : (i : ℕ) → i < 15 → (t : Bool) → (t && eqb (get_or e i 0) 0) ≡ false → t ≡ true → may i ≡ true
  named_may i l t h n = by (may i) refl
    where
      by : (m : Bool) → may i ≡ m → m ≡ true
      by true q = refl
      by false q =
          let z : eqb (get_or e i 0) 0 ≡ true = eq-eqb (get_or e i 0) 0 (is i l ∙ ap (λ (m : Bool). cond m (over i) 0) q) in
          sym (sym (ap (λ (b : Bool). t && b) z ∙ ap (λ (b : Bool). b && true) n) ∙ h)

  may_named : (i : ℕ) → i < 15 → (t : Bool) → (t ≡ true → may i ≡ true) → (t && eqb (get_or e i 0) 0) ≡ false
  may_named i l false h = refl
  may_named i l true h =
      ne_eqb (get_or e i 0) 0
      (λ z. let y : over i ≡ 0 = sym (is i l ∙ ap (λ (m : Bool). cond m (over i) 0) (h refl)) ∙ z in omega (arith, y, up i l (h refl)))

  weigh : (i : ℕ) → i < 15 → (t : Bool) → (t ≡ true → may i ≡ true) → weighed t (get_or e i 0) ≡ weighed t (over i)
  weigh i l false h = refl
  weigh i l true h = is i l ∙ ap (λ (m : Bool). cond m (over i) 0) (h refl)

  -- ── a group ──
  pub record Group (from b : ℕ) : Type 0 where
    pub five : b < 32
    pub lone : (bit b 1 && bit b 2 ≡ false) × (bit b 2 && bit b 4 ≡ false) × (bit b 4 && bit b 8 ≡ false) × (bit b 8 && bit b 16 ≡ false)
    pub may0 : bit b 1 ≡ true → may from ≡ true
    pub may1 : bit b 2 ≡ true → may (from + 1) ≡ true
    pub may2 : bit b 4 ≡ true → may (from + 2) ≡ true
    pub may3 : bit b 8 ≡ true → may (from + 3) ≡ true
    pub may4 : bit b 16 ≡ true → may (from + 4) ≡ true

  group : (from b : ℕ) → from < 11 → may_in e from b ≡ true → Group from b
  unfolding may_in
  group from b l h =
      let q = all_three (ltb b 32) (not (near b)) (not (low e from b)) h in
      let n =
      none_of_four (bit b 1 && bit b 2) (bit b 2 && bit b 4) (bit b 4 && bit b 8) (bit b 8 && bit b 16) (not-true (near b) q.1) in
      let m = none_of_five (bit b 1 && eqb (get_or e from 0) 0) (bit b 2 && eqb (get_or e (from + 1) 0) 0)
      (bit b 4 && eqb (get_or e (from + 2) 0) 0) (bit b 8 && eqb (get_or e (from + 3) 0) 0) (bit b 16 && eqb (get_or e (from + 4) 0) 0)
      (not-true (low e from b) q.2) in
      record {
        five = ltb-true b 32 q.0;
        lone = n;
        may0 = named_may from (omega (arith, l)) (bit b 1) m.0;
        may1 = named_may (from + 1) (omega (arith, l)) (bit b 2) m.1;
        may2 = named_may (from + 2) (omega (arith, l)) (bit b 4) m.2;
        may3 = named_may (from + 3) (omega (arith, l)) (bit b 8) m.3;
        may4 = named_may (from + 4) (omega (arith, l)) (bit b 16) m.4;
      }

  ungroup : (from b : ℕ) → from < 11 → Group from b → may_in e from b ≡ true
  unfolding may_in
  ungroup from b l g =
      let n = g.lone in
      three_all (ltb b 32) (not (near b)) (not (low e from b)) (lt-ltb b 32 g.five)
      (ap not (no_four (bit b 1 && bit b 2) (bit b 2 && bit b 4) (bit b 4 && bit b 8) (bit b 8 && bit b 16) n.0 n.1 n.2 n.3))
      (ap not (no_five (bit b 1 && eqb (get_or e from 0) 0) (bit b 2 && eqb (get_or e (from + 1) 0) 0)
      (bit b 4 && eqb (get_or e (from + 2) 0) 0) (bit b 8 && eqb (get_or e (from + 3) 0) 0) (bit b 16 && eqb (get_or e (from + 4) 0) 0)
      (may_named from (omega (arith, l)) (bit b 1) g.may0)
      (may_named (from + 1) (omega (arith, l)) (bit b 2) g.may1)
      (may_named (from + 2) (omega (arith, l)) (bit b 4) g.may2)
      (may_named (from + 3) (omega (arith, l)) (bit b 8) g.may3)
      (may_named (from + 4) (omega (arith, l)) (bit b 16) g.may4)))

  group_sum : (from b : ℕ) → from < 11 → Group from b
      → excess_in e from b
      ≡ weighed (bit b 1) (over from) + weighed (bit b 2) (over (from + 1)) + weighed (bit b 4) (over (from + 2))
      + weighed (bit b 8) (over (from + 3)) + weighed (bit b 16) (over (from + 4))
  unfolding excess_in
  group_sum from b l g =
      rw (
        weigh from (omega (arith, l)) (bit b 1) g.may0,
        weigh (from + 1) (omega (arith, l)) (bit b 2) g.may1,
        weigh (from + 2) (omega (arith, l)) (bit b 4) g.may2,
        weigh (from + 3) (omega (arith, l)) (bit b 8) g.may3,
        weigh (from + 4) (omega (arith, l)) (bit b 16) g.may4,
      )

  -- ── all fifteen ──
  record Groups (x : Choice) : Type 0 where
    one : Group 0 x.one
    two : Group 5 x.two
    three : Group 10 x.three

  groups : (x : Choice) → allowed e x ≡ true → Groups x
  unfolding allowed
  groups x h =
      let q = all_three (may_in e 0 x.one) (may_in e 5 x.two) (may_in e 10 x.three) h in
      record {
        one = group 0 x.one (omega arith) q.0;
        two = group 5 x.two (omega arith) q.1;
        three = group 10 x.three (omega arith) q.2;
      }

  to : (x : Choice) → Groups x → Allowed may x
  to x g =
      record {
        bytes = (g.one.five, g.two.five, g.three.five);
        each =
            fifteen (λ i. names x i ≡ true → may i ≡ true) g.one.may0 g.one.may1 g.one.may2 g.one.may3 g.one.may4
            g.two.may0 g.two.may1 g.two.may2 g.two.may3 g.two.may4 g.three.may0 g.three.may1 g.three.may2
            g.three.may3 g.three.may4;
        apart = λ i l. fifteen (λ i. i < 14 → i % 5 ≢ 4 → names x i && names x (suc i) ≡ false)
            (λ l n. g.one.lone.0) (λ l n. g.one.lone.1) (λ l n. g.one.lone.2) (λ l n. g.one.lone.3) (λ l n. absurd (n refl))
            (λ l n. g.two.lone.0) (λ l n. g.two.lone.1) (λ l n. g.two.lone.2) (λ l n. g.two.lone.3) (λ l n. absurd (n refl))
            (λ l n. g.three.lone.0) (λ l n. g.three.lone.1) (λ l n. g.three.lone.2) (λ l n. g.three.lone.3)
            (λ l n. absurd (n refl)) i (omega (arith, l)) l;
      }

  back : (x : Choice) → Allowed may x → Groups x
  back x a =
      let m = a.each in
      let n = a.apart in
      record {
        one = record {
          five = a.bytes.0;
          lone = (
            n 0 (omega arith) (λ z. omega (arith, z)),
            n 1 (omega arith) (λ z. omega (arith, z)),
            n 2 (omega arith) (λ z. omega (arith, z)),
            n 3 (omega arith) (λ z. omega (arith, z)),
          );
          may0 = m 0 (omega arith);
          may1 = m 1 (omega arith);
          may2 = m 2 (omega arith);
          may3 = m 3 (omega arith);
          may4 = m 4 (omega arith);
        };
        two = record {
          five = a.bytes.1;
          lone = (
            n 5 (omega arith) (λ z. omega (arith, z)),
            n 6 (omega arith) (λ z. omega (arith, z)),
            n 7 (omega arith) (λ z. omega (arith, z)),
            n 8 (omega arith) (λ z. omega (arith, z)),
          );
          may0 = m 5 (omega arith);
          may1 = m 6 (omega arith);
          may2 = m 7 (omega arith);
          may3 = m 8 (omega arith);
          may4 = m 9 (omega arith);
        };
        three = record {
          five = a.bytes.2;
          lone = (
            n 10 (omega arith) (λ z. omega (arith, z)),
            n 11 (omega arith) (λ z. omega (arith, z)),
            n 12 (omega arith) (λ z. omega (arith, z)),
            n 13 (omega arith) (λ z. omega (arith, z)),
          );
          may0 = m 10 (omega arith);
          may1 = m 11 (omega arith);
          may2 = m 12 (omega arith);
          may3 = m 13 (omega arith);
          may4 = m 14 (omega arith);
        };
      }

  from_allowed : (x : Choice) → Allowed may x → allowed e x ≡ true
  unfolding allowed
  from_allowed x a =
      let g : Groups x = back x a in
      three_all (may_in e 0 x.one) (may_in e 5 x.two) (may_in e 10 x.three) (ungroup 0 x.one (omega arith) g.one)
      (ungroup 5 x.two (omega arith) g.two) (ungroup 10 x.three (omega arith) g.three)

  sums : (x : Choice) → Groups x → total e x ≡ sum_of over x
  unfolding total
  sums x g =
      rw (
        group_sum 0 x.one (omega arith) g.one,
        group_sum 5 x.two (omega arith) g.two,
        group_sum 10 x.three (omega arith) g.three,
      ) (omega arith)

  zeros : ((i : ℕ) → i < 15 → may i ≡ false) → (i : ℕ) → i < 15 → get_or e i 0 ≡ 0
  zeros h i l = is i l ∙ ap (λ (m : Bool). cond m (over i) 0) (h i l)

  -- THE CHOICE
  pub is_best : ((i : ℕ) → 15 ≤ i → get_or e i 0 ≡ 0) → Best may over (chosen e)
  is_best past =
      let b : BleedBest e (chosen e) = chosen_best e in
      let g : Groups (chosen e) = groups (chosen e) b.may in
      record {
        allowed = to (chosen e) g;
        most = λ d a. subst (λ (n : ℕ). sum_of over d ≤ n) (sums (chosen e) g)
            (subst (λ (n : ℕ). n ≤ total e (chosen e)) (sums d (back d a)) (b.most d (from_allowed d a)));
        least = λ d a h. b.least d (from_allowed d a) (sums d (back d a) ∙ h ∙ sym (sums (chosen e) g));
        none = λ h. none_zero e (λ i. by h i (ltb i 15) refl);
      }
    where
      by : ((i : ℕ) → i < 15 → may i ≡ false) → (i : ℕ) (t : Bool) → ltb i 15 ≡ t → get_or e i 0 ≡ 0
      by h i true t = zeros h i (ltb-true i 15 t)
      by h i false t = past i (ltb-false i 15 t)

-- ── of a chip: e is its excesses ──
some_bit : (such : ℕ → Bool) (j k : ℕ) → bits such j k ≢ 0 → (i : ℕ) × (i < k) × (such (i + j) ≡ true)
some_bit such j zero h = absurd (h refl)
some_bit such j (suc k) h = by (such j) refl (λ z. some_bit such (suc j) k z)
  where
    by : (t : Bool) → such j ≡ t → (bits such (suc j) k ≢ 0 → (i : ℕ) × (i < k) × (such (i + suc j) ≡ true))
        → (i : ℕ) × (i < suc k) × (such (i + j) ≡ true)
    by true e f = (0, omega arith, ap such (let z : 0 + j ≡ j = omega arith in z) ∙ e)
    by false e f =
        let g = f (λ z. h (ap (λ (t : Bool). cond t 1 0 + 2 * bits such (suc j) k) e ∙ ap (λ (n : ℕ). 0 + 2 * n) z)) in
        (suc g.0, omega (arith, g.1), ap such (let z : suc g.0 + j ≡ g.0 + suc j = omega arith in z) ∙ g.2)

module _ (margin : ℕ) (c : Chip) (words : (i : ℕ) → count_of c i ≤ 65535) where
  abbrev least : ℕ
  least = lowest (cells_of c) (linked_of c)

  linked_as : (i : ℕ) → i < 15 → linked_at (linked_of c) i ≡ is_linked c i
  linked_as i l = linked_is c i l

  the_lowest : linked_of c ≢ 0 → Lowest c least
  unfolding linked_bits
  the_lowest h =
      let f = some_bit (connected c.setup (cells_of c)) 1 (inputs c.setup) h in
      let l : f.0 < 15 = omega (arith, f.1, few_inputs c.setup) in
      let k : is_linked c f.0 ≡ true = both (ltb f.0 (inputs c.setup)) (connected c.setup (cells_of c) (f.0 + 1))
      (lt-ltb f.0 (inputs c.setup) f.1) f.2 in
      let g : Has (cells_of c) (linked_of c) 15 least = lowest_is (cells_of c) (linked_of c) f.0 l (linked_as f.0 l ∙ k) (words f.0) in
      record {
        below = λ i l h. lowest_below_lem (cells_of c) (linked_of c) i l (linked_as i l ∙ h);
        at = g.at;
        within = g.below;
        linked_there = sym (linked_as g.at g.below) ∙ g.linked_there;
        is = g.count;
      }

  in_list : (i : ℕ) → i < 15 → get_or (excesses (cells_of c) (linked_of c) margin) i 0
      ≡ cond (may_bleed (cells_of c) (linked_of c) least margin i) (count_of c i - least) 0
  unfolding excesses_over excess_at
  in_list =
      fifteen (λ i. get_or (excesses (cells_of c) (linked_of c) margin) i 0
      ≡ cond (may_bleed (cells_of c) (linked_of c) least margin i) (count_of c i - least) 0) refl refl refl refl refl refl refl refl refl
      refl
      refl refl refl refl refl

  past_list : (i : ℕ) → 15 ≤ i → get_or (excesses (cells_of c) (linked_of c) margin) i 0 ≡ 0
  unfolding excesses_over
  past_list i l =
      let e : i ≡ 15 + (i - 15) = omega (arith, l) in
      ap (λ (n : ℕ). get_or (excesses (cells_of c) (linked_of c) margin) n 0) (e ∙ (let z : 15 + (i - 15)
      ≡ suc (suc (suc (suc (suc (suc (suc (suc (suc (suc (suc (suc (suc (suc (suc (i - 15))))))))))))))) = omega arith in z))

  the_excess : (i : ℕ) → i < 15
      → get_or (excesses (cells_of c) (linked_of c) margin) i 0 ≡ cond (may_of c least margin i) (count_of c i - least) 0
  the_excess i l = in_list i l ∙ ap (λ (t : Bool). cond t (count_of c i - least) 0) (bled_is c least margin i l)

  the_best : 1 ≤ margin → Best (may_of c least margin) (λ i. count_of c i - least) (proposed (cells_of c) (linked_of c) margin)
  the_best m =
      is_best (excesses (cells_of c) (linked_of c) margin) (may_of c least margin) (λ i. count_of c i - least) the_excess
      (λ i l h.
      let q : least + margin ≤ count_of c i =
      leb-true (least + margin) (count_of c i) (right_of (is_linked c i) (leb (least + margin) (count_of c i)) h) in
      omega (arith, q, m)) past_list

given_is : (a b : Choice) → ◌≡◌ {A = Said Choice} (gives a) (gives b) → a ≡ b
given_is a b h = ap (λ (s : Said Choice). by s) h
  where
    by : Said Choice → Choice
    by (gives x) = x
    by (refuses n) = a

no_proposal : (n : ℕ) (x : Choice) → ◌≡◌ {A = Said Choice} (refuses n) (gives x) → ⊥
no_proposal n x h = let z : ◌≡◌ {A = ℕ} 0 1 = cc in omega (arith, z)

-- THE PROPOSAL that a chip gives, asked with a margin, is the best that is allowed; its words are of 16 bits, as the registers have them
pub proposes : (margin : ℕ) (c : Chip) → ((i : ℕ) → count_of c i ≤ 65535) → (x : Choice) → proposal_said margin c ≡ gives x
    → Proposes c margin x
unfolding proposal_said
proposes margin c words x h = by (leb 1 margin) (leb margin 16383) c.normal (eqb (linked_of c) 0) refl refl h
  where
    by : (a b n k : Bool) → leb 1 margin ≡ a → eqb (linked_of c) 0 ≡ k
        → cond (a && b) (cond n (cond k (refuses 10) (gives (proposed (cells_of c) (linked_of c) margin))) (refuses 4)) (refuses 3)
        ≡ gives x
        → Proposes c margin x
    by true true true false p q h =
        record {
          low = least margin c words;
          lowest = the_lowest margin c words (eqb-false (linked_of c) 0 q);
          best = subst (Best (may_of c (least margin c words) margin) (λ i. count_of c i - least margin c words)) (given_is _ x h)
              (the_best margin c words (leb-true 1 margin p));
        }
    by true true true true p q h = absurd (no_proposal 10 x h)
    by true true false k p q h = absurd (no_proposal 4 x h)
    by true false n k p q h = absurd (no_proposal 3 x h)
    by false b n k p q h = absurd (no_proposal 3 x h)
