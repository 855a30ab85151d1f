-- Every standing is inside its stream, and no streak outgrows the bytes: a record has four at least, and 16,777,216 ticks at most.
-- Assumes nothing.
use mathlib.Core.Path.{◌≡◌, refl, sym, ap, subst, ◌∙◌}
use mathlib.Core.Bool.{Bool, true, false, ◌&&◌, cond, not, true≢false}
use mathlib.Core.Logic.{◌≢◌}
use mathlib.Core.List.{List}
use Prim.Native.Nat.{ℕ, zero, suc, ◌+◌, ◌-◌, ◌*◌, ◌/◌, ◌%◌, ◌≤◌, ◌<◌, ◌^◌}
use native.Mathlib.Omega.{arith}
use native.Mathlib.Nat.{div-zero}
use lib.Ieee.Nearest.{div_same}
use lib.IntN.{ℤ}
use lib.Dec.{eqb, leb}
use lib.ListN.{length, drop, length-drop}
use borrow.Author.Tests.{leb-true, eq-eqb, eqb-true}
use Rattle.events.specs.declared.Setup.{Setup as SetupValues}
use Rattle.events.specs.declared.Counts.{Counts}
use Rattle.events.specs.declared.Event.{Event}
use Rattle.events.specs.declared.Event.TheVariants.{Setup, Por, Boot, Scan, Temp, Count, Sense, Pin, Load, Xready, OnBus, Level, Ticks}
use Rattle.events.specs.declared.Event.TheVariants.{Soak, Wires}
use Rattle.events.specs.Event.{sense_fits, ticks_fit, unfit, event_of, meant_of, counts_fit, counts_wanted, in_range}
use Rattle.records.specs.declared.Read.{Read}
use Rattle.records.specs.declared.Read.TheVariants.{Record, Refused, Cut}
use Rattle.records.specs.Record.{read_of, counts_beside}
use Rattle.records.specs.ReadingLaws.{Placed, placed}
use Rattle.bits.specs.BoolLaws.{and_right}
use Rattle.records.specs.SoundLaws.{first_setup, IsSetup, Meaning, later_means}
use Rattle.bits.specs.Bit.{bit}
use Rattle.chip.specs.declared.Chip.{Chip}
use Rattle.turn.specs.Turn.{turned, turn_of}
use Rattle.why_scan.specs.declared.Says.{Says}
use Rattle.why_walk.specs.declared.Standing.{Standing}
use Rattle.why_scan.specs.Scan.{says_none}
use Rattle.why_walk.specs.Says.{scan_says, ticks_say, event_says, says_read, says_in, streak_after}
use Rattle.why_walk.specs.Standing.{begun, past, advanced, standing_at}
use Rattle.why.specs.Rise.{is_such, rose_on, risen, searched_on, searched, Few}

abbrev more : ℕ
more = 16777216

-- ── how many verdicts a record has ──
fit_most : (most : ℕ) (v : ℤ) (n : ℕ) → ticks_fit most v n ≡ true → n ≤ most
unfolding ticks_fit
fit_most most v n f = leb-true n most (and_right (sense_fits v && leb 1 n) (leb n most) f)

meant_range : (u : SetupValues) (e : Event) (k : Counts) → Meaning u e k → counts_fit (counts_wanted u e) k ≡ true
unfolding meant_of
meant_range u e k m = by (counts_fit (counts_wanted u e) k) m
  where
    by : (t : Bool) → in_range (cond t (event_of u e k.of) unfit) ≡ true → t ≡ true
    by true h = refl
    by false h = absurd (true≢false (sym h))

ticks_meant : (u : SetupValues) (v : ℤ) (n : ℕ) (k : Counts) → Meaning u (Ticks v n) k → n ≤ more
unfolding meant_of
ticks_meant u v n k m =
    let f : ticks_fit 4096 v n ≡ true = simp (meant_range u (Ticks v n) k m) at m in
    omega (arith, fit_most 4096 v n f)

soak_meant : (u : SetupValues) (v : ℤ) (n : ℕ) (k : Counts) → Meaning u (Soak v n) k → n ≤ more
unfolding meant_of
soak_meant u v n k m =
    let f : ticks_fit 16777216 v n ≡ true = simp (meant_range u (Soak v n) k m) at m in
    fit_most 16777216 v n f

by : (t u : Bool) (x y : Says) → x.many ≤ more → y.many ≤ more → (cond t x (cond u y says_none)).many ≤ more
by true u x y a b = a
by false true x y a b = b
by false false x y a b = omega arith

scan_many : (b : ℕ) (c : Chip) (xs : List ℕ) → (scan_says b c xs).many ≤ more
unfolding scan_says
scan_many b c xs = by (eqb b 4) (eqb b 8) _ _ (omega arith) (omega arith)

ticks_many : (b : ℕ) (c : Chip) (v : ℤ) (n : ℕ) → n ≤ more → (ticks_say b c v n).many ≤ more
unfolding ticks_say
ticks_many b c v n h = by (eqb b 2) (eqb b 1) _ _ h h

-- of a chip that stands, and of none yet
event_many : (b : ℕ) (c : Chip) (r : List ℕ) (e : Event) (next : ℕ) → read_of c.setup.part r ≡ Record e next → c.setup.part ≢ 0
    → (event_says b c e (counts_beside r (Record e next))).many ≤ more
unfolding event_says
event_many b c r (Setup v) next q p = omega arith
event_many b c r Por next q p = omega arith
event_many b c r Boot next q p = omega arith
event_many b c r Scan next q p = scan_many b c _
event_many b c r Temp next q p = omega arith
event_many b c r (Count n) next q p = omega arith
event_many b c r (Sense v) next q p = ticks_many b c v 1 (omega arith)
event_many b c r Pin next q p = omega arith
event_many b c r (Load l) next q p = omega arith
event_many b c r Xready next q p = omega arith
event_many b c r (OnBus x) next q p = omega arith
event_many b c r (Level l) next q p = omega arith
event_many b c r (Ticks v n) next q p = ticks_many b c v n (ticks_meant c.setup v n _ (later_means c.setup r (Ticks v n) next p q refl))
event_many b c r (Soak v n) next q p = ticks_many b c v n (soak_meant c.setup v n _ (later_means c.setup r (Soak v n) next p q refl))
event_many b c r (Wires n) next q p = omega arith

first_many : (b : ℕ) (c : Chip) (e : Event) (k : Counts) → IsSetup e → (event_says b c e k).many ≤ more
unfolding event_says
first_many b c (Setup v) k g = omega arith
first_many b c Por k g = absurd g
first_many b c Boot k g = absurd g
first_many b c Scan k g = absurd g
first_many b c Temp k g = absurd g
first_many b c (Count n) k g = absurd g
first_many b c (Sense v) k g = absurd g
first_many b c Pin k g = absurd g
first_many b c (Load l) k g = absurd g
first_many b c Xready k g = absurd g
first_many b c (OnBus x) k g = absurd g
first_many b c (Level l) k g = absurd g
first_many b c (Ticks v n) k g = absurd g
first_many b c (Soak v n) k g = absurd g
first_many b c (Wires n) k g = absurd g

record_many : (b : ℕ) (c : Chip) (r : List ℕ) (e : Event) (next : ℕ) → read_of c.setup.part r ≡ Record e next
    → (event_says b c e (counts_beside r (Record e next))).many ≤ more
record_many b c r e next q = by (eqb c.setup.part 0) refl
  where
    by : (t : Bool) → eqb c.setup.part 0 ≡ t → (event_says b c e (counts_beside r (Record e next))).many ≤ more
    by true z = first_many b c e _ (first_setup r e next (ap (λ (n : ℕ). read_of n r) (sym (eqb-true c.setup.part 0 z)) ∙ q))
    by false z = event_many b c r e next q (λ y. true≢false (sym (eq-eqb c.setup.part 0 y) ∙ z))

streak_most : (w : Says) (normal : Bool) (n : ℕ) → streak_after w normal n ≤ n + w.many
unfolding streak_after
streak_most w normal n = by normal (eqb w.many 0) w.verdict
  where
    by : (a z v : Bool) → cond a (cond z n (cond v (n + w.many) 0)) 0 ≤ n + w.many
    by true true v = omega arith
    by true false true = omega arith
    by true false false = omega arith
    by false z v = omega arith

-- ── where a stream stands ──
abbrev Inside : List ℕ → Standing → Type 0
Inside s g = (g.at ≤ length s) × (g.streak ≤ more * g.at)

inside_next : (s : List ℕ) (b : ℕ) (g : Standing) → Inside s g → Inside s (advanced s b g)
unfolding advanced turn_of says_in
inside_next s b g h = by (read_of c.setup.part r) refl (placed c.setup.part r)
  where
    c : Chip
    c = g.chip

    r : List ℕ
    r = drop g.at s

    l : length r ≡ length s - g.at
    l = length-drop g.at s

    by : (x : Read) → read_of c.setup.part r ≡ x → Placed (length r) x
        → Inside s (past (length s) (turned g.fresh c r x) (says_read b c r x) g)
    by (Record e next) q p =
        let m : (event_says b c e (counts_beside r (Record e next))).many ≤ more = record_many b c r e next q in
        let k = streak_most (event_says b c e (counts_beside r (Record e next))) (turned g.fresh c r (Record e next)).chip.normal
        g.streak in
        (omega (arith, h.0, p.1, l), omega (arith, h.1, p.0, m, k))
    by (Refused k next) q p =
        let n = streak_most says_none c.normal g.streak in
        refused (eqb c.setup.part 0)
      where
        refused : (t : Bool) → (cond t (length s) (g.at + next) ≤ length s)
            × (streak_after says_none c.normal g.streak ≤ more * cond t (length s) (g.at + next))
        refused true = (omega arith, omega (arith, h.0, h.1, streak_most says_none c.normal g.streak))
        refused false = (omega (arith, h.0, p.1, l), omega (arith, h.1, streak_most says_none c.normal g.streak))
    by Cut q p = (omega arith, omega (arith, h.0, h.1, streak_most says_none c.normal g.streak))

pub inside : (s : List ℕ) (b n : ℕ) → Inside s (standing_at s b n)
inside s b zero = (omega arith, omega arith)
inside s b (suc n) = inside_next s b (standing_at s b n) (inside s b n)

-- A STREAM OF AT MOST 4,294,967,295 BYTES
pub few_short : (s : List ℕ) (b : ℕ) → length s ≤ 4294967295 → Few s b
few_short s b h n = let i : Inside s (standing_at s b n) = inside s b n in omega (arith, i.0, i.1, h)

-- .. AND ANY, WHERE NO BIT IS ASKED ABOUT
none_event : (c : Chip) (e : Event) (k : Counts) → (event_says 0 c e k).many ≡ 0
unfolding event_says scan_says ticks_say
none_event c (Setup v) k = refl
none_event c Por k = refl
none_event c Boot k = refl
none_event c Scan k = refl
none_event c Temp k = refl
none_event c (Count n) k = refl
none_event c (Sense v) k = refl
none_event c Pin k = refl
none_event c (Load l) k = refl
none_event c Xready k = refl
none_event c (OnBus x) k = refl
none_event c (Level l) k = refl
none_event c (Ticks v n) k = refl
none_event c (Soak v n) k = refl
none_event c (Wires n) k = refl

none_read : (c : Chip) (r : List ℕ) (x : Read) → (says_read 0 c r x).many ≡ 0
none_read c r (Record e next) = none_event c e (counts_beside r (Record e next))
none_read c r (Refused k next) = refl
none_read c r Cut = refl

none_next : (s : List ℕ) (g : Standing) → g.streak ≡ 0 → (advanced s 0 g).streak ≡ 0
unfolding advanced says_in
none_next s g h =
    omega (
      arith,
      h,
      none_read g.chip (drop g.at s) (read_of g.chip.setup.part (drop g.at s)),
      streak_most (says_read 0 g.chip (drop g.at s) (read_of g.chip.setup.part (drop g.at s)))
          (turn_of g.fresh g.chip (drop g.at s)).chip.normal g.streak,
    )

none_streak : (s : List ℕ) (n : ℕ) → (standing_at s 0 n).streak ≡ 0
none_streak s zero = refl
none_streak s (suc n) = none_next s (standing_at s 0 n) (none_streak s n)

pub few_none : (s : List ℕ) → Few s 0
few_none s n = omega (arith, none_streak s n)

-- ── the loops ──
pub last_is : (s : List ℕ) (b d n : ℕ) → (risen s b d n).last ≡ standing_at s b n
unfolding rose_on
last_is s b d zero = refl
last_is s b d (suc n) = ap (advanced s b) (last_is s b d n)

pub place_is : (s : List ℕ) (b least n : ℕ) → (searched s b least n).place ≡ standing_at s b n
unfolding searched_on
place_is s b least zero = refl
place_is s b least (suc n) = ap (advanced s b) (place_is s b least n)

-- where it stood before the rise
pub stood_inside : (s : List ℕ) (b d n : ℕ) → Few s b → ((risen s b d n).stood.at ≤ length s) × ((risen s b d n).stood.streak < 2 ^ 63)
unfolding rose_on
stood_inside s b d zero f = (omega arith, omega arith)
stood_inside s b d (suc n) f =
    by (is_such b d (advanced s b (risen s b d n).last) && not (is_such b d (risen s b d n).last)) (stood_inside s b d n f)
  where
    Good : Standing → Type 0
    Good g = (g.at ≤ length s) × (g.streak < 2 ^ 63)

    by : (t : Bool) → ((risen s b d n).stood.at ≤ length s) × ((risen s b d n).stood.streak < 2 ^ 63)
        → ((cond t (risen s b d n).last (risen s b d n).stood).at ≤ length s)
        × ((cond t (risen s b d n).last (risen s b d n).stood).streak < 2 ^ 63)
    by true h = subst (λ (g : Standing). (g.at ≤ length s) × (g.streak < 2 ^ 63)) (sym (last_is s b d n)) ((inside s b n).0, f n)
    by false h = h

-- what is so now and was not at first came to be so at one of these records
pub rose_known : (s : List ℕ) (b d n : ℕ) → is_such b d begun ≡ false → is_such b d (risen s b d n).last ≡ true → (risen s b d n).rose < n
unfolding rose_on
rose_known s b d zero f h = absurd (true≢false (sym h ∙ f))
rose_known s b d (suc n) f h = by (is_such b d (risen s b d n).last) (rose_known s b d n f)
  where
    up : is_such b d (advanced s b (risen s b d n).last) ≡ true
    up = h

    by : (t : Bool) → (t ≡ true → (risen s b d n).rose < n)
        → cond (is_such b d (advanced s b (risen s b d n).last) && not t) n (risen s b d n).rose < suc n
    by true i = subst (λ (u : Bool). cond (u && false) n (risen s b d n).rose < suc n) (sym up) (omega (arith, i refl))
    by false i = subst (λ (u : Bool). cond (u && true) n (risen s b d n).rose < suc n) (sym up) (omega arith)

-- at first no bit is up
pub none_up : (b : ℕ) → bit 0 b ≡ false
none_up b = by b
  where
    zero_over : (k : ℕ) → 0 / suc k ≡ 0
    zero_over k = div_same 0 (suc k) 0 1 (omega arith) (omega arith) (omega arith)

    by : (b : ℕ) → bit 0 b ≡ false
    by zero = ap (λ (q : ℕ). eqb (q % 2) 1) (div-zero 0)
    by (suc k) = ap (λ (q : ℕ). eqb (q % 2) 1) (zero_over k)
