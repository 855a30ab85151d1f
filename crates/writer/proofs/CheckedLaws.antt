-- The writer's numbers 2 and 3 are those of the checks that the chip makes: at its part, for every event but SETUP and a wiring record.
-- The words stand in specs/CheckedLaws. Assumes nothing.
use Rattle.std.specs.Prelude.{◌≡◌, refl, ℕ, List, Bool, true, false, cond, ◌&&◌, leb, take}
use Rattle.std.proofs.Common.{ap, sym, ◌∙◌}
use Rattle.bits.specs.Numbers.{within}
use Rattle.events.specs.Event.{count_most, fits, counts_wanted, counts_fit, Meant, unfit, event_of, meant_of}
use Rattle.events.specs.declared.Counts.{Counts}
use Rattle.events.specs.Role.{role_of}
use Rattle.events.specs.declared.Role.TheVariants.{Happens}
use Rattle.events.specs.declared.Event.{Event}
use Rattle.events.specs.declared.Event.TheVariants.{Setup, Por, Boot, Scan, Temp, Count, Sense, Pin, Load, Xready, OnBus, Level, Ticks}
use Rattle.events.specs.declared.Event.TheVariants.{Soak, Wires}
use Rattle.ranges.specs.Refusal.{refusal_of}
use Rattle.ranges.specs.CountedLaws.{fit_is}
use Rattle.events.specs.Setup.{standing}
use Rattle.writer.specs.Write.{value_refusal, refusal_for}
use Rattle.writer.specs.CheckedLaws.{refusal_at}

by_counts : (t : Bool) (m : Meant) → refusal_of (cond t m unfit) ≡ cond t (refusal_of m) 2
by_counts true m = refl
by_counts false m = refl

abbrev number : List ℕ → ℕ
number xs = cond (within count_most xs) 0 3

-- counts that fit are as many as the part wants
as_many : (n : ℕ) (k : Counts) (t : Bool) → counts_fit n k ≡ t
    → ◌≡◌ {A = ℕ} (cond t (number (take n k.of)) 2) (cond t (number (take k.many k.of)) 2)
as_many n k true f = ap (λ (n : ℕ). number (take n k.of)) (sym (fit_is n k f).0)
as_many n k false f = refl

numbers_same : (e : Event) (k : Counts) (part : ℕ) → role_of e ≡ Happens
    → cond (leb 1 part && leb part 3)
    (cond (counts_fit (counts_wanted (standing part) e) k) (refusal_of (event_of (standing part) e k.of)) 2) 1 ≡ refusal_for e k part
unfolding fits value_refusal refusal_for
numbers_same (Setup v) k part o = cc
numbers_same Por k part o = refl
numbers_same Boot k part o = refl
numbers_same Scan k part o =
    ap (λ (n : ℕ). cond (leb 1 part && leb part 3) n 1)
    (as_many (counts_wanted (standing part) Scan) k (counts_fit (counts_wanted (standing part) Scan) k) refl)
numbers_same Temp k part o =
    ap (λ (n : ℕ). cond (leb 1 part && leb part 3) n 1)
    (as_many (counts_wanted (standing part) Temp) k (counts_fit (counts_wanted (standing part) Temp) k) refl)
numbers_same (Count n) k part o = refl
numbers_same (Sense v) k part o = refl
numbers_same Pin k part o = refl
numbers_same (Load l) k part o = refl
numbers_same Xready k part o = refl
numbers_same (OnBus b) k part o = refl
numbers_same (Level l) k part o = refl
numbers_same (Ticks v n) k part o = refl
numbers_same (Soak v n) k part o = refl
numbers_same (Wires n) k part o = cc

pub refusal_is : (e : Event) (k : Counts) (part : ℕ) → role_of e ≡ Happens → refusal_at e k part ≡ refusal_for e k part
unfolding refusal_at meant_of
refusal_is e k part o =
    ap (λ (n : ℕ). cond (leb 1 part && leb part 3) n 1)
    (by_counts (counts_fit (counts_wanted (standing part) e) k) (event_of (standing part) e k.of)) ∙ numbers_same e k part o
