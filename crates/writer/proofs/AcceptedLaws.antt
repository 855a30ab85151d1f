-- What the writer does not refuse: its part and counts fit, and its values are in range. Assumes nothing.
use Rattle.std.specs.Prelude.{◌≡◌, refl, ℕ, ◌≤◌, List, Bool, true, false, cond, ◌&&◌, leb, Result}
use Rattle.std.proofs.Common.{sym, ◌∙◌, arith}
use Rattle.events.specs.Event.{counts_wanted, counts_fit}
use Rattle.events.specs.declared.Counts.{Counts}
use Rattle.events.specs.declared.Event.{Event}
use Rattle.events.specs.declared.Event.TheVariants.{Setup as CodedSetup, Por, Boot, Scan, Temp, Count, Sense, Pin, Load, Xready, OnBus}
use Rattle.events.specs.declared.Event.TheVariants.{Level, Ticks, Soak, Wires}
use Rattle.ranges.specs.CountedLaws.{fit_is}
use Rattle.events.specs.Setup.{standing}
use Rattle.events.specs.FewLaws.{few_groups, few_inputs}
use Rattle.constants.proofs.RefusalLaws.{same_said}
use Rattle.constants.specs.declared.refusal.Refusal.{Refusal}
use Rattle.writer.specs.Write.{part_for, value_refusal, refusal_for, wrote, Puts}
use Rattle.writer.specs.Write.{Wrote}

pub wanted_few : (part : ℕ) (e : Event) → counts_wanted (standing part) e ≤ 15
wanted_few part (CodedSetup v) = omega arith
wanted_few part Por = omega arith
wanted_few part Boot = omega arith
wanted_few part Scan = few_inputs (standing part)
wanted_few part Temp = omega (arith, few_groups (standing part))
wanted_few part (Count n) = omega arith
wanted_few part (Sense v) = omega arith
wanted_few part Pin = omega arith
wanted_few part (Load l) = omega arith
wanted_few part Xready = omega arith
wanted_few part (OnBus b) = omega arith
wanted_few part (Level l) = omega arith
wanted_few part (Ticks v n) = omega arith
wanted_few part (Soak v n) = omega arith
wanted_few part (Wires n) = omega arith

pub record Accepted (e : Event) (k : Counts) (part : ℕ) : Type 0 where
  pub part_fits : leb 1 (part_for e part) && leb (part_for e part) 3 ≡ true
  pub beside_fits : counts_fit (counts_wanted (standing part) e) k ≡ true
  pub values_fit : value_refusal e k part ≡ 0

accepted_by : (t u : Bool) (n : ℕ) → cond t (cond u n 2) 1 ≡ 0 → (t ≡ true) × (u ≡ true) × (n ≡ 0)
accepted_by true true n h = (refl, refl, h)
accepted_by true false n h = absurd (omega arith)
accepted_by false u n h = absurd (omega arith)

pub accepted : (e : Event) (k : Counts) (part : ℕ) → refusal_for e k part ≡ 0 → Accepted e k part
unfolding refusal_for
accepted e k part h =
    let a : (leb 1 (part_for e part) && leb (part_for e part) 3 ≡ true) × (counts_fit (counts_wanted (standing part) e) k ≡ true)
    × (value_refusal e k part ≡ 0) =
    accepted_by (leb 1 (part_for e part) && leb (part_for e part) 3) (counts_fit (counts_wanted (standing part) e) k)
    (value_refusal e k part) h in
    record { part_fits = a.0; beside_fits = a.1; values_fit = a.2 }

pub not_refused : (e : Event) (k : Counts) (part : ℕ) → Accepted e k part → refusal_for e k part ≡ 0
unfolding refusal_for
not_refused e k part a = simp (a.part_fits, a.beside_fits) a.values_fit

pub accepted_few : (e : Event) (k : Counts) (part : ℕ) → refusal_for e k part ≡ 0 → k.many ≤ 15
accepted_few e k part h = omega (arith, (fit_is _ k (accepted e k part h).beside_fits).0, wanted_few part e)

-- ── one answer: what the promise allows twice is the same ──
pub one_answer : (number : ℕ) (bytes old : List ℕ) (r r' : Wrote) (new new' : List ℕ) → Puts number bytes old r new
    → Puts number bytes old r' new' → (r ≡ r') × (new ≡ new')
one_answer number bytes old r r' new new' p q = (p.answer ∙ sym q.answer, p.contents ∙ sym q.contents)

-- and what is said of a result settles it
pub same_wrote : (r s : Result ℕ Refusal) → wrote r ≡ wrote s → r ≡ s
same_wrote r s e = same_said (λ n. n) (λ n. n) (λ n. refl) r s e
