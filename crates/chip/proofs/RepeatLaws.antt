-- CHIP R8: what ticks of one value leave, said once over their number: m and then n are m + n, they are as many SENSE, and the chip
-- after them has the runs by their number and shows what is due at the last; the outside level is looked at after each, and finds
-- nothing to raise after the first. The words stand in specs/RepeatLaws. Assumes nothing.
use Rattle.std.specs.Prelude.{◌≡◌, refl, Bool, true, false, cond, ◌&&◌, ℕ, zero, suc, ◌+◌, leb, ℤ}
use Rattle.std.proofs.Common.{sym, ap, ◌∙◌, true≢false, arith}
use Rattle.events.specs.Fault.{Faults}
use Rattle.events.specs.Event.{Sense, fits, sense_fits, ticks_fit, Meant, means, ticks, unfit}
use Rattle.events.specs.Fault.{among}
use Rattle.settings.specs.declared.Settings.{Settings}
use Rattle.registers.specs.declared.Shown.{Shown}
use Rattle.registers.specs.State.{with_shown}
use Rattle.registers.specs.Fault.{raised}
use Rattle.registers.specs.LevelLaws.{level_calm, raised_calm}
use Rattle.protection.specs.declared.Judged.{Judged}
use Rattle.protection.specs.Judged.{tick_judged}
use Rattle.protection.specs.Repeat.{ticks_judged, scd_stays, ocd_stays}
use Rattle.chip.specs.declared.Chip.{Chip}
use Rattle.chip.specs.Answer.{Stepped}
use Rattle.chip.specs.Chip.{numbered, with_registers, with_runs, watched, settled, normally, asleep, happened, stepped, next}
use Rattle.chip.specs.Chip.{ticking, ticked, stepped_as}
use Rattle.chip.proofs.MovesLaws.{setup-next}
use Rattle.chip.specs.Parts.{tick_parts}
use Rattle.chip.specs.Calm.{Calmed}
use Rattle.chip.proofs.Calm.{calm_next, calm_tick}
use Rattle.chip.specs.RepeatLaws.{ticked_by}

-- ── one tick, by the mode ──
tick_awake : (v : ℤ) (c : Chip) → c.normal ≡ true → happened (Sense v) c ≡ settled (normally (Sense v) c)
unfolding happened
tick_awake v c a = ap (λ (t : Bool). cond t (settled (normally (Sense v) c)) (asleep (Sense v) c)) a

tick_asleep : (v : ℤ) (c : Chip) → c.normal ≡ false → happened (Sense v) c ≡ numbered 4 c
unfolding happened
tick_asleep v c a = ap (λ (t : Bool). cond t (settled (normally (Sense v) c)) (asleep (Sense v) c)) a

tick_mode : (v : ℤ) (c : Chip) (t : Bool) → c.normal ≡ t → (happened (Sense v) c).chip.normal ≡ t
tick_mode v c true a = ap (λ (s : Stepped). s.chip.normal) (tick_awake v c a) ∙ a
tick_mode v c false a = ap (λ (s : Stepped). s.chip.normal) (tick_asleep v c a) ∙ a

-- ── any number of them ──
pub ticking_mode : (n : ℕ) (v : ℤ) (c : Chip) → (ticking n v c).normal ≡ c.normal
ticking_mode zero v c = refl
ticking_mode (suc n) v c = tick_mode v (ticking n v c) c.normal (ticking_mode n v c)

pub ticking_asleep : (n : ℕ) (v : ℤ) (c : Chip) → c.normal ≡ false → ticking n v c ≡ c
ticking_asleep zero v c a = refl
ticking_asleep (suc n) v c a =
    ap (λ (d : Chip). (happened (Sense v) d).chip) (ticking_asleep n v c a) ∙ ap (λ (s : Stepped). s.chip) (tick_asleep v c a)

-- the setup never moves, whatever the code's event means
tick_setup : (v : ℤ) (c : Chip) → (happened (Sense v) c).chip.setup ≡ c.setup
unfolding happened
tick_setup v c = by c.normal
  where
    by : (t : Bool) → (cond t (settled (normally (Sense v) c)) (asleep (Sense v) c)).chip.setup ≡ c.setup
    by true = refl
    by false = refl

ticking-setup : (n : ℕ) (v : ℤ) (c : Chip) → (ticking n v c).setup ≡ c.setup
ticking-setup zero v c = refl
ticking-setup (suc n) v c = tick_setup v (ticking n v c) ∙ ticking-setup n v c

pub setup_as : (m : Meant) (c : Chip) → (stepped_as m c).chip.setup ≡ c.setup
setup_as (means e) c = setup-next e c
setup_as (ticks most v n) c = by (ticks_fit most v n) c.normal
  where
    by : (f t : Bool) → (cond f (cond t (numbered 0 (ticking n v c)) (numbered 4 c)) (numbered 3 c)).chip.setup ≡ c.setup
    by true true = ticking-setup n v c
    by true false = refl
    by false t = refl
setup_as unfit c = refl

-- the outside level 1 and SYS_STAT 0 do not stand together after them, where they did not before
tick_calm : (v : ℤ) (c : Chip) → Calmed c → Calmed (happened (Sense v) c).chip
unfolding happened
tick_calm v c k = by c.normal
  where
    by : (t : Bool) → Calmed (cond t (settled (normally (Sense v) c)) (asleep (Sense v) c)).chip
    by true = level_calm (normally (Sense v) c).chip.registers
    by false = k

ticking_calm : (n : ℕ) (v : ℤ) (c : Chip) → Calmed c → Calmed (ticking n v c)
ticking_calm zero v c k = k
ticking_calm (suc n) v c k = tick_calm v (ticking n v c) (ticking_calm n v c k)

pub calm_as : (m : Meant) (c : Chip) → Calmed c → Calmed (stepped_as m c).chip
calm_as (means e) c k = calm_next e c k
calm_as (ticks most v n) c k = by (ticks_fit most v n) c.normal
  where
    by : (f t : Bool) → Calmed (cond f (cond t (numbered 0 (ticking n v c)) (numbered 4 c)) (numbered 3 c)).chip
    by true true = ticking_calm n v c k
    by true false = k
    by false t = k
calm_as unfit c k = k

-- m ticks followed by n are m + n
pub ticking_more : (m n : ℕ) (v : ℤ) (c : Chip) → ticking n v (ticking m v c) ≡ ticking (m + n) v c
ticking_more m zero v c = let e : m ≡ m + 0 = omega arith in ap (λ (k : ℕ). ticking k v c) e
ticking_more m (suc n) v c =
    let e : suc (m + n) ≡ m + suc n = omega arith in
    ap (λ (d : Chip). (happened (Sense v) d).chip) (ticking_more m n v c) ∙ ap (λ (k : ℕ). ticking k v c) e

-- as records: the second finds what the first left, and leaves and answers what one of both together does, whatever the kinds
pub ticked_more : (m n : ℕ) (v : ℤ) (c : Chip) → ticked n v (ticked m v c).chip ≡ ticked (m + n) v c
ticked_more m n v c = by c.normal refl
  where
    by : (t : Bool) → c.normal ≡ t
        → ticked n v (cond t (numbered 0 (ticking m v c)) (numbered 4 c)).chip ≡ cond t (numbered 0 (ticking (m + n) v c)) (numbered 4 c)
    by true a =
        ap (λ (t : Bool). cond t (numbered 0 (ticking n v (ticking m v c))) (numbered 4 (ticking m v c))) (ticking_mode m v c ∙ a)
        ∙ ap (numbered 0) (ticking_more m n v c)
    by false a = ap (λ (t : Bool). cond t (numbered 0 (ticking n v c)) (numbered 4 c)) a

pub records_more : (most some all m n : ℕ) (v : ℤ) (c : Chip) → ticks_fit most v m ≡ true → ticks_fit some v n ≡ true
    → ticks_fit all v (m + n) ≡ true
    → stepped_as (ticks some v n) (stepped_as (ticks most v m) c).chip ≡ stepped_as (ticks all v (m + n)) c
records_more most some all m n v c f g h =
    ap (λ (t : Bool). cond t (ticked n v d) (numbered 3 d)) g
    ∙ ap (λ (t : Bool). ticked n v (cond t (ticked m v c) (numbered 3 c)).chip) f ∙ ticked_more m n v c
    ∙ ap (λ (t : Bool). cond t (ticked (m + n) v c) (numbered 3 c)) (sym h)
  where
    d : Chip
    d = (stepped_as (ticks most v m) c).chip

-- a record of them leaves the chip as that many SENSE records would
abbrev pub senses : ℕ → ℤ → Chip → Chip
senses zero v c = c
senses (suc n) v c = next (Sense v) (senses n v c)

-- the first of them is one as the last is
pub senses_first : (n : ℕ) (v : ℤ) (c : Chip) → senses n v (next (Sense v) c) ≡ senses (suc n) v c
senses_first zero v c = refl
senses_first (suc n) v c = ap (next (Sense v)) (senses_first n v c)

pub as_senses : (n : ℕ) (v : ℤ) (c : Chip) → sense_fits v ≡ true → ticking n v c ≡ senses n v c
unfolding stepped fits
as_senses zero v c f = refl
as_senses (suc n) v c f =
    ap (λ (d : Chip). (happened (Sense v) d).chip) (as_senses n v c f)
    ∙ ap (λ (t : Bool). (cond t (happened (Sense v) (senses n v c)) (numbered 3 (senses n v c))).chip) (sym f)

fit_sense : (most : ℕ) (v : ℤ) (n : ℕ) → ticks_fit most v n ≡ true → sense_fits v ≡ true
unfolding ticks_fit
fit_sense most v n f = by (sense_fits v) f
  where
    by : (t : Bool) → (t && leb 1 n && leb n most) ≡ true → t ≡ true
    by true f = refl
    by false f = f

pub record_senses : (most n : ℕ) (v : ℤ) (c : Chip) → ticks_fit most v n ≡ true → (stepped_as (ticks most v n) c).chip ≡ senses n v c
record_senses most n v c f =
    ap (λ (t : Bool). (cond t (ticked n v c) (numbered 3 c)).chip) f ∙ by c.normal refl ∙ as_senses n v c (fit_sense most v n f)
  where
    by : (t : Bool) → c.normal ≡ t → (cond t (numbered 0 (ticking n v c)) (numbered 4 c)).chip ≡ ticking n v c
    by true a = refl
    by false a = sym (ticking_asleep n v c a)

-- ── without counting them one by one ──
-- what rises again leaves what rose before it
abbrev of_current : Bool → Bool → Faults
of_current scd ocd = record { ov = false; uv = false; scd = scd; ocd = ocd }

raised_again : (a b p q : Bool) (s : Shown) → (a ≡ true → p ≡ true) → (b ≡ true → q ≡ true)
    → raised (among (of_current p q)) (raised (among (of_current a b)) s) ≡ raised (among (of_current p q)) s
raised_again false false false false s h k = refl
raised_again false false false true s h k = refl
raised_again false false true false s h k = refl
raised_again false false true true s h k = refl
raised_again false true false false s h k = absurd (true≢false (sym (k refl)))
raised_again false true false true s h k = refl
raised_again false true true false s h k = absurd (true≢false (sym (k refl)))
raised_again false true true true s h k = refl
raised_again true false false false s h k = absurd (true≢false (sym (h refl)))
raised_again true false false true s h k = absurd (true≢false (sym (h refl)))
raised_again true false true false s h k = refl
raised_again true false true true s h k = refl
raised_again true true false false s h k = absurd (true≢false (sym (h refl)))
raised_again true true false true s h k = absurd (true≢false (sym (h refl)))
raised_again true true true false s h k = absurd (true≢false (sym (k refl)))
raised_again true true true true s h k = refl

tick_on : (n : ℕ) (v : ℤ) (c : Chip)
    → ticked_by (tick_judged c.registers.settings v (ticks_judged n c.registers.settings v c.runs).runs)
    (ticked_by (ticks_judged n c.registers.settings v c.runs) c)
    ≡ ticked_by (ticks_judged (suc n) c.registers.settings v c.runs) c
unfolding ticks_judged tick_judged
tick_on zero v c = refl
tick_on (suc n) v c =
    let s : Settings = c.registers.settings in
    let j : Judged = ticks_judged (suc n) s v c.runs in
    let k : Judged = ticks_judged (suc (suc n)) s v c.runs in
    ap (λ (w : Shown). with_registers (with_shown w c.registers) (with_runs k.runs c))
    (raised_again j.risen.scd j.risen.ocd k.risen.scd k.risen.ocd c.registers.shown (scd_stays (suc n) s v c.runs)
    (ocd_stays (suc n) s v c.runs))

-- where the outside level has nothing to raise: all of them at once
pub ticking_is : (n : ℕ) (v : ℤ) (c : Chip) → c.normal ≡ true → Calmed c
    → ticking n v c ≡ ticked_by (ticks_judged n c.registers.settings v c.runs) c
unfolding ticks_judged
ticking_is zero v c a k = refl
ticking_is (suc n) v c a k =
    let s : Settings = c.registers.settings in
    let d : Chip = ticked_by (ticks_judged n s v c.runs) c in
    let j : Judged = tick_judged s v d.runs in
    ap (λ (d : Chip). (happened (Sense v) d).chip) (ticking_is n v c a k)
    ∙ ap (λ (s : Stepped). s.chip) (tick_awake v d a ∙ ap settled (sym (tick_parts v d)))
    ∙ sym (calm_tick j.risen j.runs d (raised_calm (among (ticks_judged n s v c.runs).risen) c.registers k))
    ∙ tick_on n v c

-- one of them, after which it has nothing to raise
abbrev pub first_tick : ℤ → Chip → Chip
first_tick v c = watched (ticked_by (ticks_judged 1 c.registers.settings v c.runs) c)

first_is : (v : ℤ) (c : Chip) → c.normal ≡ true → ticking 1 v c ≡ first_tick v c
unfolding ticks_judged
first_is v c a = ap (λ (s : Stepped). s.chip) (tick_awake v c a ∙ ap settled (sym (tick_parts v c)))

-- SO ANY NUMBER OF THEM: the first, and then the others at once
pub ticking_all : (n : ℕ) (v : ℤ) (c : Chip) → c.normal ≡ true
    → ticking (suc n) v c ≡ ticked_by (ticks_judged n (first_tick v c).registers.settings v (first_tick v c).runs) (first_tick v c)
ticking_all n v c a =
    let e : suc n ≡ 1 + n = omega arith in
    ap (λ (k : ℕ). ticking k v c) e ∙ sym (ticking_more 1 n v c) ∙ ap (ticking n v) (first_is v c a)
    ∙ ticking_is n v (first_tick v c) a (level_calm (ticked_by (ticks_judged 1 c.registers.settings v c.runs) c).registers)
