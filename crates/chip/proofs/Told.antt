-- The bus told a pair is the bus told both registers: the low byte is asked for only at a high one. Assumes nothing.
use mathlib.Core.Path.{◌≡◌, refl, sym, ap, ◌∙◌}
use mathlib.Core.Bool.{Bool, true, false, cond, ◌&&◌, true≢false}
use Prim.Native.Nat.{ℕ, ◌+◌, ◌%◌, ◌≤◌}
use native.Mathlib.Omega.{arith}
use lib.Dec.{eqb, leb}
use borrow.Author.Tests.{eqb-true, leb-true}
use Rattle.events.specs.declared.Setup.{Setup}
use Rattle.bus.specs.declared.Bus.{Bus}
use Rattle.bus.specs.declared.Owed.{Owed}
use Rattle.bus.specs.declared.Phase.{Phase}
use Rattle.bus.specs.declared.Phase.TheVariants.{Idle, Address, Pointing, Writing, Checking, Reading, Summing}
use Rattle.bus.specs.declared.Taken.{Taken}
use Rattle.std.specs.Prelude.{Some, None}
use Rattle.bus.specs.Bus.{is_high, grown, keeps, in_owed, owing, taken, byte_given as given_of, gives, wanted, takes}
use Rattle.bus.proofs.Laws.{wants_nothing, wants_at}
use Rattle.registers.specs.declared.Pair.{Pair}
use Rattle.registers.specs.Read.{pair_at}
use Rattle.registers.specs.Laws.{pair_low}
use Rattle.chip.specs.declared.Chip.{Chip}
use Rattle.chip.specs.Chip.{reads, taken_by}

both : (a b : Bool) → (a && b) ≡ true → (a ≡ true) × (b ≡ true)
both true b h = (refl, h)
both false b h = absurd (true≢false (sym h))

-- the low byte of a pair is kept only where its high byte is given
kept_low : (t : Bool) (x y o : ℕ) → (t ≡ true → x ≡ y) → cond t x o ≡ cond t y o
kept_low true x y o h = h refl
kept_low false x y o h = refl

owed_low : (here x y : ℕ) (o : Owed) (p : Phase) (a : ℕ) → (is_high a ≡ true → x ≡ y) → in_owed here x o p a ≡ in_owed here y o p a
unfolding keeps
owed_low here x y o Idle a h = refl
owed_low here x y o Address a h = refl
owed_low here x y o (Pointing s) a h = refl
owed_low here x y o (Writing s) a h = refl
owed_low here x y o (Checking v s) a h = refl
owed_low here x y o (Reading s k) a h = ap (λ (l : ℕ). record { sum = (keeps o s k a here x).sum; low = l }) (kept_low (is_high a) x y o.low h)
owed_low here x y o (Summing k) a h = refl

takes_low : (u : Setup) (here x y : ℕ) (nack : Bool) (b : Bus) → (is_high b.line.pointer ≡ true → x ≡ y) → takes u here x nack b ≡ takes u here y nack b
unfolding owing
takes_low u here x y nack b h = ap (λ (o : Owed). gives (taken u b.line nack) o (given_of here b)) (owed_low here x y b.owed b.line.phase b.line.pointer h)

-- what stands beside a high byte is what the address after it reads
high_low : (c : Chip) (a : ℕ) → is_high a ≡ true → (pair_at c.setup c.registers a).low ≡ reads c (grown a)
high_low c a h =
    let p = both (eqb (a % 2) 0 && leb 0x0C a) (leb a 0x32) h in
    let q = both (eqb (a % 2) 0) (leb 0x0C a) p.0 in
    let e : a % 2 ≡ 0 = eqb-true (a % 2) 0 q.0 in
    let f : 0x0C ≤ a = leb-true 0x0C a q.1 in
    let g : a ≤ 0x32 = leb-true a 0x32 p.1 in
    let n : a + 1 ≡ grown a = omega arith in
    pair_low c.setup c.registers a e f g ∙ ap (reads c) n

pub told_pair : {t : Taken} (c : Chip) (nack : Bool) (a : ℕ) (p : Pair) → wanted c.bus ≡ Some a → p ≡ pair_at c.setup c.registers a
    → t ≡ takes c.setup p.here p.low nack c.bus → t ≡ taken_by nack c
unfolding pair_at
told_pair c nack a p w hp h =
    let at : a ≡ c.bus.line.pointer = sym (wants_at c.bus a w) in
    let q : p ≡ pair_at c.setup c.registers c.bus.line.pointer = hp ∙ ap (pair_at c.setup c.registers) at in
    h ∙ ap (λ (p : Pair). takes c.setup p.here p.low nack c.bus) q
    ∙ takes_low c.setup _ _ _ nack c.bus (λ (k : is_high c.bus.line.pointer ≡ true). high_low c c.bus.line.pointer k)

pub told_none : {t : Taken} (c : Chip) (nack : Bool) → wanted c.bus ≡ None → t ≡ takes c.setup 0 0 nack c.bus → t ≡ taken_by nack c
told_none c nack w h = h ∙ sym (wants_nothing c.setup _ _ nack c.bus w)
