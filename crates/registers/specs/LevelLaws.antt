-- CHIP L2: the outside level over the registers. Where it is 1 a bit of SYS_STAT is up after every event that leaves the chip
-- in NORMAL; it raises OVRD_ALERT alone, and where a bit is up, or the level is 0, it does nothing. Assumes nothing.
use Rattle.std.specs.Prelude.{◌≡◌, refl, Bool, true, false, ◌||◌, cond, ℕ}
use Rattle.std.proofs.Common.{sym, ap, ◌∙◌, true≢false}
use Rattle.std.proofs.Math.Bool.{or-true}
use Rattle.events.specs.declared.Fault.{Fault}
use Rattle.events.specs.declared.Fault.TheVariants.{Ov, Uv, Scd, Ocd}
use Rattle.registers.specs.declared.Status.{Status}
use Rattle.registers.specs.declared.Shown.{Shown}
use Rattle.registers.specs.declared.Registers.{Registers}
use Rattle.registers.specs.State.{alert, reset, with_shown}
use Rattle.registers.specs.Fault.{bit_of, raised, overridden, counting}
use Rattle.registers.specs.Judging.{pulled_at, coulombs, pulled, pulled_by_level, unready}

-- the level 1 and SYS_STAT 0 do not stand together
abbrev pub Calm : Registers → Type 0
Calm r = r.outside_level ≡ true → alert r.shown.status ≡ true

-- OVRD_ALERT keeps ALERT up
pub overridden_alerts : (s : Shown) → alert (overridden s).status ≡ true
overridden_alerts s = simp or-true

pulled_at_alerts : (l : Bool) (s : Shown) → l ≡ true → alert (pulled_at l s).status ≡ true
pulled_at_alerts false s h = absurd (true≢false (sym h))
pulled_at_alerts true s h = by (alert s.status) refl
  where
    by : (b : Bool) → alert s.status ≡ b → alert (cond b s (overridden s)).status ≡ true
    by true e = e
    by false e = overridden_alerts s

pub level_calm : (r : Registers) → Calm (pulled_by_level r)
level_calm r h = pulled_at_alerts r.outside_level r.shown h

pub reset_calm : Calm reset
reset_calm h = absurd (true≢false (sym h))

-- where they do not stand together, the level does nothing
pub calm_level : (r : Registers) → Calm r → pulled_by_level r ≡ r
calm_level r k = ap (λ (s : Shown). with_shown s r) (by r.outside_level (alert r.shown.status) k)
  where
    by : (l a : Bool) → (l ≡ true → a ≡ true) → cond l (cond a r.shown (overridden r.shown)) r.shown ≡ r.shown
    by false a k = refl
    by true true k = refl
    by true false k = absurd (true≢false (sym (k refl)))

-- the level 0 does nothing
pub let_go : (r : Registers) → r.outside_level ≡ false → pulled_by_level r ≡ r
let_go r h = calm_level r (λ (e : r.outside_level ≡ true). absurd (true≢false (sym e ∙ h)))

-- it moves none of the four faults' bits
pub level_bit : (k : Fault) (l : Bool) (s : Shown) → bit_of k (pulled_at l s).status ≡ bit_of k s.status
level_bit k false s = refl
level_bit k true s = by k (alert s.status)
  where
    by : (k : Fault) (a : Bool) → bit_of k (cond a s (overridden s)).status ≡ bit_of k s.status
    by k true = refl
    by Ov false = refl
    by Uv false = refl
    by Scd false = refl
    by Ocd false = refl

-- with the level 1 and SYS_STAT 0 it raises OVRD_ALERT and puts both drives off
pub level_rises : (r : Registers) → r.outside_level ≡ true → alert r.shown.status ≡ false
    → (pulled_by_level r).shown ≡ overridden r.shown
level_rises r h a = simp (h, a)

-- PIN and XREADY leave a bit up, and so does COUNT where it moves anything
pub pulled_calm : (r : Registers) → Calm (pulled r)
pulled_calm r h = pulled_at_alerts true r.shown refl

pub unready_calm : (r : Registers) → Calm (unready r)
unready_calm r h = simp or-true

pub coulombs_calm : (n : ℕ) (r : Registers) → Calm r → Calm (coulombs n r)
coulombs_calm n r k h = by (r.settings.cc_en || r.shown.cc_oneshot)
  where
    by : (b : Bool) → alert (cond b (counting r.shown) r.shown).status ≡ true
    by true = refl
    by false = k h

-- what rises leaves a bit up
pub raised_calm : (f : Fault → Bool) (r : Registers) → Calm r → Calm (with_shown (raised f r.shown) r)
raised_calm f r k h =
    let t : Status = r.shown.status in
    let a : Bool = t.cc_ready || t.xready || t.ovrd_alert in
    more (a || t.uv || t.ov || t.scd) (a || (f Uv || t.uv) || (f Ov || t.ov) || (f Scd || t.scd)) (f Ocd) t.ocd
    (more (a || t.uv || t.ov) (a || (f Uv || t.uv) || (f Ov || t.ov)) (f Scd) t.scd
    (more (a || t.uv) (a || (f Uv || t.uv)) (f Ov) t.ov (more a a (f Uv) t.uv (λ e. e)))) (k h)
  where
    more : (x y u d : Bool) → (x ≡ true → y ≡ true) → (x || d) ≡ true → (y || (u || d)) ≡ true
    more true y u d f h = ap (λ (b : Bool). b || (u || d)) (f refl)
    more false y u d f h = simp (h, or-true)
