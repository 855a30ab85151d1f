-- CHIP H7 in its words: clearing a and then b, b and then a, every bit in either at once, the same bits again, and none. Assumes
-- nothing.
use Rattle.std.specs.Prelude.{◌≡◌, refl, true, false, List}
use Rattle.std.proofs.Common.{sym, ap, subst, ◌∙◌}
use Rattle.std.proofs.Math.Bool.{or_self}
use Rattle.events.specs.declared.BusEvent.{BusEvent}
use Rattle.registers.specs.declared.Status.{Status}
use Rattle.registers.specs.State.{no_status}
use Rattle.chip.specs.declared.Chip.{Chip}
use Rattle.demands.specs.Clearing.{either, ran, Clearings, ones, lowered, Lowers, lowered_both, clearing, clears_none, either_comm}

-- bus traffic whose accepted writes are all of SYS_STAT and clear these bits, of a chip in NORMAL with the outside level at 0
pub record Clears (c : Chip) (a : Status) (es : List BusEvent) : Type 0 where
  pub normal : c.normal ≡ true
  pub level : c.registers.outside_level ≡ false
  pub writes : Clearings c es
  pub bits : ones c es ≡ a

-- the same registers, mode and runs
abbrev pub Alike : Chip → Chip → Type 0
Alike c d = (c.registers ≡ d.registers) × (c.normal ≡ d.normal) × (c.runs ≡ d.runs)

lowers : {c : Chip} {a : Status} {es : List BusEvent} → Clears c a es → Lowers a c (ran c es)
lowers {c} {a} {es} h = subst (λ (s : Status). Lowers s c (ran c es)) h.bits (clearing c es h.normal h.level h.writes)

both : (c d e : Chip) (a b : Status) → Lowers a c d → Lowers b d e → Lowers (either a b) c e
both c d e a b f g = (g.0 ∙ ap (lowered b) f.0 ∙ lowered_both a b c.registers, g.1 ∙ f.1, g.2 ∙ f.2)

alike : (c d e : Chip) {a b : Status} → a ≡ b → Lowers a c d → Lowers b c e → Alike d e
alike c d e p f g = (f.0 ∙ ap (λ (s : Status). lowered s c.registers) p ∙ sym g.0, f.1 ∙ sym g.1, f.2 ∙ sym g.2)

either_same : (a : Status) → either a a ≡ a
either_same a =
    λ i. record {
      cc_ready = or_self a.cc_ready i;
      xready = or_self a.xready i;
      ovrd_alert = or_self a.ovrd_alert i;
      uv = or_self a.uv i;
      ov = or_self a.ov i;
      scd = or_self a.scd i;
      ocd = or_self a.ocd i;
    }

module _ (c : Chip) (a b : Status) (es fs : List BusEvent) (first : Clears c a es) (second : Clears (ran c es) b fs) where
  two : Lowers (either a b) c (ran (ran c es) fs)
  two = both c (ran c es) (ran (ran c es) fs) a b (lowers first) (lowers second)

  -- CLEARING a and then b leaves the same as clearing b and then a ..
  pub either_order : (gs hs : List BusEvent) → Clears c b gs → Clears (ran c gs) a hs → Alike (ran (ran c es) fs) (ran (ran c gs) hs)
  either_order gs hs f s =
      alike c (ran (ran c es) fs) (ran (ran c gs) hs) (either_comm a b) two
      (both c (ran c gs) (ran (ran c gs) hs) b a (lowers f) (lowers s))

  -- .. and as one clearing of every bit in either
  pub at_once : (gs : List BusEvent) → Clears c (either a b) gs → Alike (ran (ran c es) fs) (ran c gs)
  at_once gs f = alike c (ran (ran c es) fs) (ran c gs) {a = either a b} refl two (lowers f)

-- the same bits again change none of the three
pub same_again : (c : Chip) (a : Status) (es fs : List BusEvent) → Clears c a es → Clears (ran c es) a fs
    → Alike (ran (ran c es) fs) (ran c es)
same_again c a es fs f s = alike c (ran (ran c es) fs) (ran c es) (either_same a) (two c a a es fs f s) (lowers f)

-- .. nor does clearing none
pub none_clears : (c : Chip) (es : List BusEvent) → Clears c no_status es → Alike (ran c es) c
none_clears c es f = clears_none c es f.normal f.level f.writes f.bits
