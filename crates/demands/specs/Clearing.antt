-- CHIP H7: clearing twice. With the outside level at 0, bus traffic whose accepted writes are all of SYS_STAT lowers every bit that one of
-- them has, and does nothing else to the registers, the mode and the runs. So order and repetition do not matter. Assumes nothing.
use Rattle.std.specs.Prelude.{◌≡◌, refl, Bool, true, false, not, ◌&&◌, ◌||◌, List, [], ◌∷◌, eqb}
use Rattle.std.proofs.Common.{sym, ap, subst, ◌∙◌, eqb-true}
use Rattle.std.proofs.Math.Bool.{or_comm, and-true}
use Rattle.events.specs.declared.BusEvent.{BusEvent}
use Rattle.events.specs.declared.BusEvent.TheVariants.{Start, Stop, Out, In}
use Rattle.events.specs.Event.{OnBus, fits}
use Rattle.settings.specs.Write.{settings_with}
use Rattle.bus.specs.declared.Line.{Line}
use Rattle.bus.specs.Bus.{Store}
use Rattle.std.specs.Prelude.{Some, None}
use Rattle.bus.specs.Bus.{outed}
use Rattle.registers.specs.declared.Status.{Status}
use Rattle.registers.specs.declared.Registers.{Registers}
use Rattle.registers.specs.State.{no_status, with_status, with_shown}
use Rattle.registers.specs.Write.{status_of, without, shown_with, cellbal_with}
use Rattle.chip.specs.declared.Chip.{Chip}
use Rattle.registers.specs.LevelLaws.{let_go}
use Rattle.chip.specs.Chip.{with_registers, stored_at, stored, on_bus, watched, next}
use Rattle.chip.proofs.MovesLaws.{normal_is}

abbrev pub either : Status → Status → Status
either a b =
    record {
      cc_ready = a.cc_ready || b.cc_ready;
      xready = a.xready || b.xready;
      ovrd_alert = a.ovrd_alert || b.ovrd_alert;
      uv = a.uv || b.uv;
      ov = a.ov || b.ov;
      scd = a.scd || b.scd;
      ocd = a.ocd || b.ocd;
    }

-- the store of a bus event in NORMAL, and the ones that it writes to SYS_STAT
abbrev pub store_of : BusEvent → Chip → Store
store_of Start c = None
store_of Stop c = None
store_of (Out b) c = (outed c.setup c.bus.line b).store
store_of (In nack) c = None

abbrev pub ones_of : Store → Status
ones_of None = no_status
ones_of (Some w) = status_of w.value

abbrev pub is_clearing : Store → Bool
is_clearing None = true
is_clearing (Some w) = eqb w.at 0x00

unfoldable pub ran : Chip → List BusEvent → Chip
ran c [] = c
ran c (b ∷ es) = ran (next (OnBus b) c) es

-- every accepted write is of SYS_STAT
unfoldable pub Clearings : Chip → List BusEvent → Type 0
Clearings c [] = Unit
Clearings c (b ∷ es) = (is_clearing (store_of b c) ≡ true) × Clearings (next (OnBus b) c) es

-- the bits that one of them clears
unfoldable pub ones : Chip → List BusEvent → Status
ones c [] = no_status
ones c (b ∷ es) = either (ones_of (store_of b c)) (ones (next (OnBus b) c) es)

abbrev pub lowered : Status → Registers → Registers
lowered s r = with_shown (with_status (without s r.shown.status) r.shown) r

-- ── Bools, bit by bit ──
and-not-or : (t a b : Bool) → (t && not a) && not b ≡ t && not (a || b)
and-not-or true true b = refl
and-not-or true false b = refl
and-not-or false a b = refl

without_none : (t : Status) → without no_status t ≡ t
without_none t =
    λ i. record {
      cc_ready = and-true t.cc_ready i;
      xready = and-true t.xready i;
      ovrd_alert = and-true t.ovrd_alert i;
      uv = and-true t.uv i;
      ov = and-true t.ov i;
      scd = and-true t.scd i;
      ocd = and-true t.ocd i;
    }

without_both : (a b t : Status) → without b (without a t) ≡ without (either a b) t
without_both a b t =
    λ i. record {
      cc_ready = and-not-or t.cc_ready a.cc_ready b.cc_ready i;
      xready = and-not-or t.xready a.xready b.xready i;
      ovrd_alert = and-not-or t.ovrd_alert a.ovrd_alert b.ovrd_alert i;
      uv = and-not-or t.uv a.uv b.uv i;
      ov = and-not-or t.ov a.ov b.ov i;
      scd = and-not-or t.scd a.scd b.scd i;
      ocd = and-not-or t.ocd a.ocd b.ocd i;
    }

lowered_none : (r : Registers) → r ≡ lowered no_status r
lowered_none r = ap (λ t. with_shown (with_status t r.shown) r) (sym (without_none r.shown.status))

pub lowered_both : (a b : Status) (r : Registers) → lowered b (lowered a r) ≡ lowered (either a b) r
lowered_both a b r = ap (λ t. with_shown (with_status t r.shown) r) (without_both a b r.shown.status)

-- ── one event ──
abbrev pub Lowers : Status → Chip → Chip → Type 0
Lowers s c d = (d.registers ≡ lowered s c.registers) × (d.normal ≡ c.normal) × (d.runs ≡ c.runs)

store_lowers : (l : Line) (t : Store) (c : Chip) → is_clearing t ≡ true → Lowers (ones_of t) c (stored l t c)
unfolding settings_with shown_with cellbal_with stored_at
store_lowers l None c h = (lowered_none c.registers, refl, refl)
store_lowers l (Some w) c h = rw (eqb-true w.at 0x00 h) (refl, refl, refl)

bus_lowers : (b : BusEvent) (c : Chip) → is_clearing (store_of b c) ≡ true → Lowers (ones_of (store_of b c)) c (on_bus b c).chip
bus_lowers Start c h = (lowered_none c.registers, refl, refl)
bus_lowers Stop c h = (lowered_none c.registers, refl, refl)
bus_lowers (Out b) c h = store_lowers (outed c.setup c.bus.line b).line (outed c.setup c.bus.line b).store c h
bus_lowers (In nack) c h = (lowered_none c.registers, refl, refl)

-- after which the outside level, at 0, does nothing
level_lowers : (s : Status) (c d : Chip) → c.registers.outside_level ≡ false → Lowers s c d → Lowers s c (watched d)
level_lowers s c d l h =
    subst (Lowers s c)
    (sym (ap (λ (r : Registers). with_registers r d) (let_go d.registers (ap (λ (r : Registers). r.outside_level) h.0 ∙ l)))) h

next_lowers : (b : BusEvent) (c : Chip) → c.normal ≡ true → c.registers.outside_level ≡ false → is_clearing (store_of b c) ≡ true
    → Lowers (ones_of (store_of b c)) c (next (OnBus b) c)
unfolding fits
next_lowers b c a l h =
    subst (λ s. Lowers (ones_of (store_of b c)) c s.chip) (sym (normal_is (OnBus b) c refl a))
    (level_lowers (ones_of (store_of b c)) c (on_bus b c).chip l (bus_lowers b c h))

-- ── and all of them ──
pub clearing : (c : Chip) (es : List BusEvent) → c.normal ≡ true → c.registers.outside_level ≡ false → Clearings c es
    → Lowers (ones c es) c (ran c es)
unfolding ran Clearings ones
clearing c [] a l h = (lowered_none c.registers, refl, refl)
clearing c (b ∷ es) a l h =
    let f : Lowers (ones_of (store_of b c)) c (next (OnBus b) c) = next_lowers b c a l h.0 in
    let g : Lowers (ones (next (OnBus b) c) es) (next (OnBus b) c) (ran (next (OnBus b) c) es) =
    clearing (next (OnBus b) c) es (f.1 ∙ a) (ap (λ (r : Registers). r.outside_level) f.0 ∙ l) h.1 in (
      g.0 ∙ ap (lowered (ones (next (OnBus b) c) es)) f.0
          ∙ lowered_both (ones_of (store_of b c)) (ones (next (OnBus b) c) es) c.registers,
      g.1 ∙ f.1,
      g.2 ∙ f.2,
    )

-- Traffic that clears the same bits, in whatever order, at once or in parts, once or again, leaves the same registers, mode and runs.
pub same_clearing : (c : Chip) (es fs : List BusEvent) → c.normal ≡ true → c.registers.outside_level ≡ false → Clearings c es
    → Clearings c fs → ones c es ≡ ones c fs
    → ((ran c es).registers ≡ (ran c fs).registers) × ((ran c es).normal ≡ (ran c fs).normal) × ((ran c es).runs ≡ (ran c fs).runs)
same_clearing c es fs a l h k e =
    let f : Lowers (ones c es) c (ran c es) = clearing c es a l h in
    let g : Lowers (ones c fs) c (ran c fs) = clearing c fs a l k in
    (f.0 ∙ ap (λ s. lowered s c.registers) e ∙ sym g.0, f.1 ∙ sym g.1, f.2 ∙ sym g.2)

-- .. and clearing none leaves them as they were
pub clears_none : (c : Chip) (es : List BusEvent) → c.normal ≡ true → c.registers.outside_level ≡ false → Clearings c es
    → ones c es ≡ no_status
    → ((ran c es).registers ≡ c.registers) × ((ran c es).normal ≡ c.normal) × ((ran c es).runs ≡ c.runs)
clears_none c es a l h e =
    let f : Lowers (ones c es) c (ran c es) = clearing c es a l h in
    (f.0 ∙ ap (λ s. lowered s c.registers) e ∙ sym (lowered_none c.registers), f.1, f.2)

-- clearing the same bits again, or some of them, changes none of the three
pub again : (c : Chip) (es fs : List BusEvent) → c.normal ≡ true → c.registers.outside_level ≡ false → Clearings c es
    → Clearings (ran c es) fs → either (ones c es) (ones (ran c es) fs) ≡ ones c es
    → ((ran (ran c es) fs).registers ≡ (ran c es).registers) × ((ran (ran c es) fs).normal ≡ (ran c es).normal)
    × ((ran (ran c es) fs).runs ≡ (ran c es).runs)
again c es fs a l h k e =
    let f : Lowers (ones c es) c (ran c es) = clearing c es a l h in
    let g : Lowers (ones (ran c es) fs) (ran c es) (ran (ran c es) fs) =
    clearing (ran c es) fs (f.1 ∙ a) (ap (λ (r : Registers). r.outside_level) f.0 ∙ l) k in (
      g.0
          ∙ ap (lowered (ones (ran c es) fs)) f.0
          ∙ lowered_both (ones c es) (ones (ran c es) fs) c.registers
          ∙ ap (λ s. lowered s c.registers) e
          ∙ sym f.0,
      g.1,
      g.2,
    )

-- a and then b clear what b and then a clear
pub either_comm : (a b : Status) → either a b ≡ either b a
either_comm a b =
    λ i. record {
      cc_ready = or_comm a.cc_ready b.cc_ready i;
      xready = or_comm a.xready b.xready i;
      ovrd_alert = or_comm a.ovrd_alert b.ovrd_alert i;
      uv = or_comm a.uv b.uv i;
      ov = or_comm a.ov b.ov i;
      scd = or_comm a.scd b.scd i;
      ocd = or_comm a.ocd b.ocd i;
    }
