-- CHIP H1 to H6: the claims of Demand, proved over any events from power-up for every setup. Assumes nothing.
use Rattle.std.specs.Prelude.{◌≡◌, Bool, true, false, ◌&&◌, cond}
use Rattle.std.proofs.Math.Path.{refl}
use Rattle.std.proofs.Common.{sym, ap, subst, ◌∙◌, true≢false}
use Rattle.std.proofs.Math.Bool.{or-eq-true_iff}
use mathlib.Core.List.{List, [], ◌∷◌, ◌++◌}
use Rattle.std.proofs.Math.Logic.Iff
use Rattle.events.specs.declared.Setup.{Setup}
use Rattle.events.specs.declared.BusEvent.{BusEvent}
use Rattle.events.specs.Event.{Event, OnBus, fits}
use Rattle.events.specs.declared.Fault.{Fault}
use Rattle.events.specs.declared.Fault.TheVariants.{Ov, Uv, Scd, Ocd}
use Rattle.registers.specs.State.{dark}
use Rattle.registers.specs.Fault.{bit_of}
use Rattle.protection.specs.StreakLaws.{last_all_is}
use Rattle.limits.specs.declared.Rule.{Rule}
use Rattle.limits.specs.Rule.{rule, opinion}
use Rattle.protection.specs.Runs.{some_opinion}
use Rattle.chip.specs.declared.Chip.{Chip}
use Rattle.chip.specs.Chip.{next}
use Rattle.chip.specs.Core.{bare}
use Rattle.chip.proofs.MovesLaws.{normal_is, next_by, asleep_by}
use Rattle.demands.specs.Demand.{judges, wrote, clears, enables, traffic, chip, shown, up, drive, Accepted, core, standing, Awake}
use Rattle.demands.specs.Demand.{said, verdicts, delay, StaysAwake, Unjudged, Uncleared, Asked, Rises, NothingElseRaises}
use Rattle.demands.specs.Demand.{NotPostponed, TrafficPostponesNothing, Latches, Lowers, DownInShip, OnAgainOnlyAsked}
use Rattle.demands.specs.Demand.{ThirdDemand}
use Rattle.demands.specs.Refused.{normal_done}
use Rattle.demands.proofs.Ship.{in_ship_is}
use Rattle.demands.specs.Told.{says_one}
use Rattle.demands.proofs.History.{setup_is, core_is, awake_is, accepted_fits, verdicts_are, delay_is, rises}
use Rattle.demands.specs.Latch.{Keeps, next_keeps, alert_up}

module _ (u : Setup) where
  -- ── 1. RISING ──
  pub rising : Rises u
  rising k past e j n =
      rw (rises u k past e j n)
      (Iff.trans (or-eq-true_iff (up u k past) _)
      (Iff.or Iff.rfl (last_all_is (delay u k (e ∷ past)) (verdicts u k (e ∷ past)))))

  -- one event, in the words of the latch
  one : (k : Fault) (past : List Event) (e : Event)
      → Keeps k e (wrote u (core u past) e) (core u (e ∷ past)).normal (shown u past) (shown u (e ∷ past))
  unfolding chip
  one k past e =
      rw (← core_is u (e ∷ past))
      (subst (λ w. Keeps k e w (next e (chip u past)).normal (shown u past) (shown u (e ∷ past)))
      (λ i. wrote (setup_is u past i) (core_is u past i) e) (next_keeps k e (chip u past)))

  pub nothing_else_raises : NothingElseRaises u
  unfolding Keeps
  nothing_else_raises k past e j d = (one k past e).only j d

  -- ── 2. NOT POSTPONED ──
  none_said : (k : Fault) (past : List Event) (e : Event) → judges k e ≡ false → said u k past e ≡ []
  none_said k past e j =
      by (fits e) (opinion k u.floor (rule k (standing u past)) e) (says_one k u.floor (rule k (standing u past)) e ∙ j)
    where
      by : (f : Bool) (l : List Bool) → some_opinion l ≡ false → cond f l [] ≡ []
      by true [] h = refl
      by true (b ∷ l) h = cc
      by false l h = refl

  -- such events leave the verdicts
  verdicts_kept : (k : Fault) (later past : List Event) → Unjudged u k later → StaysAwake u later past
      → (verdicts u k (later ++ past) ≡ verdicts u k past) × Awake u (later ++ past)
  unfolding Unjudged StaysAwake verdicts
  verdicts_kept k [] past h a = (refl, a)
  verdicts_kept k (e ∷ later) past h a =
      (rw (a.1, none_said k (later ++ past) e h.1) (verdicts_kept k later past h.0 a.0).0, a.1)

  -- an event that judges is accepted by every chip that is awake, or by none
  accepted_too : (k : Fault) (past other : List Event) (e : Event) → judges k e ≡ true → Accepted u past e → Awake u other
      → Accepted u other e
  accepted_too k past other e j n a =
      ap (λ s. s.number) (normal_is e (chip u other) (accepted_fits u k past e j n) (awake_is u other ∙ a)) ∙ normal_done e (chip u other)

  pub not_postponed : NotPostponed u
  not_postponed k later past e j n h a r =
      let t = verdicts_kept k later past h a in
      let m : Accepted u (later ++ past) e = accepted_too k past (later ++ past) e j n t.1 in
      rw (
        delay_is u k (later ++ past) e j m,
        verdicts_are u k (later ++ past) e j m,
        delay_is u k past e j n,
        verdicts_are u k past e j n,
        ap (λ (x : Rule). x.need) r,
        r,
        t.0,
      ) Iff.rfl

  -- host traffic judges nothing and wakes nothing
  traffic_unjudged : (k : Fault) (bs : List BusEvent) → Unjudged u k (traffic bs)
  unfolding Unjudged
  traffic_unjudged k [] = tt
  traffic_unjudged k (b ∷ bs) = (traffic_unjudged k bs, refl)

  woken : (b : BusEvent) (c : Chip) → (next (OnBus b) c).normal ≡ true → c.normal ≡ true
  woken b c =
      next_by (λ d. d.normal ≡ true → c.normal ≡ true) (OnBus b) c (λ f a h. a)
      (λ f a. asleep_by (λ d. d.normal ≡ true → c.normal ≡ true) (OnBus b) c (λ h. cc) (λ w h. cc) (λ h. h)) (λ f h. h)

  traffic_awake : (bs : List BusEvent) (past : List Event) → Awake u (traffic bs ++ past) → StaysAwake u (traffic bs) past
  unfolding StaysAwake core
  traffic_awake [] past a = a
  traffic_awake (b ∷ bs) past a = (traffic_awake bs past (woken b (bare u (core u (traffic bs ++ past))) a), a)

  pub traffic_postpones_nothing : TrafficPostponesNothing u
  traffic_postpones_nothing k bs past e j n a r =
      not_postponed k (traffic bs) past e j n (traffic_unjudged k bs) (traffic_awake bs past a) r

  -- ── 3. LATCHED ──
  off_while_up : (k : Fault) (past : List Event) → up u k past && drive u k past ≡ false
  unfolding chip Keeps
  off_while_up Ov [] = refl
  off_while_up Uv [] = refl
  off_while_up Scd [] = refl
  off_while_up Ocd [] = refl
  off_while_up k (e ∷ past) = (one k past e).off (off_while_up k past)

  off : (k : Fault) (past : List Event) → up u k past ≡ true → drive u k past ≡ false
  off k past p = rw p at (off_while_up k past)

  pub stays : (k : Fault) (past : List Event) (e : Event) → (core u (e ∷ past)).normal ≡ true → up u k past ≡ true
      → clears k (wrote u (core u past) e) ≡ false → up u k (e ∷ past) ≡ true
  unfolding Keeps
  stays k past e a p h = (one k past e).stays a p h

  stays_up : (k : Fault) (later past : List Event) → up u k past ≡ true → StaysAwake u later past → Uncleared u k later past
      → up u k (later ++ past) ≡ true
  unfolding StaysAwake Uncleared
  stays_up k [] past p a h = p
  stays_up k (e ∷ later) past p a h = stays k (later ++ past) e a.1 (stays_up k later past p a.0 h.0) h.1

  pub latched : Latches u
  latched k later past p a h =
      let v : up u k (later ++ past) ≡ true = stays_up k later past p a h in
      (v, alert_up k (shown u (later ++ past)).status v, off k (later ++ past) v)

  pub lowers : Lowers u
  unfolding Keeps
  lowers k past e h = (one k past e).down h

  pub down_in_ship : DownInShip u
  down_in_ship k past a = ap (λ c. bit_of k c.registers.shown.status) (in_ship_is u past (awake_is u past ∙ a)) ∙ dark_down k
    where
      dark_down : (k : Fault) → bit_of k dark.status ≡ false
      dark_down Ov = refl
      dark_down Uv = refl
      dark_down Scd = refl
      dark_down Ocd = refl

  -- off, it comes on only by a write that asks for it and finds the bit down
  pub comes_back : (k : Fault) (past : List Event) (e : Event) → drive u k past ≡ false → drive u k (e ∷ past) ≡ true
      → (enables k (wrote u (core u past) e) ≡ true) × (up u k past ≡ false)
  unfolding Keeps
  comes_back k past e o p = (one k past e).back o p

  pub asked_since : (k : Fault) (later past : List Event) → drive u k past ≡ false → drive u k (later ++ past) ≡ true → Asked u k later past
  asked_since k [] past o p = absurd (true≢false (sym p ∙ o))
  asked_since k (e ∷ later) past o p = by (drive u k (later ++ past)) refl (asked_since k later past o)
    where
      by : (d : Bool) → drive u k (later ++ past) ≡ d → (drive u k (later ++ past) ≡ true → Asked u k later past)
          → Asked u k (e ∷ later) past
      by true h since =
          let t : Asked u k later past = since h in
          record {
            newer = e ∷ t.newer;
            event = t.event;
            older = t.older;
            split = ap (◌∷◌ e) t.split;
            asks_it = t.asks_it;
            finds_down = t.finds_down;
          }
      by false h since =
          let t = comes_back k (later ++ past) e h p in
          record { newer = []; event = e; older = later; split = refl; asks_it = t.0; finds_down = t.1 }

  pub on_again_only_asked : OnAgainOnlyAsked u
  on_again_only_asked k later past p o = asked_since k later past (off k past p) o

-- ALL CLAIMS, of every setup
pub third : (u : Setup) → ThirdDemand u
third u =
    record {
      rises = rising u;
      nothing_else_raises = nothing_else_raises u;
      not_postponed = not_postponed u;
      traffic_postpones_nothing = traffic_postpones_nothing u;
      latches = latched u;
      lowers = lowers u;
      down_in_ship = down_in_ship u;
      on_again_only_asked = on_again_only_asked u;
    }
