-- THE REGISTERS OF DOCUMENT 01 over any events: the byte that IN gives is Table's, by what Moves says of the events; and the mode.
-- Assumes nothing.
use Rattle.std.specs.Prelude.{◌≡◌, Bool, ◌||◌, cond, List, ◌∷◌, ℕ, suc, ◌+◌, ◌*◌, ◌-◌, ◌/◌, ◌<◌, ◌≤◌, ltb}
use Rattle.std.proofs.Math.Path.{refl, sym, ap}
use Rattle.std.proofs.Common.{subst, ◌∙◌, arith}
use Rattle.std.proofs.Math.Bool.{true, false, and-false}
use borrow.Author.Tests.{ltb-true, ltb-false, lt-ltb, le-ltb}
use Rattle.events.specs.declared.Setup.{Setup}
use Rattle.events.specs.declared.BusEvent.{BusEvent}
use Rattle.events.specs.declared.BusEvent.TheVariants.{Start, Stop, Out, In}
use Rattle.events.specs.Event.{Event, Por, Boot, Pin, Xready, Scan, Temp, Count, Sense, Load, OnBus, Level, fits}
use Rattle.bus.specs.declared.Phase.TheVariants.{Reading}
use Rattle.bus.specs.Bus.{Store}
use Rattle.std.specs.Prelude.{None}
use Rattle.bus.specs.declared.Outed.{Outed}
use Rattle.bus.specs.Bus.{outed, in_byte, byte_given}
use Rattle.settings.specs.State.{reset_settings}
use Rattle.settings.specs.Read.{settings_byte}
use Rattle.registers.specs.declared.Measured.{Measured}
use Rattle.registers.specs.declared.Registers.{Registers}
use Rattle.registers.specs.State.{reset}
use Rattle.registers.specs.Read.{cellbal_byte, control_byte, half, word_at, fixed_byte, read_at}
use Rattle.chip.specs.declared.Chip.{Chip}
use Rattle.chip.specs.Answer.{Stepped}
use Rattle.chip.specs.Chip.{reads, on_bus, normally, asleep, stepped, next}
use Rattle.chip.specs.Core.{Core, core_of}
use Rattle.chip.proofs.MovesLaws.{normal_is, next_by, stored_by}
use Rattle.demands.specs.Demand.{wrote, chip, core, shown, standing}
use Rattle.demands.proofs.History.{setup_is, core_is, awake_is}
use Rattle.demands.specs.Latch.{when_true, wrote_asleep, wrote_unfit}
use Rattle.demands.specs.Moves.{put, moved, rest}
use Rattle.demands.proofs.MovesLaws.{rest_is}
use Rattle.demands.specs.Table.{mode_by, word_by, byte_at}

-- ── the words ──
halved : (a k : ℕ) → 0x0C ≤ a → ltb a (0x0C + 2 * k) ≡ ltb ((a - 0x0C) / 2) k
halved a k h = by (ltb a (0x0C + 2 * k)) refl
  where
    by : (t : Bool) → ltb a (0x0C + 2 * k) ≡ t → t ≡ ltb ((a - 0x0C) / 2) k
    by true e = let p : a < 0x0C + 2 * k = ltb-true _ _ e in sym (lt-ltb _ k (omega arith))
    by false e = let p : 0x0C + 2 * k ≤ a = ltb-false _ _ e in sym (le-ltb _ k (omega arith))

word_is : (u : Setup) (m : Measured) (a : ℕ) → 0x0C ≤ a → word_at u m a ≡ word_by u m ((a - 0x0C) / 2)
unfolding word_at
word_is u m a h =
    let e : (a - 0x2C) / 2 ≡ (a - 0x0C) / 2 - 16 = omega arith in
    simp (halved a 15 h, halved a 16 h, halved a 19 h, e)

-- ── the low addresses ──
-- a number below the next is the number or below it
last_or : (P : ℕ → Type 0) (n a : ℕ) → P n → (a < n → P a) → a < suc n → P a
last_or P n a p q h = by (ltb a n) refl
  where
    by : (t : Bool) → ltb a n ≡ t → P a
    by true e = q (ltb-true a n e)
    by false e = let l : n ≤ a = ltb-false a n e in let s : n ≡ a = omega arith in subst P s p

module _ (u : Setup) (r : Registers) where
  abbrev Same : ℕ → Type 0
  Same a = read_at u r a ≡ byte_at u r.shown r a

  low_is : (a : ℕ) → a < 0x0C → Same a
  unfolding read_at control_byte cellbal_byte settings_byte byte_at
  low_is a =
      last_or Same 11 a refl (last_or Same 10 a refl (last_or Same 9 a refl (last_or Same 8 a refl (last_or Same 7 a refl
      (last_or Same 6 a refl (last_or Same 5 a refl (last_or Same 4 a refl (last_or Same 3 a refl (last_or Same 2 a refl
      (last_or Same 1 a refl (last_or Same 0 a refl (λ z. absurd (omega arith)))))))))))))

  table_by : (a : ℕ) (s t : Bool) → ltb a 0x0C ≡ s → ltb a 0x34 ≡ t → Same a
  unfolding read_at byte_at half fixed_byte
  table_by a true t e f = low_is a (ltb-true a 0x0C e)
  table_by a false true e f =
      let h : 0x0C ≤ a = ltb-false a 0x0C e in
      simp (
        e,
        f,
        le-ltb a 0x01 (omega arith),
        le-ltb a 0x04 (omega arith),
        le-ltb a 0x05 (omega arith),
        le-ltb a 0x06 (omega arith),
        word_is u r.measured a h,
      )
  table_by a false false e f =
      let h : 0x0C ≤ a = ltb-false a 0x0C e in
      simp (e, f, le-ltb a 0x01 (omega arith), le-ltb a 0x04 (omega arith), le-ltb a 0x05 (omega arith), le-ltb a 0x06 (omega arith))

  -- the table, whatever the registers hold
  pub table : (a : ℕ) → read_at u r a ≡ byte_at u r.shown r a
  table a = table_by a (ltb a 0x0C) (ltb a 0x34) refl refl

-- ── the mode ──
module _ (c : Chip) where
  abbrev Modes : Event → Store → Chip → Type 0
  Modes e w d = d.normal ≡ mode_by e w c.registers.settings c.normal

  or-true : (b : Bool) → (b || true) ≡ true
  or-true true = refl
  or-true false = refl

  bus_modes : (b : BusEvent) → c.normal ≡ true → Modes (OnBus b) (wrote c.setup (core_of c) (OnBus b)) (on_bus b c).chip
  bus_modes Start a = refl
  bus_modes Stop a = refl
  bus_modes (Out b) a =
      subst (λ w. Modes (OnBus (Out b)) w (on_bus (Out b) c).chip) (sym (when_true c.normal o.store None a))
      (stored_by (Modes (OnBus (Out b)) o.store) o.line o.store c
      (λ t. ap (λ w. mode_by (OnBus (Out b)) w c.registers.settings c.normal) (sym t))
      (λ x y t h. (simp h) ∙ ap (λ w. mode_by (OnBus (Out b)) w c.registers.settings c.normal) (sym t))
      (λ x y t h. (simp h) ∙ ap (λ w. mode_by (OnBus (Out b)) w c.registers.settings c.normal) (sym t)))
    where
      o : Outed
      o = outed c.setup c.bus.line b
  bus_modes (In nack) a = refl

  normal_modes : (e : Event) → fits e ≡ true → c.normal ≡ true → Modes e (wrote c.setup (core_of c) e) (normally e c).chip
  normal_modes Por f a = simp f
  normal_modes Boot f a = a ∙ (simp f)
  normal_modes Pin f a = refl
  normal_modes Xready f a = refl
  normal_modes (Scan xs) f a = refl
  normal_modes (Temp xs) f a = refl
  normal_modes (Count n) f a = refl
  normal_modes (Sense v) f a = refl
  normal_modes (Load l) f a = refl
  normal_modes (OnBus b) f a = bus_modes b a
  normal_modes (Level l) f a = refl

  asleep_modes : (e : Event) → fits e ≡ true → c.normal ≡ false → Modes e None (asleep e c).chip
  asleep_modes Por f a = simp f
  asleep_modes Boot f a = simp f
  asleep_modes Pin f a = refl
  asleep_modes Xready f a = refl
  asleep_modes (Scan xs) f a = refl
  asleep_modes (Temp xs) f a = refl
  asleep_modes (Count n) f a = refl
  asleep_modes (Sense v) f a = refl
  asleep_modes (Load l) f a = refl
  asleep_modes (OnBus Start) f a = refl
  asleep_modes (OnBus Stop) f a = refl
  asleep_modes (OnBus (Out b)) f a = refl
  asleep_modes (OnBus (In nack)) f a = refl
  asleep_modes (Level l) f a = refl

  next_modes : (e : Event) → Modes e (wrote c.setup (core_of c) e) (next e c)
  next_modes e =
      next_by (Modes e w) e c (normal_modes e)
      (λ f a. asleep_modes e f a ∙ ap (λ t. mode_by e t c.registers.settings c.normal) (sym (wrote_asleep c.setup (core_of c) e a)))
      (λ f. (simp (f, and-false)) ∙ ap (λ t. mode_by e t c.registers.settings c.normal) (sym (wrote_unfit c.setup (core_of c) e f)))
    where
      w : Store
      w = wrote c.setup (core_of c) e

module _ (u : Setup) where
  -- THE MODE: POR and the pair (1,0) while (0,1) is held enter SHIP, BOOT leaves it, and nothing else moves it
  pub mode_moves : (past : List Event) (e : Event)
      → (core u (e ∷ past)).normal ≡ mode_by e (wrote u (core u past) e) (standing u past) (core u past).normal
  unfolding chip
  mode_moves past e =
      sym (awake_is u (e ∷ past))
      ∙ next_modes (chip u past) e
      ∙ (λ i. mode_by e (wrote (setup_is u past i) (core_is u past i) e) (core_is u past i).settings (core_is u past i).normal)

  -- THE SETTINGS: in NORMAL what the accepted write of this event puts, or as they stood; in SHIP the reset values
  pub settings_move : (past : List Event) (e : Event)
      → standing u (e ∷ past) ≡ cond (core u (e ∷ past)).normal (put (wrote u (core u past) e) (standing u past)) reset_settings
  unfolding rest
  settings_move past e =
      sym (ap (λ (k : Core). k.settings) (core_is u (e ∷ past)))
      ∙ ap (λ (r : Registers). r.settings) (rest_is u (e ∷ past))
      ∙ by (core u (e ∷ past)).normal
    where
      stood : (rest u past).settings ≡ standing u past
      stood = ap (λ (r : Registers). r.settings) (sym (rest_is u past)) ∙ ap (λ (k : Core). k.settings) (core_is u past)

      by : (t : Bool) → (cond t (moved u e (wrote u (core u past) e) (shown u past).cc_oneshot (rest u past)) reset).settings
          ≡ cond t (put (wrote u (core u past) e) (standing u past)) reset_settings
      by true = ap (put (wrote u (core u past) e)) stood
      by false = refl

  -- THE 256 ADDRESSES: what each reads after any events
  pub reads_are : (past : List Event) (a : ℕ) → reads (chip u past) a ≡ byte_at u (shown u past) (rest u past) a
  unfolding byte_at
  reads_are past a =
      table (chip u past).setup (chip u past).registers a
      ∙ (λ i. byte_at (setup_is u past i) (shown u past) (rest_is u past i) a)

  -- and IN gives it where the bus reads and no low byte is kept
  pub in_gives : (past : List Event) (s : ℕ) (nack : Bool) → (core u past).normal ≡ true → (chip u past).bus.line.phase ≡ Reading s false
      → (stepped (OnBus (In nack)) (chip u past)).byte ≡ byte_at u (shown u past) (rest u past) (chip u past).bus.line.pointer
  unfolding fits byte_given
  in_gives past s nack on h =
      ap (λ (t : Stepped). t.byte) (normal_is (OnBus (In nack)) (chip u past) refl (awake_is u past ∙ on))
      ∙ ap (in_byte (reads (chip u past) (chip u past).bus.line.pointer) (chip u past).bus.owed) h
      ∙ reads_are past (chip u past).bus.line.pointer
