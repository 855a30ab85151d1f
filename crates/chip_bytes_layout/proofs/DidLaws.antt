-- DONE IN THE BYTES IS DONE TO THE CHIP: where bytes keep a chip in NORMAL, and what an event leaves of it is put in their place, it has
-- happened to the chip that they keep. One law, whichever part the event moves. Assumes nothing.
use Rattle.std.specs.Prelude.{◌≡◌, refl, Bool, true, false, not, ◌&&◌, ◌||◌, List, [], ◌∷◌, ◌++◌, ℕ, ◌≤◌, eqb, ltb, length, get_or, take}
use Rattle.std.specs.Prelude.{replicate, Option, Some, None}
use Rattle.std.proofs.Math.Path.{sym, ap}
use Rattle.std.proofs.Common.{◌∙◌, subst, true≢false, append-nil, arith, take-append-drop, length-take-le, le-ltb, eqb-true, ne_eqb}
use Rattle.std.proofs.Math.Bool.{cond}
use Rattle.std.proofs.Math.ListN.{drop, drop_of_length-le}
use Rattle.events.specs.Event.{Event}
use Rattle.bits.specs.Numbers.{within}
use Rattle.bits.specs.BoolLaws.{and_left, and_right}
use Rattle.bits.specs.BytesLaws.{bit_same}
use Rattle.registers.specs.declared.Shown.{Shown}
use Rattle.registers.specs.State.{alert}
use Rattle.chip.specs.declared.Chip.{Chip}
use Rattle.chip.specs.Answer.{Stepped, flag_of, byte_of}
use Rattle.chip.specs.Chip.{normally, asleep, settled, happened}
use Rattle.chip.specs.Calm.{Calmed}
use Rattle.chip.proofs.Calm.{settles}
use Rattle.chip_bytes_layout.specs.Place.{PART}
use Rattle.chip_bytes_layout.specs.Layout.{plain_of, switches_of, words_of, chip_bytes, switch_at, shown_at, chip_at, formed}
use Rattle.chip_bytes_layout.specs.Layout.{setup_stands, level_stands, fresh_stands, could_stand}
use Rattle.chip_bytes_layout.specs.Layout.{none, kept_bytes, good_at, chip_in, good_of, chip_of, kept_in}
use Rattle.chip_bytes_layout.proofs.OneLaws.{part_not}
use Rattle.chip_bytes_layout.proofs.TripLaws.{forth}
use Rattle.chip_bytes_layout.proofs.GoodLaws.{zero_at}
use Rattle.chip_bytes_layout.proofs.Bytes.{as_first}
use Rattle.chip_bytes_layout.specs.declared.Outcome.{Outcome}
use Rattle.chip_bytes_layout.specs.Did.{Awake, chip_here, says, Came, CameBy, Did, DidBy}

-- what is shown, read back
pub shown_back : (c : Chip) (fresh : Bool) (rest : List ℕ) → shown_at (take 96 (chip_bytes c fresh ++ rest)) ≡ c.registers.shown
unfolding chip_bytes plain_of switches_of words_of
shown_back c fresh rest = simp bit_same

-- good bytes in NORMAL are no zeros
not_none : (b : List ℕ) → good_at b ≡ true → switch_at b 22 ≡ true → (formed b && could_stand (chip_at b) (switch_at b 23)) ≡ true
unfolding good_at
not_none b g n = by (within 0 b) refl g
  where
    by : (t : Bool) → within 0 b ≡ t → (t || (formed b && could_stand (chip_at b) (switch_at b 23))) ≡ true
        → (formed b && could_stand (chip_at b) (switch_at b 23)) ≡ true
    by true z g = absurd (true≢false (sym n ∙ ap (λ (x : ℕ). eqb x 1) (zero_at b 22 z)))
    by false z g = g

second : (b : List ℕ) → get_or (take 96 b) 1 0 ≡ get_or b 1 0
second [] = refl
second (x ∷ []) = refl
second (x ∷ y ∷ b) = refl

-- the part of the chip that bytes keep, none for part 0
pub part_of : (b : List ℕ) → 96 ≤ length b → (chip_of b).setup.part ≡ get_or b PART 0
unfolding chip_in chip_at
part_of b room =
    ap (λ (t : Bool). (cond t none (chip_in (take 96 b))).setup.part) (le-ltb (length b) 96 room)
    ∙ by (eqb (get_or (take 96 b) 1 0) 0) refl ∙ second b
  where
    by : (t : Bool) → eqb (get_or (take 96 b) 1 0) 0 ≡ t → (cond t none (chip_at (take 96 b))).setup.part ≡ get_or (take 96 b) 1 0
    by true e = sym (eqb-true (get_or (take 96 b) 1 0) 0 e)
    by false e = refl

calm_by : (a o : Bool) → (a || not o) ≡ true → o ≡ true → a ≡ true
calm_by true o h e = refl
calm_by false true h e = h
calm_by false false h e = absurd (true≢false (sym e))

module _ (b : List ℕ) (w : Awake b) (g : good_of b ≡ true) where
  wide : ltb (length b) 96 ≡ false
  wide = le-ltb (length b) 96 w.room

  whole : (formed (take 96 b) && could_stand (chip_here b) (switch_at (take 96 b) 23)) ≡ true
  whole = not_none (take 96 b) (ap (λ (t : Bool). cond t false (good_at (take 96 b))) (sym wide) ∙ g) w.normal

  stands : could_stand (chip_here b) (switch_at (take 96 b) 23) ≡ true
  stands = and_right (formed (take 96 b)) (could_stand (chip_here b) (switch_at (take 96 b) 23)) whole

  its_part : eqb (chip_here b).setup.part 0 ≡ false
  its_part = ne_eqb (chip_here b).setup.part 0 (part_not (chip_here b) (switch_at (take 96 b) 23) stands)

  pub chip_is : chip_of b ≡ chip_here b
  unfolding chip_in chip_at
  chip_is =
      ap (λ (t : Bool). cond t none (chip_in (take 96 b))) wide ∙ ap (λ (t : Bool). cond t none (chip_at (take 96 b))) its_part

  -- the level has nothing to do
  pub calm : Calmed (chip_here b)
  unfolding could_stand
  calm =
      calm_by (alert (chip_here b).registers.shown.status) (chip_here b).registers.outside_level
      (and_right (setup_stands (chip_here b).setup) (level_stands (chip_here b))
      (and_left (setup_stands (chip_here b).setup && level_stands (chip_here b)) (fresh_stands (chip_here b) (switch_at (take 96 b) 23))
      stands))

  -- the bytes are those of the chip
  pub bytes_are : chip_bytes (chip_here b) (switch_at (take 96 b) 23) ++ drop 96 b ≡ b
  bytes_are =
      ap (λ (l : List ℕ). l ++ drop 96 b) (forth (take 96 b) (length-take-le 96 b w.room) w.bytes (and_left _ _ whole))
      ∙ take-append-drop 96 b

  kept_in_lem : (c : Chip) → eqb c.setup.part 0 ≡ false → chip_bytes c false ++ drop 96 b ≡ kept_in c false b
  unfolding kept_bytes
  kept_in_lem c p = sym (ap (λ (t : Bool). cond t b (cond (eqb c.setup.part 0) (replicate 96 0) (chip_bytes c false) ++ drop 96 b)) wide
      ∙ ap (λ (t : Bool). cond t (replicate 96 0) (chip_bytes c false) ++ drop 96 b) p)

  normal : (e : Event) → happened e (chip_here b) ≡ settled (normally e (chip_here b))
  unfolding happened chip_at
  normal e = ap (λ (t : Bool). cond t (settled (normally e (chip_here b))) (asleep e (chip_here b))) w.normal

  -- THE LAW, of whatever the chip comes to
  pub came : (step : Chip → Stepped) (d : Chip) (flag : Bool) (byte : ℕ) (shown : Shown) (new : List ℕ)
      → d.setup.part ≡ (chip_here b).setup.part → says flag byte d ≡ step (chip_here b) → shown ≡ d.registers.shown
      → new ≡ chip_bytes d false ++ drop 96 b → Came b (step (chip_of b)) flag byte shown new
  came step d flag byte shown new p h s m =
      record {
        left = d;
        happens = h ∙ ap step (sym chip_is);
        shows = s;
        leaves = m ∙ kept_in_lem d (ap (λ (n : ℕ). eqb n 0) p ∙ its_part);
      }

  -- .. and of an event
  pub did : (e : Event) (d : Chip) (flag : Bool) (byte : ℕ) (shown : Shown) (new : List ℕ) → d.setup.part ≡ (chip_here b).setup.part
      → Calmed d → says flag byte d ≡ normally e (chip_here b) → shown ≡ d.registers.shown → new ≡ chip_bytes d false ++ drop 96 b
      → Did b e flag byte shown new
  did e d flag byte shown new p k h s m =
      came (happened e) d flag byte shown new p (sym (settles (says flag byte d) k) ∙ ap settled h ∙ sym (normal e)) s m

-- ── a buffer and its first 96 bytes: what was done of these was done of it ──
module _ (b : List ℕ) (room : 96 ≤ length b) where
  first_length : length (take 96 b) ≡ 96
  first_length = length-take-le 96 b room

  first_wide : ltb (length (take 96 b)) 96 ≡ false
  first_wide = let l = first_length in le-ltb (length (take 96 b)) 96 (omega arith)

  buffer_wide : ltb (length b) 96 ≡ false
  buffer_wide = le-ltb (length b) 96 room

  first_good : good_of (take 96 b) ≡ good_of b
  first_good =
      ap (λ (t : Bool). cond t false (good_at (take 96 (take 96 b)))) first_wide ∙ ap good_at (as_first first_length)
      ∙ ap (λ (t : Bool). cond t false (good_at (take 96 b))) (sym buffer_wide)

  first_chip : chip_of (take 96 b) ≡ chip_of b
  first_chip =
      ap (λ (t : Bool). cond t none (chip_in (take 96 (take 96 b)))) first_wide ∙ ap chip_in (as_first first_length)
      ∙ ap (λ (t : Bool). cond t none (chip_in (take 96 b))) (sym buffer_wide)

  first_kept : (c : Chip) → kept_in c false (take 96 b) ++ drop 96 b ≡ kept_in c false b
  first_kept c =
      ap (λ (t : Bool). cond t (take 96 b) (kept_bytes c false ++ drop 96 (take 96 b)) ++ drop 96 b) first_wide
      ∙ ap (λ (l : List ℕ). (kept_bytes c false ++ l) ++ drop 96 b) (drop_of_length-le (take 96 b) {i = 96} (omega (arith, first_length)))
      ∙ ap (λ (l : List ℕ). l ++ drop 96 b) (append-nil (kept_bytes c false))
      ∙ ap (λ (t : Bool). cond t b (kept_bytes c false ++ drop 96 b)) (sym buffer_wide)

  came_of : (step : Chip → Stepped) (flag : Bool) (byte : ℕ) (shown : Shown) (new : List ℕ)
      → Came (take 96 b) (step (chip_of (take 96 b))) flag byte shown new → Came b (step (chip_of b)) flag byte shown (new ++ drop 96 b)
  came_of step flag byte shown new k =
      record {
        left = k.left;
        happens = k.happens ∙ ap step first_chip;
        shows = k.shows;
        leaves = ap (λ (l : List ℕ). l ++ drop 96 b) k.leaves ∙ first_kept k.left;
      }

  came_by : (step : Chip → Stepped) (r : Option Outcome) (new : List ℕ) → CameBy (take 96 b) (step (chip_of (take 96 b))) r new
      → CameBy b (step (chip_of b)) r (new ++ drop 96 b)
  came_by step (Some r) new h = λ g. came_of step (flag_of r.byte) (byte_of r.byte) r.shown new (h (first_good ∙ g))
  came_by step None new h = ap (λ (l : List ℕ). l ++ drop 96 b) h ∙ take-append-drop 96 b

  module _ {x : List ℕ} (first : x ≡ take 96 b) where
    pub sized_first : length x ≡ 96
    sized_first = ap length first ∙ first_length

    pub same_first : x ++ drop 96 b ≡ b
    same_first = ap (λ (l : List ℕ). l ++ drop 96 b) first ∙ take-append-drop 96 b

    pub good_first : good_of x ≡ good_of b
    good_first = ap good_of first ∙ first_good

    pub came_first : (step : Chip → Stepped) (r : Option Outcome) (new : List ℕ) → CameBy x (step (chip_of x)) r new
        → CameBy b (step (chip_of b)) r (new ++ drop 96 b)
    came_first step r new h = came_by step r new (subst (λ (x : List ℕ). CameBy x (step (chip_of x)) r new) first h)

    pub did_first : (e : Event) (r : Option Outcome) (new : List ℕ) → DidBy x e r new → DidBy b e r (new ++ drop 96 b)
    did_first e r new h = came_first (happened e) r new h

    pub did_of : (e : Event) (flag : Bool) (byte : ℕ) (shown : Shown) (new : List ℕ) → Did x e flag byte shown new
        → Did b e flag byte shown (new ++ drop 96 b)
    did_of e flag byte shown new h =
        came_of (happened e) flag byte shown new (subst (λ (x : List ℕ). Did x e flag byte shown new) first h)
