-- Each event moves its registers, in the bytes as in the chip. Assumes nothing.
use Rattle.std.specs.Prelude.{◌≡◌, Bool, not, ◌&&◌, ◌||◌, ℕ, ◌≤◌, Option, Some, None, length, take, drop}
use Rattle.std.proofs.Math.Path.{refl, sym, ap}
use Rattle.std.proofs.Common.{◌∙◌, subst, true≢false, arith}
use Rattle.std.proofs.Math.Bool.{true, false, cond}
use mathlib.Core.List.{List, ◌++◌}
use Rattle.std.proofs.Math.Dec.{eqb}
use Rattle.std.proofs.Math.ListN.{get_or, set}
use Rattle.std.proofs.lemmas.List.Edits.{sets}
use Rattle.std.proofs.Math.Seq.{get_or-take}
use Rattle.events.specs.declared.Event.{Event as Coded}
use Rattle.events.specs.declared.Event.TheVariants.{Boot, Pin, Xready, Count, Load, Level}
use Rattle.events.specs.declared.Setup.{Setup}
use Rattle.events.specs.Setup.{groups}
use Rattle.cell_counts.specs.Scan.{padded}
use Rattle.cell_counts.specs.PaddedLaws.{three_are}
use Rattle.bits.specs.Numbers.{word_bytes, bit_of}
use Rattle.events.specs.Event.{Event, Temp, Boot as Booted, Pin as Pulled, Xready as Unready}
use Rattle.events.specs.Event.{Count as Counted, Load as Loaded, Level as Leveled}
use Rattle.registers.specs.declared.Status.{Status}
use Rattle.registers.specs.declared.Shown.{Shown}
use Rattle.registers.specs.State.{alert, with_measured, with_load_level, with_outside_level}
use Rattle.registers.specs.Judging.{ts_kept, ts_of, warmed, coulombs, pulled, unready}
use Rattle.registers.specs.LevelLaws.{pulled_calm, unready_calm, coulombs_calm}
use Rattle.chip.specs.declared.Chip.{Chip}
use Rattle.chip.specs.Chip.{numbered, with_registers, normally}
use Rattle.chip.specs.Calm.{Calmed}
use Rattle.chip_bytes_layout.specs.Place.{FRESH}
use Rattle.chip_bytes_layout.specs.Layout.{listed, plain_of, switches_of, words_of, chip_bytes}
use Rattle.chip_bytes_layout.specs.Layout.{switch_at, setup_at, status_at, shown_at, chip_at, good_of, chip_of}
use Rattle.chip_bytes_layout.specs.ListedLaws.{listed_all}
use Rattle.chip_bytes_layout.specs.Did.{Awake, chip_here, Did}
use Rattle.chip_bytes_layout.proofs.DidLaws.{calm, bytes_are, chip_is, did, shown_back, did_of, good_first, same_first}
use Rattle.chip_bytes_layout.specs.declared.Outcome.{Outcome}
use Rattle.chip.specs.Answer.{flag_of, byte_of}
use Rattle.chip_bytes_done.specs.Seldom.{overridden_in, readied_in, counting_in, warmed_in, Moved, Seldom, SeldomBy}

-- ── over the bytes of any chip ──
module _ (c : Chip) (f : Bool) (rest : List ℕ) where
  fresh_moved : set (chip_bytes c f ++ rest) FRESH 0 ≡ chip_bytes c false ++ rest
  unfolding chip_bytes plain_of switches_of words_of
  fresh_moved = refl

  pin_moved : (t : Bool) → alert c.registers.shown.status ≡ t
      → cond t (chip_bytes c f ++ rest) (overridden_in (chip_bytes c f ++ rest))
      ≡ chip_bytes (with_registers (pulled c.registers) c) f ++ rest
  unfolding chip_bytes plain_of switches_of words_of
  pin_moved true h = simp h
  pin_moved false h = simp h

  xready_moved : readied_in (chip_bytes c f ++ rest) ≡ chip_bytes (with_registers (unready c.registers) c) f ++ rest
  unfolding chip_bytes plain_of switches_of words_of
  xready_moved = refl

  count_moved : (n : ℕ) (t : Bool) → (c.registers.settings.cc_en || c.registers.shown.cc_oneshot) ≡ t
      → cond t (counting_in n (chip_bytes c f ++ rest)) (chip_bytes c f ++ rest)
      ≡ chip_bytes (with_registers (coulombs n c.registers) c) f ++ rest
  unfolding chip_bytes plain_of switches_of words_of
  count_moved n true h = simp h
  count_moved n false h = simp h

  load_moved : (l : Bool)
      → set (chip_bytes c f ++ rest) 39 (bit_of l) ≡ chip_bytes (with_registers (with_load_level l c.registers) c) f ++ rest
  unfolding chip_bytes plain_of switches_of words_of
  load_moved l = refl

  level_moved : (l : Bool)
      → set (chip_bytes c f ++ rest) 40 (bit_of l) ≡ chip_bytes (with_registers (with_outside_level l c.registers) c) f ++ rest
  unfolding chip_bytes plain_of switches_of words_of
  level_moved l = refl

-- ── by what was read of the bytes ──
held : (l a : Bool) → (l && not a) ≡ false → l ≡ true → a ≡ true
held true true n h = refl
held true false n h = sym n
held false a n h = absurd (true≢false (sym h))

module _ (b : List ℕ) {new : List ℕ} where
  pub boot_moves : {e : Coded} → e ≡ Boot → new ≡ b → Moved e b new
  boot_moves h m =
      subst (λ (e : Coded). Moved e b new) (sym h)
      (record {
        event = Booted;
        meant = λ u xs. refl;
        chip = chip_here b;
        leaves = refl;
        part = refl;
        calm = λ k. k;
        bytes = λ f rest e. m ∙ e;
      })

  pub pin_moves : {t : Status} {up : Bool} (w : Bool) → t ≡ status_at (take 96 b) → up ≡ alert t → up ≡ w
      → new ≡ cond w b (overridden_in b) → Moved Pin b new
  unfolding chip_at
  pin_moves {t} {up} w q p h m =
      record {
        event = Pulled;
        meant = λ u xs. refl;
        chip = with_registers (pulled (chip_here b).registers) (chip_here b);
        leaves = refl;
        part = refl;
        calm = λ k. pulled_calm (chip_here b).registers;
        bytes =
            λ f rest e.
            m ∙ ap (λ (l : List ℕ). cond w l (overridden_in l)) e ∙ pin_moved (chip_here b) f rest w (sym (p ∙ ap alert q) ∙ h);
      }

  pub xready_moves : {e : Coded} → e ≡ Xready → new ≡ readied_in b → Moved e b new
  xready_moves h m =
      subst (λ (e : Coded). Moved e b new) (sym h)
      (record {
        event = Unready;
        meant = λ u xs. refl;
        chip = with_registers (unready (chip_here b).registers) (chip_here b);
        leaves = refl;
        part = refl;
        calm = λ k. unready_calm (chip_here b).registers;
        bytes = λ f rest e. m ∙ ap readied_in e ∙ xready_moved (chip_here b) f rest;
      })

  pub count_moves : (n : ℕ) (w : Bool) → (eqb (get_or b 28 0) 1 || eqb (get_or b 36 0) 1) ≡ w → new ≡ cond w (counting_in n b) b
      → Moved (Count n) b new
  unfolding chip_at
  count_moves n w h m =
      let one : get_or (take 96 b) 28 0 ≡ get_or b 28 0 = get_or-take 96 b 28 0 (omega arith) in
      let two : get_or (take 96 b) 36 0 ≡ get_or b 36 0 = get_or-take 96 b 36 0 (omega arith) in
      record {
        event = Counted n;
        meant = λ u xs. refl;
        chip = with_registers (coulombs n (chip_here b).registers) (chip_here b);
        leaves = refl;
        part = refl;
        calm = λ k. coulombs_calm n (chip_here b).registers k;
        bytes =
            λ f rest e.
            m ∙ ap (λ (l : List ℕ). cond w (counting_in n l) l) e
            ∙ count_moved (chip_here b) f rest n w
            (ap (λ (x : ℕ). eqb x 1 || eqb (get_or (take 96 b) 36 0) 1) one ∙ ap (λ (x : ℕ). eqb (get_or b 28 0) 1 || eqb x 1) two ∙ h);
      }

  pub load_moves : (l : Bool) {e : Coded} → e ≡ Load l → new ≡ set b 39 (bit_of l) → Moved e b new
  load_moves l h m =
      subst (λ (e : Coded). Moved e b new) (sym h)
      (record {
        event = Loaded l;
        meant = λ u xs. refl;
        chip = with_registers (with_load_level l (chip_here b).registers) (chip_here b);
        leaves = refl;
        part = refl;
        calm = λ k. k;
        bytes = λ f rest e. m ∙ ap (λ (x : List ℕ). set x 39 (bit_of l)) e ∙ load_moved (chip_here b) f rest l;
      })

  pub level_moves : (l : Bool) {t : Status} {up : Bool} → t ≡ status_at (take 96 b) → up ≡ alert t → (l && not up) ≡ false
      → new ≡ set b 40 (bit_of l) → Moved (Level l) b new
  unfolding chip_at
  level_moves l {t} {up} q p n m =
      record {
        event = Leveled l;
        meant = λ u xs. refl;
        chip = with_registers (with_outside_level l (chip_here b).registers) (chip_here b);
        leaves = refl;
        part = refl;
        calm = λ k h. sym (p ∙ ap alert q) ∙ held l up n h;
        bytes = λ f rest e. m ∙ ap (λ (x : List ℕ). set x 40 (bit_of l)) e ∙ level_moved (chip_here b) f rest l;
      }

-- ── TEMP ──
three_long : (xs : List ℕ) → length (padded 3 xs) ≡ 3
three_long xs = ap length (three_are xs)

module _ (c : Chip) (f : Bool) (rest : List ℕ) where
  ts_moved : (ts : List ℕ) → sets (chip_bytes c f ++ rest) 60 (word_bytes (listed ts 0 3))
      ≡ chip_bytes (with_registers (with_measured (ts_kept ts c.registers.measured) c.registers) c) f ++ rest
  unfolding chip_bytes plain_of switches_of words_of
  ts_moved ts = refl

  warmed_moved : (xs : List ℕ) (t : Bool) → warmed_in t (padded 3 xs) (chip_bytes c f ++ rest)
      ≡ chip_bytes (with_registers (with_measured (cond t (ts_of xs c.registers.measured) c.registers.measured) c.registers) c) f
      ++ rest
  warmed_moved xs true =
      ap (λ (l : List ℕ). sets (chip_bytes c f ++ rest) 60 (word_bytes l)) (sym (listed_all (padded 3 xs) 3 (three_long xs)))
      ∙ ts_moved (padded 3 xs)
  warmed_moved xs false = refl

-- ── and the whole: what an event leaves of the chip, before the wiring record is shut out ──
module _ (b mid : List ℕ) {shown : Shown} {new : List ℕ} (w : Awake b) (m : new ≡ set mid FRESH 0) (s : shown ≡ shown_at (take 96 new))
    (g : good_of b ≡ true) where
  left_did : (x : Event) (d : Chip) → numbered 0 d ≡ normally x (chip_here b) → d.setup.part ≡ (chip_here b).setup.part → Calmed d
      → mid ≡ chip_bytes d (switch_at (take 96 b) FRESH) ++ drop 96 b → Did b x false 0 shown new
  left_did x d l p k e =
      let are : new ≡ chip_bytes d false ++ drop 96 b =
      m ∙ ap (λ (l : List ℕ). set l FRESH 0) e ∙ fresh_moved d (switch_at (take 96 b) FRESH) (drop 96 b) in
      did b w g x d false 0 shown new p k l (s ∙ ap (λ (l : List ℕ). shown_at (take 96 l)) are ∙ shown_back d false (drop 96 b)) are

pub moved_did : (b mid : List ℕ) (e : Coded) {shown : Shown} {new : List ℕ} → Awake b → Moved e b mid → new ≡ set mid FRESH 0
    → shown ≡ shown_at (take 96 new) → good_of b ≡ true → Seldom b e false 0 shown new
moved_did b mid e w v m s g =
    record {
      event = v.event;
      meant = v.meant;
      did =
          left_did b mid w m s g v.event v.chip v.leaves v.part (v.calm (calm b w g))
          (v.bytes (switch_at (take 96 b) FRESH) (drop 96 b) (sym (bytes_are b w g)));
    }

pub warms_did : (b mid counts : List ℕ) {u : Setup} {n : ℕ} {ts : List ℕ} {shown : Shown} {new : List ℕ} → Awake b
    → u ≡ setup_at (take 96 b)
    → n ≡ groups u → ts ≡ padded 3 (take n counts) → mid ≡ warmed_in (eqb (get_or b 24 0) 1) ts b → new ≡ set mid FRESH 0
    → shown ≡ shown_at (take 96 new) → good_of b ≡ true → Did b (Temp (take (groups (chip_of b).setup) counts)) false 0 shown new
unfolding chip_at
warms_did b mid counts {shown = shown} {new = new} w hu hn ht hm m s g =
    let xs : List ℕ = take (groups (chip_here b).setup) counts in
    let fresh : Bool = switch_at (take 96 b) FRESH in
    let ts : _ ≡ padded 3 xs = ht ∙ ap (λ (k : ℕ). padded 3 (take k counts)) (hn ∙ ap groups hu) in
    let up : eqb (get_or b 24 0) 1 ≡ switch_at (take 96 b) 24 = ap (λ (x : ℕ). eqb x 1) (sym (get_or-take 96 b 24 0 (omega arith))) in
    subst (λ (c : Chip). Did b (Temp (take (groups c.setup) counts)) false 0 shown new) (sym (chip_is b w g))
    (left_did b mid w m s g (Temp xs) (with_registers (warmed xs (chip_here b).registers) (chip_here b)) refl refl (calm b w g)
    (hm ∙ ap (λ (l : List ℕ). warmed_in (eqb (get_or b 24 0) 1) l b) ts ∙ ap (λ (t : Bool). warmed_in t (padded 3 xs) b) up
    ∙ ap (warmed_in (switch_at (take 96 b) 24) (padded 3 xs)) (sym (bytes_are b w g))
    ∙ warmed_moved (chip_here b) fresh (drop 96 b) xs (switch_at (take 96 b) 24)))

-- of a buffer, by its first 96 bytes
pub seldom_first : (b : List ℕ) (x : List ℕ) (room : 96 ≤ length b) (first : x ≡ take 96 b) (e : Coded) (r : Option Outcome) (new : List ℕ)
    → SeldomBy x e r new → SeldomBy b e r (new ++ drop 96 b)
seldom_first b x room first e (Some r) new h =
    λ g.
    let s : Seldom x e (flag_of r.byte) (byte_of r.byte) r.shown new = h (good_first b room first ∙ g) in
    record {
      event = s.event;
      meant = s.meant;
      did = did_of b room first s.event (flag_of r.byte) (byte_of r.byte) r.shown new s.did;
    }
seldom_first b x room first e None new h = ap (λ (l : List ℕ). l ++ drop 96 b) h ∙ same_first b room first
