-- A write moves the bytes of its register, in the bytes as in the chip. Assumes nothing.
use Rattle.std.specs.Prelude.{◌≡◌, Bool, ◌&&◌, ℕ, zero, suc, ◌+◌, ◌-◌, ◌≤◌, leb, take}
use Rattle.std.proofs.Math.Path.{refl, sym, ap, ap₂, subst}
use Rattle.std.proofs.Common.{◌∙◌, true≢false, arith, get_or-take, ne_eqb}
use Rattle.std.proofs.Math.Bool.{true, false, not}
use mathlib.Core.List.{List, ◌++◌}
use Rattle.std.proofs.Math.Dec.{eqb}
use Rattle.std.proofs.Math.ListN.{get_or, set}
use Rattle.events.specs.declared.Setup.{Setup}
use Rattle.events.specs.Setup.{groups}
use Rattle.settings.specs.declared.Settings.{Settings}
use Rattle.settings.specs.Write.{ships, is_shut_a, is_shut_b, keeps_pair, protect1_of, protect2_of, protect3_of, cc_cfg_of, settings_with}
use Rattle.registers.specs.declared.Status.{Status}
use Rattle.registers.specs.declared.Shown.{Shown}
use Rattle.registers.specs.declared.Registers.{Registers}
use Rattle.registers.specs.State.{alert}
use Rattle.registers.specs.Write.{status_of, without, driven, shown_with, cellbal_with, written}
use Rattle.chip.specs.declared.Chip.{Chip}
use Rattle.chip.specs.Chip.{with_registers}
use Rattle.chip.specs.Calm.{Calmed}
use Rattle.chip_bytes_layout.specs.Layout.{plain_of, switches_of, words_of, chip_bytes, status_at, shown_at, settings_at, setup_at, chip_at}
use Rattle.chip_bytes_layout.specs.Did.{chip_here}
use Rattle.chip_bytes_bus.specs.Store.{stat_in, pair_in, driven_in, control_in, drives_in, cellbal_in, wrote_chip, Wrote}

-- ── register by register, over the bytes of any chip ──
module _ (v : ℕ) (c : Chip) (f : Bool) (rest : List ℕ) where
  stat_moved : stat_in (without (status_of v) c.registers.shown.status) (chip_bytes c f ++ rest)
      ≡ chip_bytes (wrote_chip 0x00 v c) f ++ rest
  unfolding chip_bytes plain_of switches_of words_of settings_with shown_with cellbal_with
  stat_moved = refl

  ctrl1_moved : pair_in v (keeps_pair v c.registers.settings) (chip_bytes c f ++ rest) ≡ chip_bytes (wrote_chip 0x04 v c) f ++ rest
  unfolding chip_bytes plain_of switches_of words_of settings_with shown_with cellbal_with
  ctrl1_moved = refl

  ctrl2_moved : driven_in v (driven v c.registers.shown) (chip_bytes c f ++ rest) ≡ chip_bytes (wrote_chip 0x05 v c) f ++ rest
  unfolding chip_bytes plain_of switches_of words_of settings_with shown_with cellbal_with
  ctrl2_moved = refl

  protect1_moved : set (chip_bytes c f ++ rest) 12 (protect1_of v) ≡ chip_bytes (wrote_chip 0x06 v c) f ++ rest
  unfolding chip_bytes plain_of switches_of words_of settings_with shown_with cellbal_with
  protect1_moved = refl

  protect2_moved : set (chip_bytes c f ++ rest) 13 (protect2_of v) ≡ chip_bytes (wrote_chip 0x07 v c) f ++ rest
  unfolding chip_bytes plain_of switches_of words_of settings_with shown_with cellbal_with
  protect2_moved = refl

  protect3_moved : set (chip_bytes c f ++ rest) 14 (protect3_of v) ≡ chip_bytes (wrote_chip 0x08 v c) f ++ rest
  unfolding chip_bytes plain_of switches_of words_of settings_with shown_with cellbal_with
  protect3_moved = refl

  over_moved : set (chip_bytes c f ++ rest) 15 v ≡ chip_bytes (wrote_chip 0x09 v c) f ++ rest
  unfolding chip_bytes plain_of switches_of words_of settings_with shown_with cellbal_with
  over_moved = refl

  under_moved : set (chip_bytes c f ++ rest) 16 v ≡ chip_bytes (wrote_chip 0x0A v c) f ++ rest
  unfolding chip_bytes plain_of switches_of words_of settings_with shown_with cellbal_with
  under_moved = refl

  cc_moved : set (chip_bytes c f ++ rest) 17 (cc_cfg_of v) ≡ chip_bytes (wrote_chip 0x0B v c) f ++ rest
  unfolding chip_bytes plain_of switches_of words_of settings_with shown_with cellbal_with
  cc_moved = refl

  cellbal1_moved : (t : Bool) → leb 1 (groups c.setup) ≡ t
      → cellbal_in 1 v t (chip_bytes c f ++ rest) ≡ chip_bytes (wrote_chip 0x01 v c) f ++ rest
  unfolding chip_bytes plain_of switches_of words_of settings_with shown_with cellbal_with
  cellbal1_moved true h = simp h
  cellbal1_moved false h = simp h

  cellbal2_moved : (t : Bool) → leb 2 (groups c.setup) ≡ t
      → cellbal_in 2 v t (chip_bytes c f ++ rest) ≡ chip_bytes (wrote_chip 0x02 v c) f ++ rest
  unfolding chip_bytes plain_of switches_of words_of settings_with shown_with cellbal_with
  cellbal2_moved true h = simp h
  cellbal2_moved false h = simp h

  cellbal3_moved : (t : Bool) → leb 3 (groups c.setup) ≡ t
      → cellbal_in 3 v t (chip_bytes c f ++ rest) ≡ chip_bytes (wrote_chip 0x03 v c) f ++ rest
  unfolding chip_bytes plain_of switches_of words_of settings_with shown_with cellbal_with
  cellbal3_moved true h = simp h
  cellbal3_moved false h = simp h

-- above 0x0B a write moves nothing
above : (u : Setup) (a v : ℕ) (r : Registers) → 12 ≤ a → written u a v r ≡ r
unfolding settings_with shown_with cellbal_with
above u a v r h =
    simp (
      ne_eqb a 0x00 (λ e. omega arith),
      ne_eqb a 0x01 (λ e. omega arith),
      ne_eqb a 0x02 (λ e. omega arith),
      ne_eqb a 0x03 (λ e. omega arith),
      ne_eqb a 0x04 (λ e. omega arith),
      ne_eqb a 0x05 (λ e. omega arith),
      ne_eqb a 0x06 (λ e. omega arith),
      ne_eqb a 0x07 (λ e. omega arith),
      ne_eqb a 0x08 (λ e. omega arith),
      ne_eqb a 0x09 (λ e. omega arith),
      ne_eqb a 0x0A (λ e. omega arith),
      ne_eqb a 0x0B (λ e. omega arith),
    )

pub past : (a : ℕ) → 6 ≤ a → (a ≡ 0x06 → ⊥) → (a ≡ 0x07 → ⊥) → (a ≡ 0x08 → ⊥) → (a ≡ 0x09 → ⊥) → (a ≡ 0x0A → ⊥) → (a ≡ 0x0B → ⊥) → 12 ≤ a
past a h six seven eight nine ten eleven = omega arith

-- ── by what was read of the bytes ──
held : (l a : Bool) → (l && not a) ≡ false → l ≡ true → a ≡ true
held true true n h = refl
held true false n h = sym n
held false a n h = absurd (true≢false (sym h))

module _ (b : List ℕ) (v : ℕ) {new : List ℕ} where
  pub wrote_stat : {t : Status} {up : Bool} → t ≡ without (status_of v) (status_at (take 96 b)) → up ≡ alert t
      → (eqb (get_or b 40 0) 1 && not up) ≡ false
      → new ≡ stat_in t b → Wrote 0x00 v b new
  unfolding chip_at settings_with shown_with cellbal_with
  wrote_stat {t} {up} q p n m =
      record {
        stays = refl;
        calm =
            λ k h.
            sym (p ∙ ap alert q)
            ∙ held (eqb (get_or b 40 0) 1) up n (ap (λ (x : ℕ). eqb x 1) (sym (get_or-take 96 b 40 0 (omega arith))) ∙ h);
        leaves =
            λ f rest e.
            m ∙ ap (λ (t : Status). stat_in t b) q ∙ ap (stat_in (without (status_of v) (status_at (take 96 b)))) e
            ∙ stat_moved v (chip_here b) f rest;
      }

  pub wrote_ctrl1 : {s k : Bool} → s ≡ (eqb (get_or b 26 0) 1 && is_shut_a v && not (is_shut_b v)) → s ≡ false
      → k ≡ (not (eqb (get_or b 26 0) 1) && not (is_shut_a v) && is_shut_b v)
      → new ≡ pair_in v k b → Wrote 0x04 v b new
  unfolding chip_at settings_with shown_with cellbal_with
  wrote_ctrl1 q n p m =
      let same : get_or b 26 0 ≡ get_or (take 96 b) 26 0 = sym (get_or-take 96 b 26 0 (omega arith)) in
      record {
        stays = sym (q ∙ ap (λ (x : ℕ). eqb x 1 && is_shut_a v && not (is_shut_b v)) same) ∙ n;
        calm = λ k. k;
        leaves =
            λ f rest e.
            m ∙ ap (λ (t : Bool). pair_in v t b) (p ∙ ap (λ (x : ℕ). not (eqb x 1) && not (is_shut_a v) && is_shut_b v) same)
            ∙ ap (pair_in v (keeps_pair v (settings_at (take 96 b)))) e ∙ ctrl1_moved v (chip_here b) f rest;
      }

  pub wrote_ctrl2 : {s : Shown} → s ≡ driven v (shown_at (take 96 b)) → new ≡ driven_in v s b → Wrote 0x05 v b new
  unfolding chip_at settings_with shown_with cellbal_with
  wrote_ctrl2 q m =
      record {
        stays = refl;
        calm = λ k. k;
        leaves =
            λ f rest e.
            m ∙ ap (λ (s : Shown). driven_in v s b) q ∙ ap (driven_in v (driven v (shown_at (take 96 b)))) e
            ∙ ctrl2_moved v (chip_here b) f rest;
      }

  pub wrote_above : (a : ℕ) → 12 ≤ a → new ≡ b → Wrote a v b new
  wrote_above a h m =
      let same : wrote_chip a v (chip_here b) ≡ chip_here b =
      ap (λ (r : Registers). with_registers r (chip_here b)) (above (chip_here b).setup a v (chip_here b).registers h) in
      record {
        stays = simp (ne_eqb a 0x04 (λ e. omega arith));
        calm = λ k. subst Calmed (sym same) k;
        leaves = λ f rest e. m ∙ e ∙ ap (λ (c : Chip). chip_bytes c f ++ rest) (sym same);
      }

  -- the registers of one byte
  pub wrote_protect1 : {a : ℕ} → a ≡ 0x06 → new ≡ set b 12 (protect1_of v) → Wrote a v b new
  unfolding chip_at settings_with shown_with cellbal_with
  wrote_protect1 h m =
      subst (λ (a : ℕ). Wrote a v b new) (sym h)
      (record {
        stays = refl;
        calm = λ k. k;
        leaves = λ f rest e. m ∙ ap (λ (l : List ℕ). set l 12 (protect1_of v)) e ∙ protect1_moved v (chip_here b) f rest;
      })

  pub wrote_protect2 : {a : ℕ} → a ≡ 0x07 → new ≡ set b 13 (protect2_of v) → Wrote a v b new
  unfolding chip_at settings_with shown_with cellbal_with
  wrote_protect2 h m =
      subst (λ (a : ℕ). Wrote a v b new) (sym h)
      (record {
        stays = refl;
        calm = λ k. k;
        leaves = λ f rest e. m ∙ ap (λ (l : List ℕ). set l 13 (protect2_of v)) e ∙ protect2_moved v (chip_here b) f rest;
      })

  pub wrote_protect3 : {a : ℕ} → a ≡ 0x08 → new ≡ set b 14 (protect3_of v) → Wrote a v b new
  unfolding chip_at settings_with shown_with cellbal_with
  wrote_protect3 h m =
      subst (λ (a : ℕ). Wrote a v b new) (sym h)
      (record {
        stays = refl;
        calm = λ k. k;
        leaves = λ f rest e. m ∙ ap (λ (l : List ℕ). set l 14 (protect3_of v)) e ∙ protect3_moved v (chip_here b) f rest;
      })

  pub wrote_over : {a : ℕ} → a ≡ 0x09 → new ≡ set b 15 v → Wrote a v b new
  unfolding chip_at settings_with shown_with cellbal_with
  wrote_over h m =
      subst (λ (a : ℕ). Wrote a v b new) (sym h)
      (record {
        stays = refl;
        calm = λ k. k;
        leaves = λ f rest e. m ∙ ap (λ (l : List ℕ). set l 15 v) e ∙ over_moved v (chip_here b) f rest;
      })

  pub wrote_under : {a : ℕ} → a ≡ 0x0A → new ≡ set b 16 v → Wrote a v b new
  unfolding chip_at settings_with shown_with cellbal_with
  wrote_under h m =
      subst (λ (a : ℕ). Wrote a v b new) (sym h)
      (record {
        stays = refl;
        calm = λ k. k;
        leaves = λ f rest e. m ∙ ap (λ (l : List ℕ). set l 16 v) e ∙ under_moved v (chip_here b) f rest;
      })

  pub wrote_cc : {a : ℕ} → a ≡ 0x0B → new ≡ set b 17 (cc_cfg_of v) → Wrote a v b new
  unfolding chip_at settings_with shown_with cellbal_with
  wrote_cc h m =
      subst (λ (a : ℕ). Wrote a v b new) (sym h)
      (record {
        stays = refl;
        calm = λ k. k;
        leaves = λ f rest e. m ∙ ap (λ (l : List ℕ). set l 17 (cc_cfg_of v)) e ∙ cc_moved v (chip_here b) f rest;
      })

  cellbal1 : (t : Bool) → leb 1 (groups (setup_at (take 96 b))) ≡ t → new ≡ cellbal_in 1 v t b → Wrote 1 v b new
  unfolding chip_at settings_with shown_with cellbal_with
  cellbal1 t h m =
      record {
        stays = refl;
        calm = λ k. k;
        leaves = λ f rest e. m ∙ ap (cellbal_in 1 v t) e ∙ cellbal1_moved v (chip_here b) f rest t h;
      }

  cellbal2 : (t : Bool) → leb 2 (groups (setup_at (take 96 b))) ≡ t → new ≡ cellbal_in 2 v t b → Wrote 2 v b new
  unfolding chip_at settings_with shown_with cellbal_with
  cellbal2 t h m =
      record {
        stays = refl;
        calm = λ k. k;
        leaves = λ f rest e. m ∙ ap (cellbal_in 2 v t) e ∙ cellbal2_moved v (chip_here b) f rest t h;
      }

  cellbal3 : (t : Bool) → leb 3 (groups (setup_at (take 96 b))) ≡ t → new ≡ cellbal_in 3 v t b → Wrote 3 v b new
  unfolding chip_at settings_with shown_with cellbal_with
  cellbal3 t h m =
      record {
        stays = refl;
        calm = λ k. k;
        leaves = λ f rest e. m ∙ ap (cellbal_in 3 v t) e ∙ cellbal3_moved v (chip_here b) f rest t h;
      }

  pub wrote_cellbal : (a : ℕ) {u : Setup} {n : ℕ} (t : Bool) → 1 ≤ a → a ≤ 3 → u ≡ setup_at (take 96 b) → n ≡ groups u → leb a n ≡ t
      → new ≡ cellbal_in a v t b → Wrote a v b new
  wrote_cellbal zero t h k = λ q p n m. absurd (omega arith)
  wrote_cellbal (suc zero) t h k = λ q p n m. cellbal1 t (ap (leb 1) (sym (p ∙ ap groups q)) ∙ n) m
  wrote_cellbal (suc (suc zero)) t h k = λ q p n m. cellbal2 t (ap (leb 2) (sym (p ∙ ap groups q)) ∙ n) m
  wrote_cellbal (suc (suc (suc zero))) t h k = λ q p n m. cellbal3 t (ap (leb 3) (sym (p ∙ ap groups q)) ∙ n) m
  wrote_cellbal (suc (suc (suc (suc a)))) t h k = λ q p n m. absurd (omega arith)

-- ── by the settings and what is shown, written ──
raises_not : (x : ℕ) (a : Bool) → (x ≡ 1 → a ≡ true) → (eqb x 1 && not a) ≡ false
raises_not x true h = by (eqb x 1)
  where
    by : (t : Bool) → (t && not true) ≡ false
    by true = refl
    by false = refl
raises_not x false h = simp (ne_eqb x 1 (λ e. true≢false (sym (h e))))

module _ (b : List ℕ) (v : ℕ) {new : List ℕ} where
  pub stat_by : {t : Status} → t ≡ without (status_of v) (status_at (take 96 b)) → (get_or b 40 0 ≡ 1 → alert t ≡ true) → new ≡ stat_in t b
      → Wrote 0x00 v b new
  stat_by {t} q h m = wrote_stat b v q refl (raises_not (get_or b 40 0) (alert t) h) m

  pub ctrl1_by : {s k : Settings} → s ≡ settings_at (take 96 b) → ships 0x04 v s ≡ false → k ≡ settings_with 0x04 v s → new ≡ control_in k b
      → Wrote 0x04 v b new
  unfolding settings_with
  ctrl1_by {s} {k} e n h m =
      let held : s.shut_b ≡ eqb (get_or b 26 0) 1 =
      ap (λ (s : Settings). s.shut_b) e ∙ ap (λ (x : ℕ). eqb x 1) (get_or-take 96 b 26 0 (omega arith)) in
      wrote_ctrl1 b v (ap (λ (t : Bool). t && is_shut_a v && not (is_shut_b v)) held) n
      (ap (λ (t : Bool). not t && not (is_shut_a v) && is_shut_b v) held)
      (m ∙ ap (λ (s : Settings). control_in s b) h)

  pub ctrl2_by : {k : Settings} {w : Shown} → k ≡ settings_with 0x05 v (settings_at (take 96 b))
      → w ≡ shown_with 0x05 v (shown_at (take 96 b)) → new ≡ drives_in k w b → Wrote 0x05 v b new
  unfolding settings_with shown_with
  ctrl2_by e h m =
      wrote_ctrl2 b v h
      (m ∙ ap₂ (λ (s : Settings) (w : Shown). drives_in s w b) e h
      ∙ ap (λ (w : Shown). driven_in v w b) (sym h))
