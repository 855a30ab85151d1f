-- The call by its tests: the chip's room, its bytes, the room of the entries. Assumes nothing.
use mathlib.Core.Path.{◌≡◌, refl, sym, ap, ap₂, ◌∙◌, subst}
use mathlib.Core.Bool.{Bool, true, false, cond, true≢false}
use mathlib.Core.List.{List}
use Prim.Native.Nat.{ℕ, ◌*◌, ◌/◌, ◌^◌, ◌<◌, ◌≤◌}
use native.Mathlib.Omega.{arith}
use lib.Dec.{leb, ltb}
use lib.IntN.{ℤ, pos, negsuc}
use lib.ListN.{length, take}
use mir.Syntax.{w64}
use mir.Val.{to_z}
use mir.Facts.{to_z_pos}
use borrow.Author.Tests.{ltb-true, ltb-false, lt-ltb, le-ltb, lt-leb, le-leb}
use Rattle.chip.specs.declared.Chip.{Chip}
use Rattle.chip.specs.Calm.{Calmed}
use Rattle.stream_run.specs.declared.Left.{Left}
use Rattle.stream_run.specs.Stream.{Ran}
use Rattle.turn.specs.Frames.{frames_from}
use Rattle.turn.specs.CountedLaws.{entries_from_count}
use Rattle.turn.proofs.Runs.{entered_all}
use Rattle.chip_bytes_layout.specs.Kept.{Kept}
use Rattle.chip_bytes_layout.specs.Layout.{no_chip, kept_at, kept_of, kept_in}
use Rattle.chip_bytes_layout.proofs.OneLaws.{kept_stood}
use Rattle.feed.specs.Fed.{entries_of, all_fit, answer_by, feeds_by, chip_after, entries_after, Fed}
use Rattle.feed.specs.KeptLaws.{stood_calm}

-- so many entries do not fit where a fifth of the room is less
pub lacks_by : (n room : ℕ) → ltb (room / 5) n ≡ ltb room (5 * n)
lacks_by n room = by (ltb (room / 5) n) refl
  where
    by : (t : Bool) → ltb (room / 5) n ≡ t → t ≡ ltb room (5 * n)
    by true e = let h : room / 5 < n = ltb-true (room / 5) n e in sym (lt-ltb room (5 * n) (omega arith))
    by false e = let h : n ≤ room / 5 = ltb-false (room / 5) n e in sym (le-ltb room (5 * n) (omega arith))

pub fed_short : (b s old : List ℕ) → length b < 96 → Fed b s old (negsuc 4) b old
fed_short b s old h = let t : ltb (length b) 96 ≡ true = lt-ltb (length b) 96 h in record { answer = simp t; kept = simp t; contents = simp t }

-- whichever is kept
module _ (k : Kept) (b s : List ℕ) (room : ℕ) (wide : ltb (length b) 96 ≡ false) where
  bad_answer : k.good ≡ false → negsuc 25 ≡ answer_by k b s room
  bad_answer g = simp (wide, g)

  bad_feeds : k.good ≡ false → feeds_by k b s room ≡ false
  bad_feeds g = simp (wide, g)

  full_answer : k.good ≡ true → all_fit k s room ≡ false → negsuc 4 ≡ answer_by k b s room
  full_answer g t = simp (wide, g, t)

  full_feeds : k.good ≡ true → all_fit k s room ≡ false → feeds_by k b s room ≡ false
  full_feeds g t = simp (wide, g, t)

  pub done_answer : k.good ≡ true → all_fit k s room ≡ true → pos (length (entries_of k s)) ≡ answer_by k b s room
  done_answer g t = simp (wide, g, t)

  pub done_feeds : k.good ≡ true → all_fit k s room ≡ true → feeds_by k b s room ≡ true
  done_feeds g t = simp (wide, g, t)

-- neither buffer changed
same_by : (b s old : List ℕ) {r : ℤ} → r ≡ answer_by (kept_of b) b s (length old) → feeds_by (kept_of b) b s (length old) ≡ false → Fed b s old r b old
same_by b s old a unfed =
    record {
      answer = a;
      kept = ap (λ (t : Bool). cond t (chip_after (kept_of b) s b) b) (sym unfed);
      contents = ap (λ (t : Bool). cond t (entries_after (kept_of b) s old) old) (sym unfed);
    }

calm_by : (b : List ℕ) (t : Bool) → (cond t no_chip (kept_at (take 96 b))).good ≡ true → Calmed (cond t no_chip (kept_at (take 96 b))).chip
calm_by b true g = absurd (true≢false (sym g))
calm_by b false g = stood_calm (kept_stood (take 96 b) g)

module _ (b : List ℕ) (d : Kept) (q : d ≡ kept_of b) where
  pub kept_calm : d.good ≡ true → Calmed d.chip
  kept_calm g =
      subst (λ (k : Kept). Calmed k.chip) (sym q) (calm_by b (ltb (length b) 96) (ap (λ (k : Kept). k.good) (sym q) ∙ g))

  module _ (s old : List ℕ) (room : 96 ≤ length b) where
    wide : ltb (length b) 96 ≡ false
    wide = le-ltb (length b) 96 room

    pub fed_bad : d.good ≡ false → Fed b s old (negsuc 25) b old
    fed_bad g =
        let bad : (kept_of b).good ≡ false = ap (λ (k : Kept). k.good) (sym q) ∙ g in
        same_by b s old (bad_answer (kept_of b) b s (length old) wide bad) (bad_feeds (kept_of b) b s (length old) wide bad)

    module _ (n : ℕ) (g : d.good ≡ true) (e : n ≡ frames_from d.chip.setup.part s) where
      good : (kept_of b).good ≡ true
      good = ap (λ (k : Kept). k.good) (sym q) ∙ g

      count : n ≡ length (entries_of (kept_of b) s)
      count = e ∙ sym (entries_from_count d.fresh d.chip s) ∙ ap (λ (k : Kept). length (entries_of k s)) q

      pub fed_full : ltb (length old) (5 * n) ≡ true → Fed b s old (negsuc 4) b old
      fed_full h =
          let t : all_fit (kept_of b) s (length old) ≡ false =
          ap (λ (n : ℕ). leb (5 * n) (length old)) (sym count) ∙ lt-leb (5 * n) (length old) (ltb-true (length old) (5 * n) h) in
          same_by b s old (full_answer (kept_of b) b s (length old) wide good t) (full_feeds (kept_of b) b s (length old) wide good t)

      pub fed_done : ltb (length old) (5 * n) ≡ false → length old < 2 ^ 63 → (left : Left) (new chip : List ℕ) → Ran d.fresh d.chip s old left new
          → chip ≡ kept_in left.chip left.fresh b → Fed b s old (to_z w64 n) chip new
      fed_done h m left new chip r k =
          let c : n ≡ length (entries_of (kept_of b) s) = count in
          let l : length (entries_of d s) ≡ n = entries_from_count d.fresh d.chip s ∙ sym e in
          let room : 5 * n ≤ length old = ltb-false (length old) (5 * n) h in
          let t : all_fit (kept_of b) s (length old) ≡ true = ap (λ (n : ℕ). leb (5 * n) (length old)) (sym c) ∙ le-leb (5 * n) (length old) room in
          let yes : feeds_by (kept_of b) b s (length old) ≡ true = done_feeds (kept_of b) b s (length old) wide good t in
          record {
            answer = to_z_pos w64 (omega arith) ∙ ap pos c ∙ done_answer (kept_of b) b s (length old) wide good t;
            kept =
                k ∙ ap₂ (λ (c : Chip) (f : Bool). kept_in c f b) r.chip r.fresh ∙ ap (λ (k : Kept). chip_after k s b) q
                ∙ ap (λ (t : Bool). cond t (chip_after (kept_of b) s b) b) (sym yes);
            contents =
                r.wrote ∙ entered_all old (entries_of d s) (omega arith) ∙ ap (λ (k : Kept). entries_after k s old) q
                ∙ ap (λ (t : Bool). cond t (entries_after (kept_of b) s old) old) (sym yes);
          }
