-- The entries of a stream are as many as its records up to the cut or the refused first one: no made-up count. Assumes nothing.
use Rattle.std.specs.Prelude.{◌≡◌, refl, Bool, true, false, cond, ◌≢◌, List, [], ◌∷◌, eqb, ltb, length, take, drop}
use Rattle.std.proofs.Math.Path.{ap, sym}
use Rattle.std.proofs.Common.{◌∙◌, arith, eq-eqb, ne_eqb, ltb-false, eqb-true}
use Prim.Native.Nat.{ℕ, zero, suc, ◌+◌, ◌-◌, ◌≤◌}
use Rattle.std.proofs.lemmas.Bool.{eqb-false}
use Rattle.events.specs.declared.Setup.{Setup as SetupValues}
use Rattle.events.specs.declared.Counts.{Counts}
use Rattle.events.specs.declared.Event.{Event}
use Rattle.events.specs.declared.Event.TheVariants.{Setup, Por, Boot, Scan, Temp, Count, Sense, Pin, Load, Xready, OnBus, Level, Ticks}
use Rattle.events.specs.declared.Event.TheVariants.{Soak, Wires}
use Rattle.events.specs.Setup.{with_cells}
use Rattle.std.specs.Prelude.{Ok, Err}
use Rattle.records.specs.declared.Read.{Read}
use Rattle.records.specs.declared.Read.TheVariants.{Record, Refused, Cut}
use Rattle.bits.specs.Numbers.{le16}
use Rattle.records.specs.Frame.{frame_of}
use Rattle.records.specs.Record.{Payload, setup_good, payload_of, as_read, read_of, counts_beside}
use Rattle.records.specs.SoundLaws.{IsSetup, first_setup}
use Rattle.chip.specs.declared.Chip.{Chip}
use Rattle.chip.specs.Chip.{in_ship}
use Rattle.turn.specs.Turn.{Turn, none, born_of, acted, stays_fresh, turned, turn_of}
use Rattle.turn.specs.Entries.{runs, entries, entries_from}
use Rattle.turn.specs.Frames.{frames, frames_after, frames_of, frames_from}
use Rattle.turn.specs.StandingLaws.{acted_keeps, good_part}

-- ── the frame of what was read ──
abbrev pub Framed : List ℕ → Read → Type 0
Framed r (Record e next) = (frame_of r ≡ next) × (4 ≤ next) × (next ≤ length r)
Framed r (Refused k next) = (frame_of r ≡ next) × (4 ≤ next) × (next ≤ length r)
Framed r Cut = frame_of r ≡ 0

framed_as : (r : List ℕ) (n : ℕ) (p : Payload) → frame_of r ≡ n → 4 ≤ n → n ≤ length r → Framed r (as_read n p)
framed_as r n (Ok e) f a b = (f, a, b)
framed_as r n (Err why) f a b = (f, a, b)

framed_by : (part : ℕ) (r : List ℕ) (t u : Bool) → ltb (length r) 4 ≡ t → ltb (length r - 4) (le16 r 0) ≡ u → Framed r (read_of part r)
unfolding read_of frame_of
framed_by part r true u et eu = simp et
framed_by part r false true et eu = simp (et, eu)
framed_by part r false false et eu =
    let a : 4 ≤ length r = ltb-false _ _ et in
    let b : le16 r 0 ≤ length r - 4 = ltb-false _ _ eu in
    let f : frame_of r ≡ 4 + le16 r 0 = simp (et, eu) in
    simp (et, eu) (framed_as r (4 + le16 r 0) (payload_of (le16 r 2) part (take (le16 r 0) (drop 4 r))) f (omega arith) (omega arith))

pub framed : (part : ℕ) (r : List ℕ) → Framed r (read_of part r)
framed part r = framed_by part r (ltb (length r) 4) (ltb (length r - 4) (le16 r 0)) refl refl

-- a frame that is not cut is past its header and within the bytes
pub frame_place : (r : List ℕ) → frame_of r ≢ 0 → (4 ≤ frame_of r) × (frame_of r ≤ length r)
frame_place r h = by (read_of 0 r) (framed 0 r)
  where
    by : (x : Read) → Framed r x → (4 ≤ frame_of r) × (frame_of r ≤ length r)
    by (Record e next) f = (omega (arith, f.0, f.1), omega (arith, f.0, f.2))
    by (Refused k next) f = (omega (arith, f.0, f.1), omega (arith, f.0, f.2))
    by Cut f = absurd (h f)

-- ── once a part stands, there is an entry for each frame ──
abbrev Stands : Chip → Type 0
Stands c = c.setup.part ≢ 0

-- a turn's entry and what follows it, by what was read
module _ (f : ℕ) (o : Bool) (c : Chip) (r : List ℕ) (p : Stands c)
    (ih : (o : Bool) (c : Chip) (s : List ℕ) → Stands c → length (runs f o c s) ≡ frames f s) where
  after : Turn → ℕ
  after t = suc (length (cond t.last [] (runs f t.fresh t.chip (drop t.next r))))

  abbrev frames_now : ℕ
  frames_now = suc (cond (eqb (frame_of r) 0) 0 (frames f (drop (frame_of r) r)))

  past : (n : ℕ) → frame_of r ≡ n → 4 ≤ n → frames_now ≡ suc (frames f (drop n r))
  past n e h = ap (λ (k : ℕ). suc (cond (eqb k 0) 0 (frames f (drop k r)))) e ∙ simp (ne_eqb n 0 (λ z. omega arith))

  turn_frames : (x : Read) → read_of c.setup.part r ≡ x → Framed r x → after (turned o c r x) ≡ frames_now
  unfolding after
  turn_frames (Record e next) q g =
      let k : Counts = counts_beside r (Record e next) in
      let u : with_cells 0 (acted o e k c).chip.setup ≡ with_cells 0 c.setup = acted_keeps o c r e next p q in
      ap suc (ih (stays_fresh o c (acted o e k c)) (acted o e k c).chip (drop next r)
      (λ z. p (ap (λ (v : SetupValues). v.part) (sym u) ∙ z))) ∙ sym (past next g.0 g.1)
  turn_frames (Refused k next) q g =
      simp (ne_eqb c.setup.part 0 p) (ap suc (ih o c (drop next r) p) ∙ sym (past next g.0 g.1))
  turn_frames Cut q g = sym (ap (λ (k : ℕ). suc (cond (eqb k 0) 0 (frames f (drop k r)))) g)

pub frames_are : (f : ℕ) (o : Bool) (c : Chip) (s : List ℕ) → Stands c → length (runs f o c s) ≡ frames f s
unfolding turn_of after
frames_are zero o c s p = refl
frames_are (suc f) o c [] p = refl
frames_are (suc f) o c (b ∷ s) p =
    turn_frames f o c (b ∷ s) p (λ o c s p. frames_are f o c s p) (read_of c.setup.part (b ∷ s)) refl (framed c.setup.part (b ∷ s))

-- ── the first record ──
part_stands : (v : SetupValues) → setup_good v ≡ true → v.part ≢ 0
part_stands v h z = omega (arith, (good_part v h).0, z)

first_frames : (o : Bool) (c : Chip) (b : ℕ) (s : List ℕ) → c.setup.part ≡ 0 → (x : Read) → read_of 0 (b ∷ s) ≡ x
    → length ((turned o c (b ∷ s) x).entry ∷ cond (turned o c (b ∷ s) x).last []
    (runs (length s) (turned o c (b ∷ s) x).fresh (turned o c (b ∷ s) x).chip (drop (turned o c (b ∷ s) x).next (b ∷ s))))
    ≡ frames_after (b ∷ s) x
unfolding acted
first_frames o c b s p (Record e next) q =
    let n : length s ≡ length (b ∷ s) - 1 = omega arith in
    by e (first_setup (b ∷ s) e next q) ∙ ap (λ (k : ℕ). suc (frames k (drop next (b ∷ s)))) n
  where
    by : (e : Event) → IsSetup e
        → suc (length (runs (length s) (stays_fresh o c (acted o e (counts_beside (b ∷ s) (Record e next)) c))
        (acted o e (counts_beside (b ∷ s) (Record e next)) c).chip (drop next (b ∷ s)))) ≡ suc (frames (length s) (drop next (b ∷ s)))
    by (Setup v) g = ap suc (frames_are (length s) (stays_fresh o c (born_of v)) (in_ship v) (drop next (b ∷ s)) (part_stands v g))
    by Por g = absurd g
    by Boot g = absurd g
    by Scan g = absurd g
    by Temp g = absurd g
    by (Count n) g = absurd g
    by (Sense v) g = absurd g
    by Pin g = absurd g
    by (Load l) g = absurd g
    by Xready g = absurd g
    by (OnBus x) g = absurd g
    by (Level l) g = absurd g
    by (Ticks v n) g = absurd g
    by (Soak v n) g = absurd g
    by (Wires n) g = absurd g
first_frames o c b s p (Refused k next) q =
    ap (λ (t : Bool). suc (length (cond t [] (runs (length s) o c (drop next (b ∷ s)))))) (eq-eqb c.setup.part 0 p)
first_frames o c b s p Cut q = refl

frames_first : (o : Bool) (c : Chip) (s : List ℕ) → c.setup.part ≡ 0 → length (runs (length s) o c s) ≡ frames_of s
unfolding frames_of turn_of
frames_first o c [] p = refl
frames_first o c (b ∷ s) p =
    ap (λ (x : Read). length ((turned o c (b ∷ s) x).entry ∷ cond (turned o c (b ∷ s) x).last []
    (runs (length s) (turned o c (b ∷ s) x).fresh (turned o c (b ∷ s) x).chip (drop (turned o c (b ∷ s) x).next (b ∷ s)))))
    (ap (λ (n : ℕ). read_of n (b ∷ s)) p)
    ∙ first_frames o c b s p (read_of 0 (b ∷ s)) refl

-- THE COUNT: how many entries there are, from the framing and the first record alone
pub entries_count : (s : List ℕ) → length (entries s) ≡ frames_of s
unfolding entries
entries_count s = frames_first false none s refl

-- .. of a run from any chip, by its part alone
pub entries_from_count : (o : Bool) (c : Chip) (s : List ℕ) → length (entries_from o c s) ≡ frames_from c.setup.part s
unfolding entries_from frames_from
entries_from_count o c s = by (eqb c.setup.part 0) refl
  where
    by : (t : Bool) → eqb c.setup.part 0 ≡ t → length (runs (length s) o c s) ≡ cond t (frames_of s) (frames (length s) s)
    by true e = frames_first o c s (eqb-true c.setup.part 0 e)
    by false e = frames_are (length s) o c s (eqb-false c.setup.part 0 e)
