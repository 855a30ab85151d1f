-- Values laid at the start of a buffer, and what the calls answer. Assumes nothing.
use mathlib.Core.Path.{◌≡◌, refl, sym, ap, ◌∙◌, subst}
use mathlib.Core.List.{List, [], ◌∷◌, ◌++◌, map, append_assoc}
use Prim.Native.Nat.{ℕ, zero, suc, ◌+◌, ◌^◌, ◌<◌, ◌≤◌}
use native.Mathlib.Omega.{arith}
use native.Mathlib.Numerals.{add-one}
use lib.IntN.{ℤ, pos}
use lib.ListN.{length, get_or, take, drop, set, length-map, length-take, length-append, length-drop}
use lib.Seq.{drop-cons, take-suc, set_at, length-take-le}
use mir.Syntax.{w64}
use mir.Val.{to_z}
use mir.Facts.{to_z_pos}
use Rattle.events.specs.declared.Counts.{Counts}
use Rattle.events.specs.declared.Setup.{Setup}
use Rattle.events.specs.declared.BusEvent.{BusEvent}
use Rattle.events.specs.declared.BusEvent.TheVariants.{Start, Out, In, Stop}
use Rattle.records.specs.Record.{no_counts}
use Rattle.events.specs.declared.Event.{Event}
use Rattle.events.specs.declared.Event.TheVariants.{OnBus}
use Rattle.bits.specs.Numbers.{bit_of}
use Rattle.record_values.specs.Values.{values_for, setup_values, count_values}
use Rattle.record_values.specs.Named.{laid}

pub laid_one : (old : List ℤ) (v : ℤ) → 1 ≤ length old → set old 0 v ≡ laid (v ∷ []) old
laid_one [] v h = absurd (omega arith)
laid_one (x ∷ old) v h = refl

pub laid_two : (old : List ℤ) (v w : ℤ) → 2 ≤ length old → set (set old 0 v) 1 w ≡ laid (v ∷ w ∷ []) old
laid_two [] v w h = absurd (omega arith)
laid_two (x ∷ []) v w h = absurd (omega arith)
laid_two (x ∷ y ∷ old) v w h = refl

pub laid_six : (old : List ℤ) (a b c d e f : ℤ) → 6 ≤ length old → set (set (set (set (set (set old 0 a) 1 b) 2 c) 3 d) 4 e) 5 f ≡ laid (a ∷ b ∷ c ∷ d ∷ e ∷ f ∷ []) old
laid_six [] a b c d e f h = absurd (omega arith)
laid_six (u ∷ []) a b c d e f h = absurd (omega arith)
laid_six (u ∷ v ∷ []) a b c d e f h = absurd (omega arith)
laid_six (u ∷ v ∷ w ∷ []) a b c d e f h = absurd (omega arith)
laid_six (u ∷ v ∷ w ∷ x ∷ []) a b c d e f h = absurd (omega arith)
laid_six (u ∷ v ∷ w ∷ x ∷ y ∷ []) a b c d e f h = absurd (omega arith)
laid_six (u ∷ v ∷ w ∷ x ∷ y ∷ z ∷ old) a b c d e f h = refl

-- ── counts ──
pub counts_few : (k : Counts) → k.many ≤ 15 → length k.of ≡ 15 → k.many ≡ length (count_values k)
counts_few k h l = sym (length-map (take k.many k.of) pos ∙ length-take-le k.many k.of (omega arith))

pub counts_full : (k : Counts) → 15 < k.many → length k.of ≡ 15 → 15 ≡ length (count_values k)
counts_full k h l = omega (arith, length-map (take k.many k.of) pos, length-take k.many k.of)

-- the first i of them, and what stood there
abbrev pub laid_to : List ℕ → ℕ → List ℤ → List ℤ
laid_to of i old = map pos (take i of) ++ drop i old

map_snoc : (xs : List ℕ) (x : ℕ) → map pos (xs ++ (x ∷ [])) ≡ map pos xs ++ (pos x ∷ [])
map_snoc [] x = refl
map_snoc (y ∷ xs) x = ap (λ (l : List ℤ). pos y ∷ l) (map_snoc xs x)

pub laid_more : (of : List ℕ) (old : List ℤ) (i : ℕ) → i < length of → i < length old → get_or of i 0 < 2 ^ 63 → set (laid_to of i old) i (to_z w64 (get_or of i 0)) ≡ laid_to of (i + 1) old
laid_more of old i h k f =
    let l : length (map pos (take i of)) ≡ i = length-map (take i of) pos ∙ length-take-le i of (omega arith) in
    ap (λ (z : ℤ). set (laid_to of i old) i z) (to_z_pos w64 f)
    ∙ ap (λ (t : List ℤ). set (map pos (take i of) ++ t) i (pos (get_or of i 0))) (drop-cons old i (pos 0) k)
    ∙ set_at (map pos (take i of)) (get_or old i (pos 0)) (drop (suc i) old) (pos (get_or of i 0)) i l
    ∙ sym (append_assoc (map pos (take i of)) (pos (get_or of i 0) ∷ []) (drop (suc i) old))
    ∙ ap (λ (t : List ℤ). t ++ drop (suc i) old) (sym (map_snoc (take i of) (get_or of i 0)))
    ∙ ap (λ (t : List ℕ). map pos t ++ drop (suc i) old) (sym (take-suc of i 0 h))
    ∙ ap (λ (j : ℕ). map pos (take j of) ++ drop j old) (sym (add-one i))

pub laid_same : (of : List ℕ) (old new : List ℤ) (i : ℕ) → i ≤ length of → i ≤ length old → new ≡ laid_to of i old → length new ≡ length old
laid_same of old new i h k e =
    let l : length (map pos (take i of)) ≡ i = length-map (take i of) pos ∙ length-take-le i of h in
    let d : length (drop i old) ≡ _ = length-drop i old in
    omega (arith, ap length e, length-append (map pos (take i of)) (drop i old), l, d)

pub laid_all : (k : Counts) (old new : List ℤ) (n : ℕ) → length k.of ≡ 15 → n ≡ length (count_values k) → new ≡ laid_to k.of n old → new ≡ laid (count_values k) old
laid_all k old new n l q e = e ∙ ap (λ (t : List ℕ). map pos t ++ drop n old) (takes k.many k.of n (q ∙ length-map (take k.many k.of) pos)) ∙ ap (λ (j : ℕ). count_values k ++ drop j old) q
  where
    takes : (m : ℕ) (xs : List ℕ) (n : ℕ) → n ≡ length (take m xs) → take n xs ≡ take m xs
    takes zero xs n e = ap (λ (j : ℕ). take j xs) e
    takes (suc m) [] n e = ap (λ (j : ℕ). take j []) e
    takes (suc m) (x ∷ xs) zero e = absurd (omega (arith, e))
    takes (suc m) (x ∷ xs) (suc n) e = ap (λ (l : List ℕ). x ∷ l) (takes m xs n (omega (arith, e)))

-- ── an event's values, by its case ──
pub at_event : {e f : Event} (k : Counts) (old new : List ℤ) → e ≡ f → new ≡ laid (values_for f k) old → new ≡ laid (values_for e k) old
at_event k old new q w = subst (λ (e : Event). new ≡ laid (values_for e k) old) (sym q) w

pub at_room : {e f : Event} (k : Counts) (n : ℕ) → e ≡ f → length (values_for e k) ≤ n → length (values_for f k) ≤ n
at_room k n q h = subst (λ (e : Event). length (values_for e k) ≤ n) q h

-- the one value that was laid, from the number that the code made
pub laid_as : (old new : List ℤ) {v w : ℤ} → v ≡ w → new ≡ laid (v ∷ []) old → new ≡ laid (w ∷ []) old
laid_as old new q e = subst (λ (v : ℤ). new ≡ laid (v ∷ []) old) q e

pub laid_both : (old new : List ℤ) {v w x y : ℤ} → v ≡ w → x ≡ y → new ≡ laid (v ∷ x ∷ []) old → new ≡ laid (w ∷ y ∷ []) old
laid_both old new {w = w} {x = x} p q e = subst (λ (y : ℤ). new ≡ laid (w ∷ y ∷ []) old) q (subst (λ (v : ℤ). new ≡ laid (v ∷ x ∷ []) old) p e)

-- SETUP's values, as the code lays them
pub laid_setup : (v : Setup) (old : List ℤ) (crc : ℤ) → crc ≡ pos (bit_of v.crc) → v.part < 2 ^ 63 → v.address < 2 ^ 63 → v.gain_code < 2 ^ 63 → v.offset < 2 ^ 63 → v.floor < 2 ^ 63 → 6 ≤ length old
    → set (set (set (set (set (set old 0 (to_z w64 v.part)) 1 crc) 2 (to_z w64 v.address)) 3 (to_z w64 v.gain_code)) 4 (to_z w64 v.offset)) 5 (to_z w64 v.floor) ≡ laid (setup_values v) old
laid_setup v old crc e p a g o f h =
    laid_six old _ _ _ _ _ _ h ∙ rw (to_z_pos w64 p, e, to_z_pos w64 a, to_z_pos w64 g, to_z_pos w64 o, to_z_pos w64 f)

-- a bus event has no counts
pub bus_values : (b : BusEvent) (k : Counts) → length (values_for (OnBus b) no_counts) ≡ length (values_for (OnBus b) k)
bus_values Start k = refl
bus_values (Out b) k = refl
bus_values (In t) k = refl
bus_values Stop k = refl

pub bus_laid : (b : BusEvent) (k : Counts) → values_for (OnBus b) no_counts ≡ values_for (OnBus b) k
bus_laid Start k = refl
bus_laid (Out b) k = refl
bus_laid (In t) k = refl
bus_laid Stop k = refl
