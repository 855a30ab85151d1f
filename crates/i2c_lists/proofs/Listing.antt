-- The loop that writes a list: each word's events, and STOP after the last. Assumes nothing.
use mathlib.Core.Path.{◌≡◌, refl, ap, sym, ◌∙◌, subst}
use Prim.Native.Nat.{ℕ, zero, suc, ◌+◌, ◌-◌, ◌<◌, ◌≤◌, ◌^◌}
use mathlib.Core.List.{List, [], ◌∷◌, ◌++◌, append_assoc}
use mathlib.Core.Bool.{Bool, true, false, ◌&&◌}
use native.Mathlib.Omega.{arith}
use lib.Dec.{eqb}
use lib.IntN.{ℤ, pos, neg_ℤ, ◌-ℤ◌, +ℤ_idl}
use lib.ListN.{length, take, drop}
use lib.Seq.{sets, sets-eq, length-sets}
use mir.Syntax.{w64}
use mir.Val.{SFits, to_z, of_z}
use mir.Facts.{to_z_pos, to_z-of_z}
use borrow.Author.Tests.{eq-eqb, ne_eqb}
use Rattle.writer.specs.Write.{written_of}
use Rattle.events.specs.declared.BusEvent.{BusEvent}
use Rattle.events.specs.declared.BusEvent.TheVariants.{Stop}
use Rattle.i2c_words.specs.Reader.{word_of}
use Rattle.i2c_words.specs.declared.Word.{Word}
use Rattle.i2c_lists.specs.Reader.{word_length, words_in, words_at, list_in}
use Rattle.i2c_lists.specs.CuttingLaws.{words_all, words_none}
use Rattle.i2c_lists.specs.Records.{records_of, bytes_of, number_for, Taken}
use Rattle.i2c_lists.specs.WordingLaws.{on_word, on_words, near_word}
use Rattle.i2c_lists.proofs.WordingLaws.{near_words}
use Rattle.i2c_lists.proofs.NumberingLaws.{Accepted, accepted}
use Rattle.i2c_lists.specs.Putting.{Puts}
use Rattle.i2c_lists.proofs.Steps.{turn, turn_within}
use Rattle.i2c_lists.proofs.Writing.{Putting, putting_none, putting_room, putting_more, putting_end}

abbrev pub togo : List ℕ → ℕ → List BusEvent
togo line at = on_words (words_at line at) ++ (Stop ∷ [])

pub record Listing (line old out : List ℕ) (next at : ℕ) : Type 0 where
  pub inside : at ≤ length line + 1
  pub near : near_words (words_at line at) ≡ true
  pub fits : 0 + length (records_of (togo line 0)) ≤ length old
  pub puts : Putting (togo line 0) 0 old out next (togo line at)

pub listing_none : (line old : List ℕ) → number_for (list_in line) (length old) ≡ 0 → Listing line old old 0 0
listing_none line old h =
    let a : Accepted line (length old) = accepted line (length old) h in
    let e : words_in line ≡ words_at line 0 = sym (words_all line) in
    let b : length (records_of (on_words (words_in line) ++ (Stop ∷ []))) ≤ length old = subst (λ (l : List ℕ). length l ≤ length old) a.bytes a.fits in
    let f : length (records_of (togo line 0)) ≤ length old = subst (λ (xs : List Word). length (records_of (on_words xs ++ (Stop ∷ []))) ≤ length old) e b in
    record { inside = omega arith; near = subst (λ (xs : List Word). near_words xs ≡ true) e a.near; fits = omega arith; puts = putting_none (togo line 0) 0 old }

first_near : (t u : Bool) → t && u ≡ true → (t ≡ true) × (u ≡ true)
first_near true true h = (refl, refl)
first_near true false h = absurd (let z : ◌≡◌ {A = ℕ} 0 1 = cc in omega arith)
first_near false u h = absurd (let z : ◌≡◌ {A = ℕ} 0 1 = cc in omega arith)

module _ {line old out : List ℕ} {next at : ℕ} (g : Listing line old out next at) where
  module _ (end : ℕ) (h : at ≤ length line) (e : end ≡ at + word_length (drop at line)) (x : Word) (w : x ≡ word_of (take (end - at) (drop at line))) where
    words : words_at line at ≡ x ∷ words_at line (end + 1)
    words = turn line at end h e ∙ ap (λ (y : Word). y ∷ words_at line (end + 1)) (sym w)

    events : togo line at ≡ on_word x ++ togo line (end + 1)
    events = ap (λ (xs : List Word). on_words xs ++ (Stop ∷ [])) words ∙ append_assoc (on_word x) (on_words (words_at line (end + 1))) (Stop ∷ [])

    nears : (near_word x ≡ true) × (near_words (words_at line (end + 1)) ≡ true)
    nears = first_near (near_word x) (near_words (words_at line (end + 1))) (subst (λ (xs : List Word). near_words xs ≡ true) words g.near)

    pub listing_asks : (next + length (records_of (on_word x)) ≤ length out) × (near_word x ≡ true)
    listing_asks = (putting_room g.puts g.fits (on_word x) (togo line (end + 1)) events, nears.0)

    pub listing_more : (after : ℕ) (new : List ℕ) → Puts (on_word x) next out after new → Listing line old new after (end + 1)
    listing_more after new p =
        record {
          inside = omega (arith, (turn_within line at end h e).1);
          near = nears.1;
          fits = g.fits;
          puts = putting_more g.puts (on_word x) (togo line (end + 1)) after new events p;
        }

  module _ (h : length line < at) where
    stop : togo line at ≡ (Stop ∷ []) ++ []
    stop = ap (λ (xs : List Word). on_words xs ++ (Stop ∷ [])) (words_none line at h)

    pub listing_room : next + length (records_of (Stop ∷ [])) ≤ length out
    listing_room = putting_room g.puts g.fits (Stop ∷ []) [] stop

    pub listing_end : (r : ℕ) (new : List ℕ) → Puts (Stop ∷ []) next out r new → Puts (togo line 0) 0 old r new
    listing_end r new p = putting_end (putting_more g.puts (Stop ∷ []) [] r new stop p) refl

pub puts_length : {es : List BusEvent} {at r : ℕ} {old new : List ℕ} → Puts es at old r new → length new ≡ length old
puts_length {es} {at} {r} {old} {new} p = ap length p.wrote ∙ length-sets old at (records_of es)

-- ── the call: refused, or taken whole ──
-- minus a number of a byte
minus : (n : ℕ) → n ≤ 255 → pos 0 -ℤ to_z w64 n ≡ neg_ℤ (pos n)
minus n h = ap (λ (z : ℤ). pos 0 -ℤ z) (to_z_pos w64 {n = n} (omega arith)) ∙ +ℤ_idl (neg_ℤ (pos n))

small : (n : ℕ) → n ≤ 255 → SFits w64 (neg_ℤ (pos n))
small zero h = record { sfits = omega arith }
small (suc n) h = record { sfits = omega arith }

pub minus_fits : (n : ℕ) → n ≤ 255 → SFits w64 (pos 0 -ℤ to_z w64 n)
minus_fits n h = subst (SFits w64) (sym (minus n h)) (small n h)

pub minus_is : (n : ℕ) → n ≤ 255 → to_z w64 (of_z w64 (pos 0 -ℤ to_z w64 n)) ≡ neg_ℤ (pos n)
minus_is n h = to_z-of_z {w = w64} (minus_fits n h) ∙ minus n h

module _ (line old : List ℕ) (n : ℕ) (e : n ≡ number_for (list_in line) (length old)) where
  pub taken_none : (z : ℤ) → (n ≡ 0 → ⊥) → z ≡ neg_ℤ (pos n) → Taken line old z old
  taken_none z h q =
      let t : eqb (number_for (list_in line) (length old)) 0 ≡ false = ne_eqb (number_for (list_in line) (length old)) 0 (λ w. h (e ∙ w)) in
      record { answer = simp t (q ∙ ap (λ (k : ℕ). neg_ℤ (pos k)) e); contents = simp t }

  pub taken_zero : n ≡ 0 → number_for (list_in line) (length old) ≡ 0
  taken_zero z = sym e ∙ z

module _ (line old : List ℕ) (r : ℕ) (new : List ℕ) (z : number_for (list_in line) (length old) ≡ 0) (p : Puts (togo line 0) 0 old r new) where
  bytes_are : bytes_of (list_in line) ≡ records_of (togo line 0)
  bytes_are = (accepted line (length old) z).bytes ∙ ap (λ (xs : List Word). records_of (on_words xs ++ (Stop ∷ []))) (sym (words_all line))

  many : r ≡ length (bytes_of (list_in line))
  many = let l : length (bytes_of (list_in line)) ≡ length (records_of (togo line 0)) = ap length bytes_are in omega (arith, p.next)

  pub taken_fits : r ≤ length old
  taken_fits = omega (arith, many, (accepted line (length old) z).fits)

  filled : new ≡ written_of (bytes_of (list_in line)) old
  filled =
      let b : List ℕ = bytes_of (list_in line) in
      let f : 0 + length b ≤ length old = omega (arith, (accepted line (length old) z).fits) in
      let d : 0 + length b ≡ length b = omega arith in
      p.wrote ∙ ap (sets old 0) (sym bytes_are) ∙ sets-eq b old 0 f ∙ ap (λ (k : ℕ). b ++ drop k old) d

  pub taken_all : length old < 2 ^ 63 → Taken line old (to_z w64 r) new
  taken_all h =
      let t : eqb (number_for (list_in line) (length old)) 0 ≡ true = eq-eqb (number_for (list_in line) (length old)) 0 z in
      record { answer = simp t (to_z_pos w64 (omega (arith, taken_fits)) ∙ ap pos many); contents = simp t filled }
