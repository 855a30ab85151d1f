-- What is known of an event that was taken apart, put to use.
-- Assumes nothing.
use mathlib.Core.Path.{◌≡◌, refl, ap, sym, ◌∙◌}
use Prim.Native.Nat.{ℕ}
use mathlib.Core.List.{List}
use mathlib.Core.Bool.{Bool, true, false, ◌&&◌, and-true}
use lib.Dec.{leb, eqb}
use borrow.Author.Tests.{ne_eqb, eq-eqb}
use Rattle.events.specs.declared.Setup.{Setup}
use Rattle.events.specs.declared.Counts.{Counts}
use Rattle.events.specs.Role.{role_of, makes_is}
use Rattle.events.specs.declared.Role.{Role}
use Rattle.events.specs.declared.Role.TheVariants.{Makes, Happens}
use Rattle.events.specs.declared.Event.{Event}
use Rattle.events.specs.declared.Event.TheVariants.{Setup as SetupEvent}
use Rattle.bits.specs.Numbers.{bit_of}
use Rattle.records.specs.Record.{setup_good}
use Rattle.writer.specs.Write.{value_refusal, refusal_for, Writes, Puts}
use Rattle.writer.specs.CheckedLaws.{refusal_at}
use Rattle.writer.proofs.CheckedLaws.{refusal_is}
use Rattle.writer.specs.Write.{Wrote}
use Rattle.constants.specs.Answer.{refuses}

-- a switch is always 0 or 1
bit_fits : (t : Bool) → leb (bit_of t) 1 ≡ true
bit_fits true = refl
bit_fits false = refl

pub good_is : (v : Setup) → leb 1 v.part && leb v.part 3 && leb 0x08 v.address && leb v.address 0x77 && leb v.gain_code 31 && leb v.floor 4095 && eqb v.cells 0 ≡ setup_good v
good_is v =
    let e : leb 1 v.part && leb v.part 3 && leb (bit_of v.crc) 1 ≡ leb 1 v.part && leb v.part 3 =
    ap (λ (t : Bool). leb 1 v.part && leb v.part 3 && t) (bit_fits v.crc) ∙ and-true (leb 1 v.part && leb v.part 3) in
    ap (λ (t : Bool). t && leb 0x08 v.address && leb v.address 0x77 && leb v.gain_code 31 && leb v.floor 4095 && eqb v.cells 0) (sym e)

-- by what the event's record does, which was found to be x
module _ (e : Event) (k : Counts) (part : ℕ) {x : Role} (q : x ≡ role_of e) where
  pub at_refusal : {r : ℕ} → x ≡ Happens → r ≡ refusal_at e k part → r ≡ refusal_for e k part
  at_refusal w p = p ∙ refusal_is e k part (sym q ∙ w)

  -- SETUP's number says nothing of the part that stands
  pub at_setup : {r : ℕ} (v : Setup) → x ≡ Makes v → r ≡ refusal_for (SetupEvent v) k 0 → r ≡ refusal_for e k part
  unfolding refusal_for value_refusal
  at_setup v w p = p ∙ ap (λ (e : Event). refusal_for e k part) (sym (makes_is e v (sym q ∙ w)))

-- an event that is refused, and one that is not
pub refused_puts : (k j : ℕ) (bytes old : List ℕ) → j ≡ k → (j ≡ 0 → ⊥) → Puts k bytes old (refuses j) old
refused_puts k j bytes old e h = rw (← e) (record { answer = simp (ne_eqb j 0 h); contents = simp (ne_eqb j 0 h) })

pub taken_puts : (k j : ℕ) (bytes old : List ℕ) (r : Wrote) (new : List ℕ) → j ≡ k → j ≡ 0 → Writes bytes old r new → Puts k bytes old r new
taken_puts k j bytes old r new e h w = rw (← e) (record { answer = simp (eq-eqb j 0 h) w.answer; contents = simp (eq-eqb j 0 h) w.contents })
