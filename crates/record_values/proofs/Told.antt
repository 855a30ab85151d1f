-- What naming an event answers, by the room. Assumes nothing.
use mathlib.Core.Path.{◌≡◌, ap, ◌∙◌}
use mathlib.Core.Bool.{true, false}
use mathlib.Core.List.{List}
use Prim.Native.Nat.{ℕ, ◌<◌, ◌≤◌}
use native.Mathlib.Omega.{arith}
use lib.Dec.{leb}
use lib.IntN.{ℤ, pos, negsuc}
use lib.ListN.{length}
use borrow.Author.Tests.{le-leb, lt-leb}
use Rattle.constants.specs.Answer.{gives}
use Rattle.events.specs.declared.Counts.{Counts}
use Rattle.events.specs.declared.Event.{Event}
use Rattle.writer.specs.Write.{kind_for}
use Rattle.record_values.specs.Values.{values_for}
use Rattle.record_values.specs.Named.{laid, named, Names}

module _ (e : Event) (k : Counts) (oldkind : ℕ) (old : List ℤ) (n : ℕ) (q : n ≡ length (values_for e k)) where
  pub named_short : length old < n → Names (gives (named e k)) oldkind old (negsuc 4) oldkind old
  named_short h =
      let t : leb (length (values_for e k)) (length old) ≡ false = lt-leb (length (values_for e k)) (length old) (omega arith) in
      record { answer = simp t; kind = simp t; contents = simp t }

  pub named_full : n ≤ length old → (z : ℤ) → z ≡ pos n → (newkind : ℕ) → newkind ≡ kind_for e → (new : List ℤ) → new ≡ laid (values_for e k) old → Names (gives (named e k)) oldkind old z newkind new
  named_full h z ez newkind ek new w =
      let t : leb (length (values_for e k)) (length old) ≡ true = le-leb (length (values_for e k)) (length old) (omega arith) in
      record { answer = simp t (ez ∙ ap pos q); kind = simp t ek; contents = simp t w }
