-- CHIP O2: any two answers that reading a kept chip may give are the same, and so is what they leave. Assumes nothing.
use Rattle.std.specs.Prelude.{◌≡◌, Bool, true, false, List, ◌∷◌, ℕ, Float, length, drop}
use Rattle.std.proofs.Common.{sym, ap, ◌∙◌}
use Rattle.values.specs.SameLaws.{same_reading}
use Rattle.values.specs.declared.Reading.{Reading}
use Rattle.chip.specs.declared.Chip.{Chip}
use Rattle.stream.specs.Forecast.{Contents}
use Rattle.chip_bytes_layout.specs.Kept.{Kept}
use Rattle.chip_c.specs.Asked.{is_read, ReadOf}

same_contents : (t : Bool) (c : Chip) (old new other : List Float) → Contents t c old new → Contents t c old other → new ≡ other
same_contents true c old new other p q =
    p.wrote
    ∙ ap (λ (r : Reading). r.least ∷ r.greatest ∷ r.total ∷ r.cc ∷ drop 4 old) (same_reading p.reading q.reading p.is q.is)
    ∙ sym q.wrote
same_contents false c old new other p q = p ∙ sym q

pub same_read_of : {k : Kept} {old new other : List Float} {r t : ℕ} → ReadOf k old r new → ReadOf k old t other → (r ≡ t) × (new ≡ other)
same_read_of {k} {old} {new} {other} p q =
    (p.answer ∙ sym q.answer, same_contents (is_read k (length old)) k.chip old new other p.contents q.contents)
