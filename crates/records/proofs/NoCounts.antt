-- The counts that a derive makes are none. Assumes nothing.
use Rattle.std.specs.Prelude.{◌≡◌, ℕ, List, replicate}
use Rattle.std.specs.Array.{AllOfLen}
use Rattle.std.proofs.Common.{ap₂, sym, ◌∙◌, arith}
use Rattle.std.proofs.lemmas.Grind.{same_number_lists}
use Rattle.std.proofs.lemmas.List.{get_or-replicate}
use Rattle.events.specs.declared.Counts.{Counts}
use Rattle.records.specs.Record.{no_counts}

pub none_made : (k : Counts) → k.many ≡ 0 → AllOfLen (λ x. x ≡ 0) k.of 15 → k ≡ no_counts
none_made k m z =
    ap₂ (λ (n : ℕ) (l : List ℕ). counts n l) m
    (same_number_lists k.of (replicate 15 0) z.long
    (λ i h. z.at i 0 (omega (arith, z.long)) ∙ sym (get_or-replicate 15 i 0 0 (omega (arith, z.long)))))
  where
    counts : ℕ → List ℕ → Counts
    counts n l = record { many = n; of = l }
