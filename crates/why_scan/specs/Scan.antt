-- CHIP P17: what a scan says of OV or UV: one verdict, the lowest input outside, and its count. Assumes nothing.
use Rattle.std.specs.Prelude.{Bool, false, cond, ◌&&◌, List, [], ◌∷◌, ℕ, suc, ◌-◌, leb, ltb, get_or}
use Rattle.why_scan.specs.declared.Says.{Says}

-- ── the lowest input outside ──
-- above the line (CHIP J2), or between the floor and the line (CHIP J3)
abbrev pub is_outside : Bool → ℕ → ℕ → ℕ → Bool
is_outside over floor line x = cond over (ltb line x) (leb floor x && ltb x line)

-- the lowest, counted from i; 0 for none
abbrev pub lowest : (ℕ → Bool) → ℕ → List ℕ → ℕ
lowest such i [] = 0
lowest such i (x ∷ xs) = cond (such x) i (lowest such (suc i) xs)

-- ── what a scan says ──
abbrev pub says_none : Says
says_none = record { many = 0; verdict = false; input = 0; value = 0; pin = false }

abbrev pub says_at : Bool → ℕ → List ℕ → Says
says_at on i xs = record { many = 1; verdict = on && ltb 0 i; input = i; value = cond (ltb 0 i) (get_or xs (i - 1) 0) 0; pin = false }

abbrev pub says_scan : Bool → (ℕ → Bool) → List ℕ → Says
says_scan on such xs = says_at on (lowest such 1 xs) xs
