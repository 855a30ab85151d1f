-- A cell's voltage by the mode and the cell's number: 4, then 6, then 10, else the formula on the bare count. Assumes nothing.
use Rattle.std.specs.Prelude.{◌≡◌, refl, Bool, true, false, cond, ◌&&◌, ℕ, ◌-◌, ◌<◌, ◌≤◌, leb, ℤ, get_or}
use Rattle.std.proofs.Common.{sym, ap, ◌∙◌, arith, le-leb, lt-ltb}
use Rattle.std.proofs.lemmas.Bool.{lt-leb}
use Rattle.events.specs.Setup.{inputs}
use Rattle.wiring.specs.Rows.{pack_cells, input_of, connected, converts}
use Rattle.wiring.proofs.Numbered.{numbers}
use Rattle.wiring.proofs.LinkedLaws.{cell_converts}
use Rattle.registers.specs.Read.{cell_at}
use Rattle.constants.specs.Answer.{Said, gives, refuses}
use Rattle.values.specs.Values.{cell_microvolts}
use Rattle.chip.specs.declared.Chip.{Chip}
use Rattle.chip_voltage.specs.Voltage.{voltage_said}

-- the two tests of a cell's number, and whether it is connected
abbrev is_linked : Chip → ℕ → Bool
is_linked c n = connected c.setup c.registers.measured.cells (input_of c.setup n)

abbrev said : Chip → ℕ → Bool → Bool → Bool → Bool → Said ℤ
said c n a l h k =
    cond a
    (cond (l && h)
    (cond k (gives
    (cell_microvolts c.setup.gain_code c.setup.offset
    (cell_at c.setup c.registers.measured (input_of c.setup n - 1)))) (refuses 10))
    (refuses 6))
    (refuses 4)

by_tests : (n : ℕ) (c : Chip) (a l h k : Bool) → c.normal ≡ a → leb 1 n ≡ l → leb n (pack_cells c.setup) ≡ h → is_linked c n ≡ k
    → said c n a l h k ≡ voltage_said n c
unfolding voltage_said
by_tests n c a l h k ea el eh ek =
    ap (λ (t : Bool). said c n t l h k) (sym ea) ∙ ap (λ (t : Bool). said c n c.normal t h k) (sym el)
    ∙ ap (λ (t : Bool). said c n c.normal (leb 1 n) t k) (sym eh)
    ∙ ap (said c n c.normal (leb 1 n) (leb n (pack_cells c.setup))) (sym ek)

pub asleep_said : (n : ℕ) (c : Chip) → c.normal ≡ false → refuses 4 ≡ voltage_said n c
asleep_said n c a = by_tests n c false (leb 1 n) (leb n (pack_cells c.setup)) (is_linked c n) a refl refl refl

pub zero_said : (n : ℕ) (c : Chip) → c.normal ≡ true → n < 1 → refuses 6 ≡ voltage_said n c
zero_said n c a h = by_tests n c true false (leb n (pack_cells c.setup)) (is_linked c n) a (lt-leb 1 n h) refl refl

pub above_said : (n : ℕ) (c : Chip) → c.normal ≡ true → 1 ≤ n → pack_cells c.setup < n → refuses 6 ≡ voltage_said n c
above_said n c a l h = by_tests n c true true false (is_linked c n) a (le-leb 1 n l) (lt-leb n (pack_cells c.setup) h) refl

module _ (n : ℕ) (c : Chip) (a : c.normal ≡ true) (l : 1 ≤ n) (h : n ≤ pack_cells c.setup) where
  pub apart_said : is_linked c n ≡ false → refuses 10 ≡ voltage_said n c
  apart_said k = by_tests n c true true true false a (le-leb 1 n l) (le-leb n (pack_cells c.setup) h) k

  pub cell_said_lem : is_linked c n ≡ true
      → gives (cell_microvolts c.setup.gain_code c.setup.offset
      (cell_at c.setup c.registers.measured (input_of c.setup n - 1))) ≡ voltage_said n c
  cell_said_lem k = by_tests n c true true true true a (le-leb 1 n l) (le-leb n (pack_cells c.setup) h) k

  -- what the register of its input holds
  pub cell_holds : cell_at c.setup c.registers.measured (input_of c.setup n - 1)
      ≡ get_or c.registers.measured.cells (input_of c.setup n - 1) 0
  cell_holds =
      let w = (numbers c.setup).wired n l h in
      ap (λ (t : Bool). cond t (get_or c.registers.measured.cells (input_of c.setup n - 1) 0) 0)
      (lt-ltb (input_of c.setup n - 1) (inputs c.setup) (omega (arith, w.from, w.below)))

  pub holds_linked : converts c.setup (cell_at c.setup c.registers.measured (input_of c.setup n - 1)) ≡ is_linked c n
  holds_linked = ap (converts c.setup) cell_holds ∙ cell_converts c.setup c.registers.measured.cells n l h
