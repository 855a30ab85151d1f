-- By their number and their sum.
use Rattle.std.proofs.Common.{ap, arith, length, take, ℕ, ◌∙◌, ◌≡◌, ◌≤◌}
use Rattle.events.specs.declared.Counts.{Counts}
use Rattle.cell_counts.specs.declared.Looked.{Looked}
use Rattle.cell_counts.specs.Scan.{total, looked_at}
use Rattle.wiring.specs.Rows.{linked_inputs}
use Rattle.wiring.specs.Kept.{counts_of}
use Rattle.wiring.proofs.Kept.{take-padded, picked_many}
use Rattle.wiring.proofs.LinkedLaws.{few_linked}
use Rattle.chip.specs.declared.Chip.{Chip}
use Rattle.chip_voltage.specs.Voltage.{linked_counts}
use Rattle.values.specs.Values.{microvolts_by}
use Rattle.chip_voltage.specs.Care.{linked_total}
use Rattle.chip_voltage.specs.TotalLaws.{total_by}
use Rattle.chip_voltage.proofs.services.total.Goals as goal

-- the look at what is held, by the counts that it holds
sum_is : (k : Chip) (held : Counts) (looked : Looked) → held ≡ counts_of (linked_counts k) → looked ≡ looked_at 0 0 0 (take held.many held.of) → looked.sum ≡ total (linked_counts k)
unfolding looked_at
sum_is k held looked h l =
    let few : length (linked_counts k) ≤ 15 = omega (arith, few_linked k.setup k.registers.measured.cells, picked_many k.registers.measured.cells (linked_inputs k.setup k.registers.measured.cells)) in
    ap (λ (s : Looked). s.sum) l ∙ ap (λ (n : Counts). total (take n.many n.of)) h ∙ ap total (take-padded 15 (linked_counts k) few)

total_of : (k : Chip) (held : Counts) (looked : Looked) → held ≡ counts_of (linked_counts k) → looked ≡ looked_at 0 0 0 (take held.many held.of)
    → microvolts_by k.setup.gain_code k.setup.offset held.many looked.sum ≡ linked_total k
unfolding linked_total
total_of k held looked h l =
    ap (λ (n : ℕ). microvolts_by k.setup.gain_code k.setup.offset held.many n) (sum_is k held looked h l)
    ∙ ap (λ (n : Counts). microvolts_by k.setup.gain_code k.setup.offset n.many (total (linked_counts k))) h
    ∙ total_by k.setup.gain_code k.setup.offset (linked_counts k)

pub returns : goal.returns
returns c = let k = c.args.chip in
    c.microvolts_by.ensures
    ∙ ap (λ (n : ℕ). microvolts_by k.setup.gain_code k.setup.offset n c.look-looked.result.sum) c.from.ensures
    ∙ total_of k c.link-held.result c.look-looked.result c.link-held.ensures c.look-looked.ensures
