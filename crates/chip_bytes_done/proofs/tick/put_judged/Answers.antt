-- What was shown decides.
use Rattle.std.proofs.Common.{ap, ◌∙◌}
use Rattle.events.specs.Fault.{among}
use Rattle.registers.specs.Fault.{raised}
use Rattle.chip_bytes_layout.specs.Layout.{shown_at}
use Rattle.chip_bytes_layout.proofs.Bytes.{of_first}
use Rattle.chip_bytes_done.specs.Tick.{raised_in}
use Rattle.chip_bytes_done.proofs.tick.put_judged.Goals as goal

pub returns : goal.returns
returns c = record {
  shows = c.raised-shown.ensures ∙ ap (raised (among c.args.judged.risen)) (of_first shown_at c.told-out c.shown_at.ensures);
  moves = c.put_raised.ensures ∙ ap (raised_in c.raised-shown.result) c.put_runs.ensures;
}
