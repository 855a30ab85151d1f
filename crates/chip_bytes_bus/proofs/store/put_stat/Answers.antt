-- What is left of SYS_STAT, and the outside level.
use Rattle.std.proofs.Common.{Bool, ap, get_or, not, sym, true, ◌∙◌, ◌≡◌}
use Rattle.registers.specs.State.{alert}
use Rattle.registers.specs.Write.{status_of, without}
use Rattle.chip_bytes_layout.specs.Layout.{status_at}
use Rattle.chip_bytes_layout.proofs.Bytes.{of_first, up}
use Rattle.chip_bytes_bus.specs.StoreLaws.{stat_by}
use Rattle.chip_bytes_bus.proofs.store.put_stat.Goals as goal
use Rattle.chip_bytes_bus.proofs.store.put_stat.Goals.{else-out-eq1-via-then-out-eq1+else-not-alert, else-out-eq1-via-else-out-eq1}

pub returns : goal.returns
returns c = stat_by c.args.out.now c.args.v (c.less-t.ensures ∙ ap (without (status_of c.args.v)) (of_first status_at c.told-out c.status_at.ensures))
    (elim c.else-out-eq1.branch [
      | else-out-eq1-via-then-out-eq1+else-not-alert w ↦ λ e. sym w.alert.ensures ∙ up w.alert.result (ap not w.if-not-alert.false)
      | else-out-eq1-via-else-out-eq1 w ↦ λ e. absurd (w.if-out-eq1.false e)
    ]) c.put_status.ensures
