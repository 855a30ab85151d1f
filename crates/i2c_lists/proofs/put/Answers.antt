-- `put` writes a record by the writer, which is lent the rest and refuses no bus event (Writing).
use Rattle.std.proofs.Common.{ap}
use Rattle.records.proofs.NoCounts.{none_made}
use Rattle.writer.specs.Write.{wrote}
use Rattle.i2c_lists.proofs.Writing.{put_done, put_never}
use Rattle.i2c_lists.proofs.put.Goals as goal

pub returns-in-Ok : goal.returns-in-Ok
returns-in-Ok c = (put_done c.args.event c.default.result c.args.at c.args.out.now c.write_record.new.out (wrote c.write_record.result) (none_made c.default.result c.default.ensures.0 c.default.ensures.1) c.requires c.write_record.ensures c.in-Ok.n (ap wrote c.in-Ok.is)).1

pub returns-in-Err : goal.returns-in-Err
returns-in-Err c = absurd (put_never c.args.event c.default.result c.args.at c.args.out.now c.write_record.new.out (wrote c.write_record.result) (none_made c.default.result c.default.ensures.0 c.default.ensures.1) c.requires c.write_record.ensures _ (ap wrote c.in-Err.is))
