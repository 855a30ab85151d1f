-- `write_bytes` writes a header, and the payload by its callee: the stores are the record's bytes (Stores).
use Rattle.std.proofs.Common.{arith}
use Rattle.constants.specs.Kind.{code_of}
use Rattle.writer.specs.Write.{record_of}
use Rattle.writer.proofs.Stores.{stored}
use Rattle.writer.proofs.write_bytes.Goals as goal

pub returns : goal.returns
returns c =
    stored (record_of (code_of c.args.kind) c.args.payload.now) c.args.out.now (omega arith) (omega (arith, c.if-out-n.false))
    (simp (c.put_words.ensures, c.code.ensures) at c.put_bytes.ensures)
