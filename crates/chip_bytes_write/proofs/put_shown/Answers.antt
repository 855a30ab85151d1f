-- Switch by switch.
use Rattle.chip_bytes_write.proofs.Stores.{byte_is}
use Rattle.chip_bytes_write.proofs.put_shown.Goals as goal

pub returns : goal.returns
returns c = simp (byte_is, c.from-10.ensures, c.from-9.ensures, c.from-8.ensures, c.from-7.ensures, c.from-6.ensures, c.from-5.ensures, c.from-4.ensures, c.from-3.ensures, c.from-2.ensures, c.from.ensures)
