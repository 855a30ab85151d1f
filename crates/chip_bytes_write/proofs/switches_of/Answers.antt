-- Switch by switch.
use Rattle.chip_bytes_layout.specs.Layout.{switches_of}
use Rattle.chip_bytes_write.proofs.Stores.{byte_is}
use Rattle.chip_bytes_write.proofs.switches_of.Goals as goal

pub returns : goal.returns
unfolding switches_of
returns c = simp (byte_is, c.from-20.ensures, c.from-19.ensures, c.from-18.ensures, c.from-17.ensures, c.from-16.ensures, c.from-15.ensures, c.from-14.ensures, c.from-13.ensures, c.from-12.ensures, c.from-11.ensures, c.from-10.ensures, c.from-9.ensures, c.from-8.ensures, c.from-7.ensures, c.from-6.ensures, c.from-5.ensures, c.from-4.ensures, c.from-3.ensures, c.from-2.ensures, c.from.ensures)
