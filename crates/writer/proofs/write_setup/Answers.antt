-- `write_setup` hands on the bytes of its values.
use Rattle.std.proofs.Common.{arith, ◌%◌, ◌/◌, ◌≡◌}
use Rattle.writer.proofs.Stores.{bit_byte}
use Rattle.writer.proofs.write_setup.Goals as goal

pub returns : goal.returns
returns c =
    let h : c.args.v.floor / 256 % 256 ≡ c.args.v.floor / 256 = omega arith in
    simp (c.from-crc.ensures, bit_byte c.args.v.crc, c.to_le_bytes.ensures, h) at c.write_bytes.ensures
