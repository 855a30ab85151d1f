-- Four parts, each put after the one before.
use Rattle.chip_bytes_write.proofs.Stores.{put_as}
use Rattle.chip_bytes_write.proofs.put_chip.Goals as goal

pub returns : goal.returns
returns c = put_as c.args.chip c.args.fresh c.args.out.now c.plain_of.ensures c.switches_of.ensures c.words_of.ensures c.told-out
    c.put_bytes.new.out c.put_bytes-2.new.out c.put_bytes-3.new.out c.put_bytes.ensures c.put_bytes-2.ensures c.put_bytes-3.ensures c.put_words.ensures
