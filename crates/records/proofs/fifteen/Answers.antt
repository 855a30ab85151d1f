-- `fifteen` is the payload's numbers filled up with 0, word by word.
use Rattle.records.specs.WordsLaws.{words_from_lem}
use Rattle.records.proofs.fifteen.Goals as goal

pub returns : goal.returns
returns c = simp (c.word-15.ensures, c.word-14.ensures, c.word-13.ensures, c.word-12.ensures, c.word-11.ensures, c.word-10.ensures, c.word-9.ensures, c.word-8.ensures, c.word-7.ensures, c.word-6.ensures, c.word-5.ensures, c.word-4.ensures, c.word-3.ensures, c.word-2.ensures, c.word.ensures) (words_from_lem 15 0 c.args.b.now)
