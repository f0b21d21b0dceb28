-- `read` of words of 32 bits meets its contract. Assumes nothing.
use Rattle.compare.proofs.Readings.{long_words}
use Rattle.compare.proofs.event_word.U32EventWord.read.Goals as goal

pub returns : goal.returns
returns c = rw (← long_words c.args.dialect c.args.words.now) c.read.ensures
