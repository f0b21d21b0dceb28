-- `picture::put_pictures` meets its contract. Assumes nothing.
use Rattle.hex_line.specs.Text.{texts_below, Placed}
use Rattle.page_text.specs.Text.{picture_text}
use Rattle.page_text.proofs.picture.put_pictures.Given as goal

abbrev pub invariant-loop-number : goal.invariant-loop-number
invariant-loop-number l = Placed l.initial.text l.at (texts_below l.number (picture_text l.counts l.most)) l.end l.text
