-- `lines::put_by` meets its contract. Assumes nothing.
use native.Mathlib.Nat.{le_trans}
use native.Mathlib.Omega.{arith}
use Rattle.hex_line.specs.Line.{line_words}
use Rattle.listing.proofs.Room.{few_words, under}
use Rattle.compare_events.proofs.LineLaws.{first_cut, second_cut, none_cut, all_put}
use Rattle.compare_events.proofs.TextLaws.{answers_most}
use Rattle.compare_events.proofs.lines.put_by.Goals as goal

-- nothing is compared
pub put_cut-requires : goal.put_cut-requires
put_cut-requires g c = omega (arith, c.put_answers-at.ensures.ends, answers_most c.read_words-x.result c.read_words-y.result, c.put_answers-at.auto.text, c.requires.words_len.2)

pub returns-in_default : goal.returns-in_default
returns-in_default g c =
    let a = c.args in
    let p = line_words a.dialect a.first.now in
    let q = line_words a.dialect a.second.now in
    all_put a.dialect a.order p q (c.read_words-x.ensures p c.words_of-a.ensures) (c.read_words-y.ensures q c.words_of-b.ensures) c.put_answers-at.ensures
    (first_cut a.dialect a.order p q (rw c.in_default.is at c.words_of-a.ensures)) c.put_cut.ensures

pub put_cut-requires-in_default-b : goal.put_cut-requires-in_default-b
put_cut-requires-in_default-b g c = omega (arith, c.put_answers-at.ensures.ends, answers_most c.read_words-x.result c.read_words-y.result, c.put_answers-at.auto.text, c.requires.words_len.2)

pub returns-in_default-b : goal.returns-in_default-b
returns-in_default-b g c =
    let a = c.args in
    let p = line_words a.dialect a.first.now in
    let q = line_words a.dialect a.second.now in
    all_put a.dialect a.order p q (c.read_words-x.ensures p c.words_of-a.ensures) (c.read_words-y.ensures q c.words_of-b.ensures) c.put_answers-at.ensures
    (second_cut a.dialect a.order p q c.in-Ok.ensures (rw c.in_default-b.is at c.words_of-b.ensures)) c.put_cut-in_default-b.ensures

-- both lines gave words
pub put_compared-requires : goal.put_compared-requires
put_compared-requires g c =
    let d = c.args.dialect in
    let at = c.put_answers-at in record {
      dialect_value = (
        c.requires.dialect_value,
        le_trans (few_words d c.args.first.now (g.W.EventWord.numbers c.in-Ok.a.now) c.in-Ok.ensures) (under d),
        le_trans (few_words d c.args.second.now (g.W.EventWord.numbers c.in-Ok-b.b.now) c.in-Ok-b.ensures) (under d),
      );
      compared_length_in_bounds = omega (arith, at.ensures.ends, answers_most c.read_words-x.result c.read_words-y.result, at.auto.text, c.requires.words_len.2);
    }

pub returns : goal.returns
returns g c =
    let a = c.args in
    let p = line_words a.dialect a.first.now in
    let q = line_words a.dialect a.second.now in
    all_put a.dialect a.order p q (c.read_words-x.ensures p c.words_of-a.ensures) (c.read_words-y.ensures q c.words_of-b.ensures) c.put_answers-at.ensures
    (none_cut a.dialect a.order p q c.in-Ok.ensures c.in-Ok-b.ensures) c.put_compared.ensures
