-- `side::put_by` meets its contract. Assumes nothing.
use native.Mathlib.Omega.{arith}
use mathlib.Core.Path.{sym, ap, ◌∙◌}
use lib.ListN.{length}
use Rattle.dialects.specs.Dialects.{reading}
use Rattle.comparison.specs.Comparing.{differing_words, differing_rows}
use Rattle.compare_events.proofs.Numbers.{numbers_length, numbers_tail}
use Rattle.compare_events.proofs.Sides.{answered, lists, room_tail, room_rows, room_end, all_put_lem}
use Rattle.compare_events.proofs.side.put_by.Goals as goal

-- 25 does not show
pub returns-in_default : goal.returns-in_default
returns-in_default g c =
    let a = c.args in
    let r = c.requires.dialect_value in
    let b = c.requires.words_len in
    let e = answered a.dialect a.order (g.W.EventWord.numbers a.first.now) (g.W.EventWord.numbers a.second.now) g.W.EventWord.bits r.0 r.1 r.2 a.words.now a.rows.now b.0 b.1 c.compare.ensures.answer in
    absurd (c.in_default.not-Ok _ e)

pub put_tail-more-requires : goal.put_tail-more-requires
put_tail-more-requires g c =
    let a = c.args in
    let first = g.W.EventWord.numbers a.first.now in
    let second = g.W.EventWord.numbers a.second.now in
    let k = c.compare in
    let r = c.requires.dialect_value in
    let b = c.requires.words_len in
    let l = lists a.dialect a.order first second g.W.EventWord.bits r.0 r.1 r.2 a.words.now a.rows.now b.0 b.1 k.ensures.answer c.in-Ok.is k.auto.words k.auto.rows k.ensures.words k.ensures.rows in
    let w = c.put_words-middle.ensures (differing_words first second) l.word_list in
    (r.1, r.2, omega (arith, room_tail a.dialect a.order first second r.1 r.2 l a.at b.2 w, c.put_words-middle.auto.text))

pub put_rows-end-requires : goal.put_rows-end-requires
put_rows-end-requires g c =
    let a = c.args in
    let first = g.W.EventWord.numbers a.first.now in
    let second = g.W.EventWord.numbers a.second.now in
    let k = c.compare in
    let r = c.requires.dialect_value in
    let b = c.requires.words_len in
    let l = lists a.dialect a.order first second g.W.EventWord.bits r.0 r.1 r.2 a.words.now a.rows.now b.0 b.1 k.ensures.answer c.in-Ok.is k.auto.words k.auto.rows k.ensures.words k.ensures.rows in
    let w = c.put_words-middle.ensures (differing_words first second) l.word_list in
    omega (arith, room_rows a.dialect a.order first second r.1 r.2 l a.at b.2 w c.put_tail-more.ensures, c.put_tail-more.auto.text, c.put_words-middle.auto.text)

pub put_end-requires : goal.put_end-requires
put_end-requires g c =
    let a = c.args in
    let first = g.W.EventWord.numbers a.first.now in
    let second = g.W.EventWord.numbers a.second.now in
    let k = c.compare in
    let r = c.requires.dialect_value in
    let b = c.requires.words_len in
    let l = lists a.dialect a.order first second g.W.EventWord.bits r.0 r.1 r.2 a.words.now a.rows.now b.0 b.1 k.ensures.answer c.in-Ok.is k.auto.words k.auto.rows k.ensures.words k.ensures.rows in
    let w = c.put_words-middle.ensures (differing_words first second) l.word_list in
    let p = c.put_rows-end.ensures (differing_rows (reading a.dialect a.order first) (reading a.dialect a.order second)) l.row_list in
    omega (arith, room_end a.dialect a.order first second r.1 r.2 l a.at b.2 w c.put_tail-more.ensures p, c.put_rows-end.auto.text, c.put_tail-more.auto.text, c.put_words-middle.auto.text)

pub returns : goal.returns
returns g c =
    let a = c.args in
    let first = g.W.EventWord.numbers a.first.now in
    let second = g.W.EventWord.numbers a.second.now in
    let k = c.compare in
    let r = c.requires.dialect_value in
    let b = c.requires.words_len in
    let l = lists a.dialect a.order first second g.W.EventWord.bits r.0 r.1 r.2 a.words.now a.rows.now b.0 b.1 k.ensures.answer c.in-Ok.is k.auto.words k.auto.rows k.ensures.words k.ensures.rows in
    let w = c.put_words-middle.ensures (differing_words first second) l.word_list in
    let p = c.put_rows-end.ensures (differing_rows (reading a.dialect a.order first) (reading a.dialect a.order second)) l.row_list in
    let each = g.met.W.EventWord.each_number in
    let t = sym (numbers_length each c.tail.result.now) ∙ ap length (ap g.W.EventWord.numbers c.tail.ensures ∙ numbers_tail each a.first.now a.second.now) in
    all_put_lem a.dialect a.order first second r.1 r.2 l a.at b.2 w c.put_tail-more.ensures p t c.put_end.ensures
