-- `scan::scan` meets its contract. Assumes nothing.
use Rattle.std.proofs.lemmas.Result.{err_from_is_err_and}
use Rattle.rcnp_reader.proofs.EventLaws.{too_few, too_many, event_refused, wrong_sum, event_read}
use Rattle.rcnp_reader.proofs.scan.scan.Goals as goal

pub returns-then-words-lt-SMALLEST_EVENT : goal.returns-then-words-lt-SMALLEST_EVENT
returns-then-words-lt-SMALLEST_EVENT c = rw c.refuse.ensures (too_few c.args.words.now _ _ c.if-words-lt-SMALLEST_EVENT.true)

pub returns-then-words-gt-LARGEST_EVENT : goal.returns-then-words-gt-LARGEST_EVENT
returns-then-words-gt-LARGEST_EVENT c = rw c.refuse-then-words-gt-LARGEST_EVENT.ensures (too_many c.args.words.now _ _ c.if-words-gt-LARGEST_EVENT.true)

pub returns-in_err-count : goal.returns-in_err-count
returns-in_err-count c =
    let p = err_from_is_err_and c.from_residual.result c.from_residual.ensures.1 in
    rw (p.1, p.2) (event_refused c.args.words.now c.if-words-lt-SMALLEST_EVENT.false c.if-words-gt-LARGEST_EVENT.false c.in_err-count.ensures)

pub returns-then-sum_of-ne0 : goal.returns-then-sum_of-ne0
returns-then-sum_of-ne0 c = rw c.refuse-then-sum_of-ne0.ensures
    (wrong_sum c.args.words.now c.if-words-lt-SMALLEST_EVENT.false c.if-words-gt-LARGEST_EVENT.false c.in_ok-count.ensures c.sum_of.ensures c.if-sum_of-ne0.true)

pub returns : goal.returns
returns c = event_read c.args.words.now c.if-words-lt-SMALLEST_EVENT.false c.if-words-gt-LARGEST_EVENT.false c.in_ok-count.ensures c.sum_of.ensures c.if-sum_of-ne0.false
