-- `scan::sum_region` meets its contract. Assumes nothing.
use Prim.Native.Nat.{ℕ, ◌<◌}
use native.Mathlib.Omega.{arith}
use mathlib.Core.Path.{◌∙◌}
use lib.ListN.{get_or}
use Rattle.event.proofs.Leads.{scanned_refuse}
use Rattle.rcnp_layout.specs.Layout.{sum_rows}
use Rattle.rcnp_reader.proofs.SumRegion.{no_sum, sum_short, sum_size, more_words, sum_read}
use Rattle.rcnp_reader.proofs.scan.sum_region.Goals as goal

pub returns-then-words-at : goal.returns-then-words-at
returns-then-words-at c = rw c.refuse.ensures (scanned_refuse sum_rows c.args.count c.args.rows.now c.args.rows.now (no_sum c.args.words.now c.args.at c.if-words-at.true))

pub returns-then-words-at-2 : goal.returns-then-words-at-2
returns-then-words-at-2 c =
    rw c.refuse-then-words-at-2.ensures (scanned_refuse sum_rows c.args.count c.args.rows.now c.args.rows.now
    (sum_short c.args.words.now c.args.at c.requires.2 c.if-words-at.false c.word-size.ensures.0 c.if-words-at-2.true))

pub returns-then-size-ne1 : goal.returns-then-size-ne1
returns-then-size-ne1 c =
    rw c.refuse-then-size-ne1.ensures (scanned_refuse sum_rows c.args.count c.args.rows.now c.args.rows.now
    (sum_size c.args.words.now c.args.at c.requires.2 c.if-words-at.false c.word-size.ensures.0 c.if-words-at-2.false c.if-size-ne1.true))

pub returns-then-words-at-gt2 : goal.returns-then-words-at-gt2
returns-then-words-at-gt2 c =
    let fits : (j : ℕ) → get_or c.args.words.now j 0 < 65536 = λ j. omega (arith, c.type_inv.words j) in
    rw c.refuse-then-words-at-gt2.ensures (scanned_refuse sum_rows c.args.count c.args.rows.now c.args.rows.now
    (more_words c.args.words.now c.args.at c.requires.2 c.if-words-at.false c.word-size.ensures.0 c.if-words-at-2.false c.if-size-ne1.false fits c.if-words-at-gt2.true))

pub returns : goal.returns
returns c =
    let fits : (j : ℕ) → get_or c.args.words.now j 0 < 65536 = λ j. omega (arith, c.type_inv.words j) in
    sum_read c.args.words.now c.args.at c.requires.2 c.if-words-at.false c.word-size.ensures.0 c.if-words-at-2.false c.if-size-ne1.false fits c.if-words-at-gt2.false
    c.store_row.ensures c.word.ensures.0 (c.store_row-2.ensures ∙ rw c.row.ensures)
