-- `put_page` meets its contract. Assumes nothing.
use mathlib.Core.Path.{◌≡◌, ◌∙◌, sym}
use native.Mathlib.Omega.{arith}
use lib.ListN.{length}
use Rattle.hex_line.proofs.TextLaws.{placed_then, placed_all, placed_size}
use Rattle.std.specs.Prelude.{sum}
use Rattle.page_text.specs.Text.{largest, text_of_page}
use Rattle.page_text.proofs.PageLaws.{head_length, pictures_length, counts_length, last_length_lem, page_length}
use Rattle.std.proofs.Common.{rules}
use Rattle.page_text.proofs.put_page.Goals as goal

pub put_head-pictures_at-requires : goal.put_head-pictures_at-requires
put_head-pictures_at-requires c = rw head_length (omega arith)

pub put_pictures-counts_at-requires : goal.put_pictures-counts_at-requires
put_pictures-counts_at-requires c =
    let headed = rw (c.total.ensures, c.largest-most.ensures) at c.put_head-pictures_at.ensures in
    let head_ends : c.put_head-pictures_at.result ≡ 49 = omega (arith, headed.ends, head_length c.args.events (sum c.args.counts.now) (largest c.args.counts.now)) in
    let l = pictures_length c.args.counts.now c.largest-most.result in
    omega (arith, l, head_ends, placed_size headed)

pub put_counts-last_at-requires : goal.put_counts-last_at-requires
put_counts-last_at-requires c =
    let headed = rw (c.total.ensures, c.largest-most.ensures) at c.put_head-pictures_at.ensures in
    let head_ends : c.put_head-pictures_at.result ≡ 49 = omega (arith, headed.ends, head_length c.args.events (sum c.args.counts.now) (largest c.args.counts.now)) in
    let pictures_end : c.put_pictures-counts_at.result ≡ 2833 = omega (arith, c.put_pictures-counts_at.ensures.ends, head_ends, pictures_length c.args.counts.now c.largest-most.result) in
    let pictured = placed_then headed (rw c.largest-most.ensures at c.put_pictures-counts_at.ensures) in
    omega (arith, counts_length c.args.counts.now, pictures_end, placed_size pictured)

pub put_last-requires : goal.put_last-requires
put_last-requires c =
    let headed = rw (c.total.ensures, c.largest-most.ensures) at c.put_head-pictures_at.ensures in
    let pictured = placed_then headed (rw c.largest-most.ensures at c.put_pictures-counts_at.ensures) in
    let head_ends : c.put_head-pictures_at.result ≡ 49 = omega (arith, headed.ends, head_length c.args.events (sum c.args.counts.now) (largest c.args.counts.now)) in
    let pictures_end : c.put_pictures-counts_at.result ≡ 2833 = omega (arith, c.put_pictures-counts_at.ensures.ends, head_ends, pictures_length c.args.counts.now c.largest-most.result) in
    let e = c.args.ending in
    let all = placed_size (placed_then pictured c.put_counts-last_at.ensures) in
    let l = last_length_lem e.cut e.added e.refused e.other in
    omega (arith, l, c.put_counts-last_at.ensures.ends, counts_length c.args.counts.now, pictures_end, all)

pub returns : goal.returns
unfolding text_of_page
returns c =
    let headed = rw (c.total.ensures, c.largest-most.ensures) at c.put_head-pictures_at.ensures in
    let pictured = placed_then headed (rw c.largest-most.ensures at c.put_pictures-counts_at.ensures) in
    let e = c.args.ending in
    let l = page_length c.args.events c.args.counts.now e.cut e.added e.refused e.other in
    let n : length c.args.text.now ≡ 5956 = search rules in
    placed_all (n ∙ sym l) (placed_then (placed_then pictured c.put_counts-last_at.ensures) c.put_last.ensures)
