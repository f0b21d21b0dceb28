-- `content::scalers` meets its contract. Assumes nothing.
use Prim.Native.Nat.{◌+◌, ◌*◌, ◌-◌, ◌/◌, ◌≤◌, ◌<◌}
use native.Mathlib.Omega.{arith}
use mathlib.Core.Path.{◌≡◌, refl}
use lib.ListN.{length, get_or}
use Rattle.rcnp_reader.proofs.ScalerWords.{scalers_begin, scalers_read, scaler_refused, scaler_taken}
use Rattle.rcnp_reader.proofs.content.scalers.Goals as goal

pub loop-index-init : goal.loop-index-init
loop-index-init c = scalers_begin

pub returns-then-high-gt255 : goal.returns-then-high-gt255
returns-then-high-gt255 c =
    let below : (c.args.first + 2 * c.loop-index.index) + 1 < c.args.end = omega (arith, c.requires) in
    let inside : c.args.end ≤ length c.args.words.now = c.requires.1 in
    let low : get_or c.args.words.now (c.args.first + 2 * c.loop-index.index) 0 < 65536 = omega (arith, c.type_inv.words (c.args.first + 2 * c.loop-index.index)) in
    rw c.refuse.ensures (scaler_refused c.loop-index.invariant below inside refl low c.word-high.ensures.0 c.loop-index.rows c.if-high-gt255.true)

pub loop-index-preserved : goal.loop-index-preserved
loop-index-preserved c =
    let below : (c.args.first + 2 * c.loop-index.index) + 1 < c.args.end = omega (arith, c.requires) in
    let inside : c.args.end ≤ length c.args.words.now = c.requires.1 in
    (scaler_taken c.loop-index.invariant below inside c.word.ensures.0 c.word.ensures.1 c.word-high.ensures.0 c.if-high-gt255.false c.store_row.ensures)

pub returns : goal.returns
returns c =
    let n = (c.args.end - c.args.first) / 2 in
    let all : c.loop-index.index ≡ n = omega arith in
    rw all at (scalers_read c.loop-index.invariant (omega (arith, c.requires)))
