-- `scan::regions` meets its contract. Assumes nothing.
use Prim.Native.Nat.{◌+◌, ◌-◌}
use native.Mathlib.Omega.{arith}
use mathlib.Core.Path.{◌≡◌, sym, ◌∙◌}
use borrow.Author.Tests.{not-true}
use Rattle.std.proofs.Common.{ap, not}
use Rattle.std.proofs.lemmas.Result.{err_from_is_err_and}
use Rattle.event.proofs.Leads.{refused_as}
use Rattle.rcnp_reader.proofs.Headers.{before_sum}
use Rattle.rcnp_reader.proofs.RegionLaws.{opened_whole, opened_chamber, chamber_inside, chamber_refused, chamber_taken}
use Rattle.rcnp_reader.proofs.RegionLoop.{regions_begin, regions_done, region_refused, region_longer, region_taken}
use Rattle.rcnp_reader.proofs.VdcWords.{vdc_begin, vdc_read, vdc_refused, vdc_next}
use Rattle.rcnp_reader.proofs.scan.regions.Goals as goal

pub regions-init : goal.regions-init
regions-init c = regions_begin

pub open_region-requires : goal.open_region-requires
open_region-requires c = (before_sum _ _ (sym c.at_sum.ensures ∙ c.if-at_sum.false), c.regions.invariant.few)

pub returns-then-at_sum : goal.returns-then-at_sum
returns-then-at_sum c = regions_done c.regions.invariant (sym c.if-at_sum.true ∙ c.at_sum.ensures)

pub returns-in_err-read : goal.returns-in_err-read
returns-in_err-read c =
    let p = err_from_is_err_and c.from_residual.result c.from_residual.ensures.1 in
    rw (p.1, p.2) (region_refused c.regions.invariant (sym c.if-at_sum.false ∙ c.at_sum.ensures) c.open_region.new.rows c.in_err-read.ensures.opened)

pub regions-smaller-in-Whole : goal.regions-smaller-in-Whole
regions-smaller-in-Whole c =
    let read = opened_whole c.in_ok-read.ensures c.in-Whole.is in
    omega (arith, region_longer c.regions.invariant (sym c.if-at_sum.false ∙ c.at_sum.ensures) read, read.inside)

pub regions-preserved-in-Whole : goal.regions-preserved-in-Whole
regions-preserved-in-Whole c = region_taken c.regions.invariant (sym c.if-at_sum.false ∙ c.at_sum.ensures) (opened_whole c.in_ok-read.ensures c.in-Whole.is)

pub loop-i-init : goal.loop-i-init
loop-i-init c =
    let inside = chamber_inside (opened_chamber c.in_ok-read.ensures c.in-Chamber.is) in
    (vdc_begin c.args.words.now c.in-Chamber.end (c.regions.at + 1) inside.0, inside.1)

pub loop-i-preserved : goal.loop-i-preserved
loop-i-preserved c = let i = c.loop-i.invariant in (vdc_next i.0 c.loop-i-test.true i.1 c.word.ensures.0 (sym c.if-not-is_vdc.ensures), i.1)

pub returns-then-not-is_vdc : goal.returns-then-not-is_vdc
returns-then-not-is_vdc c =
    let i = c.loop-i.invariant in
    let bad = sym c.is_vdc.ensures ∙ not-true c.is_vdc.result (ap not c.if-not-is_vdc.true) in
    rw c.refuse.ensures
    (region_refused c.regions.invariant (sym c.if-at_sum.false ∙ c.at_sum.ensures) c.open_region.new.rows
    (refused_as (chamber_refused (opened_chamber c.in_ok-read.ensures c.in-Chamber.is) (vdc_refused i.0 c.loop-i-test.true i.1 c.word.ensures.0 bad))))

pub regions-smaller : goal.regions-smaller
regions-smaller c =
    let inside = chamber_inside (opened_chamber c.in_ok-read.ensures c.in-Chamber.is) in
    omega (arith, inside)

pub regions-preserved : goal.regions-preserved
regions-preserved c =
    let chamber = opened_chamber c.in_ok-read.ensures c.in-Chamber.is in
    let so_far = c.regions.invariant in
    let taken = chamber_taken chamber so_far.few (vdc_read c.loop-i.invariant.0 c.loop-i-test.false) c.store_words.ensures in
    let n : c.regions.count + 1 + (c.in-Chamber.end - (c.regions.at + 1)) ≡ c.regions.count + (1 + (c.in-Chamber.end - (c.regions.at + 1))) = omega arith in
    rw n at (region_taken so_far (sym c.if-at_sum.false ∙ c.at_sum.ensures) taken)
