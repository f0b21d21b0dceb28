-- `fault::check_header` meets its contract. Assumes nothing.
use native.Mathlib.Omega.{arith}
use mathlib.Core.Path.{sym, ◌∙◌}
use mathlib.Core.Logic.{inl, inr}
use Rattle.frs_writer.proofs.RowFaults.{geo_barred, geo_free}
use Rattle.frs_writer.proofs.Headers.{Own, empty_wrong, data_wrong, header_other, header_wrong, header_geo, header_new}
use Rattle.frs_writer.proofs.fault.check_header.Goals.{then-row+else-row-ne0+else-row-ne0-2, else-row+else-row-2+else-row-lt1+else-row-gt-LARGEST_COUNT+else-row-gt65535}
use Rattle.frs_writer.proofs.fault.check_header.Goals as goal

pub returns-then-row-ne0 : goal.returns-then-row-ne0
returns-then-row-ne0 c = rw (← header_wrong c.args.row c.args.seen (empty_wrong c.args.row c.if-row.true (λ k. omega (arith, c.then-row-ne0.either)))) c.refuse.ensures

pub returns-then-row-2 : goal.returns-then-row-2
returns-then-row-2 c = rw (← header_other c.args.row c.args.seen c.if-row.false c.if-row-2.true) c.refuse-then-row-2.ensures

pub returns-then-row-lt1 : goal.returns-then-row-lt1
returns-then-row-lt1 c = rw (← header_wrong c.args.row c.args.seen (data_wrong c.args.row c.if-row-2.false (λ k. omega (arith, c.then-row-lt1.either)))) c.refuse-then-row-lt1.ensures

pub returns-then-row-gt31 : goal.returns-then-row-gt31
returns-then-row-gt31 c =
    let own : Own c.args.row = elim c.if-row.branch [
      | then-row+else-row-ne0+else-row-ne0-2 w ↦ inl (w.if-row.true, w.if-row-ne0.false, w.if-row-ne0-2.false)
      | else-row+else-row-2+else-row-lt1+else-row-gt-LARGEST_COUNT+else-row-gt65535 w ↦ inr (w.if-row-2.false, omega arith, omega arith, omega arith)
    ] in
    rw (← header_geo c.args.row c.args.seen own (geo_barred _ (λ k. omega (arith, c.then-row-gt31.either, k)))) c.refuse-then-row-gt31.ensures

pub returns-then-contains : goal.returns-then-contains
returns-then-contains c =
    let own : Own c.args.row = elim c.if-row.branch [
      | then-row+else-row-ne0+else-row-ne0-2 w ↦ inl (w.if-row.true, w.if-row-ne0.false, w.if-row-ne0-2.false)
      | else-row+else-row-2+else-row-lt1+else-row-gt-LARGEST_COUNT+else-row-gt65535 w ↦ inr (w.if-row-2.false, omega arith, omega arith, omega arith)
    ] in
    rw (← header_new c.args.row c.args.seen own (geo_free _ c.if-row-gt31.false c.if-row-eq-PATTERN_GEO.false c.if-row-eq-SCALER_GEO.false) (sym c.if-contains.true ∙ c.contains.ensures)) c.refuse-then-contains.ensures

pub returns : goal.returns
returns c =
    let own : Own c.args.row = elim c.if-row.branch [
      | then-row+else-row-ne0+else-row-ne0-2 w ↦ inl (w.if-row.true, w.if-row-ne0.false, w.if-row-ne0-2.false)
      | else-row+else-row-2+else-row-lt1+else-row-gt-LARGEST_COUNT+else-row-gt65535 w ↦ inr (w.if-row-2.false, omega arith, omega arith, omega arith)
    ] in
    rw (← header_new c.args.row c.args.seen own (geo_free _ c.if-row-gt31.false c.if-row-eq-PATTERN_GEO.false c.if-row-eq-SCALER_GEO.false) (sym c.if-contains.false ∙ c.contains.ensures))
