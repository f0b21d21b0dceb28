-- `region::read_region` meets its contract. Assumes nothing.
use Prim.Native.Nat.{ℕ, ◌<◌}
use native.Mathlib.Omega.{arith}
use mathlib.Core.Path.{◌∙◌}
use lib.ListN.{get_or}
use Rattle.std.proofs.lemmas.Result.{err_from_is_err_and}
use Rattle.rcnp_reader.proofs.RegionLaws.{not_vdc, not_scaler, opens_words, scalers_refused, opens_scalers}
use Rattle.rcnp_reader.proofs.region.read_region.Goals as goal

pub returns-in_err-count-in-Scaler : goal.returns-in_err-count-in-Scaler
returns-in_err-count-in-Scaler c =
    let p = err_from_is_err_and c.from_residual.result c.from_residual.ensures.1 in
    rw (p.1, p.2) (scalers_refused (record { headed = rw c.in-Scaler.is at c.requires.0; few = c.requires.1; own = c.store_row.ensures ∙ rw (c.id.ensures, c.in-Scaler.is) }) c.in_err-count-in-Scaler.ensures)

pub returns-in_ok-count-in-Scaler : goal.returns-in_ok-count-in-Scaler
returns-in_ok-count-in-Scaler c =
    opens_scalers (record { headed = rw c.in-Scaler.is at c.requires.0; few = c.requires.1; own = c.store_row.ensures ∙ rw (c.id.ensures, c.in-Scaler.is) }) c.in_ok-count-in-Scaler.ensures

pub returns-in_default : goal.returns-in_default
returns-in_default c =
    let fits : (j : ℕ) → get_or c.args.words.now j 0 < 65536 = λ j. omega (arith, c.type_inv.words j) in
    opens_words (record { headed = c.requires.0; few = c.requires.1; own = c.store_row.ensures ∙ rw c.id.ensures }) fits (not_vdc c.args.form c.in_default.not-Vdc) (not_scaler c.args.form c.in_default.not-Scaler)
    c.store_words.ensures
