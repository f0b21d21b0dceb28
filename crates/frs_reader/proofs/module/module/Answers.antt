-- `module::module` meets its contract. Assumes nothing.
use native.Mathlib.Omega.{arith}
use mathlib.Core.Path.{refl}
use borrow.Author.Rules.{rules}
use Rattle.frs_reader.proofs.Modules.{heads, geo_small, opening_refused, empty_read, module_values_refused, footer_refused, block_read}
use Rattle.std.proofs.lemmas.Result.{err_from_is_err_and}
use Rattle.frs_reader.proofs.module.module.Goals as goal

pub returns-in_err-opened : goal.returns-in_err-opened
returns-in_err-opened c =
    let p = err_from_is_err_and c.from_residual.result c.from_residual.ensures.1 in
    rw (p.1, p.2) (record {
      reads = λ seen s. record {
        part = opening_refused c.args.words.now c.args.from.next c.args.from.count c.args.seen seen s c.requires.1 (omega (arith, c.type_inv.words c.args.from.next)) c.in_err-opened.ensures;
      };
    })

pub returns-in_default : goal.returns-in_default
returns-in_default c = record {
  reads = λ seen s. empty_read c.args.words.now c.args.from.next c.args.from.count c.args.seen seen s c.requires.1 (omega (arith, c.type_inv.words c.args.from.next)) c.requires.0.1
      c.in_ok-opened.ensures c.in_default.is c.store_row.ensures;
}

pub check_values-requires : goal.check_values-requires
check_values-requires c =
    let h = heads c.args.words.now c.args.from.next c.args.seen c.in_ok-opened.ensures c.in-Some.is in
    (omega (arith, h.place), omega (arith, h.inside), geo_small h (omega (arith, c.type_inv.words c.args.from.next)))

pub returns-in_err-check_values : goal.returns-in_err-check_values
returns-in_err-check_values c =
    let p = err_from_is_err_and c.from_residual-in_err-check_values.result c.from_residual-in_err-check_values.ensures.1 in
    let h = heads c.args.words.now c.args.from.next c.args.seen c.in_ok-opened.ensures c.in-Some.is in
    rw (p.1, p.2) (record {
      reads = λ seen s. record {
        part = module_values_refused c.args.words.now c.args.from.next c.args.from.count c.args.seen seen s c.requires.1 (omega (arith, c.type_inv.words c.args.from.next)) h refl
            c.in_err-check_values.ensures;
      };
    })

pub word-requires : goal.word-requires
word-requires c = (heads c.args.words.now c.args.from.next c.args.seen c.in_ok-opened.ensures c.in-Some.is).inside

pub check_footer-requires : goal.check_footer-requires
check_footer-requires c =
    geo_small (heads c.args.words.now c.args.from.next c.args.seen c.in_ok-opened.ensures c.in-Some.is) (omega (arith, c.type_inv.words c.args.from.next))

pub returns-in_err-check_footer : goal.returns-in_err-check_footer
returns-in_err-check_footer c =
    let p = err_from_is_err_and c.from_residual-in_err-check_footer.result c.from_residual-in_err-check_footer.ensures.1 in
    let h = heads c.args.words.now c.args.from.next c.args.seen c.in_ok-opened.ensures c.in-Some.is in
    rw (p.1, p.2) (record {
      reads = λ seen s. record {
        part = footer_refused c.args.words.now c.args.from.next c.args.from.count c.args.seen seen s c.requires.1 (omega (arith, c.type_inv.words c.args.from.next)) h refl
            c.in_ok-check_values.ensures c.word.ensures c.in_err-check_footer.ensures;
      };
    })

pub slice_bounds-store_values-end : goal.slice_bounds-store_values-end
slice_bounds-store_values-end c =
    let h = heads c.args.words.now c.args.from.next c.args.seen c.in_ok-opened.ensures c.in-Some.is in
    search (rules, h.inside, h.place)

pub returns : goal.returns
returns c =
    let h = heads c.args.words.now c.args.from.next c.args.seen c.in_ok-opened.ensures c.in-Some.is in
    record {
      reads = λ seen s. block_read c.args.words.now c.args.from.next c.args.from.count c.args.seen seen s c.requires.1 (omega (arith, c.type_inv.words c.args.from.next)) h refl
          c.in_ok-check_values.ensures c.word.ensures c.requires.0.1 c.in_ok-check_footer.ensures c.store_row.ensures c.store_values.ensures;
    }
