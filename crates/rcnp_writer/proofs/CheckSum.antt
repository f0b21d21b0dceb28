-- The check sum region, after which no row comes, judged. Over plain values.
-- Assumes nothing.
use Rattle.std.proofs.Common.{◌≡◌, ℕ, ◌+◌, ◌<◌, ◌≤◌, List, [], length, get_or, drop, refl, arith}
use Rattle.std.specs.Prelude.{Ok, Err}
use Rattle.event.specs.declared.refusal.Refusal.{Refusal}
use Rattle.event.specs.Refusal.{PartAnswer, part, refusal}
use Rattle.event.proofs.Answers.{Failed}
use Rattle.event.proofs.Leads.{refused_as}
use Rattle.event.specs.declared.Row.{Row}
use Rattle.event.specs.Parser.{ok}
use Rattle.event.specs.Writing.{of_kind, no_row}
use Rattle.event.proofs.RowJudged.{rows_from_lem, rows_over, row_taken, row_refused}
use Rattle.event.proofs.WritingTurns.{writes_refused, writes_done}
use Rattle.rcnp_layout.specs.Event.{sum_id}
use Rattle.rcnp_layout.specs.Layout.{sum_words, region_row, word_row, word_checks}
use Rattle.rcnp_layout.specs.Writing.{word, sum_header}
use Rattle.rcnp_writer.specs.Faults.{sum_fault, datum_fault}
use Rattle.rcnp_writer.specs.Parts.{Counts, last_region}
use Rattle.rcnp_writer.proofs.Contents.{none}

module _ (rs : List Row) (at : ℕ) {r : Row} (e : r ≡ get_or rs at no_row) where
  abbrev SumIn : PartAnswer → Type 0
  SumIn = Counts sum_words (last_region at (drop at rs)) rs 0

  pub own_refused : {refused : Refusal} → Failed (sum_fault r) at refused → SumIn (Err refused)
  unfolding sum_fault
  own_refused t = writes_refused 16 sum_words (record {
    number = sum_fault r;
    place = at;
    refused = rw (row_refused (of_kind 32) (λ r. tt {0}) (λ u. region_row sum_id 1) (λ u. []) refl (λ u. tt) rs at e refl t.some);
    named = t.named;
  }) refl

  module _ (f : 0 ≡ sum_fault r) where
    own_taken : (at < length rs) × (sum_header at (drop at rs) ≡ ok tt (at + 1) (drop (at + 1) rs))
    unfolding sum_fault
    own_taken = row_taken (of_kind 32) (λ r. tt {0}) (λ u. region_row sum_id 1) (λ u. []) refl (λ u. tt) rs at e f

    pub own_there : at < length rs
    own_there = own_taken.0

    module _ {w : Row} (d : w ≡ get_or rs (at + 1) no_row) where
      pub sum_refused : {refused : Refusal} → Failed (datum_fault 33 0 65536 w) (at + 1) refused → SumIn (Err refused)
      unfolding datum_fault
      sum_refused t = writes_refused 16 sum_words (record {
        number = datum_fault 33 0 65536 w;
        place = at + 1;
        refused = rw (own_taken.1, row_refused (of_kind 33) (λ r. r.datum) word_row (word_checks 22) refl (λ v. (tt, tt)) rs (at + 1) d refl t.some);
        named = t.named;
      }) refl

      module _ (g : 0 ≡ datum_fault 33 0 65536 w) where
        word_taken : (at + 1 < length rs) × (word (at + 1) (drop (at + 1) rs) ≡ ok w.datum (at + 2) (drop (at + 2) rs))
        unfolding datum_fault
        word_taken =
            let two : at + 1 + 1 ≡ at + 2 = omega arith in
            rw two at (row_taken (of_kind 33) (λ r. r.datum) word_row (word_checks 22) refl (λ v. (tt, tt)) rs (at + 1) d g)

        pub word_there : at + 2 ≤ length rs
        word_there = omega (arith, word_taken.0)

        pub followed : at + 2 < length rs → SumIn (Err (refusal 21 (at + 2)))
        followed h = writes_refused 16 sum_words (refused_as (rw (own_taken.1, word_taken.1, rows_from_lem rs (at + 2) h))) refl

        pub sum_taken : length rs ≤ at + 2 → SumIn (Ok (part (at + 2) 2))
        sum_taken l = writes_done 16 sum_words {a = w.datum} {l = drop (at + 2) rs}
            (rw (own_taken.1, word_taken.1, (rows_over rs (at + 2) l).0)) refl refl (none 0 (sum_words w.datum)) word_there (omega arith)
