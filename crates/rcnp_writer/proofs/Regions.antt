-- The loop over the regions before the check sum, each judged. Over plain values.
-- Assumes nothing.
use Rattle.std.proofs.Common.{◌≡◌, ℕ, ◌+◌, ◌*◌, ◌/◌, ◌<◌, ◌≤◌, true, false, not, ◌&&◌, eqb, List, [], ◌∷◌, length, drop, refl, ap, ◌∙◌, arith}
use lib.ListN.{length-map}
use Rattle.std.specs.Prelude.{Ok, Err}
use Rattle.event.specs.declared.Part.{Part}
use Rattle.event.specs.declared.refusal.Refusal.{Refusal}
use Rattle.event.specs.Refusal.{PartAnswer, part}
use Rattle.event.specs.declared.Row.{Row}
use Rattle.event.specs.Parser.{ok, several, each, alone}
use Rattle.event.specs.Writing.{rows_in, row_at}
use Rattle.event.proofs.Elements.{prints_length, each_length}
use Rattle.event.proofs.Ends.{placed}
use Rattle.event.proofs.RowJudged.{rows_from_lem, rows_over}
use Rattle.event.proofs.RowsIn.{rows_count}
use Rattle.event.proofs.Turns.{up_to_stop}
use Rattle.event.proofs.WritingTurns.{WritesOn, run_done, run_refused, run_taken, Wrote, wrote, unwritten}
use Rattle.rcnp_layout.specs.Event.{Form, input_register, scaler, vdc, opaque, Content, Region}
use Rattle.rcnp_layout.specs.Layout.{scaler_words, content_words, region_words, scaler_row, next_index, content_rows, region_rows}
use Rattle.rcnp_layout.specs.Writing.{region, at_sum}
use Rattle.rcnp_layout.proofs.Rows.{codes_region}
use Rattle.rcnp_layout.proofs.Sizes.{not_sum}
use Rattle.rcnp_writer.specs.Parts.{Counts}
use Rattle.rcnp_writer.proofs.Contents.{none}

-- where the check sum region's own row stands, or the rows end
pub sum_there : (xs : List ℕ) (i : ℕ) {r : Row} → i < length xs / 4 → r ≡ row_at xs i → not (eqb 32 r.kind && eqb 15 r.unit) ≡ not (at_sum (drop i (rows_in xs)))
sum_there xs i h e = rw (rows_from_lem (rows_in xs) i (rw (rows_count xs) h), e)

pub rows_ended : (xs : List ℕ) (i : ℕ) → length xs / 4 ≤ i → false ≡ not (at_sum (drop i (rows_in xs)))
rows_ended xs i h = rw (rows_over (rows_in xs) i (rw (rows_count xs) h)).0

-- at most two words for a row, a region's own row apart
content_few : (f : Form) (c : Content f) → length (content_words f c) ≤ 2 * length (content_rows f c)
content_few input_register w = omega arith
content_few scaler vs = omega (arith, prints_length (λ i v. scaler_row i v ∷ []) next_index 1 (λ i v. refl) 0 vs, each_length scaler_words 2 (λ v. refl) vs)
content_few vdc xs = simp length-map (omega arith)
content_few (opaque k) ws = simp length-map (omega arith)

few_words : (g : Region) → length (region_words g) ≤ 4 * length (region_rows g)
few_words g = omega (arith, content_few g.form g.content)

abbrev pub Regions : List Row → (i k : ℕ) → Type 0
Regions rs i k = WritesOn 16 (up_to_stop at_sum (λ u. region) alone) region_words (λ u. Unit {0}) rs tt 0 0 [] i k []

module _ {rs : List Row} {i k : ℕ} (h : Regions rs i k) where
  abbrev Judged : PartAnswer → Type 0
  Judged = Counts (each region_words) (several region at_sum 0 rs) rs 0

  pub regions_done : false ≡ not (at_sum (drop i rs)) → Judged (Ok (part i k))
  regions_done = run_done 16 at_sum h

  module _ (going : true ≡ not (at_sum (drop i rs))) where
    pub region_refused : {refused : Refusal} → Counts region_words (region i (drop i rs)) rs 0 (Err refused) → Judged (Err refused)
    region_refused w = run_refused 16 at_sum h (λ u. codes_region) (λ u g v l. not_sum g.form) refl going [] (unwritten 16 region_words (region i (drop i rs)) w.scanned)

    module _ {p : Part} (w : Counts region_words (region i (drop i rs)) rs 0 (Ok p)) where
      abbrev next : ℕ
      next = p.next

      abbrev count : ℕ
      count = p.count

      whole : Wrote 16 region_words (region i (drop i rs)) 0 [] next count []
      whole = wrote 16 region_words (region i (drop i rs)) w.scanned

      to : (whole.input ≡ drop next rs) × (next ≡ i + length (region_rows whole.value)) × (next ≤ length rs)
      to = placed codes_region rs i h.inside whole.parsed

      pub region_within : (next ≤ length rs) × (i < next) × (k + count ≤ 4 * next)
      region_within = let few = h.few in (to.2, omega (arith, to.1), omega (arith, to.1, whole.counted, few_words whole.value))

      pub region_taken : Regions rs next (k + count)
      region_taken =
          let t = whole in
          run_taken 16 at_sum h (λ u. codes_region) (λ u g v l. not_sum g.form) refl going (t.parsed ∙ ap (ok t.value next) to.0) tt to.2 region_within.2
          (omega (arith, t.counted)) (none k (region_words t.value)) refl
