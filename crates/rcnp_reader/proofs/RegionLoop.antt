-- The loop over regions. Over plain values.
-- Assumes nothing.
use Prim.Native.Nat.{ℕ, ◌+◌, ◌≤◌, ◌<◌}
use native.Mathlib.Nat.{zero-add}
use native.Mathlib.Omega.{arith}
use mathlib.Core.Path.{◌≡◌, refl, ap, sym, ◌∙◌}
use mathlib.Core.Bool.{true, false}
use mathlib.Core.List.{List, [], ◌∷◌, ◌++◌, append-nil}
use lib.ListN.{length, drop, length-append}
use Rattle.std.specs.Prelude.{Ok, Err}
use Rattle.event.specs.declared.refusal.Refusal.{Refusal}
use Rattle.event.specs.Refusal.{part}
use Rattle.event.specs.Parser.{alone, several, each}
use Rattle.event.specs.Rows.{store_row}
use Rattle.event.specs.Scanning.{store_rows, Whole, RefusedAs, PartOf}
use Rattle.event.proofs.Elements.{each_append}
use Rattle.event.proofs.Ends.{placed}
use Rattle.event.proofs.ItemsTaken.{TakenTo, none_taken, all_taken, item_refuses, one_taken}
use Rattle.event.proofs.Leads.{store_append}
use Rattle.rcnp_layout.specs.Event.{Region}
use Rattle.rcnp_layout.specs.Layout.{region_rows}
use Rattle.rcnp_layout.specs.Reading.{region, at_sum}
use Rattle.rcnp_layout.proofs.Words.{codes_region, on}

-- the regions up to i were read, k rows in all
pub record RegionsTo (ws b₀ : List ℕ) (i k : ℕ) (b : List ℕ) : Type 0 where
  pub list : List Region
  pub taken : TakenTo (λ u. region) alone at_sum tt 0 ws list tt i (drop i ws)
  pub inside : i ≤ length ws
  pub few : k ≤ i
  pub counted : k ≡ length (each region_rows list)
  pub stored : b ≡ store_rows b₀ 0 (each region_rows list)

pub regions_begin : {ws b : List ℕ} → RegionsTo ws b 0 0 b
regions_begin {ws} = record { list = []; taken = none_taken (λ u. region) alone at_sum tt 0 ws; inside = omega arith; few = omega arith; counted = refl; stored = refl }

module _ {ws b₀ : List ℕ} {i k : ℕ} {b : List ℕ} (h : RegionsTo ws b₀ i k b) where
  pub regions_done : true ≡ at_sum (drop i ws) → PartOf (each region_rows) (several region at_sum 0 ws) ws 0 b₀ b (Ok (part i k))
  regions_done e = record {
    part = record {
      value = h.list;
      parsed = all_taken h.taken (sym e);
      inside = h.inside;
      few = h.few;
      counted = h.counted ∙ sym (zero-add (length (each region_rows h.list)));
      stored = h.stored;
    };
  }

  module _ (more : false ≡ at_sum (drop i ws)) where
    pub region_refused : {r : Refusal} (after : List ℕ) → RefusedAs (region i (drop i ws)) r → PartOf (each region_rows) (several region at_sum 0 ws) ws 0 b₀ after (Err r)
    region_refused after t = record {
      part = record { number = t.number; place = t.place; refused = item_refuses h.taken (λ u. codes_region) (λ u. on) refl (sym more) t.refused; named = t.named };
    }

    module _ {j k' : ℕ} {b' : List ℕ} (w : Whole region_rows (region i (drop i ws)) ws k b b' j k') where
      pub region_longer : i < j
      region_longer = let p = placed codes_region ws i h.inside w.parsed in omega (arith, p.1)

      pub region_taken : RegionsTo ws b₀ j k' b'
      region_taken =
          let rows = each region_rows h.list in
          let new = region_rows w.value in
          let more_rows : each region_rows (h.list ++ (w.value ∷ [])) ≡ rows ++ new = each_append region_rows h.list (w.value ∷ []) ∙ ap (rows ++◌) (append-nil new) in
          let z : 0 + length rows ≡ k = omega (arith, h.counted) in
          record {
            list = h.list ++ (w.value ∷ []);
            taken = one_taken h.taken (λ u. codes_region) (λ u. on) refl (sym more) w.parsed;
            inside = w.inside;
            few = w.few;
            counted = w.counted ∙ rw more_rows (omega (arith, h.counted, length-append rows new));
            stored = w.stored ∙ rw (h.stored, more_rows, store_append store_row b₀ 0 rows new, z);
          }
