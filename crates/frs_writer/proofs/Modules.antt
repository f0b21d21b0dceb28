-- The loop over modules, each written into the part of the words that starts at its place. Over plain values.
-- Assumes nothing.
use Prim.Native.Nat.{ℕ, ◌+◌, ◌-◌, ◌*◌, ◌%◌, ◌≤◌, ◌<◌, min}
use native.Mathlib.Omega.{arith}
use mathlib.Core.Path.{◌≡◌, refl, sym, ap, ◌∙◌}
use mathlib.Core.Bool.{false}
use mathlib.Core.List.{List, [], ◌∷◌, ◌++◌, map}
use lib.Dec.{ltb→lt}
use lib.ListN.{length, get_or, take, drop, length-append, length-map}
use borrow.Rule.Slice.PartMut.{put_mid}
use Rattle.std.specs.Prelude.{Ok, Err}
use Rattle.event.specs.declared.Part.{Part}
use Rattle.event.specs.declared.refusal.Refusal.{Refusal}
use Rattle.event.specs.Refusal.{PartAnswer}
use Rattle.event.specs.declared.Row.{Row}
use Rattle.event.specs.Parser.{ended, many, each}
use Rattle.event.specs.Channels.{insert, Blocked}
use Rattle.event.specs.Writing.{no_row}
use Rattle.event.specs.Scanning.{Writes}
use Rattle.event.proofs.ChannelLaws.{blocked_more}
use Rattle.event.proofs.PartTurns.{parts_done, part_refused, part_within, part_taken}
use Rattle.event.proofs.RowJudged.{rows_from_lem}
use Rattle.event.proofs.Turns.{up_to_stop}
use Rattle.event.proofs.WritingTurns.{WritesOn}
use Rattle.frs_layout.specs.Event.{Module, empty, with_data, geo_of}
use Rattle.frs_layout.specs.Layout.{value_word, footer_word, module_words, value_row, empty_row, module_row, module_rows, geos, ValidModule}
use Rattle.frs_layout.specs.Writing.{one_module}
use Rattle.frs_layout.proofs.Rows.{codes_module}
use Rattle.frs_writer.specs.Parts.{WritesModule}

-- the set holds the GEOs before
abbrev pub Modules : List Row → (set : ℕ) → ℕ → ℕ → List ℕ → ℕ → ℕ → List ℕ → Type 0
Modules rs set = WritesOn 32 (up_to_stop ended one_module geos) module_words (Blocked 0 set) rs []

go_on : (m : Module) (l : List Row) → ended (module_rows m ++ l) ≡ false
go_on (empty g) l = refl
go_on (with_data g vs c) l = refl

-- at most four longwords for a row
few_words : (m : Module) → length (module_words m) ≤ 4 * length (module_rows m)
few_words (empty g) = omega arith
few_words (with_data g vs c) = omega (arith, length-append (map (value_word g) vs) (footer_word g c ∷ []), length-map vs (value_word g), length-map vs (value_row g))

-- the GEO stands in the first row
geo_of_row : (m : Module) (l : List Row) {r : Row} {l' : List Row} → module_rows m ++ l ≡ r ∷ l' → geo_of m ≡ r.unit
geo_of_row (empty g) l {r} q = let u : empty_row g ≡ r = cc in ap (λ (x : Row). x.unit) u
geo_of_row (with_data g vs c) l {r} q = let u : module_row g (length vs) c ≡ r = cc in ap (λ (x : Row). x.unit) u

module _ {rs : List Row} {set first laid : ℕ} {b₀ b : List ℕ} {written : Part} (h : Modules rs set first laid b₀ written.next written.count b) where
  abbrev Written : PartAnswer → List ℕ → Type 0
  Written = Writes 32 (each module_words) (many one_module geos ended [] first (drop first rs)) rs laid b₀

  pub modules_done : length rs ≤ written.next → Written (Ok written) b
  modules_done = parts_done 32 h

  module _ (below : written.next < length rs) {start : ℕ} (s : start ≡ min written.count (length b)) {lent : List ℕ} where
    pub module_refused : {refused : Refusal} (after : List ℕ) → WritesModule set rs written.next (take (length b - start) (drop start b)) (Err refused) lent → Written (Err refused) after
    module_refused after w = part_refused 32 codes_module (λ m l. tt) tt go_on few_words h below s refl (w.writes h.state h.holds) after refl

    module _ {p : Part} (w : WritesModule set rs written.next (take (length b - start) (drop start b)) (Ok p) lent) where
      pub module_within : (p.next ≤ length rs) × (written.next < p.next) × (written.count + p.count ≤ 4 * p.next)
      module_within = part_within 32 codes_module (λ m l. tt) tt go_on few_words h below s refl (w.writes h.state h.holds) refl

      pub module_taken : {r : Row} {set' : ℕ} → r ≡ get_or rs written.next no_row → set' ≡ insert set (r.unit % 32)
          → Modules rs set' first laid b₀ p.next (written.count + p.count) (put_mid start (length b - start) b lent)
      module_taken {r} {set'} e t = part_taken 32 codes_module (λ m l. tt) tt go_on few_words h below s refl (w.writes h.state h.holds) refl seen refl
        where
          seen : (m : Module) (l : List Row) → ValidModule h.state m → drop written.next rs ≡ module_rows m ++ l → Blocked 0 set' (geos h.state m)
          seen m l v z =
              let g : geo_of m ≡ r.unit = geo_of_row m l (sym z ∙ rows_from_lem rs written.next below ∙ ap (◌∷ drop (written.next + 1) rs) (sym e)) in
              let low : r.unit % 32 ≡ geo_of m = omega (arith, ltb→lt, v.0.0) in
              rw (t, low) (blocked_more (geo_of m) h.holds)
