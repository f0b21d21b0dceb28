-- The loop over modules. Over plain values.
-- Assumes nothing.
use Prim.Native.Nat.{ℕ, ◌+◌, ◌*◌, ◌/◌, ◌%◌, ◌^◌, ◌≤◌, ◌<◌}
use native.Mathlib.Nat.{le_refl}
use native.Mathlib.Omega.{arith}
use mathlib.Core.Path.{◌≡◌, ap, sym, ◌∙◌}
use mathlib.Core.List.{List, [], ◌∷◌, ◌++◌}
use lib.Dec.{leb→le}
use lib.ListN.{length, get_or, drop}
use Rattle.std.specs.Prelude as std
use Rattle.std.specs.Prelude.{Ok, Err}
use Rattle.std.proofs.lemmas.List.{drop_more}
use Rattle.event.specs.declared.Part.{Part}
use Rattle.event.specs.declared.refusal.Refusal.{Refusal}
use Rattle.event.specs.Parser.{ended, many, each}
use Rattle.event.specs.Channels.{insert, Blocked}
use Rattle.event.specs.Scanning.{RefusedAs, Whole, Scanned}
use Rattle.event.proofs.ChannelLaws.{blocked_none, blocked_more}
use Rattle.event.proofs.Ends.{placed}
use Rattle.event.proofs.Loops.{to_the_end}
use Rattle.event.proofs.RowStores.{length_rows}
use Rattle.event.proofs.Turns.{Reached, begin, finish, stop, step}
use Rattle.frs_layout.specs.Event.{Module, empty, with_data, geo_of}
use Rattle.frs_layout.specs.Layout.{module_words, module_rows, geos, ValidModule}
use Rattle.frs_layout.specs.Reading.{one_module}
use Rattle.frs_layout.proofs.Words.{codes_module, not_ended}
use Rattle.frs_reader.specs.Modules.{ReadsModule}

-- a module's first longword has its GEO
first_geo : (seen : List ℕ) (m : Module) (w : ℕ) (r s : List ℕ) → ValidModule seen m → w ∷ r ≡ module_words m ++ s → w / 2 ^ 27 ≡ geo_of m
first_geo seen (empty g) w r s v e = let z : w ≡ g * 2 ^ 27 + 6 * 2 ^ 24 + 0 = cc in omega arith
first_geo seen (with_data g vs c) w r s v e = let z : w ≡ g * 2 ^ 27 + 2 * 2 ^ 24 + length vs = cc in let n = leb→le (length vs) 32 v.1.0.1.0 in omega arith

some_word : (m : Module) → 1 ≤ length (module_words m)
some_word (empty g) = omega arith
some_word (with_data g vs c) = omega arith

-- the set holds the GEOs before
abbrev pub Modules : (set : ℕ) → List ℕ → ℕ → ℕ → List ℕ → ℕ → ℕ → List ℕ → Type 0
Modules set ws = Reached one_module geos module_rows (Blocked 0 set) ws (length ws) []

pub modules_begin : {ws : List ℕ} {i k : ℕ} {b : List ℕ} → i ≤ length ws → k ≤ i → Modules 0 ws i k b i k b
modules_begin l m = begin blocked_none l m

module _ {set : ℕ} {ws : List ℕ} {i₀ k₀ : ℕ} {b₀ b : List ℕ} {from : Part} (h : Modules set ws i₀ k₀ b₀ from.next from.count b) where
  abbrev Ends : std.Result ℕ Refusal → List ℕ → Type 0
  Ends = Scanned (each module_rows) (many one_module geos ended [] i₀ (drop i₀ ws)) k₀ b₀

  pub modules_end : length ws ≤ from.next → Ends (Ok from.count) b
  modules_end l = rw (to_the_end i₀ ws) (finish h l)

  module _ (below : from.next < length ws) where
    pub module_refused : {r : Refusal} {b' : List ℕ} → ReadsModule set ws from b b' (Err r) → (after : List ℕ) → Ends (Err r) after
    module_refused {r} {b'} m after = go (m.reads h.state h.holds).part
      where
        go : RefusedAs (one_module h.state from.next (drop from.next ws)) r → Ends (Err r) after
        go t = rw (to_the_end i₀ ws) (stop codes_module not_ended h below (le_refl (length ws)) after
            (record { number = t.number; place = t.place; refused = rw (← to_the_end from.next ws) t.refused; named = t.named }))

    module _ {b' : List ℕ} {to : Part} (m : ReadsModule set ws from b b' (Ok to)) where
      abbrev Read : Type 0
      Read = Whole module_rows (one_module h.state from.next (drop from.next ws)) ws from.count b b' to.next to.count

      read : Read
      read = (m.reads h.state h.holds).part

      pub module_longer : from.next < to.next
      module_longer = let p = placed (codes_module h.state) ws from.next (omega arith) read.parsed in omega (arith, p.1, some_word read.value)

      pub module_taken : {geo set' : ℕ} → geo ≡ get_or ws from.next 0 / 2 ^ 27 → geo < 2 ^ 5 → set' ≡ insert set (geo % 32) → Modules set' ws i₀ k₀ b₀ to.next to.count b'
      module_taken {geo} {set'} g f s = go read
        where
          go : Read → Modules set' ws i₀ k₀ b₀ to.next to.count b'
          go t =
              let c = (codes_module h.state).sound from.next (drop from.next ws) t.value to.next (drop to.next ws) t.parsed in
              let e : geo_of t.value ≡ geo = sym (g ∙ first_geo h.state t.value (get_or ws from.next 0) (drop (from.next + 1) ws) (drop to.next ws) c.0 (sym (drop_more ws from.next 0 below) ∙ c.1)) in
              let low : geo % 32 ≡ geo = omega arith in
              step codes_module not_ended h below (le_refl (length ws)) {a = t.value} (rw (← to_the_end from.next ws, ← to_the_end to.next ws) t.parsed)
              (rw (e, s, low) (blocked_more geo h.holds)) t.inside t.few t.counted t.stored (ap length t.stored ∙ length_rows (module_rows t.value) b from.count)
