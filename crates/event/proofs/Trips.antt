-- Demand 2 over any dialect: a reading accepts exactly the words of valid events, and a writing exactly their rows.
-- Assumes nothing.
use Prim.Native.Nat.{ℕ, ◌≤◌}
use mathlib.Core.Path.{◌≡◌, refl, ap, sym, ◌∙◌, subst}
use mathlib.Core.Logic.{◌↔◌}
use mathlib.Core.List.{List}
use lib.Dec.{T}
use lib.ListN.{length}
use Rattle.event.specs.declared.Row.{Row}
use Rattle.event.specs.Parser.{Parser, ended}
use Rattle.event.specs.Words.{between}
use Rattle.event.specs.Rows.{flat}
use Rattle.event.specs.Outcome.{Outcome, done, outcome, limited}
use Rattle.event.specs.Writing.{writing_by}
use Rattle.event.specs.Demands.{Sized, SomeEvent}
use Rattle.event.proofs.Codes.{Codes, At}
use Rattle.event.proofs.Ends.{Ends}
use Rattle.event.proofs.Elements.{bounds, in_between}
use Rattle.event.proofs.RowCodes.{elements_iff}
use Rattle.event.proofs.Whole.{printed, accepted, limited_iff}

-- with room for so many items
pub in_room_lem : {A P : Type 0} (n room : ℕ) {x : Outcome A} {l : List A} → (x ≡ done l) ↔ P → (limited n room x ≡ done l) ↔ (P × (length l ≤ room))
in_room_lem n room {x} {l} h =
    let fits = limited_iff n room x l in
    (λ e. let k = fits.0 e in (h.0 k.0, k.1), λ p. fits.1 (h.1 p.0, p.1))

module _ {Event : Type 0} (Formed : Event → Type 0) (words : Event → List ℕ) (rows : Event → List Row) (largest : ℕ) where
  -- some valid event has these words and these rows
  abbrev Has : List ℕ → List Row → Type 0
  Has = SomeEvent (Sized Formed words largest) words rows

  -- words: the parser of n words prints `words`, where n is their number
  pub reads : {parser : ℕ → Parser ℕ Event} {print : ℕ → Event → List ℕ} (smallest : ℕ)
      → ((n : ℕ) → Codes (At ended) (parser n) (print n) (λ e. T (between smallest largest n) × Formed e)) → ((n : ℕ) → Ends ended (parser n))
      → ((n : ℕ) (e : Event) → length (print n e) ≡ length (words e)) → ((n : ℕ) (e : Event) → n ≡ length (words e) → print n e ≡ words e)
      → ((e : Event) → Formed e → smallest ≤ length (words e)) → (ws : List ℕ) (rs : List Row) → (outcome (λ e. done (rows e)) (parser (length ws) 0 ws) ≡ done rs) ↔ Has ws rs
  reads {parser} smallest c ends long counted least ws rs = (to, from)
    where
      to : outcome (λ e. done (rows e)) (parser (length ws) 0 ws) ≡ done rs → Has ws rs
      to e =
          let h = accepted (c (length ws)) (λ v. done (rows v)) (ends (length ws)) ws rs e in
          let b = bounds smallest largest (length ws) h.1.0 in
          let w : words h.0 ≡ ws = sym (counted (length ws) h.0 (sym (ap length h.2) ∙ long (length ws) h.0)) ∙ h.2 in
          record { event = h.0; valid = record { formed = h.1.1; size = subst (λ (l : List ℕ). length l ≤ largest) (sym w) b.1 }; its_words = w; its_rows = cc h.3 }

      from : Has ws rs → outcome (λ e. done (rows e)) (parser (length ws) 0 ws) ≡ done rs
      from v =
          let e = v.event in
          let n = length (words e) in
          let b = in_between smallest largest n (least e v.valid.formed) v.valid.size in
          let h = printed (c n) (λ x. done (rows x)) e (b, v.valid.formed) in
          let k : outcome (λ x. done (rows x)) (parser n 0 (words e)) ≡ done (rows e)
          = subst (λ (l : List ℕ). outcome (λ x. done (rows x)) (parser n 0 l) ≡ done (rows e)) (counted n e refl) h in
          rw (← v.its_words, ← v.its_rows) k

  -- rows, and the elements of a buffer
  module _ {parser : Parser Row Event} (c : Codes (At ended) parser rows Formed) (ends : Ends ended parser) where
    abbrev writing_rows : List Row → Outcome ℕ
    writing_rows rs = limited 23 largest (outcome (λ e. done (words e)) (parser 0 rs))

    writes_rows : (ws : List ℕ) (rs : List Row) → (writing_rows rs ≡ done ws) ↔ Has ws rs
    writes_rows ws rs = (to, from)
      where
        fits : (writing_rows rs ≡ done ws) ↔ ((outcome (λ e. done (words e)) (parser 0 rs) ≡ done ws) × (length ws ≤ largest))
        fits = limited_iff 23 largest (outcome (λ e. done (words e)) (parser 0 rs)) ws

        to : writing_rows rs ≡ done ws → Has ws rs
        to e =
            let f = fits.0 e in
            let h = accepted c (λ v. done (words v)) ends rs ws f.0 in
            let w : words h.0 ≡ ws = cc h.3 in
            record { event = h.0; valid = record { formed = h.1; size = subst (λ (l : List ℕ). length l ≤ largest) (sym w) f.1 }; its_words = w; its_rows = h.2 }

        from : Has ws rs → writing_rows rs ≡ done ws
        from v =
            let e = v.event in
            let p : outcome (λ x. done (words x)) (parser 0 rs) ≡ done ws = rw (← v.its_rows, ← v.its_words) (printed c (λ x. done (words x)) e v.valid.formed) in
            fits.1 (p, subst (λ (l : List ℕ). length l ≤ largest) v.its_words v.valid.size)

    pub writes : (xs ws : List ℕ) → (writing_by words largest parser xs ≡ done ws) ↔ ((rs : List Row) × (flat rs ≡ xs) × Has ws rs)
    writes xs ws =
        let h = elements_iff writing_rows xs ws in
        (λ e. let k = h.0 e in (k.0, k.1, (writes_rows ws k.0).0 k.2), λ v. h.1 (v.0, v.1, (writes_rows ws v.0).1 v.2))
