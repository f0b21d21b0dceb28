-- A loop over words of one item and one row each, with a channel that must be new: the set holds the channels that are barred, and those before.
-- Assumes nothing.
use Prim.Native.Nat.{ℕ, suc, ◌+◌, ◌≤◌, ◌<◌}
use native.Mathlib.Omega.{arith}
use mathlib.Core.Path.{◌≡◌, refl, ◌∙◌}
use mathlib.Core.Bool.{cond}
use mathlib.Core.List.{List, [], ◌∷◌}
use lib.Dec.{eqb}
use lib.ListN.{length, get_or}
use lib.Seq.{slice}
use borrow.Author.Tests.{ne_eqb}
use Rattle.event.specs.declared.Row.{Row}
use Rattle.event.specs.Channels.{insert, Blocked}
use Rattle.event.specs.Parser.{Result, ok, refuse, Parser, ended, many, each}
use Rattle.event.specs.declared.refusal.Refusal.{Refusal}
use Rattle.event.specs.Rows.{store_row}
use Rattle.event.proofs.Answers.{Failed}
use Rattle.event.specs.Scanning.{Scanned}
use Rattle.event.proofs.ChannelLaws.{blocked_more}
use Rattle.event.proofs.Codes.{Codes, any}
use Rattle.event.proofs.Turns.{Reached, stop, step, at_word}
use Rattle.std.specs.Prelude.{Err}

-- what one word gives: its item, or the refusal n that it meets, where n is not 0
abbrev pub on_fault : {A : Type 0} → ℕ → A → ℕ → List ℕ → Result ℕ A
on_fault n a i r = cond (eqb n 0) (ok a (suc i) r) (refuse n i)

module _ {A : Type 0} (item : List ℕ → Parser ℕ A) (channel : A → ℕ) (row_of : A → Row) where
  abbrev with_channel : List ℕ → A → List ℕ
  with_channel seen a = channel a ∷ seen

  abbrev one_row : A → List Row
  one_row a = row_of a ∷ []

  abbrev pub ChannelTurns : (barred set : ℕ) → List ℕ → ℕ → ℕ → ℕ → List ℕ → ℕ → ℕ → List ℕ → Type 0
  ChannelTurns barred set ws end = Reached item with_channel one_row (Blocked barred set) ws end []

  module _ {print : A → ℕ} {Good : List ℕ → A → Type 0} (c : (seen : List ℕ) → Codes any (item seen) (λ a. print a ∷ []) (Good seen))
      {barred set : ℕ} {ws : List ℕ} {end i₀ k₀ i k : ℕ} {b₀ b : List ℕ} (h : ChannelTurns barred set ws end i₀ k₀ b₀ i k b) (below : i < end) (long : end ≤ length ws)
      {w : ℕ} (e : w ≡ get_or ws i 0) (fault : ℕ) (a : A) (judged : (r : List ℕ) → item h.state i (w ∷ r) ≡ on_fault fault a i r) where
    here : item h.state i (slice i end ws) ≡ on_fault fault a i (slice (suc i) end ws)
    here = rw (at_word ws i end below long, ← e) (judged (slice (suc i) end ws))

    pub channel_refused : {r : Refusal} (after : List ℕ) → Failed fault i r → Scanned (each one_row) (many item with_channel ended [] i₀ (slice i₀ end ws)) k₀ b₀ (Err r) after
    channel_refused after t = stop c (λ seen a g r. refl) h below long after (record { number = fault; place = i; refused = here ∙ rw (ne_eqb fault 0 t.some); named = t.named })

    pub channel_taken : {set' : ℕ} {b' : List ℕ} → 0 ≡ fault → set' ≡ insert set (channel a) → b' ≡ store_row b k (row_of a) → length b' ≡ length b
        → ChannelTurns barred set' ws end i₀ k₀ b₀ (i + 1) (k + 1) b'
    channel_taken f s q z =
        let few = h.few in
        let one : suc i ≡ i + 1 = omega arith in
        let t : item h.state i (slice i end ws) ≡ ok a (i + 1) (slice (i + 1) end ws) = here ∙ rw (← f, one) in
        step c (λ seen a g r. refl) h below long t (rw s (blocked_more (channel a) h.holds)) (omega arith) (omega arith) refl q z
