-- The loops over the rows of a CRDC's groups: one turn each, over plain values.
-- Assumes nothing.
use Prim.Native.Nat.{ℕ, ◌+◌, ◌*◌, ◌/◌, ◌≤◌, ◌<◌}
use native.Mathlib.Omega.{arith}
use mathlib.Core.Path.{◌≡◌, refl, ap, ◌∙◌}
use mathlib.Core.Bool.{true, not}
use mathlib.Core.List.{List, [], ◌∷◌}
use lib.Dec.{ltb→lt, lt→ltb, leb→le, le→leb}
use lib.ListN.{length, get_or, drop, length-map}
use Rattle.event.specs.declared.Row.{Row}
use Rattle.event.specs.Parser.{Result, ok, Passed, ◌>>=◌, give, here, checked, then, many, several, each, alone}
use Rattle.event.specs.Words.{store_word}
use Rattle.event.specs.Scanning.{store_words, Writes}
use Rattle.event.specs.Writing.{at_kind, no_row}
use Rattle.event.proofs.Elements.{each_map, prints_map}
use Rattle.event.proofs.Ends.{placed}
use Rattle.event.proofs.Many.{many_step, codes_many}
use Rattle.event.proofs.Turns.{up_to_stop}
use Rattle.event.proofs.WritingTurns.{WritesOn, still, run_done, run_refused, run_taken, rows_refused, rows_taken, Wrote, wrote, unwritten}
use Rattle.s800_layout.specs.Event.{SampleHead, SampleDatum, Group}
use Rattle.s800_layout.specs.Layout.{sample_head_word, sample_datum_word, group_words, sample_head_row, sample_datum_row, sample_head_checks, above, has_data}
use Rattle.s800_layout.specs.Writing.{sample_head_of, sample_datum_of, sample_datum, after_data, group}
use Rattle.s800_layout.proofs.Rows.{codes_sample_datum, codes_group, group_last}
use Rattle.s800_writer.specs.Rows.{limits_fault, sample_datum_fault, sample_datum_words}
use Rattle.s800_writer.proofs.Limits.{bounded, head_fault_lem}
use Rattle.s800_writer.proofs.SampleRows.{datum_taken, datum_refused, data_over, data_going}
use Rattle.s800_writer.proofs.Singles.{one_taken, one_refused, one_going}
use Rattle.event.specs.Refusal.{PartAnswer, part, refusal}
use Rattle.std.specs.Prelude.{Err, Ok}
use Rattle.event.specs.declared.Part.{Part}
use Rattle.event.specs.declared.refusal.Refusal.{Refusal}
use Rattle.event.proofs.Answers.{Failed}
use Rattle.event.proofs.Leads.{refused_as}
use Rattle.s800_writer.proofs.Failures.{refused_first}

ruleset tests = (arith, ltb→lt, lt→ltb, leb→le, le→leb)

-- what is written of the rows of kind 12 from i on, under the head h
abbrev pub DataWritten : SampleHead → List Row → ℕ → ℕ → List ℕ → PartAnswer → List ℕ → Type 0
DataWritten h rs i = Writes 16 (each sample_datum_words) (many (sample_datum h) above after_data 0 i (drop i rs)) rs

abbrev pub DataRows : SampleHead → ℕ → List Row → ℕ → ℕ → List ℕ → ℕ → ℕ → List ℕ → Type 0
DataRows h least rs = WritesOn 16 (up_to_stop after_data (sample_datum h) above) sample_datum_words (λ st. st ≡ least) rs 0

module _ (h : SampleHead) (p : Passed (sample_head_checks 0 h)) {least : ℕ} {rs : List Row} {i₀ k₀ i n : ℕ} {b₀ b : List ℕ} (w : DataRows h least rs i₀ k₀ b₀ i n b)
    {r : Row} (e : r ≡ get_or rs i no_row) where
  pub data_end : (r.kind ≡ 12 → ⊥) → DataWritten h rs i₀ k₀ b₀ (Ok (part i n)) b
  data_end k = run_done 16 after_data w (data_over rs i e k)

  module _ (k : r.kind ≡ 12) where
    pub data_stop : {refused : Refusal} (after : List ℕ) → Failed (sample_datum_fault h least r) i refused → DataWritten h rs i₀ k₀ b₀ (Err refused) after
    data_stop after t = run_refused 16 after_data w (codes_sample_datum h p) (λ st a g l. refl) refl (data_going rs i e k) after (rw w.holds (datum_refused h least r rs i e t))

    pub data_step : {b' : List ℕ} → 0 ≡ sample_datum_fault h least r → b' ≡ store_word 16 b n (sample_datum_word (sample_datum_of r)) → length b' ≡ length b
        → DataRows h (r.channel / 64 + 1) rs i₀ k₀ b₀ (i + 1) (n + 1) b'
    data_step f s z =
        let few = w.few in
        let t = datum_taken h least r rs i e f in
        let l = t.0 in
        run_taken 16 after_data w (codes_sample_datum h p) (λ st a g l. refl) refl (data_going rs i e k) (rw w.holds t.1) (omega arith) (omega arith) (omega arith) refl s z

-- a head's fields
pub head_checks : (r : Row) → r.unit ≤ 511 → r.channel ≤ 63 → Passed (sample_head_checks 0 (sample_head_of r))
head_checks r u c = omega tests

abbrev pub Groups : List Row → ℕ → ℕ → List ℕ → ℕ → ℕ → List ℕ → Type 0
Groups rs = WritesOn 16 (up_to_stop (at_kind 9) (λ t. group) alone) group_words (λ t. Unit {0}) rs tt

abbrev GroupsWritten : List Row → ℕ → ℕ → List ℕ → PartAnswer → List ℕ → Type 0
GroupsWritten rs i = Writes 16 (each group_words) (several group (at_kind 9) i (drop i rs)) rs

-- a head that is there
module _ (rs : List Row) (i : ℕ) {r : Row} (e : r ≡ get_or rs i no_row) (f : 0 ≡ limits_fault 8 511 63 0 r) where
  pub head_inside : i < length rs
  head_inside = (one_taken 8 511 63 0 sample_head_of sample_head_row (sample_head_checks 22) head_fault_lem refl (λ a. (tt, (tt, tt))) rs i e f).0

  head_going : true ≡ not (at_kind 9 (drop i rs))
  head_going = one_going 8 511 63 0 sample_head_of sample_head_row (sample_head_checks 22) head_fault_lem refl (λ a. (tt, (tt, tt))) rs i e 9 refl f

  pub head_good : Passed (sample_head_checks 0 (sample_head_of r))
  head_good = let d = bounded 8 511 63 0 r f in head_checks r d.unit d.channel

module _ {rs : List Row} {i₀ k₀ i n : ℕ} {b₀ b : List ℕ} (w : Groups rs i₀ k₀ b₀ i n b) {r : Row} (e : r ≡ get_or rs i no_row) where
  more : true ≡ not (at_kind 9 (drop i rs)) → several group (at_kind 9) i (drop i rs) ≡ (group >>= λ a. several group (at_kind 9) >>= λ xs. give (a ∷ xs)) i (drop i rs)
  more going = many_step alone (λ u. codes_group) (λ u x g l. tt) (at_kind 9) group_last (λ u a g l. refl) refl tt i (drop i rs) (still (at_kind 9 (drop i rs)) going)

  pub groups_end : {refused : Refusal} → Failed (limits_fault 8 511 63 0 r) i refused → true ≡ not (at_kind 9 (drop i rs)) → (after : List ℕ) → GroupsWritten rs i₀ k₀ b₀ (Err refused) after
  groups_end t going after = rows_refused 16 w (more going) after
      (refused_first _ (one_refused 8 511 63 0 sample_head_of sample_head_row (sample_head_checks 22) head_fault_lem refl (λ a. (tt, (tt, tt))) rs i e t))

  module _ (f : 0 ≡ limits_fault 8 511 63 0 r) where
    abbrev data_at : Result Row (List SampleDatum)
    data_at = many (sample_datum (sample_head_of r)) above after_data 0 (i + 1) (drop (i + 1) rs)

    abbrev group_of : List SampleDatum → Group
    group_of xs = record { head = sample_head_of r; energies = xs }

    headed : group i (drop i rs) ≡ then (λ xs. here >>= λ k. checked has_data 21 k (group_of xs)) data_at
    headed = rw (one_taken 8 511 63 0 sample_head_of sample_head_row (sample_head_checks 22) head_fault_lem refl (λ a. (tt, (tt, tt))) rs i e f).1

    -- where the rows of kind 12 end
    ended_at : {xs : List SampleDatum} {j : ℕ} {l : List Row} → data_at ≡ ok xs j l → (l ≡ drop j rs) × (j ≡ i + 1 + length xs) × (j ≤ length rs)
    ended_at {xs} u =
        let good = head_good rs i e f in
        let o = placed (codes_many above (codes_sample_datum (sample_head_of r) good) after_data (λ st a g l. refl) refl 0) rs (i + 1) (omega (arith, head_inside rs i e f)) u in
        let printed = ap length (prints_map (sample_datum_row (sample_head_of r)) above 0 xs) ∙ length-map xs (sample_datum_row (sample_head_of r)) in
        (o.0, omega (arith, o.1, printed), o.2)

    module _ {b₁ b₂ : List ℕ} where
      pub groups_refused : {refused : Refusal} → DataWritten (sample_head_of r) rs (i + 1) (n + 1) b₁ (Err refused) b₂ → GroupsWritten rs i₀ k₀ b₀ (Err refused) b₂
      groups_refused t = rows_refused 16 w (more (head_going rs i e f)) b₂ (rw headed (refused_first _ (unwritten 16 (each sample_datum_words) data_at t.scanned)))

      module _ {p : Part} (t : DataWritten (sample_head_of r) rs (i + 1) (n + 1) b₁ (Ok p) b₂) where
        written : Wrote 16 (each sample_datum_words) data_at (n + 1) b₁ p.next p.count b₂
        written = wrote 16 (each sample_datum_words) data_at {j = p.next} {e = p.count} t.scanned

        pub groups_next : (i + 1 ≤ p.next) × (p.next ≤ length rs) × (p.count ≤ 4 * p.next)
        groups_next = (omega (arith, (ended_at written.parsed).1), t.within.0, t.within.1)

        -- a head alone
        pub groups_short : p.next ≡ i + 1 → (after : List ℕ) → GroupsWritten rs i₀ k₀ b₀ (Err (refusal 21 p.next)) after
        groups_short q after = go written.value written.parsed
          where
            go : (xs : List SampleDatum) {l : List Row} → data_at ≡ ok xs p.next l → GroupsWritten rs i₀ k₀ b₀ (Err (refusal 21 p.next)) after
            go [] u = rows_refused 16 w (more (head_going rs i e f)) after (refused_as {n = 21} {p = p.next} (headed ∙ rw u))
            go (d ∷ ds) u = absurd (omega (arith, (ended_at u).1))

        pub groups_step : (p.next ≡ i + 1 → ⊥) → b₁ ≡ store_word 16 b n (sample_head_word (sample_head_of r)) → length b₂ ≡ length b → Groups rs i₀ k₀ b₀ p.next p.count b₂
        groups_step q s y = go written.value written.parsed written.counted written.stored
          where
            go : (xs : List SampleDatum) {l : List Row} → data_at ≡ ok xs p.next l → p.count ≡ n + 1 + length (each sample_datum_words xs) → b₂ ≡ store_words 16 b₁ (n + 1) (each sample_datum_words xs)
                → Groups rs i₀ k₀ b₀ p.next p.count b₂
            go [] u c d = absurd (q (omega (arith, (ended_at u).1)))
            go (a ∷ ds) u c d =
                let words = each_map sample_datum_word (a ∷ ds) in
                let count : p.count ≡ n + length (group_words (group_of (a ∷ ds))) = omega (arith, c, ap length words) in
                let o = ended_at u in
                rows_taken 16 w (more (head_going rs i e f)) {a = group_of (a ∷ ds)} (headed ∙ rw (u, o.0)) tt o.2 groups_next.2 count (d ∙ rw (s, each_map sample_datum_word ds)) y
