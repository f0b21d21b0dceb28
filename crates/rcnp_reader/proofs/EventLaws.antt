-- An event: its regions, the check sum region, the number of its words, and its sum. Over plain values.
-- Assumes nothing.
use Prim.Native.Nat.{ℕ, ◌-◌, ◌%◌, ◌≤◌, ◌<◌}
use native.Mathlib.Omega.{arith}
use mathlib.Core.Path.{◌≡◌, refl, sym, ◌∙◌, subst}
use mathlib.Core.Bool.{Bool, true, false}
use mathlib.Core.List.{List}
use lib.ListN.{length, drop}
use borrow.Author.Tests.{lt-leb, le-leb, eq-eqb, ne_eqb}
use Rattle.std.specs.Prelude.{Ok, Err}
use Rattle.event.specs.declared.Part.{Part}
use Rattle.event.specs.declared.refusal.Refusal.{Refusal}
use Rattle.event.specs.Refusal.{Answer, refusal}
use Rattle.event.specs.Parser.{Result, ok, refuse, then, ◌>>=◌, ◌>>◌, give, require, finish, lastly, alone, several, each}
use Rattle.event.specs.Words.{between}
use Rattle.event.specs.Scanning.{reading, Scanned, RefusedAs, PartOf}
use Rattle.event.proofs.Codes.{T_true}
use Rattle.event.proofs.Elements.{is_between}
use Rattle.event.proofs.Ends.{ends_many}
use Rattle.event.proofs.Impossible.{impossible}
use Rattle.event.proofs.Leads.{leads_part, scanned_refuse, refused_scan, accepted_scan}
use Rattle.event.proofs.Turns.{lastly_holds, lastly_fails, lastly_taken}
use Rattle.rcnp_layout.specs.Event.{Region, Event}
use Rattle.rcnp_layout.specs.Layout.{region_rows, sum_rows, rows, total, summed}
use Rattle.rcnp_layout.specs.Reading.{region, sum_region, at_sum, parts_with, event_parser}
use Rattle.rcnp_layout.proofs.Sums.{read_sum}
use Rattle.rcnp_reader.specs.Regions.{last_parts}

abbrev parts : List ℕ → Result ℕ Event
parts ws = parts_with (finish 6) 0 ws

-- what follows the regions, in the event
abbrev with_sum : List Region → ℕ → Event
with_sum gs w = record { regions = gs; sum = w }

behind_regions : (gs : List Region) (i : ℕ) (s : List ℕ) → (sum_region >>= λ w. finish 6 >> give (with_sum gs w)) i s ≡ then (λ w. give (with_sum gs w)) (last_parts i s)
behind_regions gs i s = go (sum_region i s)
  where
    last : (w : ℕ) (x : Result ℕ (Unit {0})) → then (λ u. give (with_sum gs w)) x ≡ then (λ v. give (with_sum gs v)) (then (λ u. give w) x)
    last w (ok u k t) = refl
    last w (refuse n p) = refl

    go : (x : Result ℕ ℕ) → then (λ w. finish 6 >> give (with_sum gs w)) x ≡ then (λ w. give (with_sum gs w)) (then (λ w. finish 6 >> give w) x)
    go (ok w j r) = last w (finish 6 j r)
    go (refuse n p) = refl

module _ {ws b₀ b : List ℕ} where
  pub parts_refused : {r : Refusal} (after : List ℕ) → PartOf (each region_rows) (several region at_sum 0 ws) ws 0 b₀ b (Err r) → Scanned rows (parts ws) 0 b₀ (Err r) after
  parts_refused {r} after s = go s.part
    where
      go : RefusedAs (several region at_sum 0 ws) r → Scanned rows (parts ws) 0 b₀ (Err r) after
      go t = rw t.named (scanned_refuse rows {n = t.number} {p = t.place} 0 b₀ after (rw t.refused))

  module _ {p : Part} (s : PartOf (each region_rows) (several region at_sum 0 ws) ws 0 b₀ b (Ok p)) where
    abbrev i : ℕ
    i = p.next

    abbrev k : ℕ
    k = p.count

    pub sum_there : (i ≤ length ws) × (k ≤ i) × (at_sum (drop i ws) ≡ true)
    sum_there =
        let w = s.part in
        (w.inside, w.few, T_true (at_sum (drop i ws)) (ends_many at_sum (λ u. region) alone tt 0 ws w.value i (drop i ws) w.parsed))

    pub parts_read : {r : Answer} {after : List ℕ} → Scanned sum_rows (last_parts i (drop i ws)) k b r after → Scanned rows (parts ws) 0 b₀ r after
    parts_read {r} {after} t =
        let w = s.part in
        let x = last_parts i (drop i ws) in
        let e : parts ws ≡ then (λ v. give (with_sum w.value v)) x = rw w.parsed (behind_regions w.value i (drop i ws)) in
        let l = leads_part {scan = reading} (each region_rows w.value) sum_rows x (with_sum w.value) rows 0 b₀ (λ v. refl) in
        rw e (l.leads r after (rw (w.counted, w.stored) at t))

-- the number of words
module _ (ws b after : List ℕ) where
  pub too_few : length ws < 2 → Scanned rows (event_parser (length ws) 0 ws) 0 b (Err (refusal 1 0)) after
  too_few l = scanned_refuse rows 0 b after (rw (lt-leb 2 (length ws) l))

  pub too_many : 4096 < length ws → Scanned rows (event_parser (length ws) 0 ws) 0 b (Err (refusal 1 0)) after
  too_many l = let m : 2 ≤ length ws = omega arith in scanned_refuse rows 0 b after (rw (le-leb 2 (length ws) m, lt-leb (length ws) 4096 l))

-- the sum, after all parts
module _ (ws : List ℕ) (least : 2 ≤ length ws) (most : length ws ≤ 4096) where
  in_size : event_parser (length ws) 0 ws ≡ lastly summed 13 (parts_with (finish 6)) 0 ws
  in_size = rw (is_between 2 4096 (length ws) least most)

  pub event_refused : {r : Refusal} {b after : List ℕ} → Scanned rows (parts ws) 0 b (Err r) after → Scanned rows (event_parser (length ws) 0 ws) 0 b (Err r) after
  event_refused {r} {b} {after} s = go (refused_scan rows (parts ws) s)
    where
      go : RefusedAs (parts ws) r → Scanned rows (event_parser (length ws) 0 ws) 0 b (Err r) after
      go t = rw (in_size, t.named) (scanned_refuse rows {n = t.number} {p = t.place} 0 b after (rw t.refused))

  module _ {k sum : ℕ} {b after : List ℕ} (s : Scanned rows (parts ws) 0 b (Ok k) after) (e : sum ≡ total ws) where
    pub wrong_sum : (sum % 65536 ≡ 0 → ⊥) → Scanned rows (event_parser (length ws) 0 ws) 0 b (Err (refusal 13 (length ws - 1))) after
    wrong_sum n =
        let t = accepted_scan rows (parts ws) s in
        let r = read_sum ws t.value t.place t.input t.parsed in
        let f : summed t.value ≡ false = r.0 ∙ rw (← e, ne_eqb (sum % 65536) 0 n) in
        let refused = lastly_fails {items_of = rows} summed 13 (parts_with (finish 6)) 0 ws t.value t.place t.input t.parsed f in
        rw in_size (subst (λ (j : ℕ). Scanned rows (lastly summed 13 (parts_with (finish 6)) 0 ws) 0 b (Err (refusal 13 (j - 1))) after) r.1 refused)

    pub event_read : sum % 65536 ≡ 0 → Scanned rows (event_parser (length ws) 0 ws) 0 b (Ok k) after
    event_read z = rw in_size (lastly_holds summed 13 (parts_with (finish 6)) 0 ws s (λ a j r p. (read_sum ws a j r p).0 ∙ rw (← e, eq-eqb (sum % 65536) 0 z)))

-- of an event that the check accepted the parts are the event
pub filled_parts : (ws : List ℕ) {k : ℕ} {b after b' after' : List ℕ} {r : Answer} → Scanned rows (event_parser (length ws) 0 ws) 0 b (Ok k) after
    → Scanned rows (parts ws) 0 b' r after' → Scanned rows (event_parser (length ws) 0 ws) 0 b' r after'
filled_parts ws {b' = b'} {after' = after'} {r = r} s t =
    let a = accepted_scan rows (event_parser (length ws) 0 ws) s in
    let e = (lastly_taken summed 13 (parts_with (finish 6)) 0 ws (sized (between 2 4096 (length ws)) a.value a.place a.input a.parsed)).0 in
    subst (λ (x : Result ℕ Event). Scanned rows x 0 b' r after') (e ∙ sym a.parsed) t
  where
    sized : (b : Bool) (e : Event) (j : ℕ) (l : List ℕ) → (require b 1 0 >> lastly summed 13 (parts_with (finish 6))) 0 ws ≡ ok e j l → lastly summed 13 (parts_with (finish 6)) 0 ws ≡ ok e j l
    sized true e j l p = p
    sized false e j l p = impossible cc
