-- The rules of each kind of row, as the code tests them.
-- Assumes nothing.
use Rattle.std.proofs.Common.{◌≡◌, ℕ, zero, suc, ◌^◌, ◌<◌, ◌≤◌, Bool, true, false, cond, ◌&&◌, T, eqb, ltb, leb, [], sym, refl, ◌∙◌, arith, eqb→eq, ltb→lt, lt→ltb, leb→le, le-ltb, eq-eqb, ne_eqb, eqb-true, le-leb}
use borrow.Author.Tests.{eqb-false}
use Rattle.event.specs.declared.Row.{Row}
use Rattle.event.specs.Rows.{row}
use Rattle.event.specs.Writing.{is_same_row}
use Rattle.event.proofs.Codes.{T_true}
use Rattle.event.proofs.Elements.{both}
use Rattle.event.proofs.RowCodes.{fields_same}
use Rattle.event.proofs.RowFaults.{Judged, judged, Tested, tested, each_of, three, datum_tested}
use Rattle.rcnp_layout.specs.Event.{id_of, sum_id, form_of}
use Rattle.rcnp_layout.specs.Layout.{region_row, allowed_size}
use Rattle.rcnp_layout.specs.Writing.{header_of, header_row, header_checks}
use Rattle.rcnp_writer.specs.Faults.{header_fault, sum_fault, datum_fault, vdc_fault, last_kind, VdcRight}

-- a region's own row
abbrev pub HeaderKeeps : Row → Type 0
HeaderKeeps r = (r.channel < 2 ^ 12) × (r.datum ≡ 0) × ((r.unit ≡ id_of (form_of r.unit)) × T (allowed_size (form_of r.unit) r.channel))

pub header_judged : (r : Row) → Judged (header_fault r) r.kind 32 (HeaderKeeps r)
unfolding header_fault
header_judged r = judged 32 header_of header_row header_checks r (refl, (refl, tt))
    (λ p. (ltb→lt r.channel (2 ^ 12) p.1.0, p.0.3, (p.0.1, p.1.1.0)))
    (λ e h. ((e, h.2.0, refl, h.1), (lt→ltb r.channel (2 ^ 12) h.0, (h.2.1, tt))))

pub header_tested : (r : Row) {id size : Bool} → id ≡ eqb r.unit (id_of (form_of r.unit)) → size ≡ allowed_size (form_of r.unit) r.channel
    → Tested (header_fault r) r.kind 32 ((ltb r.channel 4096 && eqb r.datum 0) && (id && size))
header_tested r {id} {size} p q =
    let allowed = id && size in
    let a = ltb r.channel 4096 in
    let b = eqb r.datum 0 in
    tested (header_judged r) ((a && b) && allowed)
    (λ t.
    let x = each_of a b allowed t in
    let y = both (eqb r.unit (id_of (form_of r.unit))) (allowed_size (form_of r.unit) r.channel) (rw (p, q) at x.2) in
    (ltb→lt r.channel 4096 x.0, eqb→eq r.datum 0 x.1, (eqb→eq r.unit (id_of (form_of r.unit)) y.0, y.1)))
    (λ h. three a b allowed (lt→ltb r.channel 4096 h.0) (rw (eq-eqb r.datum 0 h.1) tt) (rw (p, q, eq-eqb r.unit (id_of (form_of r.unit)) h.2.0) h.2.1))

-- the check sum region's own row
pub sum_tested : (r : Row) → Tested (sum_fault r) r.kind 32 ((eqb r.unit 15 && eqb r.channel 1) && eqb r.datum 0)
unfolding sum_fault
sum_tested r =
    let a = eqb r.unit 15 in
    let b = eqb r.channel 1 in
    let c = eqb r.datum 0 in
    tested {Keeps = (r.unit ≡ 15) × (r.channel ≡ 1) × (r.datum ≡ 0)}
    (judged 32 (λ r. tt {0}) (λ u. region_row sum_id 1) (λ u. []) r tt (λ p. (p.0.1, p.0.2, p.0.3)) (λ e h. ((e, h.0, h.1, h.2), tt))) ((a && b) && c)
    (λ t. let x = each_of a b c t in (eqb→eq r.unit 15 x.0, eqb→eq r.channel 1 x.1, eqb→eq r.datum 0 x.2))
    (λ h. three a b c (rw (eq-eqb r.unit 15 h.0) tt) (rw (eq-eqb r.channel 1 h.1) tt) (rw (eq-eqb r.datum 0 h.2) tt))

-- the row of a word, or of a scaler
pub datum_rules : (k channel bound : ℕ) (r : Row)
    → Tested (datum_fault k channel bound r) r.kind k ((eqb r.unit 0 && eqb r.channel channel) && ltb r.datum bound)
unfolding datum_fault
datum_rules k channel bound r = datum_tested k 0 channel bound r

and_false : (b : Bool) → b && false ≡ false
and_false true = refl
and_false false = refl

limit : (b : Bool) → cond b 36 35 ≤ 36
limit true = omega arith
limit false = omega arith

below_one : (n : ℕ) → ltb n 1 ≡ eqb n 0
below_one zero = refl
below_one (suc n) = rw (le-ltb (suc n) 1 (omega arith), ne_eqb (suc n) 0 (λ e. omega arith))

-- a row of a VDC region
module _ (begun : Bool) (r : Row) where
  vdc_head : r.kind ≡ 35 → {n : ℕ} {b : Bool} → ltb r.unit 256 && (ltb r.channel 8 && ltb r.datum 8) ≡ b → n ≡ cond b 0 22 → n ≡ vdc_fault begun r
  unfolding vdc_fault
  vdc_head e t q = rw (eq-eqb 35 r.kind (sym e), fields_same r (row 35 r.unit r.channel r.datum) (e, refl, refl, refl), t, q)

  module _ (other : r.kind ≡ 35 → ⊥) where
    -- only its unit may differ from what its fields print
    of_unit : r.kind ≡ 36 → (b : Bool) → {n : ℕ} → n ≡ cond (eqb r.unit 0 && b) 0 22 → n ≡ cond (is_same_row r (row 36 0 r.channel r.datum)) (cond b 0 22) 22
    of_unit e b {n} q = go (eqb r.unit 0) refl q
      where
        go : (u : Bool) → eqb r.unit 0 ≡ u → n ≡ cond (u && b) 0 22 → n ≡ cond (is_same_row r (row 36 0 r.channel r.datum)) (cond b 0 22) 22
        go true p q = rw (fields_same r (row 36 0 r.channel r.datum) (e, eqb→eq r.unit 0 (rw p tt), refl, refl)) q
        go false p q = rw (eq-eqb r.kind 36 e, p) q

    vdc_datum : begun && eqb 36 r.kind ≡ true → {n : ℕ} {b : Bool} → eqb r.unit 0 && (ltb r.channel 32 && ltb r.datum 1024) ≡ b → n ≡ cond b 0 22 → n ≡ vdc_fault begun r
    unfolding vdc_fault
    vdc_datum g t q =
        let x = both begun (eqb 36 r.kind) (rw g tt) in
        let e : r.kind ≡ 36 = sym (eqb→eq 36 r.kind x.1) in
        rw (ne_eqb 35 r.kind (λ k. other (sym k)), T_true begun x.0, eq-eqb 36 r.kind (sym e)) (of_unit e (ltb r.channel 32 && ltb r.datum 1024) (rw (← t) at q))

    vdc_other : begun && eqb 36 r.kind ≡ false → 21 ≡ vdc_fault begun r
    unfolding vdc_fault
    vdc_other g = rw (ne_eqb 35 r.kind (λ k. other (sym k)), g)

  -- the kinds below, and those above the last that may stand there
  pub vdc_below : r.kind < 35 → 21 ≡ vdc_fault begun r
  vdc_below h = vdc_other (λ e. omega arith) (rw (ne_eqb 36 r.kind (λ e. omega arith)) (and_false begun))

  pub vdc_above : {most : ℕ} → most ≡ last_kind begun → most < r.kind → 21 ≡ vdc_fault begun r
  vdc_above {most} m h = go begun refl
    where
      go : (b : Bool) → begun ≡ b → 21 ≡ vdc_fault begun r
      go true e = let top : most ≡ 36 = m ∙ rw e in vdc_other (λ k. omega arith) (rw (ne_eqb 36 r.kind (λ k. omega arith)) (and_false begun))
      go false e = let top : most ≡ 35 = m ∙ rw e in vdc_other (λ k. omega arith) (rw e)

  -- those between: the limits of its fields by the kind
  vdc_within : {most unit channel datum n : ℕ} {b : Bool} → 35 ≤ r.kind → most ≡ last_kind begun → r.kind ≤ most
      → unit ≡ cond (eqb r.kind 35) 256 1 → channel ≡ cond (eqb r.kind 35) 8 32 → datum ≡ cond (eqb r.kind 35) 8 1024
      → ltb r.unit unit && (ltb r.channel channel && ltb r.datum datum) ≡ b → n ≡ cond b 0 22 → n ≡ vdc_fault begun r
  vdc_within {most} {unit} {channel} {datum} {n} {b} low m high u c d t q = go (eqb r.kind 35) refl
    where
      begun_there : (g : Bool) → begun ≡ g → (r.kind ≡ 35 → ⊥) → begun ≡ true
      begun_there true e z = e
      begun_there false e z = let top : most ≡ 35 = m ∙ rw e in absurd (z (omega arith))

      at_most : most ≤ 36
      at_most = rw m (limit begun)

      go : (h : Bool) → eqb r.kind 35 ≡ h → n ≡ vdc_fault begun r
      go true e =
          let u₁ : unit ≡ 256 = u ∙ rw e in
          let c₁ : channel ≡ 8 = c ∙ rw e in
          let d₁ : datum ≡ 8 = d ∙ rw e in
          vdc_head (eqb-true r.kind 35 e) (rw (u₁, c₁, d₁) at t) q
      go false e =
          let u₁ : unit ≡ 1 = u ∙ rw e in
          let c₁ : channel ≡ 32 = c ∙ rw e in
          let d₁ : datum ≡ 1024 = d ∙ rw e in
          let other = eqb-false r.kind 35 e in
          let datum-there : r.kind ≡ 36 = omega (arith, at_most) in
          vdc_datum other (rw (begun_there begun refl other, eq-eqb 36 r.kind (sym datum-there))) (rw (u₁, c₁, d₁, below_one r.unit) at t) q

-- the rules in one test
module _ (r : Row) {unit channel datum : ℕ} (u : unit ≡ cond (eqb r.kind 35) 256 1) (c : channel ≡ cond (eqb r.kind 35) 8 32) (d : datum ≡ cond (eqb r.kind 35) 8 1024) where
  abbrev fields : Bool
  fields = ltb r.unit unit && (ltb r.channel channel && ltb r.datum datum)

  pub vdc_right : (most : ℕ) {right : Bool} → right ≡ (leb 35 r.kind && leb r.kind most) && fields → VdcRight r most right
  vdc_right most {right} e = record {
    kept = λ t begun m.
        let x = both (leb 35 r.kind && leb r.kind most) fields (rw (← e, t) tt) in
        let y = both (leb 35 r.kind) (leb r.kind most) x.0 in
        vdc_within begun r (leb→le 35 r.kind y.0) m (leb→le r.kind most y.1) u c d (T_true fields x.1) refl;
    broken = λ f begun m low high.
        let q : fields ≡ false = sym (rw (le-leb 35 r.kind low, le-leb r.kind most high) at e) ∙ f in
        vdc_within begun r low m high u c d q refl;
  }
