-- A word of a VDC region as the code makes it: that of a datum, and what a header has more. Over plain values.
-- Assumes nothing.
use Rattle.std.proofs.Common.{◌≡◌, ℕ, ◌+◌, ◌*◌, ◌≤◌, Bool, true, false, cond, eqb, sym, refl, ◌∙◌, arith, eq-eqb, ne_eqb, eqb-true}
use borrow.Author.Tests.{eqb-false}
use Rattle.event.specs.declared.Row.{Row}
use Rattle.rcnp_layout.specs.Layout.{vdc_word}
use Rattle.rcnp_layout.specs.Writing.{vdc_of}

pub at_most : (b : Bool) (n : ℕ) {m : ℕ} → m ≡ cond b n 0 → m ≤ n
at_most true n e = omega arith
at_most false n e = omega arith

module _ (r : Row) where
  abbrev pub more : ℕ
  more = 32768 + r.channel * 1024 + r.datum * 255 + r.unit

  pub vdc_summed : {m : ℕ} → m ≡ cond (eqb r.kind 35) more 0 → r.channel * 1024 + r.datum + m ≡ vdc_word (vdc_of r)
  vdc_summed {m} e = go (eqb r.kind 35) refl
    where
      go : (b : Bool) → eqb r.kind 35 ≡ b → r.channel * 1024 + r.datum + m ≡ vdc_word (vdc_of r)
      go true q =
          let all : m ≡ more = e ∙ rw q in
          rw (eq-eqb 35 r.kind (sym (eqb-true r.kind 35 q))) (omega arith)
      go false q =
          let none : m ≡ 0 = e ∙ rw q in
          rw (ne_eqb 35 r.kind (λ k. eqb-false r.kind 35 q (sym k))) (omega arith)
