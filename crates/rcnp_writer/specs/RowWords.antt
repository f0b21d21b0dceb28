-- The words that a row says, whatever stands around it: what an event's words and their sum are made of (the contracts of private functions).
-- Assumes nothing.
use Rattle.std.specs.Prelude.{ℕ, Bool, cond, List, [], ◌∷◌, nat_lt}
use Rattle.event.specs.declared.Row.{Row}
use Rattle.event.specs.Writing.{of_kind}
use Rattle.rcnp_layout.specs.Layout.{header_word, scaler_words, vdc_word}
use Rattle.rcnp_layout.specs.Writing.{vdc_of}

-- a region's header, or a word of the chamber
abbrev pub field_word : Row → ℕ
field_word r = cond (nat_lt 34 r.kind) (vdc_word (vdc_of r)) (header_word r.unit r.channel)

-- a word as it is, a scaler's two, or that of fields
abbrev pub row_words : Row → List ℕ
row_words r = cond (of_kind 33 r) (r.datum ∷ []) (cond (of_kind 34 r) (scaler_words r.datum) (field_word r ∷ []))

-- the word of a row that says only this one: of the chamber, or as it is
abbrev pub single_word : (chamber : Bool) → Row → ℕ
single_word chamber r = cond chamber (vdc_word (vdc_of r)) r.datum
