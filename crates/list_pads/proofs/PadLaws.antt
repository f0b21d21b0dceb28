-- How long the texts of the listing are. Assumes nothing.
use Prim.Native.Nat.{ℕ}
use mathlib.Core.Path.{◌≡◌, refl}
use lib.ListN.{length, length-append}
use Rattle.hex_line.proofs.TextLaws.{hex_length, field_length, texts_length}
use Rattle.list_pads.specs.Pads.{pair_text, connector_text, pads_text}

pub pair_length : (channel connector : ℕ) → length (pair_text channel connector) ≡ 27
unfolding pair_text
pair_length channel connector = simp (length-append, hex_length, field_length) refl

pub connector_length : (connector : ℕ) → length (connector_text connector) ≡ 1728
unfolding connector_text
connector_length connector = texts_length 64 (λ channel. pair_text channel connector) (λ channel. pair_length channel connector)

pub pads_length : length pads_text ≡ 6912
unfolding pads_text
pads_length = texts_length 4 connector_text connector_length
