-- The pads of all pairs of channel and connector, as text (document 02, #102): numbers as eight hexadecimal digits.
-- Assumes nothing.
use Rattle.std.specs.Prelude.{ℕ, List, ◌++◌}
use Rattle.s800_layout.specs.Layout.{pad}
use Rattle.hex_line.specs.Text.{text, hex_of, field, texts_below}

-- `CHANNEL CONNECTOR PAD` and a line feed
unfoldable pub pair_text : (channel connector : ℕ) → List ℕ
pair_text channel connector = hex_of 8 channel ++ field (text " ") connector ++ field (text " ") (pad channel connector) ++ text "\n"

-- channels 0 to 63 of a connector
unfoldable pub connector_text : (connector : ℕ) → List ℕ
connector_text connector = texts_below 64 (λ channel. pair_text channel connector)

-- connectors 0 to 3
unfoldable pub pads_text : List ℕ
pads_text = texts_below 4 connector_text
