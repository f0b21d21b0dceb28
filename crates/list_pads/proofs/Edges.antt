-- Lines of the listing at its edges: the first and the last of a connector, that of document 01's case 7, and none behind the last.
-- Assumes nothing.
use Prim.Native.Nat.{ℕ, ◌*◌}
use mathlib.Core.Path.{◌≡◌, refl}
use mathlib.Core.List.{List, []}
use lib.ListN.{take, drop}
use Rattle.hex_line.specs.Text.{text, character, hex_of, field, texts_below}
use Rattle.list_pads.specs.Pads.{pair_text, connector_text, pads_text}

-- the characters of line n, from 0
abbrev line : ℕ → List ℕ
line n = take 27 (drop (27 * n) pads_text)

edges : (line 0 ≡ text "00000000 00000000 00000000\n")
    × (line 63 ≡ text "0000003f 00000000 0000003f\n")
    × (line 64 ≡ text "00000000 00000001 00000040\n")
    × (line 146 ≡ text "00000012 00000002 00000092\n")
    × (line 255 ≡ text "0000003f 00000003 000000ff\n")
    × (line 256 ≡ [])
unfolding texts_below pair_text connector_text pads_text hex_of field character
edges = (refl, refl, refl, refl, refl, refl)
