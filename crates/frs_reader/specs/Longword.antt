-- The refusal that one longword meets, as the code finds it: a set of bits holds the GEOs, or the channels, before (the contracts of private functions).
-- Assumes nothing.
use Rattle.std.specs.Prelude.{ℕ, ◌/◌, ◌%◌, ◌^◌, Bool, false, cond, ◌||◌, eqb, Result, Ok, Err}
use Rattle.event.specs.declared.refusal.Refusal.{Refusal}
use Rattle.event.specs.Channels.{present}
use Rattle.event.specs.Refusal.{refusal}
use Rattle.event.specs.Words.{halves, between}
use Rattle.frs_layout.specs.Event.{scaler_geo, pattern_geo}
use Rattle.frs_layout.specs.Layout.{footer_word, value_word}
use Rattle.frs_layout.specs.Reading.{value_of}

-- the data of a longword at place i, under the upper half given
unfoldable pub under : (upper i w : ℕ) → Result ℕ Refusal
under upper i w = cond (eqb w (halves upper (w % 2 ^ 16))) (Ok (w % 2 ^ 16)) (Err (refusal 10 i))

-- a module's header, its GEO apart: flag 6 over 0, or flag 2 over a count
unfoldable pub is_header : ℕ → Bool
is_header w = cond (eqb (w / 2 ^ 24 % 2 ^ 3) 6) (eqb (w % 2 ^ 24) 0) (cond (eqb (w / 2 ^ 24 % 2 ^ 3) 2) (between 1 32 (w % 2 ^ 24)) false)

-- 6: no header, or a GEO of another unit; 11: a GEO seen; 0 for none
unfoldable pub header_fault : (seen w : ℕ) → ℕ
header_fault seen w = cond (is_header w) (cond (eqb (w / 2 ^ 27) pattern_geo || eqb (w / 2 ^ 27) scaler_geo) 6 (cond (present seen (w / 2 ^ 27)) 11 0)) 6

-- 10: not a data longword of that GEO; 11: a channel seen; 0 for none
unfoldable pub value_fault : (geo seen w : ℕ) → ℕ
value_fault geo seen w = cond (eqb w (value_word geo (value_of w))) (cond (present seen (w / 2 ^ 16 % 2 ^ 5)) 11 0) 10

-- 9: not a footer of that GEO; 0 for none
unfoldable pub footer_fault : (geo w : ℕ) → ℕ
footer_fault geo w = cond (eqb w (footer_word geo (w % 2 ^ 16))) 0 9
