-- Lines at the edges of their rules and of the room for their words, computed. The expected outcomes are document 01's.
-- Assumes nothing.
use Prim.Native.Nat.{ℕ}
use Prim.Native.String.{String}
use mathlib.Core.Path.{◌≡◌, refl}
use mathlib.Core.List.{[], ◌∷◌, map}
use lib.ListN.{replicate}
use Rattle.event.specs.Outcome.{Outcome, done, refused}
use Rattle.dialects.specs.declared.Dialect.{Dialect}
use Rattle.dialects.specs.declared.Dialect.TheVariants.{S, F, R}
use Rattle.hex_line.specs.Text.{text}
use Rattle.hex_line.specs.Line.{is_digit, digit_of, all_digits, all_groups, well_formed, value_of, firsts, line_into}

-- a line of a dialect, and the room for its words
record Case : Type 0 where
  dialect : Dialect
  room : ℕ
  line : String

abbrev case : Dialect → ℕ → String → Case
case d n s = record { dialect = d; room = n; line = s }

abbrev outcome_of : Case → Outcome ℕ
outcome_of c = line_into c.dialect c.room (text c.line)

-- room for all words, for one less, for none; 30 before 24
rooms : map outcome_of
    (case S 2 "S 0001 fffe" ∷ case S 1 "S 0001 fffe" ∷ case S 0 "S 0001 fffe" ∷ case S 0 "S" ∷ case S 0 "S 000g" ∷ case F 1 "F 89abcdef" ∷ case F 0 "F 89abcdef"
    ∷ case R 1 "R fffe" ∷ case R 0 "R fffe" ∷ case R 0 "R" ∷ [])
    ≡ done (1 ∷ 0xfffe ∷ []) ∷ refused 24 2 ∷ refused 24 2 ∷ done [] ∷ refused 30 0 ∷ done (0x89abcdef ∷ []) ∷ refused 24 1 ∷ done (0xfffe ∷ []) ∷ refused 24 1 ∷ done [] ∷ []
unfolding is_digit digit_of all_digits all_groups well_formed value_of firsts
rooms = refl

-- the characters beside the digits, upper case, another letter, other spaces, too few and too many digits, and nothing at all
refusals : map outcome_of
    (case S 9 "S 000/" ∷ case S 9 "S 000:" ∷ case S 9 "S 000`" ∷ case S 9 "S 000g" ∷ case S 9 "S 000A" ∷ case S 9 "s 0001" ∷ case S 9 "F 0001" ∷ case F 9 "S 00000001" ∷ case S 9 "S0001"
    ∷ case S 9 "S  0001" ∷ case S 9 "S\t0001" ∷ case S 9 "S 0001 " ∷ case S 9 "S 001" ∷ case S 9 "S 00001" ∷ case S 9 "S 0001\r" ∷ case S 9 " 0001" ∷ case S 9 "" ∷ case F 9 ""
    ∷ case R 9 "S 0001" ∷ case S 9 "R 0001" ∷ case R 9 "r 0001" ∷ case R 9 "R 00000001" ∷ case R 9 "" ∷ case F 9 "R 00000001" ∷ case R 9 "F 0001" ∷ [])
    ≡ replicate 25 (refused 30 0)
unfolding is_digit digit_of all_digits all_groups well_formed value_of firsts
refusals = refl

-- every digit
digits : map outcome_of (case F 2 "F 01234567 89abcdef" ∷ case S 4 "S 0123 4567 89ab cdef" ∷ case R 4 "R 0123 4567 89ab cdef" ∷ [])
    ≡ done (0x01234567 ∷ 0x89abcdef ∷ []) ∷ done (0x0123 ∷ 0x4567 ∷ 0x89ab ∷ 0xcdef ∷ []) ∷ done (0x0123 ∷ 0x4567 ∷ 0x89ab ∷ 0xcdef ∷ []) ∷ []
unfolding is_digit digit_of all_digits all_groups well_formed value_of firsts
digits = refl
