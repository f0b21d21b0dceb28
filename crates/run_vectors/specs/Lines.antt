-- A line of the input: five numbers of eight hexadecimal digits. Assumes nothing.
use Rattle.std.specs.Prelude.{Bool, cond, ◌&&◌, List, ℕ, ◌+◌, ◌-◌, ◌≤◌, ltb, eqb, length, get_or, Option, Some, None}
use Rattle.hex_line.specs.Line.{number_at}
use Rattle.run_vectors.specs.declared.lines.Numbers.{Numbers}

-- the bytes of a line
abbrev pub line_bytes : ℕ
line_bytes = 45

abbrev pub numbers_at : List ℕ → ℕ → Numbers
numbers_at input place =
    record {
      first = number_at input place;
      second = number_at input (place + 9);
      third = number_at input (place + 18);
      fourth = number_at input (place + 27);
      fifth = number_at input (place + 36);
    }

-- spaces and the line feed
unfoldable pub separated_at : List ℕ → ℕ → Bool
separated_at input place =
    eqb (get_or input (place + 8) 0) 32
    && (eqb (get_or input (place + 17) 0) 32
    && (eqb (get_or input (place + 26) 0) 32 && (eqb (get_or input (place + 35) 0) 32 && eqb (get_or input (place + 44) 0) 10)))

unfoldable pub line_at : List ℕ → ℕ → Option Numbers
line_at input place =
    cond (ltb (length input - place) line_bytes) None (cond (separated_at input place) (Some (numbers_at input place)) None)

-- a line that was read ends within the n bytes of the input
abbrev pub LineWithin : ℕ → ℕ → Option Numbers → Type 0
LineWithin n place (Some numbers) = place + line_bytes ≤ n
LineWithin n place None = Unit {0}
