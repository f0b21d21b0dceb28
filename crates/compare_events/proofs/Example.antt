-- What is printed of inputs, computed.
-- Assumes nothing.
use mathlib.Core.Path.{refl}
use Rattle.event.specs.Refusal.{fault_of}
use Rattle.hex_line.specs.Text.{character, hex_of, field}
use Rattle.hex_line.specs.Line.{is_digit, digit_of, all_digits, all_groups, well_formed, value_of, firsts}
use Rattle.comparison.specs.Differences.{differences_from}
use Rattle.compare_events.specs.Text.{accepted_text, refused_text, answers_text, word_text, tail_line, tail_text, row_line, rows_text, end_text}
use Rattle.compare_events.specs.Print.{compared_text}
use Rattle.compare_events.specs.Example.{Longer, Stamps, Shorter, NoLine, TooLong}

pub longer : Longer
unfolding fault_of character hex_of is_digit digit_of all_digits all_groups well_formed value_of firsts field accepted_text answers_text word_text tail_line tail_text
    row_line rows_text end_text compared_text differences_from
longer = refl

pub stamps : Stamps
unfolding fault_of character hex_of is_digit digit_of all_digits all_groups well_formed value_of firsts field accepted_text answers_text word_text tail_line tail_text
    row_line rows_text end_text compared_text differences_from
stamps = refl

pub shorter : Shorter
unfolding fault_of character hex_of is_digit digit_of all_digits all_groups well_formed value_of firsts field accepted_text refused_text answers_text
    tail_line tail_text end_text compared_text differences_from
shorter = refl

pub no_line : NoLine
unfolding fault_of character hex_of is_digit digit_of all_digits all_groups well_formed value_of firsts field accepted_text refused_text answers_text
no_line = (refl, refl, refl, refl)

pub too_long : TooLong
unfolding fault_of character hex_of is_digit digit_of all_digits all_groups well_formed value_of firsts field refused_text answers_text
too_long = refl
