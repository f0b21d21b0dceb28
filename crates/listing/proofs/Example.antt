-- Document 01's own listing, and others, computed.
-- Assumes nothing.
use mathlib.Core.Path.{refl}
use Rattle.event.specs.Refusal.{fault_of}
use Rattle.hex_line.specs.Text.{character, hex_of, field}
use Rattle.hex_line.specs.Line.{is_digit, digit_of, all_digits, all_groups, well_formed, value_of, firsts}
use Rattle.listing.specs.Text.{accepted_text, refused_text, row_text, event_text, last_text}
use Rattle.listing.specs.Listing.{list_from}
use Rattle.listing.specs.Example.{Example, Counted, Stops}

pub example : Example
unfolding fault_of character hex_of is_digit digit_of all_digits all_groups well_formed value_of firsts field accepted_text refused_text row_text event_text last_text list_from
example = (refl, refl)

pub counted : Counted
unfolding fault_of character hex_of is_digit digit_of all_digits all_groups well_formed value_of firsts field accepted_text refused_text row_text event_text last_text list_from
counted = refl

pub stops : Stops
unfolding fault_of character hex_of is_digit digit_of all_digits all_groups well_formed value_of firsts field accepted_text refused_text row_text event_text last_text list_from
stops = (refl, refl, refl, refl)
