-- Demands 2 and 3, as specs/Demands states them.
-- Assumes nothing.
use Prim.Native.Nat.{ℕ, suc, ◌+◌, ◌≤◌}
use native.Mathlib.Omega.{arith}
use mathlib.Core.Path.{◌≡◌, refl, ap, sym, subst}
use mathlib.Core.Bool.{true}
use mathlib.Core.List.{List, ◌∷◌}
use lib.ListN.{length, length-append}
use Rattle.event.specs.declared.Row.{Row}
use Rattle.event.specs.declared.StampOrder.{StampOrder}
use Rattle.event.specs.Outcome.{done, given}
use Rattle.event.specs.Rows.{flat}
use Rattle.event.specs.Demands.{InWidth, join}
use Rattle.event.proofs.Trips.{in_room_lem}
use Rattle.event.proofs.Join.{Separate, join_iff, by_length, by_parser}
use Rattle.s800_layout.specs.Event.{event_tag}
use Rattle.s800_layout.specs.Layout.{version, packets_words}
use Rattle.s800_layout.specs.Writing.{at_stamp as atStampRowS}
use Rattle.s800_layout.proofs.Event as EventS
use Rattle.s800_layout.proofs.Reading as ReadingS
use Rattle.s800_layout.proofs.Writing as WritingS
use Rattle.s800_layout.proofs.Width as WidthS
use Rattle.s800_layout.proofs.RowCount as RowCountS
use Rattle.frs_layout.specs.Reading.{at_stamp as atStampF}
use Rattle.frs_layout.specs.Writing.{at_stamp as atStampRowF}
use Rattle.frs_layout.proofs.Words as WordsF
use Rattle.frs_layout.proofs.Rows as RowsF
use Rattle.frs_layout.proofs.Reading as ReadingF
use Rattle.frs_layout.proofs.Writing as WritingF
use Rattle.frs_layout.proofs.Width as WidthF
use Rattle.frs_layout.proofs.RowCount as RowCountF
use Rattle.rcnp_layout.specs.Layout.{region_words as regionWordsR, sum_words as sumWordsR, region_rows as regionRowsR, sum_rows as sumRowsR}
use Rattle.rcnp_layout.proofs.Words as WordsR
use Rattle.rcnp_layout.proofs.Rows as RowsR
use Rattle.rcnp_layout.proofs.Reading as ReadingR
use Rattle.rcnp_layout.proofs.Writing as WritingR
use Rattle.rcnp_layout.proofs.Width as WidthR
use Rattle.rcnp_layout.proofs.RowCount as RowCountR
use Rattle.dialects.specs.Demands.{ReadingExact, ReadingInRoomExact, RowsWithinWords, RowsWithinLargest, WritingExact}
use Rattle.dialects.specs.Demands.{WritingInRoomExact, WrittenBack, ReadBack, AcceptableExact, RowsOfLayout, SameRuns}
use Rattle.dialects.specs.declared.Dialect.{Dialect}
use Rattle.dialects.specs.declared.Dialect.TheVariants.{S, F, R}
use Rattle.dialects.specs.Dialects.{Event, Valid, words, rows, width, reading, largest_rows, AcceptableIn, rows_of}

pub reading_iff : ReadingExact
reading_iff S o = ReadingS.reading_iff o
reading_iff F o = ReadingF.reading_iff
reading_iff R o = ReadingR.reading_iff

pub reading_in_room : ReadingInRoomExact
reading_in_room d room o ws rs = in_room_lem 12 room (reading_iff d o ws rs)

no_more_rows : (d : Dialect) (o : StampOrder) (e : Event d) → length (rows d o e) ≤ length (words d e)
no_more_rows S o = RowCountS.no_more_rows o
no_more_rows F o = RowCountF.no_more_rows
no_more_rows R o = RowCountR.no_more_rows

pub rows_within_words : RowsWithinWords
rows_within_words d o ws rs e = let v = (reading_iff d o ws rs).0 e in omega (arith, no_more_rows d o v.event, ap length v.its_words, ap length v.its_rows)

no_more_words : (d : Dialect) (e : Event d) → Valid d e → length (words d e) ≤ largest_rows
no_more_words S e v = v.size
no_more_words F e v = omega (arith, v.size)
no_more_words R e v = v.size

pub rows_within_largest : RowsWithinLargest
rows_within_largest d o ws rs e =
    let v = (reading_iff d o ws rs).0 e in
    omega (arith, no_more_rows d o v.event, no_more_words d v.event v.valid, ap length v.its_rows)

pub writing_iff : WritingExact
writing_iff S o = WritingS.writing_iff o
writing_iff F o = WritingF.writing_iff
writing_iff R o = WritingR.writing_iff

pub writing_in_room : WritingInRoomExact
writing_in_room d room o xs ws = in_room_lem 24 room (writing_iff d o xs ws)

pub written_back : WrittenBack
written_back d o ws rs e = (writing_iff d o (flat rs) ws).1 (rs, refl, (reading_iff d o ws rs).0 e)

pub read_back : ReadBack
read_back d o xs ws e = let h = (writing_iff d o xs ws).0 e in (h.0, h.1, (reading_iff d o ws h.0).1 h.2)

words_fit : (d : Dialect) (e : Event d) → Valid d e → InWidth (width d) (words d e)
words_fit S = WidthS.words_fit
words_fit F = WidthF.words_fit
words_fit R = WidthR.words_fit

accepted : (d : Dialect) (o : StampOrder) (ws : List ℕ) (a : AcceptableIn d ws) → reading d o ws ≡ done (rows d o a.event)
accepted d o ws a = (reading_iff d o ws (rows d o a.event)).1 (record { event = a.event; valid = a.valid; its_words = a.its_words; its_rows = refl })

pub acceptable_iff : AcceptableExact
acceptable_iff d o ws = (λ a. (rows d o a.event, accepted d o ws a), from)
  where
    from : (rs : List Row) × (reading d o ws ≡ done rs) → AcceptableIn d ws
    from h =
        let v = (reading_iff d o ws h.0).0 h.1 in
        record { in_width = subst (InWidth (width d)) v.its_words (words_fit d v.event v.valid); event = v.event; valid = v.valid; its_words = v.its_words }

pub rows_of_lem : RowsOfLayout
rows_of_lem d o ws a =
    let e : rows_of d o ws ≡ rows d o a.event = ap given (accepted d o ws a) in
    (e, λ room l. (reading_in_room d room o ws (rows_of d o ws)).1 (record { event = a.event; valid = a.valid; its_words = a.its_words; its_rows = sym e }, l))

-- Words of S: the length word comes first. Else a parser stops where the next event begins; in R at the end of region 15, whatever follows.
by_words : (d : Dialect) → Separate (AcceptableIn d) (λ (ws : List ℕ). ws)
by_words S = by_length (λ n. n) (AcceptableIn S) (λ ws a. let e = a.its_words in
    (2 + suc (length (packets_words a.event)), event_tag ∷ version ∷ packets_words a.event, sym e, omega (arith, ap length e)))
by_words F = by_parser atStampF WordsF.codes_run (AcceptableIn F) (λ ws. ws) (words F) (λ ws a. (a.event, a.valid.formed, a.its_words, a.its_words)) tt (λ e s. tt) (λ e. omega arith)
by_words R = by_parser (λ r. true) WordsR.codes_run (AcceptableIn R) (λ ws. ws) (words R) (λ ws a. (a.event, a.valid.formed, a.its_words, a.its_words)) tt (λ e s. tt)
    (λ e. omega (arith, length-append (join regionWordsR e.regions) (sumWordsR e.sum)))

by_rows : (d : Dialect) (o : StampOrder) → Separate (AcceptableIn d) (rows_of d o)
by_rows S o = by_parser atStampRowS (EventS.codes_run o) (AcceptableIn S) (rows_of S o) (words S)
    (λ ws a. (a.event, a.valid.formed, sym (rows_of_lem S o ws a).0, a.its_words)) tt (λ e s. tt) (λ e. omega arith)
by_rows F o = by_parser atStampRowF RowsF.codes_run (AcceptableIn F) (rows_of F o) (words F)
    (λ ws a. (a.event, a.valid.formed, sym (rows_of_lem F o ws a).0, a.its_words)) tt (λ e s. tt) (λ e. omega arith)
by_rows R o = by_parser (λ r. true) RowsR.codes_run (AcceptableIn R) (rows_of R o) (words R)
    (λ ws a. (a.event, a.valid.formed, sym (rows_of_lem R o ws a).0, a.its_words)) tt (λ e s. tt) (λ e. omega (arith, length-append (join regionRowsR e.regions) (sumRowsR e.sum)))

pub same_runs : SameRuns
same_runs d o es fs a b = (join_iff (by_words d) es fs a b, join_iff (by_rows d o) es fs a b)
