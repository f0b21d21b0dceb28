-- `whole::write_event` meets its contract. Assumes nothing.
use Prim.Native.Nat.{ℕ, ◌-◌}
use mathlib.Core.Path.{refl}
use mathlib.Core.List.{List}
use lib.ListN.{length}
use borrow.Rule.Slice.PartMut.{put_mid}
use Rattle.event.specs.Writing.{rows_in}
use Rattle.s800_writer.proofs.Event.{Stamped, Begun, stamp_laid, stamp_done, number_laid, number_done, event_refused, event_laid}
use Rattle.s800_writer.proofs.Failures.{handed_on}
use Rattle.s800_writer.proofs.whole.write_event.Goals as goal

-- the buffer after its part from `start` on was lent and came back
abbrev withPart : (start : ℕ) (buffer part : List ℕ) → List ℕ
withPart start b part = put_mid start (length b - start) b part

pub returns-in_err-write_stamp : goal.returns-in_err-write_stamp
returns-in_err-write_stamp c = rw (handed_on c.from_residual.result c.from_residual.ensures.1) (stamp_laid c.args.order (rows_in c.args.rows.now) c.in_err-write_stamp.ensures)

pub returns-in_err-write_number : goal.returns-in_err-write_number
returns-in_err-write_number c =
    let stamped : Stamped c.args.order (rows_in c.args.rows.now) c.args.words.now (withPart c.part_start-at.result c.store_word.new.words c.write_stamp.new.part) = stamp_done c.args.order
    (rows_in c.args.rows.now) c.args.words.now c.store_word.ensures c.part_start-at.ensures refl c.in_ok-write_stamp.ensures refl in
    rw (handed_on c.from_residual-in_err-write_number.result c.from_residual-in_err-write_number.ensures.1)
    (number_laid c.args.order (rows_in c.args.rows.now) stamped c.in_err-write_number.ensures)

pub returns-in_err-packets : goal.returns-in_err-packets
returns-in_err-packets c =
    let stamped : Stamped c.args.order (rows_in c.args.rows.now) c.args.words.now (withPart c.part_start-at.result c.store_word.new.words c.write_stamp.new.part) = stamp_done c.args.order
    (rows_in c.args.rows.now) c.args.words.now c.store_word.ensures c.part_start-at.ensures refl c.in_ok-write_stamp.ensures refl in
    let begun : Begun c.args.order (rows_in c.args.rows.now) c.args.words.now (withPart c.part_start-at-2.result
    (withPart c.part_start-at.result c.store_word.new.words c.write_stamp.new.part) c.write_number.new.part) = number_done c.args.order (rows_in c.args.rows.now) c.args.words.now
    stamped c.part_start-at-2.ensures refl c.in_ok-write_number.ensures refl in
    rw (handed_on c.from_residual-in_err-packets.result c.from_residual-in_err-packets.ensures.1)
    (event_refused c.args.order (rows_in c.args.rows.now) begun c.in_err-packets.ensures)

pub returns : goal.returns
returns c =
    let stamped : Stamped c.args.order (rows_in c.args.rows.now) c.args.words.now (withPart c.part_start-at.result c.store_word.new.words c.write_stamp.new.part) = stamp_done c.args.order
    (rows_in c.args.rows.now) c.args.words.now c.store_word.ensures c.part_start-at.ensures refl c.in_ok-write_stamp.ensures refl in
    let begun : Begun c.args.order (rows_in c.args.rows.now) c.args.words.now (withPart c.part_start-at-2.result
    (withPart c.part_start-at.result c.store_word.new.words c.write_stamp.new.part) c.write_number.new.part) = number_done c.args.order (rows_in c.args.rows.now) c.args.words.now
    stamped c.part_start-at-2.ensures refl c.in_ok-write_number.ensures refl in
    event_laid c.args.order (rows_in c.args.rows.now) begun c.in_ok-packets.ensures c.close.ensures
