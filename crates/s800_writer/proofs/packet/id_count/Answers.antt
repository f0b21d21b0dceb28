-- `packet::id_count` meets its contract. Assumes nothing.
use Rattle.s800_layout.specs.Event.{trigger, time_of_flight}
use Rattle.s800_writer.proofs.Ids.{count_known, count_looked_up, count_elsewhere, count_between}
use Rattle.s800_writer.proofs.packet.id_count.Goals as goal

pub returns-then-tag-ne88 : goal.returns-then-tag-ne88
returns-then-tag-ne88 c = count_elsewhere _ c.if-tag-ne88.true

pub returns-then-tag-eq0 : goal.returns-then-tag-eq0
returns-then-tag-eq0 c = count_looked_up _ c.if-tag-ne88.false c.if-tag-eq0.true

pub returns-then-tag : goal.returns-then-tag
returns-then-tag c = count_known trigger c.if-tag.true

pub returns-then-tag-2 : goal.returns-then-tag-2
returns-then-tag-2 c = count_known time_of_flight c.if-tag-2.true

pub returns : goal.returns
returns c = count_between _ c.if-tag-eq0.false c.if-tag.false c.if-tag-2.false
