-- `check_sound` meets its contract. Assumes nothing.
use mathlib.Core.Path.{sym, ◌∙◌}
use borrow.Author.Tests.{le-leb, lt-leb}
use Rattle.page_layout.specs.Page.{sound}
use Rattle.page.proofs.slots.check_sound.Goals.{then-room-lt-ROOM-via-then-room-lt-ROOM, then-room-lt-ROOM-via-else-room-lt-ROOM+then-page-gt-EVENTS}
use Rattle.page.proofs.slots.check_sound.Goals.{then-room-lt-ROOM-via-else-room-lt-ROOM+else-page-gt-EVENTS+then-not-all_short}
use Rattle.page.proofs.slots.check_sound.Goals as goal

pub returns-then-room-lt-ROOM : goal.returns-then-room-lt-ROOM
unfolding sound
returns-then-room-lt-ROOM c = c.refuse.ensures ∙ elim c.then-room-lt-ROOM.branch [
  | then-room-lt-ROOM-via-then-room-lt-ROOM w ↦ rw (lt-leb 65536 _ w.if-room-lt-ROOM.true)
  | then-room-lt-ROOM-via-else-room-lt-ROOM+then-page-gt-EVENTS w ↦ rw (le-leb 65536 _ w.if-room-lt-ROOM.false, lt-leb _ 64 w.if-page-gt-EVENTS.true)
  | then-room-lt-ROOM-via-else-room-lt-ROOM+else-page-gt-EVENTS+then-not-all_short w ↦
      rw (le-leb 65536 _ w.if-room-lt-ROOM.false, le-leb _ 64 w.if-page-gt-EVENTS.false, sym w.all_short.ensures ∙ w.if-not-all_short.true)
]

pub returns : goal.returns
unfolding sound
returns c = rw (le-leb 65536 _ c.if-room-lt-ROOM.false, le-leb _ 64 c.if-page-gt-EVENTS.false, sym c.all_short.ensures ∙ c.if-not-all_short.false)
