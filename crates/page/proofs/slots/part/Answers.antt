-- `part` meets its contract. Assumes nothing.
use native.Mathlib.Omega.{arith}
use Rattle.page_layout.proofs.SoundPages.{sound_is}
use Rattle.page.proofs.PageLaws.{slot_part}
use Rattle.page.proofs.slots.part.Goals as goal

pub overflow_add-end : goal.overflow_add-end
overflow_add-end c = let s = sound_is _ _ c.requires.0 in rw c.slot-slot.ensures (omega (arith, s.short c.args.k c.requires.1))

pub slice_bounds-result-end : goal.slice_bounds-result-end
slice_bounds-result-end c = let s = sound_is _ _ c.requires.0 in rw c.slot-slot.ensures (omega (arith, s.roomy, s.short c.args.k c.requires.1))

pub returns : goal.returns
returns c = rw c.slot-slot.ensures (slot_part c.args.page.now c.args.room.now c.args.k)
