-- Packets as the code writes them (the contracts of private functions).
-- Assumes nothing.
use Rattle.std.specs.Prelude.{ℕ, suc, ◌+◌, ◌-◌, cond, ◌&&◌, List, eqb, drop}
use Rattle.event.specs.declared.Row.{Row}
use Rattle.event.specs.declared.StampOrder.{StampOrder}
use Rattle.event.specs.declared.StampOrder.TheVariants.{Crossed, Rising}
use Rattle.event.specs.Parser.{Parser, fault_in, ◌>>=◌, give}
use Rattle.event.specs.Words.{store_word}
use Rattle.event.specs.Refusal.{PartAnswer}
use Rattle.event.specs.Scanning.{Writes}
use Rattle.event.specs.Writing.{row_tests}
use Rattle.s800_layout.specs.Event.{Form, Packet, tag, form_of, largest_id}
use Rattle.s800_layout.specs.Layout.{packet_words, id_checks}
use Rattle.s800_layout.specs.Writing.{of_tag, content, header_of, header_row}

-- the length and the tag of the packet at `at`, set once its content stands before word `end`
abbrev pub closed : (at tag end : ℕ) → List ℕ → List ℕ
closed at tag end b = store_word 16 (store_word 16 b at (end - at)) (at + 1) tag

-- a packet of this form and id, after its own row
abbrev pub packet_after : (f : Form) (id : ℕ) → Parser Row Packet
packet_after f id = content f id >>= λ c. give (record { form = f; content = c })

-- the packet whose own row is row i, at the front of a part of the words
abbrev pub WritesPacket : Form → ℕ → List Row → ℕ → List ℕ → PartAnswer → List ℕ → Type 0
WritesPacket f id rs i = Writes 16 packet_words (packet_after f id (i + 1) (drop (i + 1) rs)) rs 0

-- how many ids the packet of a tag may have: 1 where it has none, 0 where the tag is no form's
unfoldable pub id_count : (t : ℕ) → ℕ
id_count t = cond (eqb (tag (form_of t)) t) (suc (largest_id (form_of t))) 0

-- 21: no row of kind 1, or of no form's tag; 22: its id, or its datum; 0 for none
abbrev pub header_fault : Row → ℕ
header_fault r = fault_in (row_tests (λ r. of_tag (tag (form_of r.unit)) r) header_of header_row (λ h. id_checks 22 h.form h.id) r)

-- the own row of the stamp's packet, or of the event number's: 21 its kind or its tag; 22 its id, or its datum; 0 for none
unfoldable pub own_fault : (t : ℕ) → Row → ℕ
own_fault t r = cond (of_tag t r) (cond (eqb r.channel 0 && eqb r.datum 0) 0 22) 21

-- of two chunks of a stamp, the one that stands there in this order
abbrev pub chunk_of : StampOrder → (crossed rising : ℕ) → ℕ
chunk_of Crossed crossed rising = crossed
chunk_of Rising crossed rising = rising
