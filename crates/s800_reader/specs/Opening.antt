-- What the first words of a packet lead to (the contracts of private functions).
-- Assumes nothing.
use Rattle.std.specs.Prelude.{ℕ, ◌+◌, ◌-◌, ◌^◌, ◌≤◌, ◌<◌, ◌≡◌, List, [], ◌∷◌, length, get_or, drop, Result, Ok, Err}
use Rattle.std.proofs.Math.Seq.{slice}
use Rattle.event.specs.declared.Row.{Row}
use Rattle.event.specs.declared.refusal.Refusal.{Refusal}
use Rattle.event.specs.Parser.{ended, ◌>>◌, require, many, several, each}
use Rattle.event.specs.Parser as parser
use Rattle.event.specs.Rows.{row}
use Rattle.event.specs.Scanning.{RefusedAs, Leads}
use Rattle.s800_layout.specs.Event.{Form, Pair, Group, Anode, crdc, samples_tag, anode_tag, tag, hits_id, largest_id}
use Rattle.s800_layout.specs.Event as event
use Rattle.s800_layout.specs.Layout.{packet_row, packet_rows, pair_channels}
use Rattle.s800_layout.specs.Reading.{allowed_length, channel_words, packet_content, packet, whole, pair, inner, anode}
use Rattle.s800_format.specs.declared.Format.{Format}
use Rattle.s800_reader.specs.declared.channel.Channels.{Channels}
use Rattle.s800_reader.specs.declared.packet.Packet.{Packet}
use Rattle.s800_format.specs.Format.{format_of}
use Rattle.s800_reader.specs.Channel.{channel_rows}
use Rattle.s800_reader.specs.Groups.{groups_in}

-- a packet of n words at `start` lies within the words, after no more rows than words
pub record PacketAt (ws : List ℕ) (start n count : ℕ) : Type 0 where
  pub two : 2 ≤ n
  pub inside : start + n ≤ length ws
  pub few : count ≤ start

-- the packet of form f and n words at `start`, from the words after its tag on
abbrev pub rest_of : Form → List ℕ → (start n : ℕ) → parser.Result ℕ event.Packet
rest_of f ws start n = (require (allowed_length f n) 7 start >> packet_content f start n) (start + 2) (slice (start + 2) (start + n) ws)

-- a hodoscope's packet, of a length that its tag allows, with id 2
pub record HodoscopeHits (ws : List ℕ) (start n : ℕ) : Type 0 where
  pub least : 3 ≤ n
  pub most : n ≤ 19
  pub id : get_or ws (start + 2) 0 ≡ hits_id

-- a CRDC's packet, of a length that its tag allows, right up to its threshold; the rows up to there
pub record CrdcFront (ws : List ℕ) (start n : ℕ) : Type 0 where
  pub least : 10 ≤ n
  pub id : get_or ws (start + 2) 0 ≤ largest_id crdc
  pub samples_length : get_or ws (start + 3) 0 ≡ n - 7
  pub its_tag : get_or ws (start + 4) 0 ≡ samples_tag
  pub threshold : get_or ws (start + 5) 0 < 2 ^ 16

abbrev pub crdc_front_rows : List ℕ → ℕ → List Row
crdc_front_rows ws start = packet_row (tag crdc) (get_or ws (start + 2) 0) ∷ row 7 0 0 (get_or ws (start + 5) 0) ∷ []

-- what is left of a packet, or its refusal
abbrev pub OpenAnswer : Type 0
OpenAnswer = Result Channels Refusal

abbrev pub channels_left : Format → (at end count : ℕ) → Channels
channels_left m at end k = record { format = m; at = at; end = end; count = k }

module _ {A : Type 0} (ws : List ℕ) (end : ℕ) (rows_of : A → List Row) (x : parser.Result ℕ A) (k₀ : ℕ) (before after : List ℕ) where
  -- channel words from `at` up to the end, the scan of which ends as that of x does
  pub record Leading (m : Format) (at k : ℕ) : Type 0 where
    pub base : m.base < 2 ^ 16
    pub inside : at ≤ end
    pub few : k ≤ at
    pub leads : Leads (each (channel_rows m)) (channel_words (format_of m) at (slice at end ws)) k after rows_of x k₀ before

  -- such channel words, or the refusal that x is
  abbrev pub Opens : OpenAnswer → Type 0
  Opens (Ok c) = (c.end ≡ end) × Leading c.format c.at c.count
  Opens (Err r) = RefusedAs x r

-- the packet of form f and n words at `start`, opened after its tag
pub record OpensAs (f : Form) (ws : List ℕ) (start n k : ℕ) (before after : List ℕ) (r : OpenAnswer) : Type 0 where
  pub opens : Opens ws (start + n) packet_rows (rest_of f ws start n) k before after r

-- channel words that are left lie within the packet, and the packet within the words
abbrev pub EndInside : List ℕ → ℕ → OpenAnswer → Type 0
EndInside ws start (Ok c) = (start + 2 ≤ c.end) × (c.end ≤ length ws)
EndInside ws start (Err r) = Unit {0}

-- the packet at `start`, opened
pub record OpensPacket (ws : List ℕ) (start k : ℕ) (before after : List ℕ) (r : OpenAnswer) : Type 0 where
  pub opens : Opens ws (start + get_or ws start 0) packet_rows (packet start (drop start ws)) k before after r
  pub ends : EndInside ws start r

-- The code's packet: it is of form f, opened after its tag; its opaque words, its pairs, and the groups and the anode of a CRDC.
abbrev pub Opened : Form → Packet → (before after : List ℕ) → OpenAnswer → Type 0
Opened f p = OpensAs f p.words.now p.start p.size p.count

abbrev pub opaques_of : Packet → parser.Result ℕ (List ℕ)
opaques_of p = several whole ended (p.start + 2) (slice (p.start + 2) (p.start + p.size) p.words.now)

abbrev pub pairs_of : Packet → parser.Result ℕ (List Pair)
pairs_of p = many pair pair_channels ended [] (p.start + 2) (slice (p.start + 2) (p.start + p.size) p.words.now)

abbrev pub samples_of : Packet → parser.Result ℕ (List Group)
samples_of p = groups_in p.words.now (p.start + 6) (p.start + p.size - 4)

abbrev pub anode_of : Packet → parser.Result ℕ Anode
anode_of p = inner 4 anode_tag anode (p.start + p.size - 4) (slice (p.start + p.size - 4) (p.start + p.size) p.words.now)
