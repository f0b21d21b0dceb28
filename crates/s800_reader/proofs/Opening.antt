-- Packets opened after their tags: what all forms share.
-- Assumes nothing.
use Prim.Native.Nat.{ℕ, ◌+◌, ◌^◌, ◌≤◌, ◌<◌}
use native.Mathlib.Omega.{arith}
use mathlib.Core.Path.{◌≡◌, refl, ap, sym}
use mathlib.Core.List.{List, [], ◌∷◌, ◌++◌, map}
use lib.ListN.{length}
use lib.Seq.{slice, slice_empty}
use Rattle.event.specs.declared.Row.{Row}
use Rattle.event.specs.Parser.{refuse, then, give, each}
use Rattle.event.specs.Scanning.{store_rows, Scanned}
use Rattle.event.proofs.Elements.{each_map}
use Rattle.event.proofs.Leads.{leads_part, leads_done, refused_as}
use Rattle.s800_layout.specs.Event.{Datum, Form, Content, ChannelFormat, energy16}
use Rattle.s800_layout.specs.Layout.{datum_row, packet_rows}
use Rattle.s800_layout.specs.Reading.{channel_words}
use Rattle.s800_format.specs.declared.Format.{Format}
use Rattle.s800_format.specs.Format.{format_of, energies_of}
use Rattle.s800_reader.specs.declared.packet.Packet.{Packet}
use Rattle.s800_reader.specs.Channel.{channel_rows}
use Rattle.s800_reader.specs.Opening.{PacketAt, rest_of, OpensAs}
use Rattle.event.specs.Refusal.{refusal}
use Rattle.std.specs.Prelude.{Ok, Err}
use Rattle.s800_reader.specs.Opening.{OpenAnswer, channels_left}

-- what the code's packet says of itself
pub packet_at : (p : Packet) → PacketAt p.words.now p.start p.size p.count
packet_at p = record { two = p.two; inside = p.inside; few = p.few }

-- refusal m at place p
pub opens_refused : (f : Form) {ws : List ℕ} {start n k : ℕ} {b after : List ℕ} {r : OpenAnswer} {m p : ℕ} → r ≡ Err (refusal m p) → rest_of f ws start n ≡ refuse m p
    → OpensAs f ws start n k b after r
opens_refused f {m = m} {p = p} e h = rw e (record { opens = refused_as {n = m} {p = p} h })

-- the rows `before` are stored, and channel words are left
pub opens_channels : (f : Form) {ws : List ℕ} {start n k : ℕ} {b after : List ℕ} (before : List Row) (m : Format) {q : ChannelFormat} (g : List Datum → Content f) {at : ℕ}
    → m.base < 2 ^ 16 → format_of m ≡ q → at ≤ start + n → k + length before ≤ at
    → rest_of f ws start n ≡ then (λ xs. give (record { form = f; content = g xs })) (channel_words q at (slice at (start + n) ws))
    → ((xs : List Datum) → packet_rows (record { form = f; content = g xs }) ≡ before ++ each (channel_rows m) xs) → after ≡ store_rows b k before
    → OpensAs f ws start n k b after (Ok (channels_left m at (start + n) (k + length before)))
opens_channels f {ws} {start} {n} {k} {b} before m {q} g {at} low same within few e rows s =
    let i : rest_of f ws start n ≡ then (λ xs. give (record { form = f; content = g xs })) (channel_words (format_of m) at (slice at (start + n) ws)) = rw same e in
    record {
      opens = (
        refl,
        record {
          base = low;
          inside = within;
          few = few;
          leads = rw (i, s) (leads_part before (each (channel_rows m)) (channel_words (format_of m) at (slice at (start + n) ws)) (λ xs. record { form = f; content = g xs }) packet_rows k b rows);
        },
      );
    }

-- a packet that was scanned whole: no channel words are left
pub opens_complete : (f : Form) {ws : List ℕ} {start n k k' : ℕ} {b after : List ℕ} {r : OpenAnswer} → Scanned packet_rows (rest_of f ws start n) k b (Ok k') after
    → k' ≤ start + n → r ≡ Ok (channels_left (energies_of 0 energy16) (start + n) (start + n) k') → OpensAs f ws start n k b after r
opens_complete f {ws} {start} {n} {k} {k'} {b} {after} s few q = rw q (record {
  opens = (
    refl,
    record {
      base = omega arith;
      inside = omega arith;
      few = few;
      leads = leads_done (each (channel_rows (energies_of 0 energy16))) {a = []} {j = start + n} {r = []} (rw (slice_empty (start + n) ws)) refl s;
    },
  );
})

-- channel words whose rows are the last of a packet's
pub last_rows : (kind base : ℕ) (before : List Row) (xs : List Datum) → before ++ map (datum_row kind base) xs ≡ before ++ each (λ d. datum_row kind base d ∷ []) xs
last_rows kind base before xs = ap (before ++◌) (sym (each_map (datum_row kind base) xs))
