-- The parts of an event in their order: a code for each part makes one of the event. Then the words and the rows.
-- Assumes nothing.
use Prim.Native.Nat.{ℕ}
use mathlib.Core.Path.{◌≡◌, refl, ap, sym, ◌∙◌}
use mathlib.Core.Bool.{Bool, true, false}
use mathlib.Core.List.{List, [], ◌∷◌, ◌++◌}
use lib.Dec.{T, eqb}
use Rattle.event.specs.declared.Row.{Row}
use Rattle.event.specs.declared.StampOrder.{StampOrder}
use Rattle.event.specs.Parser.{Parser, Passed, ended, require, several, alone, All, each}
use Rattle.event.specs.Words.{exactly, between}
use Rattle.event.specs.Writing.{of_kind}
use Rattle.event.proofs.Codes.{Codes, any, At, nil, same, codes_require}
use Rattle.event.proofs.Sequences.{codes_bind, codes_map}
use Rattle.event.proofs.Ends.{Ends, ends_bind, ends_map, ends_many}
use Rattle.event.proofs.Elements.{codes_exactly, both, codes_several_at}
use Rattle.s800_layout.specs.Event.{focal_plane_time, intermediate_crdc, target_pin, intermediate_track, intermediate_ppac, object_scintillator, Form, trigger, time_of_flight, scintillator, ion_chamber, crdc, hodoscope, object_pin, vme_adc, opaque, Packet, Run, end, plain, run_of, Stamp, Number, Event, event_tag, stamp_tag, tag}
use Rattle.s800_layout.specs.Layout.{packet_words, run_words, version, packets_words, packet_rows, run_rows, rows, smallest_event, largest_event, stamp_checks, number_checks, ValidContent, ValidRun, Formed}
use Rattle.s800_layout.specs.Reading.{packet, stamp_packet, number_packet, run_up_to, event_of, event_parser}
use Rattle.s800_layout.specs.Writing as Writing
use Rattle.s800_layout.proofs.Words as Words
use Rattle.s800_layout.proofs.Rows as Rows

abbrev packets_of : Run → List Packet
packets_of end = []
packets_of (plain q r) = q ∷ packets_of r

there : (qs : List Packet) → packets_of (run_of qs) ≡ qs
there [] = refl
there (q ∷ qs) = ap (q ∷◌) (there qs)

back : (r : Run) → run_of (packets_of r) ≡ r
back end = refl
back (plain q r) = ap (plain q) (back r)

abbrev ValidPacket : Packet → Type 0
ValidPacket q = ValidContent q.form q.content

valid : (r : Run) → All ValidPacket (packets_of r) → ValidRun r
valid end v = tt
valid (plain q r) v = (v.0, valid r v.1)

all_valid : (r : Run) → ValidRun r → All ValidPacket (packets_of r)
all_valid end v = tt
all_valid (plain q r) v = (v.0, all_valid r v.1)

-- a run of packets: the stop holds at the end and not at a packet
codes_run_up_to : {E : Type 0} {Rest : List E → Type 0} {packet : Parser E Packet} {packetP : Packet → List E} (stop : List E → Bool) (runP : Run → List E)
    → Codes Rest packet packetP ValidPacket → ((q : Packet) → ValidPacket q → (r : List E) → Rest (packetP q ++ r)) → ((r : List E) → T (stop r) → Rest r)
    → ((q : Packet) → ValidPacket q → (r : List E) → stop (packetP q ++ r) ≡ false) → stop [] ≡ true
    → ((qs : List Packet) → runP (run_of qs) ≡ each packetP qs) → Codes (At stop) (run_up_to stop packet) runP ValidRun
codes_run_up_to stop runP c again last on halt prints = same (codes_map run_of packets_of (codes_several_at stop c again last on halt) there)
    (λ r g. valid r g.0) (λ r g. (all_valid r g, sym (back r))) (λ r g. sym (prints (packets_of r)) ∙ ap runP (back r))

codes_event : {E : Type 0} {Rest : List E → Type 0} {stamp : Parser E Stamp} {number : Parser E Number} {run : Parser E Run}
    {stampP : Stamp → List E} {numberP : Number → List E} {runP : Run → List E}
    → Codes any stamp stampP (λ s. Passed (stamp_checks 0 s)) → Codes any number numberP (λ k. Passed (number_checks 0 k)) → Codes Rest run runP ValidRun
    → Codes Rest (event_of stamp number run) (λ e. stampP e.stamp ++ (numberP e.number ++ runP e.run)) Formed
codes_event c-stamp c-number c-run = same
    (codes_bind (λ e. e.stamp) c-stamp (λ s g. codes_bind (λ e. e.number) c-number (λ k g. codes_map _ (λ e. e.run) c-run (λ r. refl))
    (λ k e g. ap (λ (x : Event). x.number) g.1))
    (λ s e g. ap (λ (x : Event). x.stamp) g.1.1))
    (λ e g. record { stamp = g.0; number = g.1.0; run = g.1.1.0 })
    (λ e g. (g.stamp, (g.number, (g.run, refl))))
    (λ e g. refl)

ends_event : {E : Type 0} (stamp : Parser E Stamp) (number : Parser E Number) (packet : Parser E Packet) (stop : List E → Bool) → Ends stop (event_of stamp number (run_up_to stop packet))
ends_event stamp number packet stop = ends_bind stop stamp _ (λ s. ends_bind stop number _ (λ k.
    ends_map stop (run_up_to stop packet) _ (ends_map stop (several packet stop) run_of (ends_many stop (λ u. packet) alone tt))))

pub run_words_lem : (qs : List Packet) → run_words (run_of qs) ≡ each packet_words qs
run_words_lem [] = refl
run_words_lem (q ∷ qs) = ap (packet_words q ++◌) (run_words_lem qs)

pub codes_words : (n : ℕ)
    → Codes (At ended) (event_parser n) (λ e. n ∷ event_tag ∷ version ∷ packets_words e) (λ e. T (between smallest_event largest_event n) × Formed e)
codes_words n = same
    (codes_bind (λ e. tt) (codes_require (between smallest_event largest_event n) 1 0) (λ u g.
    codes_bind (λ e. tt) (codes_exactly 2 n) (λ u g. codes_bind (λ e. tt) (codes_exactly 3 event_tag) (λ u g. codes_bind (λ e. tt) (codes_exactly 4 version) (λ u g.
    codes_event Words.codes_stamp Words.codes_number (codes_run_up_to ended run_words Words.codes_packet (λ q g r. tt) (λ r t. tt) (λ q g r. refl) refl run_words_lem))
    (λ u e g. refl)) (λ u e g. refl)) (λ u e g. refl)) (λ u e g. refl))
    (λ e g. (g.0, g.1.1.1.1)) (λ e g. (g.0, (tt, (tt, (tt, g.1))))) (λ e g. refl)

pub ends_words : (n : ℕ) → Ends ended (event_parser n)
ends_words n = ends_bind ended (require (between smallest_event largest_event n) 1 0) _ (λ u. ends_bind ended (exactly 2 n) _ (λ u.
    ends_bind ended (exactly 3 event_tag) _ (λ u. ends_bind ended (exactly 4 version) _ (λ u. ends_event stamp_packet number_packet packet ended))))

pub run_rows_lem : (qs : List Packet) → run_rows (run_of qs) ≡ each packet_rows qs
run_rows_lem [] = refl
run_rows_lem (q ∷ qs) = ap (packet_rows q ++◌) (run_rows_lem qs)

-- the stop holds at the end, or where another packet's own row stands, and at no packet of the event
codes_rows : (o : StampOrder) (stop : List Row → Bool) → ((r : List Row) → T (stop r) → T (Writing.at_packet r))
    → ((q : Packet) → ValidPacket q → (r : List Row) → stop (packet_rows q ++ r) ≡ false) → stop [] ≡ true → Codes (At stop) (Writing.event_rows_up_to o stop) (rows o) Formed
codes_rows o stop last on halt = same
    (codes_event (Rows.codes_stamp o) Rows.codes_number (codes_run_up_to stop run_rows Rows.codes_packet (λ q g r. tt) last on halt run_rows_lem))
    (λ e g. g) (λ e g. g) (λ e g. refl)

-- one event alone
pub codes_one : (o : StampOrder) → Codes (At ended) (Writing.event_rows_up_to o ended) (rows o) Formed
codes_one o = codes_rows o ended (λ r t. rw (nil r t) tt) (λ q g r. refl) refl

pub ends_one : (o : StampOrder) → Ends ended (Writing.event_rows_up_to o ended)
ends_one o = ends_event (Writing.stamp_packet o) Writing.number_packet Writing.packet ended

not_stamp : (f : Form) → eqb stamp_tag (tag f) ≡ false
not_stamp trigger = refl
not_stamp time_of_flight = refl
not_stamp scintillator = refl
not_stamp ion_chamber = refl
not_stamp crdc = refl
not_stamp hodoscope = refl
not_stamp object_pin = refl
not_stamp vme_adc = refl
not_stamp (opaque focal_plane_time) = refl
not_stamp (opaque intermediate_crdc) = refl
not_stamp (opaque target_pin) = refl
not_stamp (opaque intermediate_track) = refl
not_stamp (opaque intermediate_ppac) = refl
not_stamp (opaque object_scintillator) = refl

-- one event in a run of events
pub codes_run : (o : StampOrder) → Codes (At Writing.at_stamp) (Writing.event_rows_up_to o Writing.at_stamp) (rows o) Formed
codes_run o = codes_rows o Writing.at_stamp last (λ q g r. not_stamp q.form) refl
  where
    last : (r : List Row) → T (Writing.at_stamp r) → T (Writing.at_packet r)
    last [] t = tt
    last (x ∷ r) t = (both (of_kind 1 x) _ t).0
