-- The parser of S's rows codes `rows`.
-- Assumes nothing.
use Prim.Native.Nat.{ℕ, ◌+◌, ◌-◌, ◌*◌, ◌^◌}
use native.Mathlib.Omega.{arith}
use mathlib.Core.Path.{◌≡◌, refl, ap, sym, ◌∙◌, subst}
use mathlib.Core.Bool.{true, false}
use mathlib.Core.List.{List, [], ◌∷◌, map}
use lib.Dec.{T, ltb, leb, eqb, ltb→lt, leb→le, eqb_refl, eqb→eq}
use borrow.Author.Tests.{eqb-true, eqb-false, lt-ltb, le-leb}
use Rattle.event.specs.declared.Row.{Row}
use Rattle.event.specs.declared.StampOrder.{StampOrder}
use Rattle.event.specs.declared.StampOrder.TheVariants.{Crossed, Rising}
use Rattle.event.specs.Parser.{Parser, Passed, ◌>>=◌, give, All, several, each}
use Rattle.event.specs.Words.{below_checks}
use Rattle.event.specs.Rows.{row}
use Rattle.event.specs.Writing.{of_kind, at_kind}
use Rattle.event.proofs.Codes.{Codes, any, At, true_T, same, less, codes_here, codes_cond, codes_checked}
use Rattle.event.proofs.Sequences.{codes_bind, codes_bind_at, codes_map, codes_image}
use Rattle.event.proofs.Many.{codes_many}
use Rattle.event.proofs.Elements.{prints_map, prints_each, codes_several, each_map, codes_several_at}
use Rattle.event.proofs.RowCodes.{codes_row}
use Rattle.s800_layout.specs.Event.{Datum, Trigger, Pair, Samples, Crdc, Registers, Hodoscope, energies, hits, Adc, Form, trigger, time_of_flight, scintillator, ion_chamber}
use Rattle.s800_layout.specs.Event.{crdc, hodoscope, object_pin, vme_adc, opaque, Content, Packet, Stamp, Number, stamp_tag, number_tag, tag, hits_id, largest_id, id_of}
use Rattle.s800_layout.specs.Event.{pattern_bound, ChannelFormat, trigger_time, flight_time, pair_energy, energy16, adc_energy, SampleHead, SampleDatum}
use Rattle.s800_layout.specs.Layout.{lowest_first, stamp_row, number_row, datum_row, pair_rows, register_row, anode_row, content_rows, packet_rows, stamp_checks, number_checks}
use Rattle.s800_layout.specs.Layout.{id_checks, datum_checks, anode_checks, register_checks, channels, pair_channels, ValidDatum, ValidData, ValidPair, ValidContent}
use Rattle.s800_layout.specs.Layout.{sample_head_row, sample_datum_row, group_rows, sample_head_checks, sample_datum_checks, ValidSampleDatum, has_data, ValidGroup}
use Rattle.s800_layout.specs.Writing.{of_tag, at_packet, datum_below, datum_of, datum, channel_rows, pair, samples, anode, registers, hits_content, energies_content, content}
use Rattle.s800_layout.specs.Writing.{Header, header_of, header_row, header, packet, own_row, chunks_of, stamp_of, stamp_packet, number_of, number_packet, sample_head_of}
use Rattle.s800_layout.specs.Writing.{sample_datum_of, sample_datum, after_data, group}
use Rattle.s800_layout.proofs.Lengths.{form_back}
use Rattle.s800_layout.proofs.Groups.{codes_grouped}

pub codes_below : (kind channel bound : ℕ) → Codes any (datum_below kind channel bound) (λ d. row kind 0 channel d ∷ []) (λ d. Passed (below_checks 0 bound d))
codes_below kind channel bound = codes_row (of_kind kind) (λ r. r.datum) (row kind 0 channel) (below_checks 22 bound) (λ d. eqb_refl kind) (λ d g. refl)

pub codes_datum : (kind base : ℕ) (f : ChannelFormat) (seen : List ℕ) → Codes any (datum kind base f seen) (λ d. datum_row kind base d ∷ []) (ValidDatum f seen)
codes_datum kind base f seen = codes_row (of_kind kind) (datum_of base) (datum_row kind base) (datum_checks 22 22 f seen) (λ d. eqb_refl kind) back
  where
    back : (d : Datum) → ValidDatum f seen d → datum_of base (datum_row kind base d) ≡ d
    back d v = let c : base + d.channel - base ≡ d.channel = omega arith in λ i. record { channel = c i; value = d.value }

-- rows of a kind that is not that of a packet's own row
codes_channels : (kind base : ℕ) (f : ChannelFormat) → ((d : Datum) (r : List Row) → at_packet (datum_row kind base d ∷ r) ≡ false)
    → Codes (At at_packet) (channel_rows kind base f) (map (datum_row kind base)) (ValidData f)
codes_channels kind base f other = same (codes_many channels (codes_datum kind base f) at_packet (λ st d g r. other d r) refl []) (λ xs g. g) (λ xs g. g)
    (λ xs g. prints_map (datum_row kind base) channels [] xs)

pub codes_pair : (seen : List ℕ) → Codes any (pair seen) pair_rows (ValidPair seen)
codes_pair seen = same
    (codes_bind (λ x. x.energy) (codes_datum 6 0 pair_energy seen) (λ e g. codes_map _ (λ x. x.time) (codes_below 5 e.channel (2 ^ pair_energy.bits)) (λ t. refl))
    (λ e x g. ap (λ (y : Pair). y.energy) g.1))
    (λ x g. (g.0, g.1.0)) (λ x g. (g.0, (g.1, refl))) (λ x g. refl)

pub codes_sample_datum : (h : SampleHead) → Passed (sample_head_checks 0 h) → (least : ℕ) → Codes any (sample_datum h least) (λ d. sample_datum_row h d ∷ []) (ValidSampleDatum least)
codes_sample_datum h p least = codes_row (of_kind 12) sample_datum_of (sample_datum_row h) (sample_datum_checks 22 least) (λ d. tt) back
  where
    back : (d : SampleDatum) → ValidSampleDatum least d → sample_datum_of (sample_datum_row h d) ≡ d
    back d g = let c : (sample_datum_of (sample_datum_row h d)).connector ≡ d.connector = omega (arith, ltb→lt h.channel 64 p.1.0) in λ i. record { connector = c i; energy = d.energy }

pub codes_group : Codes (At after_data) group group_rows ValidGroup
codes_group = codes_grouped sample_head_row sample_datum_row after_data (codes_row (of_kind 8) sample_head_of sample_head_row (sample_head_checks 22) (λ h. tt) (λ h g. refl))
    codes_sample_datum (λ g. codes_here λ k. codes_checked has_data 21 k g) (λ h least d g r. refl) refl

pub group_last : (r : List Row) → T (at_kind 9 r) → T (after_data r)
group_last [] t = tt
group_last (x ∷ r) t = rw (sym (eqb→eq 9 x.kind t)) tt

pub codes_groups : Codes (At (at_kind 9)) (several group (at_kind 9)) (each group_rows) (All ValidGroup)
codes_groups = codes_several_at (at_kind 9) codes_group (λ x g r. tt) group_last (λ x g r. refl) refl

abbrev samples_rows : Samples → List Row
samples_rows s = row 7 0 0 s.threshold ∷ each group_rows s.groups

pub codes_samples : Codes (At (at_kind 9)) samples samples_rows (λ s. Passed (below_checks 0 (2 ^ 16) s.threshold) × All ValidGroup s.groups)
codes_samples = same
    (codes_bind (λ s. s.threshold) (codes_below 7 0 (2 ^ 16)) (λ t g. codes_map _ (λ s. s.groups) codes_groups (λ xs. refl))
    (λ t s g. ap (λ (y : Samples). y.threshold) g.1))
    (λ s g. (g.0, g.1.0)) (λ s g. (g.0, (g.1, refl))) (λ s g. refl)

pub codes_anode : Codes any anode (λ a. anode_row a ∷ []) (λ a. Passed (anode_checks 0 a))
codes_anode = codes_row (of_kind 9) _ anode_row (anode_checks 22) (λ a. tt) (λ a g. refl)

pub codes_registers : Codes any registers (λ h. register_row h ∷ []) (λ h. Passed (register_checks 0 h))
codes_registers = codes_row (of_kind 10) _ register_row (register_checks 22) (λ h. tt) (λ h g. refl)

codes_hodoscope : (id : ℕ) → T (leb id hits_id) → Codes (At at_packet) (content hodoscope id) (content_rows hodoscope) (λ h. ValidContent hodoscope h × (id_of hodoscope h ≡ id))
codes_hodoscope id small = codes_cond (eqb id hits_id) two other
  where
    Good : Hodoscope → Type 0
    Good h = ValidContent hodoscope h × (id_of hodoscope h ≡ id)

    two : eqb id hits_id ≡ true → Codes (At at_packet) hits_content (content_rows hodoscope) Good
    two e = less (same (codes_image hits (content_rows hodoscope) codes_registers (λ r. refl))
        (λ h g. rw g.2 (g.1, sym (eqb-true id hits_id e))) back (λ h g. refl)) (λ r t. tt)
      where
        back : (h : Hodoscope) → Good h → (r : Registers) × Passed (register_checks 0 r) × (h ≡ hits r)
        back (energies k xs) g = absurd (omega (arith, g.1, eqb-true id hits_id e, ltb→lt k hits_id g.0.0))
        back (hits r) g = (r, g.0, refl)

    other : eqb id hits_id ≡ false → Codes (At at_packet) (energies_content id) (content_rows hodoscope) Good
    other e = same (codes_image (energies id) (content_rows hodoscope) (codes_channels 6 (16 * id) energy16 (λ d r. refl)) (λ xs. refl))
        (λ h g. rw g.2 ((below, g.1), refl)) back (λ h g. refl)
      where
        below : T (ltb id hits_id)
        below = true_T (ltb id hits_id) (lt-ltb id hits_id (omega (arith, eqb-false id hits_id e, leb→le id hits_id small)))

        back : (h : Hodoscope) → Good h → (xs : List Datum) × ValidData energy16 xs × (h ≡ energies id xs)
        back (energies k xs) g = (xs, g.0.1, ap (λ (j : ℕ). energies j xs) g.1)
        back (hits r) g = absurd (eqb-false id hits_id e (sym g.1))

-- a packet without an id has 0 in its own row
no_id : {A : Type 0} {Rest : List Row → Type 0} {p : Parser Row A} {print : A → List Row} {Good : A → Type 0} (id : ℕ) → T (leb id 0) → Codes Rest p print Good
    → Codes Rest p print (λ a. Good a × (0 ≡ id))
no_id id z c = same c (λ a g. (g, omega (arith, leb→le id 0 z))) (λ a g. g.0) (λ a g. refl)

codes_content : (f : Form) (id : ℕ) → Passed (id_checks 0 f id) → Codes (At at_packet) (content f id) (content_rows f) (λ c. ValidContent f c × (id_of f c ≡ id))
codes_content trigger id k = no_id id k.0 (same
    (codes_bind (λ c. c.pattern) (codes_below 4 0 pattern_bound) (λ w g. codes_map _ (λ c. c.times) (codes_channels 5 0 trigger_time (λ d r. refl)) (λ xs. refl))
    (λ w c g. ap (λ (y : Trigger). y.pattern) g.1))
    (λ c g. (g.0, g.1.0)) (λ c g. (g.0, (g.1, refl))) (λ c g. refl))
codes_content time_of_flight id k = no_id id k.0 (codes_channels 5 0 flight_time (λ d r. refl))
codes_content scintillator id k = no_id id k.0 (same (codes_many pair_channels codes_pair at_packet (λ st x g r. refl) refl [])
    (λ xs g. g) (λ xs g. g) (λ xs g. prints_each pair_rows pair_channels [] xs))
codes_content ion_chamber id k = no_id id k.0 (codes_channels 6 0 energy16 (λ d r. refl))
codes_content crdc id k = less (same
    (codes_bind_at (λ c. c.samples) codes_samples (λ s g. codes_map _ (λ c. c.anode) codes_anode (λ a. refl)) (λ s c g. ap (λ (y : Crdc). y.samples) g.1) (λ c g r t. tt))
    (λ c g. let e = ap (λ (y : Crdc). y.id) g.1.1 in ((subst (λ (j : ℕ). Passed (id_checks 0 crdc j)) (sym e) k, g.0.0, g.0.1, g.1.0), e))
    (λ c g. ((g.0.1, g.0.2), (g.0.3, λ i. record { id = g.1 i; samples = c.samples; anode = c.anode })))
    (λ c g. refl)) (λ r t. tt)
codes_content hodoscope id k = codes_hodoscope id k.0
codes_content object_pin id k = no_id id k.0 (less (codes_datum 6 0 energy16 []) (λ r t. tt))
codes_content vme_adc id k = same (codes_map _ (λ c. c.energies) (codes_channels 6 (8 * id) adc_energy (λ d r. refl)) (λ xs. refl))
    (λ c g. let e = ap (λ (y : Adc). y.id) g.1 in ((subst (λ (j : ℕ). Passed (id_checks 0 vme_adc j)) (sym e) k, g.0), e))
    (λ c g. (g.0.1, λ i. record { id = g.1 i; energies = c.energies }))
    (λ c g. let e = ap (λ (y : Adc). y.id) g.1 in ap (λ (j : ℕ). map (datum_row 6 (8 * j)) c.energies) (sym e))
codes_content (opaque o) id k = no_id id k.0 (same (codes_several at_packet (codes_below 11 0 (2 ^ 16)) (λ w g r. refl) refl)
    (λ ws g. g) (λ ws g. g) (λ ws g. each_map (row 11 0 0) ws))

id_allowed : (f : Form) (c : Content f) → ValidContent f c → T (leb (id_of f c) (largest_id f))
id_allowed trigger c v = tt
id_allowed time_of_flight c v = tt
id_allowed scintillator c v = tt
id_allowed ion_chamber c v = tt
id_allowed crdc c v = v.0.0
id_allowed hodoscope (energies id xs) v = true_T (leb id hits_id) (le-leb id hits_id (omega (arith, ltb→lt id hits_id v.0)))
id_allowed hodoscope (hits h) v = tt
id_allowed object_pin c v = tt
id_allowed vme_adc c v = v.0.0
id_allowed (opaque k) c v = tt

codes_header : Codes any header (λ h. header_row h ∷ []) (λ h. Passed (id_checks 0 h.form h.id))
codes_header = codes_row _ header_of header_row (λ h. id_checks 22 h.form h.id) stands (λ h g. λ i. record { form = form_back h.form i; id = h.id })
  where
    stands : (h : Header) → T (of_tag (tag (header_of (header_row h)).form) (header_row h))
    stands h = rw (form_back h.form) (eqb_refl (tag h.form))

abbrev header_in : Packet → Header
header_in q = record { form = q.form; id = id_of q.form q.content }

codes_form : (h : Header) → Passed (id_checks 0 h.form h.id)
    → Codes (At at_packet) (content h.form h.id >>= λ c. give (record { form = h.form; content = c })) (λ q. content_rows q.form q.content)
    (λ (q : Packet). (header_in q ≡ h) × ValidContent q.form q.content)
codes_form h k = same (codes_image (λ c. record { form = h.form; content = c }) (λ (q : Packet). content_rows q.form q.content) (codes_content h.form h.id k) (λ c. refl))
    (λ q g. subst (λ (x : Packet). (header_in x ≡ h) × ValidContent x.form x.content) (sym g.2) ((λ i. record { form = h.form; id = g.1.1 i }), g.1.0))
    (λ q g. subst (λ (x : Header). (c : Content x.form) × (ValidContent x.form c × (id_of x.form c ≡ x.id)) × (q ≡ record { form = x.form; content = c }))
    g.0 (q.content, (g.1, refl), refl))
    (λ q g. refl)

pub codes_packet : Codes (At at_packet) packet packet_rows (λ q. ValidContent q.form q.content)
codes_packet = same (codes_bind header_in codes_header codes_form (λ h q g. g.0))
    (λ q g. g.1.1) (λ q g. ((id_allowed q.form q.content g, tt), (refl, g))) (λ q g. refl)

-- the first packet and the second
codes_own : (t : ℕ) → Codes any (own_row t) (λ u. row 1 t 0 0 ∷ []) (λ u. Unit {0})
codes_own t = codes_row (of_tag t) (λ r. tt) (λ u. row 1 t 0 0) (λ u. []) (λ u. eqb_refl t) (λ u g. refl)

twice : (o : StampOrder) (s : Stamp) → lowest_first o (lowest_first o s) ≡ s
twice Crossed s = refl
twice Rising s = refl

passed : (o : StampOrder) (s : Stamp) → Passed (stamp_checks 0 s) → Passed (stamp_checks 0 (lowest_first o s))
passed Crossed s p = (p.0, (p.1.1.0, (p.1.0, p.1.1.1)))
passed Rising s p = p

chunks_back : (s : Stamp) → Passed (stamp_checks 0 s) → chunks_of (stamp_row Rising s) ≡ s
chunks_back s p =
    let a : (chunks_of (stamp_row Rising s)).chunk0 ≡ s.chunk0 = omega (arith, ltb→lt) in
    let b : (chunks_of (stamp_row Rising s)).chunk1 ≡ s.chunk1 = omega (arith, ltb→lt) in
    let c : (chunks_of (stamp_row Rising s)).chunk2 ≡ s.chunk2 = omega (arith, ltb→lt) in
    let d : (chunks_of (stamp_row Rising s)).chunk3 ≡ s.chunk3 = omega (arith, ltb→lt) in
    λ i. record { chunk0 = a i; chunk1 = b i; chunk2 = c i; chunk3 = d i }

stamp_back : (o : StampOrder) (s : Stamp) → Passed (stamp_checks 0 s) → stamp_of o (stamp_row o s) ≡ s
stamp_back o s p = ap (lowest_first o) (chunks_back (lowest_first o s) (passed o s p)) ∙ twice o s

pub codes_stamp : (o : StampOrder) → Codes any (stamp_packet o) (λ s. row 1 stamp_tag 0 0 ∷ stamp_row o s ∷ []) (λ s. Passed (stamp_checks 0 s))
codes_stamp o = same (codes_bind (λ s. tt) (codes_own stamp_tag) (λ u g. codes_row (of_kind 2) (stamp_of o) (stamp_row o) (stamp_checks 22) (λ s. tt) (stamp_back o)) (λ u s g. refl))
    (λ s g. g.1) (λ s g. (tt, g)) (λ s g. refl)

pub codes_number : Codes any number_packet (λ k. row 1 number_tag 0 0 ∷ number_row k ∷ []) (λ k. Passed (number_checks 0 k))
codes_number = same (codes_bind (λ k. tt) (codes_own number_tag) (λ u g. codes_row (of_kind 3) number_of number_row (number_checks 22) (λ k. tt) back) (λ u k g. refl))
    (λ k g. g.1) (λ k g. (tt, g)) (λ k g. refl)
  where
    back : (k : Number) → Passed (number_checks 0 k) → number_of (number_row k) ≡ k
    back k p =
        let a : (number_of (number_row k)).chunk0 ≡ k.chunk0 = omega (arith, ltb→lt) in
        let b : (number_of (number_row k)).chunk1 ≡ k.chunk1 = omega (arith, ltb→lt) in
        λ i. record { chunk0 = a i; chunk1 = b i; chunk2 = k.chunk2 }
