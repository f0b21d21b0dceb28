-- The first 14 words of an event: refusals 1 to 4, the stamp packet, the event number packet. Over plain values.
-- Assumes nothing.
use Prim.Native.Nat.{ℕ, suc, ◌+◌, ◌-◌, ◌^◌, ◌≤◌, ◌<◌}
use native.Mathlib.Omega.{arith}
use mathlib.Core.Path.{◌≡◌, refl, ap, sym, ◌∙◌}
use mathlib.Core.Bool.{Bool, true, false, cond, ◌&&◌}
use mathlib.Core.List.{List, [], ◌∷◌, ◌++◌}
use lib.Dec.{eqb, leb}
use lib.ListN.{length, get_or, drop}
use lib.Seq.{slice, slice_empty}
use borrow.Author.Tests.{ne_eqb, leb-true, leb-false, eqb-true}
use Rattle.event.specs.declared.StampOrder.{StampOrder}
use Rattle.event.specs.Parser.{Result, ok, refuse, Parser, then, ◌>>◌, require, ended, filled, several, each}
use Rattle.event.specs.Words.{exactly, between}
use Rattle.event.specs.Scanning.{store_rows, RefusedAs}
use Rattle.event.proofs.Leads.{leads_part, then_then, refused_as}
use Rattle.event.proofs.Loops.{to_the_end}
use Rattle.event.proofs.Impossible.{impossible}
use Rattle.s800_layout.specs.Event.{run_of, Event, event_tag, stamp_tag, number_tag}
use Rattle.s800_layout.specs.Layout.{version, packet_rows, rows, smallest_event, largest_event}
use Rattle.s800_layout.specs.Reading.{packet_of, packet, stamp_content, stamp_packet, number_content, number_packet, run_up_to, event_of, event_parser}
use Rattle.s800_layout.proofs.Event.{run_rows_lem}
use Rattle.s800_reader.specs.Head.{Frame, frame_words, frame_of, head_fault, head_place, stamp_at, number_at, stamp_rows, number_rows, Begins}
use Rattle.s800_reader.proofs.Extent.{too_short, too_long, body}
use Rattle.s800_reader.proofs.Runs.{read_whole}
use Rattle.std.specs.Prelude.{Ok, Err}
use Rattle.event.specs.declared.refusal.Refusal.{Refusal}
use Rattle.event.specs.Refusal.{refusal, part}
use Rattle.event.proofs.Answers.{Failed}

-- refusals 1 to 4, or the packets from word 3 on
abbrev OnFrame : List ℕ → Frame → Type 0
OnFrame ws (Ok u) = event_parser (length ws) 0 ws ≡ event_of stamp_packet number_packet (run_up_to ended packet) 3 (drop 3 ws)
OnFrame ws (Err r) = RefusedAs (event_parser (length ws) 0 ws) r

abbrev Framed : List ℕ → Type 0
Framed ws = OnFrame ws (frame_of ws)

-- word by word
module _ (a b c : ℕ) (r : List ℕ) where
  abbrev event : List ℕ
  event = a ∷ b ∷ c ∷ r

  module _ (s : between smallest_event largest_event (length event) ≡ true) where
    word_2 : eqb a (length event) ≡ true → eqb b event_tag ≡ true → (x : Bool) → eqb c version ≡ x → Framed event
    unfolding frame_of
    word_2 e f true g = rw (s, e, f, g) (rw (s, e, f, g))
    word_2 e f false g = rw (s, e, f, g) (record { number = 4; place = 2; refused = rw (s, e, f, g); named = refl })

    word_1 : eqb a (length event) ≡ true → (x : Bool) → eqb b event_tag ≡ x → Framed event
    unfolding frame_of
    word_1 e true f = word_2 e f (eqb c version) refl
    word_1 e false f = rw (s, e, f) (record { number = 3; place = 1; refused = rw (s, e, f); named = refl })

    word_0 : (x : Bool) → eqb a (length event) ≡ x → Framed event
    unfolding frame_of
    word_0 true e = word_1 e (eqb b event_tag) refl
    word_0 false e = rw (s, e) (record { number = 2; place = 0; refused = rw (s, e); named = refl })

  sized : (x : Bool) → between smallest_event largest_event (length event) ≡ x → Framed event
  unfolding frame_of
  sized true s = word_0 s (eqb a (length event)) refl
  sized false s = rw s (record { number = 1; place = 0; refused = rw s; named = refl })

frame_parsed : (ws : List ℕ) → Framed ws
unfolding frame_of
frame_parsed [] = refused_as {n = 1} {p = 0} refl
frame_parsed (a ∷ []) = refused_as {n = 1} {p = 0} refl
frame_parsed (a ∷ b ∷ []) = refused_as {n = 1} {p = 0} refl
frame_parsed (a ∷ b ∷ c ∷ r) = sized a b c r (between smallest_event largest_event (length (a ∷ b ∷ c ∷ r))) refl

-- an event of the right size
pub frame_size : (ws : List ℕ) {u : Unit {0}} → Ok u ≡ frame_of ws → smallest_event ≤ length ws
unfolding frame_of
frame_size ws {u} e = go (leb smallest_event (length ws)) refl e
  where
    go : (x : Bool) → leb smallest_event (length ws) ≡ x → Ok u ≡ cond (x && leb (length ws) largest_event) (frame_words ws) (Err (refusal 1 0)) → smallest_event ≤ length ws
    go true s h = leb-true smallest_event (length ws) s
    go false s h = impossible cc

pub frame_refused : (o : StampOrder) (ws : List ℕ) {before after : List ℕ} {r : Refusal} → Err r ≡ frame_of ws → Begins o ws before after (Err r)
frame_refused o ws e = let f : OnFrame ws (frame_of ws) = frame_parsed ws in record { begins = record { begun = rw (← e) at f } }

-- a packet with one tag t and one length m
module _ {A : Type 0} (c : Parser ℕ A) (t m : ℕ) (ws : List ℕ) (start : ℕ) (below : start < length ws) where
  abbrev fixed : Parser ℕ A
  fixed = packet_of (exactly 6 t) (λ u. eqb m) (λ u p n. c)

  abbrev on_fault : ℕ → Result ℕ A
  on_fault n = cond (eqb n 0) (filled (slice (start + m) (length ws) ws) (c (start + 2) (slice (start + 2) (start + m) ws))) (refuse n (head_place n start))

  abbrev Read : Type 0
  Read = fixed start (drop start ws) ≡ on_fault (head_fault ws start t m)

  module _ (two : leb 2 (get_or ws start 0) ≡ true) (inside : leb (get_or ws start 0) (length ws - start) ≡ true) where
    opened : fixed start (drop start ws)
        ≡ filled (slice (start + get_or ws start 0) (length ws) ws) (then (λ u. (require (eqb m (get_or ws start 0)) 7 start >> c))
        (exactly 6 t (start + 1) (get_or ws (start + 1) 0 ∷ slice (start + 2) (start + get_or ws start 0) ws)))
    opened = body (exactly 6 t) (λ u. eqb m) (λ u p n. c) ws start below refl (leb-true _ _ two) (leb-true _ _ inside) refl

    length_passed : eqb (get_or ws (start + 1) 0) t ≡ true → (x : Bool) → eqb m (get_or ws start 0) ≡ x → Read
    unfolding head_fault
    length_passed e true f =
        let n : get_or ws start 0 ≡ m = sym (eqb-true m (get_or ws start 0) f) in
        let next : suc (start + 1) ≡ start + 2 = omega arith in
        opened ∙ rw (two, inside, e, f, n, next)
    length_passed e false f = opened ∙ rw (two, inside, e, f)

    tag_passed : (x : Bool) → eqb (get_or ws (start + 1) 0) t ≡ x → Read
    unfolding head_fault
    tag_passed true e = length_passed e (eqb m (get_or ws start 0)) refl
    tag_passed false e = opened ∙ rw (two, inside, e)

  inside_passed : leb 2 (get_or ws start 0) ≡ true → (x : Bool) → leb (get_or ws start 0) (length ws - start) ≡ x → Read
  unfolding head_fault
  inside_passed two true i = tag_passed two i (eqb (get_or ws (start + 1) 0) t) refl
  inside_passed two false i = rw (two, i) (too_long (exactly 6 t) (λ u. eqb m) (λ u p n. c) ws start below refl (leb-true _ _ two) (leb-false _ _ i))

  long_enough : (x : Bool) → leb 2 (get_or ws start 0) ≡ x → Read
  unfolding head_fault
  long_enough true two = inside_passed two (leb (get_or ws start 0) (length ws - start)) refl
  long_enough false two = rw two (too_short (exactly 6 t) (λ u. eqb m) (λ u p n. c) ws start below refl (leb-false _ _ two))

  -- refusals 5, 6 and 7 of the packet, or its content
  fixed_read : fixed start (drop start ws) ≡ on_fault (head_fault ws start t m)
  fixed_read = long_enough (leb 2 (get_or ws start 0)) refl

module _ (o : StampOrder) (ws : List ℕ) {u : Unit {0}} (framed : Ok u ≡ frame_of ws) where
  least : smallest_event ≤ length ws
  least = frame_size ws framed

  abbrev packets : Result ℕ Event
  packets = event_of stamp_packet number_packet (run_up_to ended packet) 3 (drop 3 ws)

  from_frame : event_parser (length ws) 0 ws ≡ packets
  from_frame = let f : OnFrame ws (frame_of ws) = frame_parsed ws in rw (← framed) at f

  pub stamp_refused : {before after : List ℕ} {r : Refusal} → Failed (head_fault ws 3 stamp_tag 6) (head_place (head_fault ws 3 stamp_tag 6) 3) r → Begins o ws before after (Err r)
  stamp_refused t = record {
    begins = record {
      begun = record {
        number = head_fault ws 3 stamp_tag 6;
        place = head_place (head_fault ws 3 stamp_tag 6) 3;
        refused = from_frame ∙ rw (fixed_read stamp_content stamp_tag 6 ws 3 (omega (arith, least)), ne_eqb (head_fault ws 3 stamp_tag 6) 0 t.some);
        named = t.named;
      };
    };
  }

  module _ (fits : (i : ℕ) → get_or ws i 0 < 2 ^ 16) (s : 0 ≡ head_fault ws 3 stamp_tag 6) where
    stamp_read : stamp_packet 3 (drop 3 ws) ≡ ok (stamp_at ws) 9 (drop 9 ws)
    stamp_read =
        let l = least in
        let word : (i : ℕ) → i < 9 → _ = λ i h. read_whole ws i 9 h (omega arith) (fits i) in
        fixed_read stamp_content stamp_tag 6 ws 3 (omega arith) ∙ rw (← s, word 5 (omega arith), word 6 (omega arith), word 7 (omega arith), word 8 (omega arith), slice_empty 9 ws, to_the_end 9 ws)

    pub number_refused : {before after : List ℕ} {r : Refusal} → Failed (head_fault ws 9 number_tag 5) (head_place (head_fault ws 9 number_tag 5) 9) r → Begins o ws before after (Err r)
    number_refused t = record {
      begins = record {
        begun = record {
          number = head_fault ws 9 number_tag 5;
          place = head_place (head_fault ws 9 number_tag 5) 9;
          refused = from_frame ∙ rw (stamp_read, fixed_read number_content number_tag 5 ws 9 (omega (arith, least)), ne_eqb (head_fault ws 9 number_tag 5) 0 t.some);
          named = t.named;
        };
      };
    }

    module _ (t : 0 ≡ head_fault ws 9 number_tag 5) where
      number_read : number_packet 9 (drop 9 ws) ≡ ok (number_at ws) 14 (drop 14 ws)
      number_read =
          let l = least in
          let word : (i : ℕ) → i < 14 → _ = λ i h. read_whole ws i 14 h l (fits i) in
          fixed_read number_content number_tag 5 ws 9 (omega arith) ∙ rw (← t, word 11 (omega arith), word 12 (omega arith), word 13 (omega arith), slice_empty 14 ws, to_the_end 14 ws)

      pub begins : {before b₁ after : List ℕ} → b₁ ≡ store_rows before 0 (stamp_rows o ws) → after ≡ store_rows b₁ 2 (number_rows ws) → Begins o ws before after (Ok (part 14 4))
      begins {before} p q = record {
        begins = record {
          begun = record {
            inside = least;
            few = omega arith;
            leads = rw (
              q,
              p,
              from_frame,
              stamp_read,
              number_read,
              then_then {C = Event} (several packet ended 14 (drop 14 ws)) run_of (λ r. record { stamp = stamp_at ws; number = number_at ws; run = r }),
            )
                (leads_part (stamp_rows o ws ++ number_rows ws) (each packet_rows) (several packet ended 14 (drop 14 ws))
                (λ qs. record { stamp = stamp_at ws; number = number_at ws; run = run_of qs }) (rows o) 0 before (λ qs. ap ((stamp_rows o ws ++ number_rows ws) ++◌) (run_rows_lem qs)));
          };
        };
      }
