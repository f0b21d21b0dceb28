-- Channel words as the code reads them: a word's refusal, and what a loop over channel words does at each.
-- Assumes nothing.
use Prim.Native.Nat.{ℕ, suc, ◌+◌, ◌*◌, ◌/◌, ◌%◌, ◌^◌, ◌<◌}
use native.Mathlib.Omega.{arith}
use native.Mathlib.Nat.{div-add-mod', mod-lt}
use mathlib.Core.Path.{◌≡◌, refl, sym, ◌∙◌}
use mathlib.Core.Bool.{Bool, true, false, cond, not, ◌||◌}
use mathlib.Core.List.{List, ◌∷◌}
use lib.Pow.{pow_pos}
use borrow.Author.Tests.{eq-eqb, lt-ltb}
use Rattle.event.specs.Parser.{ok, refuse, fresh}
use Rattle.event.specs.Channels.{present, Blocked}
use Rattle.event.proofs.ChannelLaws.{among}
use Rattle.event.proofs.ChannelTurns.{on_fault}
use Rattle.s800_layout.specs.Reading.{datum_of, datum}
use Rattle.s800_format.specs.declared.Format.{Format}
use Rattle.s800_format.specs.Format.{bits_of, format_of}
use Rattle.s800_reader.specs.Channel.{channel_of, fault_of}

-- a channel is below 16
pub low_channel : (m : Format) {w : ℕ} → w < 2 ^ 16 → channel_of m w < 16
low_channel m {w} fits = go m.wide
  where
    go : (b : Bool) → w / 2 ^ cond b 13 12 < 16
    go true = omega arith
    go false = omega arith

module _ (m : Format) {w : ℕ} (fits : w < 2 ^ 16) where
  low : channel_of m w < 16
  low = low_channel m fits

  pub low_bit : {channel : ℕ} → channel ≡ channel_of m w → channel % 32 ≡ channel_of m w
  low_bit {channel} e = let l = low in let f : channel % 32 ≡ channel = omega arith in f ∙ e

  -- the word as the layout reads it
  pub judged : {set : ℕ} {seen : List ℕ} → Blocked m.barred set seen → (i : ℕ) (r : List ℕ)
      → datum (format_of m) seen i (w ∷ r) ≡ on_fault (fault_of m set w) (datum_of (format_of m) w) i r
  unfolding fault_of
  judged {set} {seen} s i r =
      let p : w ≡ channel_of m w * 2 ^ bits_of m + w % 2 ^ bits_of m = sym (div-add-mod' w (2 ^ bits_of m)) in
      let v : w % 2 ^ bits_of m < 2 ^ bits_of m = mod-lt w (pow_pos (bits_of m)) in
      let l = low in
      rw (eq-eqb w _ p, among m.barred 0 16 (channel_of m w) (omega arith) (omega arith), lt-ltb _ _ v, s.holds (channel_of m w))
      (go (present m.barred (channel_of m w)) (fresh (channel_of m w) seen))
    where
      go : (a b : Bool) → cond (not a) (cond b (ok (datum_of (format_of m) w) (suc i) r) (refuse 11 i)) (refuse 10 i)
          ≡ on_fault (cond (a || not b) (cond a 10 11) 0) (datum_of (format_of m) w) i r
      go true b = refl
      go false true = refl
      go false false = refl
