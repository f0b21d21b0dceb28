-- Calls at the edges of the byte count and the order, and the spoken cases of dialect S that are whole events, computed. The expected answers are document 01's.
-- Assumes nothing.
use Prim.Native.Nat.{ℕ, ◌+◌, ◌-◌, ◌*◌, ◌^◌}
use mathlib.Core.Path.{◌≡◌, refl}
use mathlib.Core.List.{List, [], ◌∷◌, ◌++◌, map}
use lib.ListN.{drop, replicate}
use Rattle.event.specs.Refusal.{fault_of}
use Rattle.host.specs.Check.{words_of, checking, host_answer}

pub record Call : Type 0 where
  pub bytes : List ℕ
  pub order : ℕ
  pub answer : ℕ

abbrev call : List ℕ → ℕ → ℕ → Call
call b o a = record { bytes = b; order = o; answer = a }

abbrev refusal : ℕ → ℕ → ℕ
refusal n k = 2 ^ 32 * n + k

-- document 01's M: word 0, word 3, and what stands between and after them
abbrev m : ℕ → ℕ → List ℕ
m first third = first ∷ 0x00 ∷ 0x00 ∷ 0x58 ∷ 0x05 ∷ 0x00 ∷ third ∷ 0x00 ∷ 0x03 ∷ 0x58 ∷ 0x34 ∷ 0x12 ∷ 0x00 ∷ 0x00 ∷ 0x01 ∷ 0x00 ∷ 0x00 ∷ 0x00
    ∷ 0x05 ∷ 0x00 ∷ 0x04 ∷ 0x58 ∷ 0x07 ∷ 0x00 ∷ 0x00 ∷ 0x00 ∷ 0x00 ∷ 0x00 ∷ []

-- a 0x5840 packet with the sample words 8952 092c
abbrev samples : List ℕ
samples = 0x0c ∷ 0x00 ∷ 0x40 ∷ 0x58 ∷ 0x00 ∷ 0x00 ∷ 0x05 ∷ 0x00 ∷ 0x41 ∷ 0x58 ∷ 0x00 ∷ 0x00 ∷ 0x52 ∷ 0x89 ∷ 0x2c ∷ 0x09 ∷ 0x04 ∷ 0x00 ∷ 0x45 ∷ 0x58 ∷ 0x64 ∷ 0x00 ∷ 0xc8 ∷ 0x00 ∷ []

-- each two bytes exchanged
abbrev exchanged : List ℕ → List ℕ
exchanged [] = []
exchanged (a ∷ []) = a ∷ []
exchanged (a ∷ b ∷ l) = b ∷ a ∷ exchanged l

abbrev calls : List Call
calls =
    call (m 0x0e 0x06) 0 4
    ∷ call (m 0x0e 0x06) 1 4
    -- 31 before all else, an odd count among it
    ∷ call (m 0x0e 0x06) 2 (refusal 31 0)
    ∷ call (m 0x0e 0x06) (2 ^ 32 - 1) (refusal 31 0)
    ∷ call (0 ∷ []) 2 (refusal 31 0)
    -- 1: an odd count, also of an event with a byte more or less; no bytes; too few; too many, odd and even
    ∷ call (0 ∷ []) 0 (refusal 1 0)
    ∷ call (drop 1 (m 0x0e 0x06)) 0 (refusal 1 0)
    ∷ call (m 0x0e 0x06 ++ (0 ∷ [])) 1 (refusal 1 0)
    ∷ call [] 0 (refusal 1 0)
    ∷ call (drop 2 (m 0x0e 0x06)) 0 (refusal 1 0)
    ∷ call (replicate 8193 0) 0 (refusal 1 0)
    ∷ call (replicate 8194 0) 1 (refusal 1 0)
    -- 4,096 words are not too many
    ∷ call (replicate 8192 0) 0 (refusal 2 0)
    -- cases 3 to 6
    ∷ call (m 0x0d 0x06) 0 (refusal 2 0)
    ∷ call (m 0x0e 0x0b) 0 (refusal 7 3)
    ∷ call (m 0x0e 0x0c) 0 (refusal 5 3)
    ∷ call (m 0x0f 0x06 ++ (0 ∷ 0 ∷ [])) 0 (refusal 5 14)
    -- case 7 behind M
    ∷ call (m 0x1a 0x06 ++ samples) 1 9
    -- high byte first is no event
    ∷ call (exchanged (m 0x0e 0x06)) 0 (refusal 2 0)
    ∷ []

pub edges : map (λ (c : Call). host_answer c.bytes c.order) calls ≡ map (λ (c : Call). c.answer) calls
unfolding words_of checking fault_of
edges = refl
