-- The tag of a word: a tag's number has that tag, a word with a tag is its number, and a word without one is no tag's.
-- Assumes nothing.
use Prim.Native.Nat.{ℕ}
use mathlib.Core.Path.{◌≡◌, refl, ap, ◌∙◌}
use mathlib.Core.Bool.{Bool, true, false, cond}
use mathlib.Core.List.{List, [], ◌∷◌}
use lib.Dec.{eqb}
use borrow.Author.Tests.{eqb-true}
use Rattle.std.specs.Prelude.{Some, None}
use Rattle.event.proofs.Impossible.{impossible}
use Rattle.s800_format.specs.declared.tag.Tag.{Tag}
use Rattle.s800_format.specs.declared.tag.Tag.TheVariants as is
use Rattle.s800_format.specs.Tag.{number, tags, first, tag_of}

pub tag_of_number : (t : Tag) → tag_of (number t) ≡ Some t
unfolding tag_of
tag_of_number is.Event = refl
tag_of_number is.Trigger = refl
tag_of_number is.TimeOfFlight = refl
tag_of_number is.Timestamp = refl
tag_of_number is.EventNumber = refl
tag_of_number is.Scintillator = refl
tag_of_number is.IonChamber = refl
tag_of_number is.IonChamberEnergies = refl
tag_of_number is.FocalPlaneTime = refl
tag_of_number is.Crdc = refl
tag_of_number is.CrdcSamples = refl
tag_of_number is.CrdcAnode = refl
tag_of_number is.IntermediateCrdc = refl
tag_of_number is.TargetPin = refl
tag_of_number is.IntermediateTrack = refl
tag_of_number is.IntermediatePpac = refl
tag_of_number is.ObjectScintillator = refl
tag_of_number is.ObjectPin = refl
tag_of_number is.Hodoscope = refl
tag_of_number is.VmeAdc = refl

first_number : (t : Tag) (ts : List Tag) (n : ℕ) → Some t ≡ first ts n → n ≡ number t
first_number t [] n e = impossible cc
first_number t (x ∷ ts) n e = go (eqb n (number x)) refl (first_number t ts n) e
  where
    go : (b : Bool) → eqb n (number x) ≡ b → (Some t ≡ first ts n → n ≡ number t) → Some t ≡ cond b (Some x) (first ts n) → n ≡ number t
    go true h others e = let same : x ≡ t = cc in eqb-true n (number x) h ∙ ap number same
    go false h others e = others e

pub number_of_tag : (n : ℕ) {t : Tag} → Some t ≡ tag_of n → n ≡ number t
unfolding tag_of
number_of_tag n {t} e = first_number t tags n e

pub no_number : (n : ℕ) → None ≡ tag_of n → (t : Tag) → n ≡ number t → ⊥
no_number n none t e = let same : None ≡ Some t = none ∙ ap tag_of e ∙ tag_of_number t in impossible cc
