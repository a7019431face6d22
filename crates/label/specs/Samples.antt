-- Labels by computation, from the sources.
use Rattle.std.specs.Prelude.{ℕ, zero, suc, ◌≡◌, refl, List, [], ◌∷◌, Bool, true, false, ◌&&◌, replicate}
use Prim.Native.String.{String}
use Rattle.std.specs.Bool.{beq}
use Rattle.scan.specs.Ascii.{ascii}
use Rattle.scan.specs.Reading.{scan, closing_step, closing}
use Rattle.text.specs.Sequences.{ones_from, leading_ones, sequence_length, characters}
use Rattle.label.specs.Reading.{inky, fits_after, fits, unclosed, is_label}

pub record Sample : Type 0 where
  pub bytes : List ℕ
  pub label : Bool

abbrev text : String → Bool → Sample
text s r = record { bytes = ascii s; label = r }

-- U+00E9, two bytes
abbrev accents : ℕ → List ℕ
accents zero = []
accents (suc n) = 195 ∷ 169 ∷ accents n

abbrev pub samples : List Sample
samples =
    text "foo" true
    ∷ text "ref[" false
    ∷ text "ref\\[" true
    ∷ text "foo\\]" true
    ∷ text "foo\\\\]" false
    ∷ text "bar\\" false
    ∷ text "bar\\\\" true
    ∷ text "" false
    ∷ text " \t\n" false
    ∷ text "Foo\n  bar" true
    ∷ text "foo]bar" false
    ∷ record { bytes = replicate 999 97; label = true }
    ∷ record { bytes = replicate 1000 97; label = false }
    ∷ record { bytes = accents 999; label = true }
    ∷ record { bytes = accents 1000; label = false }
    ∷ []

abbrev hold : List Sample → Bool
hold [] = true
hold (s ∷ more) = beq (is_label s.bytes) s.label && hold more

pub samples_hold : hold samples ≡ true
unfolding scan closing_step closing ones_from leading_ones sequence_length characters inky fits_after fits unclosed is_label
samples_hold = refl
