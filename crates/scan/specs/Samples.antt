-- The class of punctuation, the first unescaped delimiter and whole strides, by computation.
use Rattle.std.specs.Prelude.{ℕ, ◌≡◌, refl, List, [], ◌∷◌, map, Bool, true, false, not, ◌&&◌, ◌||◌, replicate, leb, eqb, Option, Some, None}
use Rattle.std.specs.Bool.{beq}
use Prim.Native.String.{String}
use Rattle.scan.specs.Byte.{within, punctuation}
use Rattle.scan.specs.Ascii.{ascii}
use Rattle.scan.specs.Reading.{scan, run, past_strides, closing_step, closing}

-- at each bound of the class, and beside it
pub punctuation_bounds : map punctuation (33 ∷ 47 ∷ 58 ∷ 64 ∷ 91 ∷ 96 ∷ 123 ∷ 126 ∷ []) ≡ replicate 8 true
punctuation_bounds = refl

pub beside_punctuation : map punctuation (0 ∷ 32 ∷ 48 ∷ 57 ∷ 65 ∷ 90 ∷ 97 ∷ 122 ∷ 127 ∷ 128 ∷ 255 ∷ []) ≡ replicate 11 false
beside_punctuation = refl

abbrev equal : Option ℕ → Option ℕ → Bool
equal (Some a) (Some b) = eqb a b
equal (Some a) None = false
equal None (Some b) = false
equal None None = true

-- a text and where its `]` stands, with `[` barred
pub record Sample : Type 0 where
  pub text : String
  pub answer : Option ℕ

abbrev sample : String → Option ℕ → Sample
sample s f = record { text = s; answer = f }

abbrev pub samples : List Sample
samples =
    sample "foo]" (Some 3)
    ∷ sample "]" (Some 0)
    ∷ sample "foo" None
    ∷ sample "foo\\]" None
    ∷ sample "foo\\]]" (Some 5)
    ∷ sample "foo\\\\]" (Some 5)
    ∷ sample "fo[o]" None
    ∷ sample "fo\\[o]" (Some 5)
    ∷ sample "a\\b]" (Some 3)
    ∷ []

abbrev hold : List Sample → Bool
hold [] = true
hold (s ∷ more) = equal (closing 93 91 93 (ascii s.text) 0) s.answer && hold more

pub samples_hold : hold samples ≡ true
unfolding scan closing_step closing
samples_hold = refl

-- ---- tests of a byte to try them with
-- at most top, outside lo to hi and outside from to to, and not `other`
abbrev clear : ℕ → ℕ → ℕ → ℕ → ℕ → ℕ → ℕ → Bool
clear top lo hi from to other b = leb b top && not (within lo hi b || within from to b || eqb b other)

-- it is m, or where `same` is not so, it is not
abbrev like : ℕ → Bool → ℕ → Bool
like m same b = beq (eqb b m) same

-- strides of bytes other than a to c, e to f, z and those past y; the text has 40 bytes
abbrev pub strided : String → ℕ → ℕ
strided s at = past_strides (clear 121 97 99 101 102 122) (ascii s) at

pub strides_hold :
    (strided "................................_______." 0 ≡ 32)
    × (strided "................................_______." 8 ≡ 40)
    × (strided "................................_______." 9 ≡ 25)
    × (strided "...............z........................" 0 ≡ 0)
    × (strided "................b......................." 0 ≡ 16)
    × (strided "..................f....................." 0 ≡ 16)
    × (strided "...............................{........" 0 ≡ 16)
    × (strided "................" 16 ≡ 16)
unfolding run past_strides
strides_hold = (refl, refl, refl, refl, refl, refl, refl, refl)

-- strides of dots alone, and of anything but dots
abbrev pub dotted : Bool → String → ℕ → ℕ
dotted same s at = past_strides (like 46 same) (ascii s) at

pub dotted_hold :
    (dotted true "................................_......." 0 ≡ 32)
    × (dotted true "...............a................" 0 ≡ 0)
    × (dotted true "a................" 1 ≡ 17)
    × (dotted false "________________________________._______" 0 ≡ 32)
    × (dotted false "_______________.________________" 0 ≡ 0)
unfolding run past_strides
dotted_hold = (refl, refl, refl, refl, refl)
