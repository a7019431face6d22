-- Labels that match, and labels that do not.
use Rattle.std.specs.Prelude.{ℕ, ◌≡◌, refl, List, [], ◌∷◌, Bool, true, false, ◌&&◌}
use Prim.Native.String.{String}
use Rattle.std.specs.Bool.{beq}
use Rattle.scan.specs.Ascii.{ascii}
use Rattle.casefold.specs.Table.{table}
use Rattle.casefold.specs.Fold.{several, fold_by, fold, utf8, utf8s, expand, lower}
use Rattle.folding.specs.Pair.{pair, code_of}
use Rattle.matching.specs.Reading.{folds_from, spaced, squeeze, compared, equals, matches}

pub record Sample : Type 0 where
  pub one : List ℕ
  pub other : List ℕ
  pub equal : Bool

-- of texts
abbrev sample : String → String → Bool → Sample
sample a b r = record { one = utf8s (ascii a); other = utf8s (ascii b); equal = r }

-- of code points, where an editor might join two characters into one
abbrev spelt : List ℕ → List ℕ → Bool → Sample
spelt a b r = record { one = utf8s a; other = utf8s b; equal = r }

-- of bytes
abbrev raw : List ℕ → List ℕ → Bool → Sample
raw a b r = record { one = a; other = b; equal = r }

abbrev pub samples : List Sample
samples =
    -- case
    sample "BaR" "bar" true
    ∷ sample "foo" "bar" false
    ∷ sample "foo" "foo1" false
    ∷ sample "foo1" "foo" false
    -- blanks
    ∷ sample "Foo\n  BAR" "foo bar" true
    ∷ sample " a  b " "A B" true
    ∷ sample "a\tb" "a b" true
    ∷ sample "\t\na \t\n b\n" "a b" true
    ∷ sample "ab" "a b" false
    ∷ sample "a b" "a  bc" false
    -- escapes are not undone
    ∷ sample "foo\\!" "foo!" false
    ∷ sample "foo\\!" "FOO\\!" true
    ∷ sample "ref\\[" "ref[" false
    -- nothing but blanks
    ∷ sample "" "" true
    ∷ sample "" " \n\t" true
    ∷ sample " " "a" false
    ∷ sample "a" "" false
    -- A to Z, and no byte beside them
    ∷ sample "ABCDEFGHIJKLMNOPQRSTUVWXYZ" "abcdefghijklmnopqrstuvwxyz" true
    ∷ sample "@" "`" false
    ∷ sample "[" "{" false
    ∷ sample "@[\\]^_`{|}~" "@[\\]^_`{|}~" true
    -- Greek and Cyrillic: example 175 of source 002, and the case of source 003
    ∷ sample "ΑΓΩ" "αγω" true
    ∷ sample "Толпой" "ТОЛПОЙ" true
    ∷ sample " Толпой\n\tи " "толпой и" true
    ∷ sample "Толпой" "Толпои" false
    ∷ sample "ЁЂЏ" "ёђџ" true
    -- to several characters
    ∷ sample "ß" "ss" true
    ∷ sample "ß" "SS" true
    ∷ sample "Straße" "STRASSE" true
    ∷ sample "ß" "s" false
    ∷ sample "ß" "s s" false
    ∷ sample "ß s" "sss" false
    ∷ spelt (0x0130 ∷ []) (0x0069 ∷ 0x0307 ∷ []) true
    ∷ spelt (0x0130 ∷ []) (0x0049 ∷ 0x0307 ∷ []) true
    ∷ spelt (0x0130 ∷ []) (0x0069 ∷ []) false
    ∷ spelt (0x0149 ∷ []) (0x02BC ∷ 0x004E ∷ []) true
    ∷ spelt (0x01F0 ∷ []) (0x004A ∷ 0x030C ∷ []) true
    ∷ spelt (0x0390 ∷ []) (0x0399 ∷ 0x0308 ∷ 0x0301 ∷ []) true
    ∷ spelt (0x0390 ∷ []) (0x0399 ∷ 0x0308 ∷ []) false
    ∷ spelt (0x03B0 ∷ []) (0x03A5 ∷ 0x0308 ∷ 0x0301 ∷ []) true
    -- final sigma, micro sign, long s
    ∷ sample "ΟΔΟΣ" "οδος" true
    ∷ sample "ς" "σ" true
    ∷ spelt (0x00B5 ∷ []) (0x03BC ∷ []) true
    ∷ sample "ſ" "S" true
    ∷ sample "ſſ" "ß" true
    -- two bytes to three
    ∷ spelt (0x023A ∷ []) (0x2C65 ∷ []) true
    -- the last characters of the table, and later ones
    ∷ spelt (0x052E ∷ []) (0x052F ∷ []) true
    ∷ spelt (0x0531 ∷ []) (0x0561 ∷ []) false
    ∷ spelt (0x2126 ∷ []) (0x03C9 ∷ []) false
    ∷ spelt (0x2126 ∷ []) (0x2126 ∷ []) true
    ∷ spelt (0x212A ∷ []) (0x006B ∷ []) false
    ∷ spelt (0x212A ∷ []) (0x212A ∷ []) true
    ∷ spelt (0x1E9E ∷ []) (0x00DF ∷ []) false
    ∷ sample "漢字 😀" "漢字  😀" true
    ∷ sample "×" "÷" false
    -- no blanks but space, tab and LF
    ∷ spelt (0x00A0 ∷ 0x0061 ∷ []) (0x0061 ∷ []) false
    -- bytes that stand in no character
    ∷ raw (0xC3 ∷ 0x41 ∷ []) (0xC3 ∷ 0x61 ∷ []) true
    ∷ raw (0xC3 ∷ []) (0xE3 ∷ []) false
    ∷ raw (0xCE ∷ 0xCE ∷ 0x91 ∷ []) (0xCE ∷ 0xCE ∷ 0xB1 ∷ []) true
    ∷ raw (0x91 ∷ []) (0xB1 ∷ []) false
    ∷ []

abbrev hold : List Sample → Bool
hold [] = true
hold (s ∷ more) = beq (matches s.one s.other) s.equal && hold more

pub samples_hold : hold samples ≡ true
unfolding table several fold_by fold utf8 utf8s expand lower pair code_of folds_from spaced squeeze compared equals matches
samples_hold = refl
