-- A link label, without its brackets.
use Rattle.std.specs.Prelude.{ℕ, ◌+◌, ◌≤◌, ◌≡◌, List, [], ◌∷◌, ◌++◌, false, length}
use Rattle.scan.specs.Byte.{blank}
use Rattle.scan.specs.Closing.{Units, inner}
use Rattle.text.specs.Sequences.{characters}

-- the most characters that a label may have
abbrev pub label_limit : ℕ
label_limit = 999

-- "a character other than space, tab and LF"
pub record Inked (l : List ℕ) : Type 0 where
  pub front : List ℕ
  pub ink : ℕ
  pub rest : List ℕ
  pub whole : l ≡ front ++ ink ∷ rest
  pub not_blank : blank ink ≡ false

pub record IsLabel (l : List ℕ) : Type 0 where
  -- "A label ends at the first unescaped `]`. It has no unescaped `[`"
  pub text : Units (inner 93 91 93) (93 ∷ []) l
  pub inked : Inked l
  -- "at most 999 characters (code points)"
  pub short : characters l ≤ label_limit

-- a label stands at the front of s, which starts at place `at`, and its closing bracket at place e
pub record LabelAt (s : List ℕ) (at e : ℕ) : Type 0 where
  pub label : List ℕ
  pub more : List ℕ
  pub whole : s ≡ label ++ 93 ∷ more
  pub is_a_label : IsLabel label
  pub place : e ≡ at + length label
