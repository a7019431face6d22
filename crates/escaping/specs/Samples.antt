-- Texts as they stand on the page, by computation.
use Rattle.std.specs.Prelude.{ℕ, ◌≡◌, refl, Bool, true, false, ◌&&◌, eqb}
use Prim.Native.String.{String}
use mathlib.Core.List.{List, [], ◌∷◌, flat_map}
use Rattle.scan.specs.Ascii.{ascii}
use Rattle.escaping.specs.Escaping.{escaped}
use Rattle.escaping.specs.Reading.{undone, text_of}

abbrev pub same : List ℕ → List ℕ → Bool
same [] [] = true
same [] (b ∷ m) = false
same (a ∷ l) [] = false
same (a ∷ l) (b ∷ m) = eqb a b && same l m

-- bytes, and what they must be on the page
pub record Sample : Type 0 where
  pub bytes : List ℕ
  pub page : List ℕ

infix 5 ◌⇒◌
abbrev pub ◌⇒◌ : String → String → Sample
s ⇒ w = record { bytes = ascii s; page = ascii w }

abbrev pub hold : (List ℕ → List ℕ) → List Sample → Bool
hold f [] = true
hold f (s ∷ more) = same (f s.bytes) s.page && hold f more

abbrev pub texts : List Sample
texts =
    ("" ⇒ "")
    ∷ ("a < b & \"c\" > d" ⇒ "a &lt; b &amp; &quot;c&quot; &gt; d")
    ∷ ("\\*not\\*" ⇒ "*not*")
    ∷ ("\\\\*" ⇒ "\\*")
    ∷ ("\\<\\&" ⇒ "&lt;&amp;")
    ∷ ("\\a\\" ⇒ "\\a\\")
    ∷ ("&amp;" ⇒ "&amp;amp;")
    ∷ ("title \\\"x" ⇒ "title &quot;x")
    ∷ ("foo\\\"bar\\baz" ⇒ "foo&quot;bar\\baz")
    ∷ ("one\ntwo" ⇒ "one\ntwo")
    ∷ []

pub texts_hold : hold text_of texts ≡ true
unfolding undone flat_map escaped
texts_hold = refl
