-- Code spans as they stand on the page, by computation.
use Rattle.std.specs.Prelude.{◌≡◌, refl, true, false}
use mathlib.Core.List.{List, [], ◌∷◌, flat_map}
use Rattle.scan.specs.Reading.{run}
use Rattle.escaping.specs.Escaping.{escaped}
use Rattle.escaping.specs.Samples.{Sample, ◌⇒◌, hold}
use Rattle.code.specs.Reading.{margin, code_element}

abbrev pub codes : List Sample
codes =
    ("foo" ⇒ "<code>foo</code>")
    ∷ ("code\nspan" ⇒ "<code>code span</code>")
    ∷ ("code\\\nspan" ⇒ "<code>code\\ span</code>")
    ∷ ("](/uri)" ⇒ "<code>](/uri)</code>")
    ∷ (" foo ` bar " ⇒ "<code>foo ` bar</code>")
    ∷ ("  ``  " ⇒ "<code> `` </code>")
    ∷ (" a" ⇒ "<code> a</code>")
    ∷ ("a " ⇒ "<code>a </code>")
    ∷ ("\nfoo\n" ⇒ "<code>foo</code>")
    ∷ (" " ⇒ "<code> </code>")
    ∷ ("\n " ⇒ "<code>  </code>")
    ∷ ("  \na " ⇒ "<code>  a</code>")
    ∷ ("\\*<&" ⇒ "<code>\\*&lt;&amp;</code>")
    ∷ []

pub codes_hold : hold (code_element true) codes ≡ true
unfolding flat_map escaped run margin
codes_hold = refl

-- in an image's description
abbrev pub contents : List Sample
contents = ("foo" ⇒ "foo") ∷ (" foo\nbar " ⇒ "foo bar") ∷ ("\\*<&" ⇒ "\\*&lt;&amp;") ∷ []

pub contents_hold : hold (code_element false) contents ≡ true
unfolding flat_map escaped run margin
contents_hold = refl
