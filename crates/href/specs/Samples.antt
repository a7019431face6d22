-- Destinations as they stand in an href, by computation.
use Rattle.std.specs.Prelude.{◌≡◌, refl, true}
use mathlib.Core.List.{List, [], ◌∷◌, flat_map}
use Rattle.scan.specs.Ascii.{ascii}
use Rattle.escaping.specs.Reading.{undone}
use Rattle.escaping.specs.Samples.{Sample, ◌⇒◌, hold}
use Rattle.href.specs.Href.{stays, hex_digit, href_byte}
use Rattle.href.specs.Reading.{href_of}

abbrev pub destinations : List Sample
destinations =
    ("/uri" ⇒ "/uri")
    ∷ ("/my%20uri" ⇒ "/my%20uri")
    ∷ ("/my uri" ⇒ "/my%20uri")
    ∷ ("foo\\bar" ⇒ "foo%5Cbar")
    ∷ ("/url\\bar\\*baz" ⇒ "/url%5Cbar*baz")
    ∷ ("foo\\)\\:" ⇒ "foo):")
    ∷ ("foo%20b&auml;" ⇒ "foo%20b&amp;auml;")
    ∷ ("\\&x" ⇒ "&amp;x")
    ∷ ("\"title\"" ⇒ "%22title%22")
    ∷ ("<[`{|}^]>" ⇒ "%3C%5B%60%7B%7C%7D%5E%5D%3E")
    ∷ ("AZaz09-_.~!*'();:@=+$,/?%#" ⇒ "AZaz09-_.~!*'();:@=+$,/?%#")
    ∷ record { bytes = 47 ∷ 207 ∷ 134 ∷ 206 ∷ 191 ∷ []; page = ascii "/%CF%86%CE%BF" }
    ∷ record { bytes = 9 ∷ 127 ∷ 255 ∷ []; page = ascii "%09%7F%FF" }
    ∷ []

pub destinations_hold : hold href_of destinations ≡ true
unfolding undone flat_map stays hex_digit href_byte
destinations_hold = refl
