-- Opening tags of links, and tags of images, by computation.
use Prim.Native.String.{String}
use Rattle.std.specs.Prelude.{◌≡◌, refl, Bool, true, ◌&&◌}
use mathlib.Core.List.{List, [], ◌∷◌, ◌++◌, flat_map}
use Rattle.scan.specs.Ascii.{ascii}
use Rattle.escaping.specs.Escaping.{escaped}
use Rattle.escaping.specs.Reading.{undone}
use Rattle.escaping.specs.Samples.{same}
use Rattle.href.specs.Href.{stays, hex_digit, href_byte}
use Rattle.html.specs.Reading.{title_attribute, link_open, image_open, image_close}

-- a destination, a title, and the tag
pub record Opening : Type 0 where
  pub destination : String
  pub title : String
  pub page : String

abbrev pub openings : List Opening
openings =
    record { destination = "/q2/max"; title = "June"; page = "<a href=\"/q2/max\" title=\"June\">" }
    ∷ record { destination = "/uri"; title = ""; page = "<a href=\"/uri\">" }
    ∷ record { destination = ""; title = ""; page = "<a href=\"\">" }
    ∷ record { destination = "/url"; title = "a \"b\" \\& c"; page = "<a href=\"/url\" title=\"a &quot;b&quot; &amp; c\">" }
    ∷ []

abbrev hold_openings : List Opening → Bool
hold_openings [] = true
hold_openings (o ∷ more) = same (link_open (ascii o.destination) (ascii o.title)) (ascii o.page) && hold_openings more

pub openings_hold : hold_openings openings ≡ true
unfolding undone flat_map escaped stays hex_digit href_byte title_attribute link_open
openings_hold = refl

-- images with the description `a`
abbrev pub pictures : List Opening
pictures =
    record { destination = "/q2/max.png"; title = "June"; page = "<img src=\"/q2/max.png\" alt=\"a\" title=\"June\" />" }
    ∷ record { destination = "a b"; title = ""; page = "<img src=\"a%20b\" alt=\"a\" />" }
    ∷ []

abbrev hold_pictures : List Opening → Bool
hold_pictures [] = true
hold_pictures (o ∷ more) = same (image_open (ascii o.destination) ++ ascii "a" ++ image_close (ascii o.title)) (ascii o.page) && hold_pictures more

pub pictures_hold : hold_pictures pictures ≡ true
unfolding undone flat_map escaped stays hex_digit href_byte title_attribute image_open image_close
pictures_hold = refl
