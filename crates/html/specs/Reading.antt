-- The opening tag of a link, and the tag of an image, as they are computed.
use Rattle.std.specs.Prelude.{ℕ, List, [], ◌∷◌, ◌++◌}
use Rattle.scan.specs.Ascii.{ascii}
use Rattle.escaping.specs.Reading.{text_of}
use Rattle.href.specs.Reading.{href_of}

-- the title attribute, with the space before it
unfoldable pub title_attribute : List ℕ → List ℕ
title_attribute [] = []
title_attribute (b ∷ l) = ascii " title=\"" ++ text_of (b ∷ l) ++ ascii "\""

-- the opening tag of a link; an absent title is empty
unfoldable pub link_open : List ℕ → List ℕ → List ℕ
link_open d t = ascii "<a href=\"" ++ href_of d ++ ascii "\"" ++ title_attribute t ++ ascii ">"

-- the tag of an image, up to its description and after it
unfoldable pub image_open : List ℕ → List ℕ
image_open d = ascii "<img src=\"" ++ href_of d ++ ascii "\" alt=\""

unfoldable pub image_close : List ℕ → List ℕ
image_close t = ascii "\"" ++ title_attribute t ++ ascii " />"
