-- The tags of paragraphs, links and images.
use Rattle.std.specs.Prelude.{ℕ, List, [], ◌∷◌, ◌++◌}
use Rattle.scan.specs.Ascii.{ascii}
use Rattle.escaping.specs.Escaping.{Text}
use Rattle.href.specs.Href.{Href}

-- "Each paragraph: `<p>`, content, `</p>`, LF"
abbrev pub paragraph_open : List ℕ
paragraph_open = ascii "<p>"

abbrev pub paragraph_close : List ℕ
paragraph_close = ascii "</p>\n"

-- "`<a href="D" title="T">text</a>`"
abbrev pub link_close : List ℕ
link_close = ascii "</a>"

-- "an absent or empty title has no attribute"; an absent title has no bytes
pub data TitleAttribute : List ℕ → List ℕ → Type 0 where
  empty : TitleAttribute [] []
  title : {b : ℕ} {l w : List ℕ} → Text (b ∷ l) w → TitleAttribute (b ∷ l) (ascii " title=\"" ++ w ++ ascii "\"")

-- "`<a href="D" title="T">`"
pub data LinkOpen : List ℕ → List ℕ → List ℕ → Type 0 where
  link : {d h t a : List ℕ} → Href d h → TitleAttribute t a → LinkOpen d t (ascii "<a href=\"" ++ h ++ ascii "\"" ++ a ++ ascii ">")

-- "`<img src="D" alt="A" title="T" />`", where A is written between the two: up to A, with D "as for links"
pub data ImageOpen : List ℕ → List ℕ → Type 0 where
  image : {d h : List ℕ} → Href d h → ImageOpen d (ascii "<img src=\"" ++ h ++ ascii "\" alt=\"")

-- and after it, "with titles as for links"
pub data ImageClose : List ℕ → List ℕ → Type 0 where
  image_end : {t a : List ℕ} → TitleAttribute t a → ImageClose t (ascii "\"" ++ a ++ ascii " />")
