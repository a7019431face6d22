-- The title attribute, the opening tag of a link and the tag of an image.
use Prim.Native.Nat.{ℕ, ◌+◌}
use native.Mathlib.Omega.{arith}
use mathlib.Core.Path.{◌≡◌, refl}
use mathlib.Core.List.{List, [], ◌∷◌, ◌++◌}
use lib.ListN.{length, length-append}
use Rattle.scan.specs.Ascii.{ascii}
use Rattle.escaping.specs.Reading.{text_of}
use Rattle.href.specs.Reading.{href_of}
use Rattle.html.specs.Reading.{title_attribute, link_open, image_open, image_close}

pub no_title : (l : List ℕ) → length l ≡ 0 → title_attribute l ≡ []
unfolding title_attribute
no_title [] e = refl
no_title (b ∷ l) e = let no : ⊥ = omega arith in absurd no

pub some_title : (l : List ℕ) → (length l ≡ 0 → ⊥) → title_attribute l ≡ ascii " title=\"" ++ text_of l ++ ascii "\""
unfolding title_attribute
some_title [] n = absurd (n refl)
some_title (b ∷ l) n = refl

pub some_title_length : (l : List ℕ) → (length l ≡ 0 → ⊥) → length (title_attribute l) ≡ 9 + length (text_of l)
some_title_length l n = rw (some_title l n) (omega (arith, length-append (text_of l) (ascii "\"")))

pub open_length : (d t : List ℕ) → length (link_open d t) ≡ 11 + length (href_of d) + length (title_attribute t)
unfolding link_open
open_length d t = simp length-append (omega arith)

pub image_open_length : (d : List ℕ) → length (image_open d) ≡ 17 + length (href_of d)
unfolding image_open
image_open_length d = simp length-append (omega arith)

pub image_close_length : (t : List ℕ) → length (image_close t) ≡ 4 + length (title_attribute t)
unfolding image_close
image_close_length t = simp length-append (omega arith)
