-- How long the opening tag of a link and the tag of an image can be.
use Prim.Native.Nat.{ℕ, ◌+◌, ◌*◌, ◌≤◌}
use native.Mathlib.Omega.{arith}
use mathlib.Core.List.{List, [], ◌∷◌}
use lib.ListN.{length, length-append}
use lib.Dec.{lit≤}
use Rattle.scan.specs.Ascii.{ascii}
use Rattle.escaping.specs.Reading.{text_of}
use Rattle.escaping.proofs.Lengths.{text_most}
use Rattle.href.proofs.Lengths.{href_most}
use Rattle.html.specs.Reading.{title_attribute, link_open, image_open, image_close}
use Rattle.html.proofs.Link.{open_length, image_open_length, image_close_length}

pub title_most : (l : List ℕ) → length (title_attribute l) ≤ 9 + 6 * length l
unfolding title_attribute
title_most [] = lit≤ tt
title_most (b ∷ l) = omega (arith, text_most (b ∷ l), length-append (text_of (b ∷ l)) (ascii "\""))

pub open_most : (d t : List ℕ) → length (link_open d t) ≤ 20 + 6 * length d + 6 * length t
open_most d t = omega (arith, open_length d t, href_most d, title_most t)

pub image_open_most : (d : List ℕ) → length (image_open d) ≤ 17 + 6 * length d
image_open_most d = omega (arith, image_open_length d, href_most d)

pub image_close_most : (t : List ℕ) → length (image_close t) ≤ 13 + 6 * length t
image_close_most t = omega (arith, image_close_length t, title_most t)
