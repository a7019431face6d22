-- The opening tag of a link and the tag of an image are what the law says, and there is one of each.
use Prim.Native.Nat.{ℕ}
use mathlib.Core.Path.{◌≡◌, refl, ap, ◌∙◌}
use mathlib.Core.List.{List, [], ◌∷◌, ◌++◌}
use mathlib.Core.Logic.{◌↔◌}
use Rattle.scan.specs.Ascii.{ascii}
use Rattle.escaping.specs.Reading.{text_of}
use Rattle.escaping.proofs.Escapes.{text_iff}
use Rattle.href.specs.Reading.{href_of}
use Rattle.href.proofs.Href.{href_iff}
use Rattle.html.specs.Tags.{TitleAttribute, empty, title, LinkOpen, link, ImageOpen, image, ImageClose, image_end}
use Rattle.html.specs.Reading.{title_attribute, link_open, image_open, image_close}

title_complete : {t w : List ℕ} → TitleAttribute t w → title_attribute t ≡ w
unfolding title_attribute
title_complete empty = refl
title_complete (title {b} {l} {w} t) = ap (λ (x : List ℕ). ascii " title=\"" ++ x ++ ascii "\"") ((text_iff (b ∷ l) w).0 t)

title_sound : (t : List ℕ) → TitleAttribute t (title_attribute t)
unfolding title_attribute
title_sound [] = empty
title_sound (b ∷ l) = title ((text_iff (b ∷ l) (text_of (b ∷ l))).1 refl)

pub title_iff : (t w : List ℕ) → TitleAttribute t w ↔ (title_attribute t ≡ w)
title_iff t w = (title_complete, (λ e. rw e at (title_sound t)))

link_complete : {d t w : List ℕ} → LinkOpen d t w → link_open d t ≡ w
unfolding link_open
link_complete (link {d} {h} {t} {a} p q) =
    ap (λ (x : List ℕ). ascii "<a href=\"" ++ x ++ ascii "\"" ++ title_attribute t ++ ascii ">") ((href_iff d h).0 p)
    ∙ ap (λ (x : List ℕ). ascii "<a href=\"" ++ h ++ ascii "\"" ++ x ++ ascii ">") (title_complete q)

link_sound : (d t : List ℕ) → LinkOpen d t (link_open d t)
unfolding link_open
link_sound d t = link ((href_iff d (href_of d)).1 refl) (title_sound t)

pub link_open_iff : (d t w : List ℕ) → LinkOpen d t w ↔ (link_open d t ≡ w)
link_open_iff d t w = (link_complete, (λ e. rw e at (link_sound d t)))

image_open_complete : {d w : List ℕ} → ImageOpen d w → image_open d ≡ w
unfolding image_open
image_open_complete (image {d} {h} p) = ap (λ (x : List ℕ). ascii "<img src=\"" ++ x ++ ascii "\" alt=\"") ((href_iff d h).0 p)

image_open_sound : (d : List ℕ) → ImageOpen d (image_open d)
unfolding image_open
image_open_sound d = image ((href_iff d (href_of d)).1 refl)

pub image_open_iff : (d w : List ℕ) → ImageOpen d w ↔ (image_open d ≡ w)
image_open_iff d w = (image_open_complete, (λ e. rw e at (image_open_sound d)))

image_close_complete : {t w : List ℕ} → ImageClose t w → image_close t ≡ w
unfolding image_close
image_close_complete (image_end q) = ap (λ (x : List ℕ). ascii "\"" ++ x ++ ascii " />") (title_complete q)

image_close_sound : (t : List ℕ) → ImageClose t (image_close t)
unfolding image_close
image_close_sound t = image_end (title_sound t)

pub image_close_iff : (t w : List ℕ) → ImageClose t w ↔ (image_close t ≡ w)
image_close_iff t w = (image_close_complete, (λ e. rw e at (image_close_sound t)))
