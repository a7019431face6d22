-- Whatever the texts, what is written is tags and what cannot be taken for markup; and in an image's description no tag stands.
use Prim.Native.Nat.{ℕ, ◌≤◌, ◌<◌}
use native.Mathlib.Omega.{arith}
use mathlib.Core.Path.{◌≡◌, refl, sym, ap, subst}
use mathlib.Core.List.{List, [], ◌∷◌, ◌++◌, flat_map, append_assoc, append-nil}
use mathlib.Core.Bool.{Bool, true, false}
use Rattle.scan.specs.Ascii.{ascii}
use Rattle.marking.specs.Marking.{Sort, link, image}
use Rattle.texts.specs.Texts.{Texts}
use Rattle.block.specs.Block.{Placed}
use Rattle.row.specs.declared.Range.{Range}
use Rattle.row.specs.Row.{Listed}
use Rattle.joined.specs.Reading.{joined}
use Rattle.note.specs.Reading.{span_rows}
use Rattle.escaping.specs.Escaping.{escaped}
use Rattle.escaping.specs.Reading.{undone, text_of}
use Rattle.href.specs.Reading.{href_of}
use Rattle.code.specs.Code.{CodeElement}
use Rattle.code.specs.Reading.{code_element}
use Rattle.html.specs.Reading.{title_attribute, link_open, image_open, image_close}
use Rattle.escaping.specs.Clean.{Clean}
use Rattle.escaping.specs.Clean as cleanly
use Rattle.escaping.proofs.Safety.{text_clean}
use Rattle.href.proofs.Safety.{href_clean}
use Rattle.code.proofs.Safety.{code_clean}
use Rattle.code.proofs.Element.{code_span_iff}
use Rattle.html.proofs.Tags.{link_open_iff, image_open_iff, image_close_iff}
use Rattle.page.specs.Page.{OpenTag, of_link, of_image, CloseTag, after_link, after_image, tag_if, PageIs}
use Rattle.page.specs.ByRows.{IsSort, Described, Tags, RangeIs, ParagraphBy, paragraph, ByRows}
use Rattle.page.specs.ByRows as by_rows
use Rattle.page.specs.Claims.{Tag, opening_paragraph, closing_paragraph, opening_code, closing_code, opening_link, link_open_titled, closing_link, image_titled, Tagged, tag, clean}
use Rattle.page.specs.Claims as claims
use Rattle.page.proofs.Numbers.{sort_kind}
use Rattle.page.proofs.Proper.{Proper, ordered}
use Rattle.page.proofs.Extent.{row_some, link_text}
use Rattle.page.proofs.Page.{page_iff}
use Rattle.page.proofs.ByRows.{called_iff}

tagged_append : {l m : List ℕ} → Tagged l → Tagged m → Tagged (l ++ m)
tagged_append claims.none t = t
tagged_append {m = m} (tag {w} {v} a s) t = rw (append_assoc w v m) (tag a (tagged_append s t))
tagged_append {m = m} (clean {w} {v} a s) t = rw (append_assoc w v m) (clean a (tagged_append s t))

one_tag : {w : List ℕ} → Tag w → Tagged w
one_tag {w} a = subst Tagged (append-nil w) (tag a claims.none)

one_clean : {w : List ℕ} → Clean w → Tagged w
one_clean {w} a = subst Tagged (append-nil w) (clean a claims.none)

clean_append : {l m : List ℕ} → Clean l → Clean m → Clean (l ++ m)
clean_append cleanly.none t = t
clean_append (cleanly.plain e s) t = cleanly.plain e (clean_append s t)
clean_append {m = m} (cleanly.entity {e} {l} x s) t = rw (append_assoc e l m) (cleanly.entity x (clean_append s t))

-- ---- text, code and the tags of a link
escaped_clean : (b : ℕ) → Clean (escaped b)
unfolding undone flat_map
escaped_clean b = subst Clean (append-nil (escaped b)) (text_clean (b ∷ []))

code_tagged : (tags : Bool) (l : List ℕ) → Tagged (code_element tags l)
code_tagged true l = tagged_append (tagged_append (one_tag opening_code) (one_clean (code_clean l))) (one_tag closing_code)
code_tagged false l = one_clean (code_clean l)

regroup : (a h q t g : List ℕ) → a ++ h ++ q ++ t ++ g ≡ a ++ (h ++ (q ++ (t ++ g)))
regroup a h q t g = simp append_assoc

-- a title attribute after what stands before it, in a tag that ends with g
titled : (a h q t g : List ℕ) → a ++ h ++ q ++ (ascii " title=\"" ++ t ++ ascii "\"") ++ g ≡ a ++ (h ++ (q ++ (ascii " title=\"" ++ (t ++ (ascii "\"" ++ g)))))
titled a h q t g = simp append_assoc

open_tagged : (d t : List ℕ) → Tagged (link_open d t)
unfolding link_open title_attribute
open_tagged d [] = one_tag (rw (regroup (ascii "<a href=\"") (href_of d) (ascii "\"") [] (ascii ">")) (opening_link (href_clean d)))
open_tagged d (b ∷ t) = one_tag (rw (titled (ascii "<a href=\"") (href_of d) (ascii "\"") (text_of (b ∷ t)) (ascii ">")) (link_open_titled (href_clean d) (text_clean (b ∷ t))))

-- ---- an image with the description A
whole : (a h q v e t g : List ℕ) → (a ++ h ++ q) ++ v ++ (e ++ t ++ g) ≡ a ++ (h ++ (q ++ (v ++ (e ++ (t ++ g)))))
whole a h q v e t g = simp append_assoc

whole_titled : (a h q v e t g : List ℕ) → (a ++ h ++ q) ++ v ++ (e ++ (ascii " title=\"" ++ t ++ ascii "\"") ++ g) ≡ a ++ (h ++ (q ++ (v ++ (e ++ (ascii " title=\"" ++ (t ++ (ascii "\"" ++ g)))))))
whole_titled a h q v e t g = simp append_assoc

image_tagged : (d t v : List ℕ) → Clean v → Tagged (image_open d ++ v ++ image_close t)
unfolding image_open image_close title_attribute
image_tagged d [] v h = one_tag (rw (whole (ascii "<img src=\"") (href_of d) (ascii "\" alt=\"") v (ascii "\"") [] (ascii " />")) (claims.image (href_clean d) h))
image_tagged d (b ∷ t) v h =
    one_tag (rw (whole_titled (ascii "<img src=\"") (href_of d) (ascii "\" alt=\"") v (ascii "\"") (text_of (b ∷ t)) (ascii " />")) (image_titled (href_clean d) h (text_clean (b ∷ t))))

module _ (T : Texts) (js : List Listed) (rows : List (List ℕ)) (h : Proper rows) (q : Placed) where
  -- ---- in a description nothing is a tag
  abbrev AllDescribed : ℕ → ℕ → Type 0
  AllDescribed a b = (i : ℕ) → a ≤ i → i < b → Described T js rows q i

  content_clean : (b : Bool) {l v : List ℕ} → CodeElement b l v → b ≡ false → Clean v
  content_clean b {l} {v} t e = subst Clean ((code_span_iff false l v).0 (subst (λ (z : Bool). CodeElement z l v) e t)) (code_clean l)

  untagged : (b : Bool) (a : ℕ) → Tags T js rows q b a → Described T js rows q a → b ≡ false
  untagged true a f d = absurd (f d)
  untagged false a f d = refl

  nothing_around : (b : Bool) (o v z : List ℕ) → b ≡ false → tag_if b o ++ v ++ tag_if b z ≡ v
  nothing_around b o v z e = rw e (append-nil v)

  clean_range : {a b : ℕ} {v : List ℕ} → RangeIs T js rows q a b v → AllDescribed a b → Clean v
  clean_range by_rows.nothing f = cleanly.none
  clean_range (by_rows.beside x y) f = clean_append (clean_range x (λ i lo hi. f i lo (omega (arith, ordered T js rows h q y)))) (clean_range y (λ i lo hi. f i (omega (arith, ordered T js rows h q x)) hi))
  clean_range (by_rows.escape g e) f = escaped_clean _
  clean_range (by_rows.byte g l e) f = escaped_clean _
  clean_range (by_rows.a_code_span {tags = u} {row = row} {a = a} i k e g t) f =
      let lies = h.some_bytes row i in
      content_clean u t (untagged u a g (f a (omega arith) (omega (arith, ap (λ (r : Range). r.start) e, ap (λ (r : Range). r.end) e))))
  clean_range (by_rows.pair x u {row = row} {a = a} {o = o} {w = v} {e = z} i k e t g p p' r) f =
      let (lo, mid, hi) = h.text_lies row i (sort_kind row x k) in
      let st = ap (λ (r : Range). r.start) e in
      let en = ap (λ (r : Range). r.end) e in
      let ts = ap (λ (r : Range). r.start) t in
      let te = ap (λ (r : Range). r.end) t in
      subst Clean (sym (nothing_around u o v z (untagged u a g (f a (omega arith) (omega arith)))))
      (clean_range r (λ j l m. f j (omega arith) (omega arith)))

  -- ---- and elsewhere it is tags and what is clean
  pair_tagged : (x : Sort) (b : Bool) (d t o v z : List ℕ) → OpenTag x d t o → CloseTag x t z → (x ≡ image → Clean v) → Tagged v → Tagged (tag_if b o ++ v ++ tag_if b z)
  pair_tagged x false d t o v z p p' f s = subst Tagged (sym (nothing_around false o v z refl)) s
  pair_tagged link true d t o v z (of_link p) after_link f s = tagged_append (tagged_append (subst Tagged ((link_open_iff d t o).0 p) (open_tagged d t)) s) (one_tag closing_link)
  pair_tagged image true d t o v z (of_image p) (after_image p') f s =
      subst (λ (y : List ℕ). Tagged (y ++ v ++ z)) ((image_open_iff d o).0 p) (subst (λ (y : List ℕ). Tagged (image_open d ++ v ++ y)) ((image_close_iff t z).0 p') (image_tagged d t v (f refl)))

  range_tagged : {a b : ℕ} {v : List ℕ} → RangeIs T js rows q a b v → Tagged v
  range_tagged by_rows.nothing = claims.none
  range_tagged (by_rows.beside x y) = tagged_append (range_tagged x) (range_tagged y)
  range_tagged (by_rows.escape f e) = one_clean (escaped_clean _)
  range_tagged (by_rows.byte f l e) = one_clean (escaped_clean _)
  range_tagged (by_rows.a_code_span {tags = u} i k e g t) = subst Tagged ((code_span_iff u _ _).0 t) (code_tagged u _)
  range_tagged (by_rows.pair x u {row = row} {c = c} {d = d} {o = o} {w = v} {e = z} i k e t g p p' r) =
      pair_tagged x u _ _ o v z p p' (λ s. clean_range r (described_here s)) (range_tagged r)
    where
      -- by this image itself
      described_here : x ≡ image → (j : ℕ) → c ≤ j → j < d → Described T js rows q j
      described_here s j l m =
          record {
            row = row;
            is_row = i;
            is_an_image = subst (λ (y : Sort). IsSort y row) s k;
            inside = (omega (arith, ap (λ (r : Range). r.start) t), omega (arith, ap (λ (r : Range). r.end) t));
          }

  paragraph_tagged : {w : List ℕ} → ParagraphBy T js rows q w → Tagged w
  paragraph_tagged (paragraph r) = tagged_append (tagged_append (one_tag opening_paragraph) (range_tagged r)) (one_tag closing_paragraph)

page_tagged : (T : Texts) (js : List Listed) (rows : List (List ℕ)) → Proper rows → {ps : List Placed} {w : List ℕ} → ByRows T js rows ps w → Tagged w
page_tagged T js rows h by_rows.none = claims.none
page_tagged T js rows h (by_rows.more {q = q} p t) = tagged_append (paragraph_tagged T js rows h q p) (page_tagged T js rows h t)

pub law_tagged : (T : Texts) (w : List ℕ) → PageIs T w → Tagged w
law_tagged T w p = page_tagged T (joined T) (span_rows T) (record { some_bytes = row_some T; text_lies = link_text T }) ((called_iff T w).0 ((page_iff T w).1 p))
