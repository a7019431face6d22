-- A paragraph: its opening tag, what is left at each place, its closing tag.
use Prim.Native.Nat.{ℕ, ◌+◌, ◌-◌, ◌≤◌, ◌<◌}
use native.Mathlib.Nat.{zero-add}
use native.Mathlib.Omega.{arith}
use mathlib.Core.Path.{◌≡◌, refl, sym, ap, ◌∙◌}
use mathlib.Core.List.{List, [], ◌++◌}
use lib.ListN.{length, take, drop, length-append, length-drop, drop_of_length-le}
use lib.Seq.{length-take-le, take_all}
use Rattle.texts.specs.Texts.{Texts}
use Rattle.joined.specs.Reading.{joined}
use Rattle.walk.specs.Reading.{placed_between}
use Rattle.walk.proofs.Steps.{cut}
use Rattle.note.specs.Reading.{span_rows}
use Rattle.html.specs.Tags.{paragraph_open, paragraph_close}
use Rattle.buffer.specs.declared.Page.{Page}
use Rattle.buffer.specs.Stored.{page_most, HasRoom, Grows, Leads}
use Rattle.buffer.proofs.Writing.{leads, done, both}
use Rattle.page.specs.Reading.{content_from, paragraph_page}
use Rattle.writer.specs.declared.Pass.{Pass}
use Rattle.writer.specs.Pass.{left, Cursor, Stands, Goes, Starts, Ends}
use Rattle.cursor.proofs.Cursors.{still_behind}

leads_on : {p₀ p q : Page} {whole rest rest' : List ℕ} → Leads p₀ whole p rest → Leads p rest q rest' → Leads p₀ whole q rest'
leads_on a b = record { same_bytes = b.same_bytes ∙ a.same_bytes; size = b.size ∙ a.size; stored = b.stored ∙ a.stored }

module _ (T : Texts) (e : ℕ) (w : e ≤ length T.note) where
  abbrev s : List ℕ
  s = T.note

  left_none : (i : ℕ) → e ≤ i → left T e i ≡ []
  unfolding content_from
  left_none i h = let l : length (take e s) ≤ i = omega (arith, length-take-le e s w) in rw (drop_of_length-le (take e s) l) refl

  left_whole : (a : ℕ) → a ≤ e → content_from T (joined T) (span_rows T) 0 (placed_between s a e).bytes a ≡ left T e a
  left_whole a h =
      let z : take (e - a) (drop a s) ≡ drop a (take e s)
      = sym (cut s a e h w e (omega arith)) ∙ take_all (e - a) (drop a (take e s)) (omega (arith, length-drop a (take e s), length-take-le e s w)) in
      rw (z, zero-add a) refl

  paragraph_is : (a : ℕ) → a ≤ e → paragraph_page T (joined T) (span_rows T) (placed_between s a e) ≡ paragraph_open ++ left T e a ++ paragraph_close
  unfolding paragraph_page
  paragraph_is a h = ap (λ (l : List ℕ). paragraph_open ++ l ++ paragraph_close) (left_whole a h)

-- the loop started at w₀ and stands at w
pub record Going (T : Texts) (e : ℕ) (w₀ : Pass) (page₀ page : Page) (w : Pass) : Type 0 where
  pub written : Leads page₀ (left T e w₀.at) page (left T e w.at)
  pub here : Cursor T w w.at
  pub there : Cursor T w e

module _ {T : Texts} {e : ℕ} {p : Pass} {page : Page} (q : Starts T e p page) where
  abbrev whole : List ℕ
  whole = left T e p.at

  parts : page.size + (length paragraph_open + length whole + length paragraph_close) ≤ page_most
  parts =
      omega (
        arith,
        q.room,
        ap length (paragraph_is T e q.within p.at q.ordered),
        length-append paragraph_open whole,
        length-append (paragraph_open ++ whole) paragraph_close,
      )

  pub open_room : HasRoom page paragraph_open
  open_room = omega (arith, parts)

  module _ {page₀ : Page} (x : Grows page paragraph_open page₀) where
    pub opened : Going T e p page₀ page₀ p
    opened = record { written = leads; here = q.cursor; there = still_behind q.cursor q.ordered }

    module _ {mid : Page} {w : Pass} (g : Going T e p page₀ mid w) where
      pub stands : w.at < e → Stands T e w mid
      stands h = record { inside = h; within = q.within; cursor = g.here; room = omega (arith, g.written.size, x.written.size, parts) }

      pub goes_on : {mid' : Page} {r : Pass} → w.at < e → Goes T e w mid r mid' → Going T e p page₀ mid' r
      goes_on h y = record {
        written = leads_on g.written y.written;
        here = still_behind y.cursor (omega (arith, y.onward));
        there = still_behind y.cursor (omega arith);
      }

      module _ (h : e ≤ w.at) where
        none_left : left T e w.at ≡ []
        none_left = left_none T e q.within w.at h

        pub close_room : HasRoom mid paragraph_close
        close_room = omega (arith, g.written.size, ap length none_left, x.written.size, parts)

        pub closed : {after : Page} → Grows mid paragraph_close after → Ends T e p page w after
        closed y = record {
          written = rw (paragraph_is T e q.within p.at q.ordered) (both (both x (done g.written none_left)) y);
          cursor = g.there;
        }
