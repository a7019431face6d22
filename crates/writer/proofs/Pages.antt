-- The page of a note: one paragraph after the other.
use Prim.Native.Nat.{ℕ, ◌+◌, ◌-◌, ◌≤◌, ◌<◌}
use native.Mathlib.Omega.{arith}
use mathlib.Core.Path.{◌≡◌, refl, ap}
use mathlib.Core.List.{List, [], ◌++◌, flat_map}
use lib.ListN.{length}
use Rattle.texts.specs.Texts.{Texts}
use Rattle.joined.specs.Reading.{joined}
use Rattle.walk.specs.Reading.{paragraphs_from, placed_between, from}
use Rattle.walk.specs.Promise.{FirstParagraph}
use Rattle.walk.proofs.Whole.{all_paragraphs}
use Rattle.walk.proofs.Listing.{start_from}
use Rattle.note.specs.Reading.{span_rows}
use Rattle.buffer.specs.declared.Page.{Page}
use Rattle.buffer.specs.Stored.{Grows, Leads}
use Rattle.buffer.proofs.Writing.{leads, onward, done, room}
use Rattle.page.specs.Reading.{paragraph_page, page_by, page_of}
use Rattle.page.proofs.Lengths.{page_most_lem}
use Rattle.writer.specs.declared.Pass.{Pass}
use Rattle.cursor.specs.Spanned.{Spanned}
use Rattle.cursor.proofs.Cursors.{still_behind}
use Rattle.writer.specs.Pass.{Cursor, Starts, Ends}

-- the pages of the paragraphs from place `at` on
abbrev pages_from : Texts → ℕ → List ℕ
pages_from T at = flat_map (paragraph_page T (joined T) (span_rows T)) (paragraphs_from T.note at)

all_pages : (T : Texts) → pages_from T 0 ≡ page_of T
unfolding page_of page_by
all_pages T = ap (flat_map (paragraph_page T (joined T) (span_rows T))) (all_paragraphs T.note)

-- k paragraphs of the n in the list are written, and the next is looked for from place `at` on
pub record Pages (T : Texts) (list : List ℕ) (n : ℕ) (page₀ page : Page) (k at : ℕ) (p : Pass) : Type 0 where
  pub written : Leads page₀ (page_of T) page (pages_from T at)
  pub cursor : Cursor T p at
  pub among : k ≤ n
  pub looked : at ≡ from T.note list k

pub pages : (T : Texts) (list : List ℕ) (n : ℕ) (page₀ : Page) → Pages T list n page₀ page₀ 0 0 (record { at = 0; close = 0 })
pages T list n page₀ = record {
  written = rw (all_pages T) leads;
  cursor = record { passed = λ j r l e. absurd (omega arith) };
  among = omega arith;
  looked = start_from T.note list;
}

module _ {T : Texts} {list : List ℕ} {n : ℕ} {page₀ page : Page} {k at : ℕ} {p : Pass} (g : Pages T list n page₀ page k at p) where
  pub all_written : paragraphs_from T.note at ≡ [] → Grows page₀ (page_of T) page
  unfolding flat_map
  all_written z = done g.written (rw z refl)

  -- the next paragraph
  module _ {a e m : ℕ} (here : FirstParagraph T.note at a e m) where
    pub less : length T.note - m < length T.note - at
    less = omega (arith, here.onward, here.inside)

    one_more : pages_from T at ≡ paragraph_page T (joined T) (span_rows T) (placed_between T.note a e) ++ pages_from T m
    unfolding flat_map
    one_more = rw here.first refl

    pub starts : {u : List ℕ} {count : ℕ} → Spanned T u count → page₀.size ≡ 0 → Starts T e (record { at = a; close = p.close }) page
    starts d z = record {
      ordered = here.ordered;
      within = omega (arith, here.ends, here.inside);
      cursor = still_behind g.cursor here.low;
      room = room (paragraph_page T (joined T) (span_rows T) (placed_between T.note a e)) (pages_from T m) g.written one_more (omega (arith, z, page_most_lem T d.short d.sheet_short));
    }

    pub further : (k < n) × (m ≡ from T.note list (k + 1)) → {page' : Page} {r : Pass} → Ends T e (record { at = a; close = p.close }) page r page'
        → Pages T list n page₀ page' (k + 1) m r
    further o y = record {
      written = onward g.written one_more y.written;
      cursor = still_behind y.cursor here.ends;
      among = omega (arith, o.0);
      looked = o.1;
    }
