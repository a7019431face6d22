-- What is written where the pass stands: by the row that starts there, by the row whose text ends there, or the text up to the next such place.
use Prim.Native.Nat.{ℕ, ◌+◌, ◌≤◌, ◌<◌}
use native.Mathlib.Nat.{zero-add}
use native.Mathlib.Omega.{arith}
use mathlib.Core.Path.{◌≡◌, refl, sym, ap, ◌∙◌, subst}
use mathlib.Core.Option.{some-injective}
use mathlib.Core.List.{List}
use mathlib.Core.Bool.{Bool}
use borrow.Author.Tests.{eqb-true, eq-eqb}
use lib.ListN.{length, get_or, take}
use lib.Seq.{length-take-le, get_or-take}
use Rattle.scan.specs.Member.{In}
use Rattle.scan.specs.Reading.{past}
use Rattle.scan.proofs.Scan.{past_on}
use Rattle.texts.specs.Texts.{Texts}
use Rattle.span.specs.declared.Span.{Span}
use Rattle.span.specs.Row.{numbers, row_at}
use Rattle.span.specs.Reading.{span_at}
use Rattle.note.specs.Reading.{span_rows}
use Rattle.note.proofs.Fits.{rows_fit}
use Rattle.escaping.proofs.AsIs.{run_within, each_passes}
use Rattle.marking.proofs.Lists.{at_inside}
use Rattle.page.specs.Reading.{row_start, written_by}
use Rattle.page.proofs.Extent.{row_some}
use Rattle.cursor.specs.Cursor.{Finds, closing_place}
use Rattle.cursor.specs.Spanned.{Spanned}
use Rattle.cursor.specs.Starts.{places, free, tags_in, index_in, Started}
use Rattle.cursor.proofs.Rows.{row_read, place_top}
use Rattle.cursor.proofs.Cursors.{Next}
use Rattle.cursor.proofs.Found.{row_of_note, next_found, closing_from, closing_row, no_closing}
use Rattle.cursor.proofs.Entries.{free_there, starting, tags_there}
use Rattle.buffer.specs.declared.Page.{Page}
use Rattle.writer.specs.declared.Pass.{Pass}
use Rattle.writer.specs.Pass.{StartsHere, ClosesHere, Plain, Passes, Stands, Goes}

module _ {T : Texts} {u st : List ℕ} {count : ℕ} (d : Spanned T u count) (s : Started (span_rows T) st) {e : ℕ} {p : Pass} {page : Page} (q : Stands T e p page) where
  abbrev rows : List (List ℕ)
  rows = span_rows T

  abbrev entry : ℕ
  entry = get_or st p.at 0

  -- places of the paragraph are places of the table
  placed : (j : ℕ) → j < e → j < places
  placed j h = omega (arith, q.within, d.short)

  pub in_table : p.at < length st
  in_table = omega (arith, placed p.at q.inside, s.long)

  -- ---- a row starts there
  start_row : (entry ≡ 0 → ⊥) → (index_in entry < count) × StartsHere T e (row_at u (index_in entry)) (tags_in entry) p.at
  unfolding written_by
  start_row n =
      let x = starting s (placed p.at q.inside) n in
      let h : index_in entry < count = omega (arith, at_inside rows (index_in entry) x.row x.at, d.counted) in
      let r : x.row ≡ row_at u (index_in entry) = some-injective x.row (row_at u (index_in entry)) (sym x.at ∙ d.rows_are (index_in entry) h) in (
        h,
        subst (λ (y : List ℕ). StartsHere T e y (tags_in entry) p.at) r
            (record {
              is_row = (index_in entry, x.at);
              stands = x.stands;
              calls = record { inside = q.inside; within = q.within; called = rw (zero-add p.at, x.first, x.tags) refl };
            }),
      )

  -- as the row is read: x is the span at index j
  module _ (n : entry ≡ 0 → ⊥) {j : ℕ} (is : j ≡ index_in entry) where
    pub start_index : j < count
    start_index = omega (arith, is, (start_row n).0)

    pub start_span : {x : Span} → x ≡ span_at u j → {tags : Bool} → tags ≡ tags_in entry → StartsHere T e (numbers T.note x) tags p.at
    start_span {x} f {tags} t =
        let (h, r) = start_row n in
        let g : x ≡ span_at u (index_in entry) = subst (λ (i : ℕ). x ≡ span_at u i) is f in
        let row = row_of_note T u (index_in entry) x r.is_row (row_read u d.room h g) in
        subst (λ (y : List ℕ). StartsHere T e y tags p.at) (sym row) (subst (λ (b : Bool). StartsHere T e (row_at u (index_in entry)) b p.at) (sym t) r)

  pub start_goes : {page' : Page} {r : ℕ} → Passes T e p.at page r page' → Goes T e p page (record { at = r; close = p.close }) page'
  start_goes x = record { written = x.written; onward = x.onward; cursor = q.cursor }

  -- ---- no row starts there, and the search gave row k
  module _ (z : entry ≡ 0) {k : ℕ} (f : Finds u count p.at p.close k) where
    next : Next rows k p.at
    next = next_found d q.cursor f

    pub goes : {page' : Page} {r : ℕ} → Passes T e p.at page r page' → Goes T e p page (record { at = r; close = k }) page'
    goes x = record { written = x.written; onward = x.onward; cursor = next.before }

    -- c is where the text of that row ends, or the paragraph
    module _ {c : ℕ} (is : c ≡ closing_place u count k e) where
      close_row : c ≡ p.at
          → (k < count) × (row_start (row_at u k) < places) × ClosesHere T e (row_at u k) (tags_in (get_or st (row_start (row_at u k)) 0)) p.at
      unfolding written_by
      close_row h =
          let (l, no_code, stands, first) = closing_row d next e (sym is ∙ h) q.inside in
          let r = row_at u k in
          let i : In r rows = (k, d.rows_are k l) in
          let inside : row_start r < places = omega (arith, row_some T r i, (rows_fit T r i).end, d.short) in (
            l,
            inside,
            record {
              is_row = i;
              no_code = no_code;
              stands = stands;
              calls = record {
                inside = q.inside;
                within = q.within;
                called = rw (zero-add p.at, free_there s (placed p.at q.inside) z, first, tags_there s r i inside) refl;
              };
            },
          )

      -- as the row is read
      pub close_index : c ≡ p.at → k < count
      close_index h = (close_row h).0

      module _ (h : c ≡ p.at) {x : Span} (g : x ≡ span_at u k) where
        row_is : numbers T.note x ≡ row_at u k
        row_is = let (l, inside, r) = close_row h in row_of_note T u k x r.is_row (row_read u d.room l g)

        pub close_start : x.whole.start < places
        close_start = let (l, inside, r) = close_row h in omega (arith, ap row_start row_is, inside)

        pub close_span : {tags : Bool} → tags ≡ tags_in (get_or st x.whole.start 0) → ClosesHere T e (numbers T.note x) tags p.at
        close_span {tags} t =
            let (l, inside, r) = close_row h in
            let b : tags ≡ tags_in (get_or st (row_start (row_at u k)) 0) = t ∙ ap (λ (i : ℕ). tags_in (get_or st i 0)) (ap row_start row_is) in
            subst (λ (y : List ℕ). ClosesHere T e y tags p.at) (sym row_is) (subst (λ (b : Bool). ClosesHere T e (row_at u k) b p.at) (sym b) r)

      -- ---- the text before that
      top : c ≤ e
      top = omega (arith, is, place_top u count k e)

      pub part_size : length (take c st) ≡ c
      part_size = length-take-le c st (omega (arith, top, q.within, d.short, s.long))

      pub text_run : (c ≡ p.at → ⊥) → {stop : ℕ} → stop ≡ past free (take c st) p.at → Plain T e p.at stop
      text_run apart {stop} g = record {
        nonempty = omega (arith, (run_within free (take c st) (p.at + 1) (sym one) (omega (arith, part_size, before))).0);
        inside = omega (arith, part_size, bounds.1, top);
        within = q.within;
        bare = λ j l m.
            let b : j < c = omega (arith, bounds.1, part_size) in
            let y = eqb-true (get_or st j 0) 0 (sym (ap free (get_or-take c st j 0 b)) ∙ each_passes free (take c st) p.at g j l m) in
            record {
              no_start = rw (zero-add j) (free_there s (placed j (omega (arith, top))) y);
              no_close = rw (zero-add j) (no_closing d next e j l (omega (arith, is)));
            };
      }
        where
          before : p.at < c
          before = omega (arith, is, apart, closing_from d next e (omega (arith, q.inside)))

          bounds : (p.at ≤ stop) × (stop ≤ length (take c st))
          bounds = run_within free (take c st) p.at g (omega (arith, part_size, before))

          one : past free (take c st) (p.at + 1) ≡ stop
          one = past_on free (take c st) p.at (sym g) (omega (arith, part_size, before)) refl (eq-eqb (get_or (take c st) p.at 0) 0 (get_or-take c st p.at 0 before ∙ z))
