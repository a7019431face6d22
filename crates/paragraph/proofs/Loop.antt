-- What the loop keeps: from where the code stands, the scan comes to the same end as from its start.
use Rattle.std.specs.Prelude.{Ok}
use Prim.Native.Nat.{ℕ, ◌+◌, ◌-◌, ◌≤◌, ◌<◌}
use native.Mathlib.Nat.{add-zero}
use native.Mathlib.Omega.{arith}
use mathlib.Core.Path.{◌≡◌, refl, sym, ap, ◌∙◌}
use mathlib.Core.Bool.{false}
use mathlib.Core.Logic.{inl, inr}
use mathlib.Core.Option.{none}
use mathlib.Core.List.{List, [], ◌∷◌, ◌++◌, map, map-append, tail}
use lib.ListN.{length, length-append, length-map}
use Rattle.line.specs.Promise.{Before}
use Rattle.line.proofs.Lines.{later}
use Rattle.note.specs.Note.{depth_limit}
use Rattle.scan.proofs.Test.{by}
use Rattle.marking.specs.Marking.{nothing, opening, role, Piece}
use Rattle.marking.specs.Spans as marked
use Rattle.marking.specs.ReadingRules.{Grammar}
use Rattle.marking.specs.Reading.{Match, alone, paired, taken, is_code, sort_of, found_by, stack_by, piece_at, place_after, last_after, new_spans}
use Rattle.marking.specs.ReadingSpans.{Scan, scan_found, scan_step, scan_start, finish, spans, over_at, overs, over}
use Rattle.marking.proofs.Finish.{finish_step, finish_end, overs_step, overs_end, scan_grows, scan_within}
use Rattle.rows.specs.Rows
use Rattle.row.specs.declared.Definition.{Definition}
use Rattle.span.specs.declared.Span.{Span}
use Rattle.span.specs.Row.{whole_rows, stored}
use Rattle.inline.specs.Tails.{Tail}
use Rattle.inline.specs.ReadingPieces.{piece_from}
use Rattle.inline.specs.Reading.{grammar}
use Rattle.inline.specs.ReadingRows.{row_for}
use Rattle.inline.proofs.Computing.{sound}
use Rattle.step.specs.Reading.{stored_all}
use Rattle.step.specs.Promise.{last_place, afresh, Lined, spans_at, Steps}
use Rattle.paragraph.specs.Promise.{open_places, Waits, Reads}
use Rattle.step.specs.declared.Walk.{Walk}
use Rattle.inline.proofs.Pieces.{at_open, at_image}
use Rattle.scan.proofs.Scan.{peek_inside}
use Rattle.step.specs.Promise.{Opening}
use Rattle.paragraph.specs.declared.Bracket.{Bracket}
use Rattle.paragraph.proofs.Stack.{opens_here, closes_here, open_length}
use Rattle.paragraph.proofs.Most.{SoFar, so_far_starts, Few, few_none, few_close, CodeEnds, next_mark, next_text, next_close, next_open, next_image, Begins, mark, text, close, link, image, begins}

-- ---- rows stored one after the other
pub stored_more : (s : List ℕ) (t : List ℕ) (k : ℕ) (xs ys : List Span) → stored_all s (stored_all s t k xs) (k + length xs) ys ≡ stored_all s t k (xs ++ ys)
unfolding Rows.stored_all
stored_more s t k [] ys = rw (add-zero k)
stored_more s t k (x ∷ xs) ys =
    let e : k + length (x ∷ xs) ≡ k + 1 + length xs = omega arith in
    ap (λ (n : ℕ). stored_all s (stored_all s (stored s t k x) (k + 1) xs) n ys) e ∙ stored_more s (stored s t k x) (k + 1) xs ys

-- ---- a step of the scan
few_spans : {T : Type 0} (f : ℕ → Piece) (q : Piece) (x : Match T) → length (new_spans f q x) ≤ 1
few_spans f q alone = by (is_code q.kind) (λ e. rw e (omega arith)) (λ e. rw e (omega arith))
few_spans f q (paired i) = omega arith
few_spans f q (taken x i t) = omega arith

scan_eq : {T : Type 0} {a a' : ℕ} {b b' : List ℕ} {c c' : ℕ} (xs : List (marked.Span T)) → a ≡ a' → b ≡ b' → c ≡ c'
    → ◌≡◌ {A = Scan T} (record { place = a; stack = b; last_link = c; spans = xs }) (record { place = a'; stack = b'; last_link = c'; spans = xs })
scan_eq xs ea eb ec = rw (ea, eb, ec)

-- ---- the invariant
module _ (s : List ℕ) (offset : ℕ) (p : List ℕ) (labels : List (List ℕ)) (ds : List Definition) (k : ℕ) (t₀ : List ℕ) where
  abbrev g : Grammar Tail
  g = grammar p labels

  abbrev rows : List (marked.Span Tail) → List Span
  rows = map (row_for offset p ds)

  -- where the code stands, as a state of the scan; the spans so far are xs
  abbrev scan_of : List Bracket → Walk → List (marked.Span Tail) → Scan Tail
  scan_of stack w xs = record { place = w.at; stack = open_places w stack; last_link = last_place w.last; spans = xs }

  pub record On (stack : List Bracket) (w : Walk) (t : List ℕ) : Type 0 where
    pub xs : List (marked.Span Tail)
    pub same_end : finish g (scan_of stack w xs) ≡ finish g scan_start
    pub same_over : overs depth_limit g (scan_of stack w xs) ≡ overs depth_limit g scan_start
    pub row_is : w.row ≡ k + length xs
    pub table_is : t ≡ stored_all s t₀ k (rows xs)
    pub few : length xs ≤ w.at
    pub bounded : w.at ≤ length p
    pub waits : Waits s offset p (whole_rows t₀) w stack
    pub inside : offset + length p ≤ length s
    pub line_before : Before s w.line (offset + w.at)
    pub so_far : SoFar p k w.at w.row w.depth

  pub on_start : (stack : List Bracket) → depth_limit ≤ length stack → offset + length p ≤ length s → (w : Walk) → w.row ≡ k → Before s w.line offset → On stack (afresh w) t₀
  unfolding scan_start Rows.stored_all
  on_start stack e i w q b =
      record {
        xs = [];
        same_end = refl;
        same_over = refl;
        row_is = omega arith;
        table_is = refl;
        few = omega arith;
        bounded = omega arith;
        waits = record { room = e; fits = omega arith; each = λ i h. absurd (omega arith); lines_are = λ r i h. absurd (omega arith) };
        inside = i;
        line_before = later b (omega arith) (omega arith);
        so_far = rw q (so_far_starts p k);
      }

  module _ {stack : List Bracket} {w : Walk} {t : List ℕ} (o : On stack w t) where
    pub on_end : length p ≤ w.at → Reads s offset p labels ds k t₀ (Ok w) t
    unfolding over spans
    on_end h =
        let f : over depth_limit g ≡ none = sym o.same_over ∙ overs_end depth_limit g (scan_of stack w o.xs) h in
        let e : spans g ≡ o.xs = ap (λ (x : Scan Tail). x.spans) (sym o.same_end ∙ finish_end g (scan_of stack w o.xs) h) in
        record {
          walk = w;
          answer = rw f refl;
          row = λ z. rw e o.row_is;
          line = λ z. later o.line_before (omega (arith, o.bounded)) o.inside;
          table = λ z. rw e o.table_is;
          few = λ z. rw e (omega (arith, o.few, o.bounded));
          few_ends = λ z. rw e (omega (arith, o.row_is, o.so_far.rows));
          deep = λ z. let no : ⊥ = omega arith in absurd no;
        }

    module _ (h : w.at < length p) where
      pub lined_here : Lined s offset w
      lined_here = record { before = o.line_before; inside = omega (arith, o.inside) }

      abbrev here : Scan Tail
      here = scan_of stack w o.xs

      -- the spans that end here
      abbrev more : Match Tail → List (marked.Span Tail)
      more = spans_at s offset p labels ds w.at

      module _ (stack' : List Bracket) {f : Match Tail} {w' : Walk} {u : List ℕ} (y : Steps s offset p labels ds f w t w' u) (ef : scan_found g here ≡ f)
          (es : stack_by w.at (open_places w stack) (role (piece_from p w.at).kind) ≡ open_places w' stack') where
        next : scan_step g here ≡ scan_of stack' w' (o.xs ++ more f)
        unfolding scan_step
        next =
            ap
            (λ (x : Match Tail).
            (record {
              place = place_after g (piece_at g w.at) x;
              stack = stack_by w.at (open_places w stack) (role (piece_from p w.at).kind);
              last_link = last_after (last_place w.last) x;
              spans = o.xs ++ new_spans (piece_at g) (piece_at g w.at) x;
            }))
            ef
            ∙ scan_eq (o.xs ++ more f) (sym y.at) es (sym y.last)

        pub on_less : w.at < w'.at
        on_less = omega (arith, scan_grows g (sound p labels) here h, ap (λ (x : Scan Tail). x.place) next)

        on_within : w'.at ≤ length p
        on_within = omega (arith, scan_within g (sound p labels) here h, ap (λ (x : Scan Tail). x.place) next)

        -- ---- no more than the paragraph can have at the most
        alone_here : role (piece_from p w.at).kind ≡ nothing → f ≡ alone
        unfolding scan_found
        alone_here e = sym ef ∙ ap (found_by (λ a. sort_of (g.kind_at a)) (λ a. g.tail_at (g.end_at a) w.at) (last_place w.last) (open_places w stack)) e

        alone_open : role (piece_from p w.at).kind ≡ opening → f ≡ alone
        unfolding scan_found
        alone_open e = sym ef ∙ ap (found_by (λ a. sort_of (g.kind_at a)) (λ a. g.tail_at (g.end_at a) w.at) (last_place w.last) (open_places w stack)) e

        -- the piece gives no row
        no_row : f ≡ alone → is_code (piece_from p w.at).kind ≡ false → w'.row ≡ w.row
        no_row e c = let z : length (more f) ≡ 0 = rw (e, c) refl in omega (arith, y.row, z)

        one_row : w'.row ≤ w.row + 1
        one_row = omega (arith, y.row, few_spans (piece_at g) (piece_at g w.at) f)

        -- where the piece that starts here ends
        at_end : f ≡ alone → w'.at ≡ (piece_from p w.at).end
        at_end e = y.at ∙ ap (λ (x : Match Tail). place_after g (piece_at g w.at) x) e

        few_rows : f ≡ alone → CodeEnds p w.at (piece_from p w.at) → Few p w.at w.row w'.at w'.row
        few_rows e c =
            by (is_code (piece_from p w.at).kind) (λ q. rw (at_end e) (record { few_are = omega (arith, one_row, c q) }))
            (λ q. few_none p w.at on_less (no_row e q))

        module _ (waits : Waits s offset p (whole_rows t₀) w' stack') where
          open_before : length (open_places w stack) ≡ w.depth
          open_before = open_length s offset p (whole_rows t₀) w stack o.waits

          open_after : length (stack_by w.at (open_places w stack) (role (piece_from p w.at).kind)) ≡ w'.depth
          open_after = ap length es ∙ open_length s offset p (whole_rows t₀) w' stack' waits

          tail_length : (l : List ℕ) → length (tail l) ≡ length l - 1
          tail_length [] = omega arith
          tail_length (x ∷ l) = omega arith

          opened_here : Opening p w.at → w'.depth ≡ w.depth + 1
          opened_here e = let z = rw (opens_here p w.at e) at open_after in omega (arith, open_before)

          so_far_from : Begins p w.at → SoFar p k w'.at w'.row w'.depth
          so_far_from (mark a b c e) =
              let z = rw e at open_after in
              next_mark p k w.at w.row w.depth h o.so_far on_less (few_rows (alone_here e) c) a b (omega (arith, open_before))
          so_far_from (text a e) =
              let e' : role (piece_from p w.at).kind ≡ nothing = ap (λ (q : Piece). role q.kind) e in
              let z = rw e' at open_after in
              let n = no_row (alone_here e') (ap (λ (q : Piece). is_code q.kind) e) in
              let m : w'.at ≡ w.at + 1 = at_end (alone_here e') ∙ ap (λ (q : Piece). q.end) e in
              next_text p k w.at w.row w.depth h o.so_far on_less (few_none p w.at on_less n) a m (omega (arith, open_before))
          so_far_from (close e) =
              let z = rw (closes_here p w.at e) at open_after in
              next_close p k w.at w.row w.depth h o.so_far on_less (few_close p w.at on_less h e one_row) e (omega (arith, open_before, tail_length (open_places w stack)))
          so_far_from (link e) =
              let i : Opening p w.at = inl e in
              let r = opens_here p w.at i in
              let n = no_row (alone_open r) (ap (λ (q : Piece). is_code q.kind) (at_open p w.at e)) in
              let m : w'.at ≡ w.at + 1 = at_end (alone_open r) ∙ ap (λ (q : Piece). q.end) (at_open p w.at e) in
              next_open p k w.at w.row w.depth h o.so_far on_less (few_none p w.at on_less n) e m (opened_here i)
          so_far_from (image a b e) =
              let i : Opening p w.at = inr e in
              let r = opens_here p w.at i in
              let n = no_row (alone_open r) (ap (λ (q : Piece). is_code q.kind) (at_image p w.at e)) in
              let m : w'.at ≡ w.at + 2 = at_end (alone_open r) ∙ ap (λ (q : Piece). q.end) (at_image p w.at e) in
              next_image p k w.at w.row w.depth h o.so_far on_less (few_none p w.at on_less n) a (peek_inside p (w.at + 1) (λ q. omega arith)) b m (opened_here i)

          so_far_next : SoFar p k w'.at w'.row w'.depth
          so_far_next = so_far_from (begins p w.at)

        pub on_next : over_at depth_limit g here ≡ false → Waits s offset p (whole_rows t₀) w' stack' → Before s w'.line (offset + w.at) → On stack' w' u
        on_next eo waits b =
            let l : length (o.xs ++ more f) ≡ length o.xs + length (more f) = length-append o.xs (more f) in
            record {
              xs = o.xs ++ more f;
              same_end = ap (finish g) (sym next) ∙ sym (finish_step g (sound p labels) here h) ∙ o.same_end;
              same_over = ap (overs depth_limit g) (sym next) ∙ sym (overs_step depth_limit g (sound p labels) here h eo) ∙ o.same_over;
              row_is = omega (arith, y.row, o.row_is);
              table_is = table_more;
              few = omega (arith, o.few, few_spans (piece_at g) (piece_at g w.at) f, on_less);
              bounded = on_within;
              waits = waits;
              inside = o.inside;
              line_before = later b (omega (arith, on_less)) (omega (arith, on_within, o.inside));
              so_far = so_far_next waits;
            }
          where
            table_more : u ≡ stored_all s t₀ k (rows (o.xs ++ more f))
            table_more =
                let e : w.row ≡ k + length (rows o.xs) = rw (length-map o.xs (row_for offset p ds)) o.row_is in
                y.table ∙ rw (o.table_is, e, map-append (row_for offset p ds) o.xs (more f)) (stored_more s t₀ k (rows o.xs) (rows (more f)))
