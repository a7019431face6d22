-- A link, an image or a code span in the marking of a paragraph: it is not empty, its closing bracket is one byte, and its tail is that of the rules.
use Prim.Native.Nat.{ℕ, suc, ◌+◌, ◌-◌, ◌≤◌, ◌<◌}
use native.Mathlib.Omega.{arith}
use mathlib.Core.Path.{◌≡◌, refl, sym, ap, ◌∙◌, subst}
use mathlib.Core.Option.{some, some-injective}
use mathlib.Core.List.{List}
use lib.ListN.{length, get_or, take, drop, get_elem?}
use Rattle.marking.specs.Marking.{Sort, opens, role, Role, Piece, Marking, Plays, Paired, HasTail, Meets}
use Rattle.marking.specs.Marking as roles
use Rattle.scan.specs.Member.{In}
use Rattle.marking.specs.Spans.{Span, code_span, pair_span, SpanOf, CodeOf, TakenOf}
use Rattle.marking.specs.ReadingSpans.{spans}
use Rattle.marking.proofs.Roles.{nothing≢opening, nothing≢closing, nothing≢trailing, opening≢closing, opening≢trailing, closing≢opening, closing≢trailing}
use Rattle.marking.proofs.Pairs.{taken_are, taken_pair}
use Rattle.row.specs.declared.Definition.{Definition}
use Rattle.inline.specs.Pieces.{Starts, an_escape, a_code_span, backticks, opening, image_opening, closing, other}
use Rattle.inline.specs.Tails.{Tail, TailOf}
use Rattle.inline.specs.Paragraph.{rules}
use Rattle.inline.specs.Reading.{grammar}
use Rattle.inline.specs.Rows.{row_end}
use Rattle.inline.specs.Claims.{RowWithin}
use Rattle.inline.specs.ReadingRows.{span_row, span_rows}
use Rattle.inline.proofs.Demand3.{the_marking, the_marking_meets, its_spans_are_read}
use Rattle.inline.proofs.Pieces.{image_bytes}
use Rattle.inline.proofs.SpanRows.{row_within}
use Rattle.note.proofs.Members.{in_mapped}

-- ---- pieces
some_bytes : {p : List ℕ} {q : Piece} → Starts p q → q.start < q.end
some_bytes (an_escape e) = omega arith
some_bytes (a_code_span r f) = omega (arith, r.nonempty, f.later)
some_bytes (backticks r f) = omega (arith, r.nonempty)
some_bytes (opening e) = omega arith
some_bytes (image_opening e) = omega arith
some_bytes (closing e) = omega arith
some_bytes (other h e i m) = omega arith

one_byte : {p : List ℕ} {q : Piece} → Starts p q → role q.kind ≡ roles.closing → q.end ≡ q.start + 1
one_byte (an_escape e) r = absurd (nothing≢closing r)
one_byte (a_code_span t f) r = absurd (nothing≢closing r)
one_byte (backticks t f) r = absurd (nothing≢closing r)
one_byte (opening e) r = absurd (opening≢closing r)
one_byte (image_opening e) r = absurd (opening≢closing r)
one_byte (closing e) r = refl
one_byte (other h e i m) r = absurd (nothing≢closing r)

-- the last byte of an opening piece is its `[`
pub bracket_byte : {p : List ℕ} {q : Piece} → Starts p q → role q.kind ≡ roles.opening → (i : ℕ) → q.end ≡ suc i → get_or p i 0 ≡ 91
bracket_byte (an_escape e) r i h = absurd (nothing≢opening r)
bracket_byte (a_code_span t f) r i h = absurd (nothing≢opening r)
bracket_byte (backticks t f) r i h = absurd (nothing≢opening r)
bracket_byte {p} (opening {a} e) r i h = let z : i ≡ a = omega arith in ap (λ (k : ℕ). get_or p k 0) z ∙ e
bracket_byte {p} (image_opening {a} e) r i h = let z : i ≡ a + 1 = omega arith in ap (λ (k : ℕ). get_or p k 0) z ∙ (image_bytes p a e).1
bracket_byte (closing e) r i h = absurd (closing≢opening r)
bracket_byte (other l e n m) r i h = absurd (nothing≢opening r)

-- ---- spans
-- what the conditions say of a link, or of an image
pub record LinkRead (p : List ℕ) (ls : List (List ℕ)) (x : Sort) (o d : Piece) (t : Tail) : Type 0 where
  pub of_sort : o.kind ≡ opens x
  pub some_bracket : o.start < o.end
  pub one_bracket : d.end ≡ d.start + 1
  pub reads : TailOf ls (take (d.start - o.end) (drop o.end p)) (drop (d.start + 1) p) (d.start + 1) t

module _ (p : List ℕ) (ls : List (List ℕ)) (m : Marking Tail) (c : Meets (rules p ls) m) where
  plays_as : {r : Role} (k : ℕ) (q : Piece) → get_elem? m.pieces k ≡ some q → Plays r m.pieces k → role q.kind ≡ r
  plays_as k q e a = ap (λ (x : Piece). role x.kind) (some-injective q a.piece (sym e ∙ a.at)) ∙ a.as_role

  pub link_read : (x : Sort) (o d : Piece) (t : Tail) → TakenOf m x o d t → LinkRead p ls x o d t
  link_read x o d t l =
      let pair : Paired m.pieces l.from l.to = taken_pair c x l.from l.to t l.taken in
      let h : HasTail (rules p ls) x m.pieces l.from l.to t = ((taken_are c x l.from l.to t).0 l.taken).has_tail in
      let ro = plays_as l.from o l.open_at pair.opened in
      let rd = plays_as l.to d l.close_at pair.closed in
      let eo : h.open_piece ≡ o = some-injective h.open_piece o (sym h.open_at ∙ l.open_at) in
      let ed : h.close_piece ≡ d = some-injective h.close_piece d (sym h.close_at ∙ l.close_at) in
      record {
        of_sort = ap (λ (y : Piece). y.kind) (sym eo) ∙ h.of_sort;
        some_bracket = some_bytes (c.kinds l.from o l.open_at (λ e. opening≢trailing (sym ro ∙ e)));
        one_bracket = one_byte (c.kinds l.to d l.close_at (λ e. closing≢trailing (sym rd ∙ e))) rd;
        reads = subst (λ (y : Piece). (rules p ls).TailAt o.end y.start t) ed (subst (λ (y : Piece). (rules p ls).TailAt y.end h.close_piece.start t) eo h.reads);
      }

  pub code_some : (q : Piece) → CodeOf m q → q.start < q.end
  code_some q x = some_bytes (c.kinds x.index q x.at (λ e. nothing≢trailing (ap role (sym x.kind_is_code) ∙ e)))

-- ---- rows
module _ (s : List ℕ) (at : ℕ) (p : List ℕ) (ls : List (List ℕ)) (ds : List Definition) where
  row_some : (x : Span Tail) → SpanOf (the_marking p ls) x → RowWithin at (length p) (span_row s at p ds x) → at < row_end (span_row s at p ds x)
  row_some (code_span q) o w = omega (arith, code_some p ls (the_marking p ls) (the_marking_meets p ls) q o)
  row_some (pair_span x o d t) l w =
      omega (arith, (link_read p ls (the_marking p ls) (the_marking_meets p ls) x o d t l).some_bracket, w.text_ordered, w.text_to)

  -- every row of a paragraph ends after the paragraph's start, and not after its end
  pub row_ends : (row : List ℕ) → In row (span_rows s at p ls ds) → (at < row_end row) × (row_end row ≤ at + length p)
  row_ends row (k, e) =
      let w = row_within s at p ls ds k row e in
      let f = in_mapped (span_row s at p ds) (spans (grammar p ls)) row (k, e) in
      let o = (its_spans_are_read p ls (the_marking p ls) (the_marking_meets p ls)).no_others f.from f.there in
      (subst (λ (r : List ℕ). at < row_end r) f.is (row_some f.from o (subst (RowWithin at (length p)) (sym f.is) w)), w.to)
