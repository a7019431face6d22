-- Where the spans of a marking stand: within the paragraph, the text within the span, the destination and title of an inline link or image within its tail.
use Rattle.std.specs.Prelude.{None, Option as Found, Some}
use Prim.Native.Nat.{ℕ, zero, suc, ◌+◌, ◌-◌, ◌≤◌}
use native.Mathlib.Omega.{arith}
use mathlib.Core.Path.{◌≡◌, refl, sym, ap, ◌∙◌}
use mathlib.Core.Option.{Option, some-injective, none-ne-some}
use mathlib.Core.List.{List, [], ◌∷◌}
use lib.ListN.{length, drop}
use Rattle.scan.specs.Reading.{run}
use Rattle.scan.proofs.Every.{run_iff}
use Rattle.marking.specs.Marking.{Sort, code, closing, role, Piece, Marking, At, Tiles, Paired, tail_piece, HasTail, Meets}
use Rattle.marking.specs.Spans.{Span, code_span, pair_span, SpanOf, CodeOf, TakenOf}
use Rattle.marking.proofs.Roles.{nothing≢trailing, closing≢trailing}
use Rattle.marking.proofs.Tiles.{tiles_order}
use Rattle.marking.proofs.Pairs.{taken_are, taken_pair}
use Rattle.row.specs.declared.Definition.{Definition}
use Rattle.row.specs.declared.Range.{Range}
use Rattle.row.specs.Row.{range}
use Rattle.inline.specs.Pieces.{backtick, Backticks, MaximalBackticks, Starts, an_escape, a_code_span, backticks, opening, image_opening, closing as closes, other}
use Rattle.inline.proofs.PieceBounds.{sized}
use Rattle.inline.specs.Tails.{Tail, inline, length_of, InlineFollows, empty, untitled, titled, TailOf, first, second, third, third_alone}
use Rattle.inline.specs.ReadingTails.{moved}
use Rattle.inline.proofs.TailBounds.{PartIn, inline_of_within}
use Rattle.inline.specs.Paragraph.{rules}
use Rattle.inline.specs.Rows.{whole_of, target_of}
use Rattle.inline.specs.Claims.{PartBetween}
use Rattle.inline.specs.ReadingRows.{text_of}
use Rattle.inline.proofs.Starting.{starts_iff}
use Rattle.inline.proofs.InlineComplete.{ReadAs, inline_read}

-- ---- pieces
tiles_up : (a b : ℕ) (ps : List Piece) → Tiles a ps b → a ≤ b
tiles_up a b [] t = omega arith
tiles_up a b (x ∷ ps) t = omega (arith, t.0, t.1, tiles_up x.end b ps t.2)

piece_within : (a b : ℕ) (ps : List Piece) (k : ℕ) (q : Piece) → Tiles a ps b → At ps k q → (a ≤ q.start) × (q.start ≤ q.end) × (q.end ≤ b)
piece_within a b [] k q t h = absurd (none-ne-some q h)
piece_within a b (x ∷ ps) zero q t h = rw (← some-injective x q h) (omega (arith, t.0), t.1, tiles_up x.end b ps t.2)
piece_within a b (x ∷ ps) (suc k) q t h = let i = piece_within x.end b ps k q t.2 h in (omega (arith, t.0, t.1, i.0), i.1, i.2)

-- ---- spans
-- "For a code span the text lies between the backtick strings"
pub record BetweenStrings (p : List ℕ) (q : Piece) : Type 0 where
  pub count : ℕ
  pub opening_string : Backticks p q.start count
  pub text_is : text_of p (code_span q) ≡ range (q.start + count) (q.end - count)
  pub closing_string : MaximalBackticks p (q.end - count) count
  pub apart : q.start + count + count ≤ q.end

between_strings : (p : List ℕ) {q : Piece} → Starts p q → q.kind ≡ code → BetweenStrings p q
between_strings p (a_code_span {a} {n} {b} r f) k =
    let e : run backtick (drop a p) ≡ n = (run_iff backtick (drop a p) n).1 r.run in
    let z : b ≡ b + n - n = omega arith in
    record { count = n; opening_string = r; text_is = rw e; closing_string = rw (← z) f.run; apart = omega (arith, f.later) }
between_strings p (an_escape e) k = cc
between_strings p (backticks r f) k = cc
between_strings p (opening e) k = cc
between_strings p (image_opening e) k = cc
between_strings p (closes e) k = cc
between_strings p (other h e i m) k = cc

pub record SpanWithin (p : List ℕ) (x : Span Tail) : Type 0 where
  pub text_from : (whole_of x).start ≤ (text_of p x).start
  pub text_ordered : (text_of p x).start ≤ (text_of p x).end
  pub text_to : (text_of p x).end ≤ (whole_of x).end
  pub to : (whole_of x).end ≤ length p

module _ (p : List ℕ) (labels : List (List ℕ)) (m : Marking Tail) (c : Meets (rules p labels) m) where
  pub code_text : (q : Piece) → CodeOf m q → BetweenStrings p q
  code_text q x = between_strings p (c.kinds x.index q x.at (λ t. nothing≢trailing (ap role (sym x.kind_is_code) ∙ t))) x.kind_is_code

  code_within : (q : Piece) → CodeOf m q → SpanWithin p (code_span q)
  code_within q x =
      let w = piece_within 0 (length p) m.pieces x.index q c.tiled x.at in
      let b = code_text q x in
      let e : run backtick (drop q.start p) ≡ b.count = (run_iff backtick (drop q.start p) b.count).1 b.opening_string.run in
      record { text_from = omega arith; text_ordered = omega (arith, b.apart); text_to = omega arith; to = w.2 }

  pair_within : (x : Sort) (o d : Piece) (t : Tail) → TakenOf m x o d t → SpanWithin p (pair_span x o d t)
  pair_within x o d t l =
      let pair : Paired m.pieces l.from l.to = taken_pair c x l.from l.to t l.taken in
      let w = tiles_order 0 (length p) m.pieces l.from l.to o d c.tiled l.open_at l.close_at pair.before in
      let v = piece_within 0 (length p) m.pieces l.to d c.tiled l.close_at in
      let tail_at : At m.pieces (suc l.to) (tail_piece d (length_of t)) = c.tails x l.from l.to t d l.taken l.close_at in
      let u = piece_within 0 (length p) m.pieces (suc l.to) (tail_piece d (length_of t)) c.tiled tail_at in
      record { text_from = omega (arith, w.0); text_ordered = w.1; text_to = omega arith; to = u.2 }

  pub span_within : (x : Span Tail) → SpanOf m x → SpanWithin p x
  span_within (code_span q) s = code_within q s
  span_within (pair_span x o d t) s = pair_within x o d t s

-- ---- the destination and the title of an inline link or image
moved_between : (at n : ℕ) (r : Found Range) → PartIn r n → PartBetween at (at + n) (moved at r)
moved_between at n (Some r) i = (omega arith, omega (arith, i.ordered), omega (arith, i.inside))
moved_between at n None i = tt

read_between : (s : List ℕ) (at n : ℕ) (d t : Option Range) → ReadAs s at (inline n d t) → PartBetween at (at + n) d × PartBetween at (at + n) t
read_between s at n d t r =
    let q = r.found in
    let w = inline_of_within s q r.reads in
    let en : q.size ≡ n = sized_as r.is in
    let ed : moved at q.destination ≡ d = first_as r.is in
    let et : moved at q.title ≡ t = second_as r.is in
    rw (← en, ← ed, ← et) (moved_between at q.size q.destination w.destination, moved_between at q.size q.title w.title)
  where
    sized_as : {n m : ℕ} {d e t u : Option Range} → inline n d t ≡ inline m e u → n ≡ m
    sized_as e = cc

    first_as : {n m : ℕ} {d e t u : Option Range} → inline n d t ≡ inline m e u → d ≡ e
    first_as e = cc

    second_as : {n m : ℕ} {d e t u : Option Range} → inline n d t ≡ inline m e u → t ≡ u
    second_as e = cc

-- only the first rule gives an inline tail
inline_only : {labels : List (List ℕ)} {text s : List ℕ} {at : ℕ} {x : Tail} → TailOf labels text s at x → {n : ℕ} {d t : Option Range} → x ≡ inline n d t → InlineFollows s at x
inline_only (first i) e = i
inline_only (second l a b f) e = cc
inline_only (third a b l f k) e = cc
inline_only (third_alone a b l f k) e = cc

module _ (p : List ℕ) (labels : List (List ℕ)) (m : Marking Tail) (c : Meets (rules p labels) m) where
  -- a closing piece is one byte
  close_end : (x : Piece) (j : ℕ) → At m.pieces j x → role x.kind ≡ closing → x.end ≡ x.start + 1
  close_end x j a k =
      let f = (starts_iff p x).0 (c.kinds j x a (λ t. closing≢trailing (sym k ∙ t))) in
      ap (λ (y : Piece). y.end) (sym f.from) ∙ (sized p x.start f.inside).one_byte (ap (λ (y : Piece). role y.kind) f.from ∙ k)

  -- they lie within its tail
  pub inline_parts_within : (x : Sort) (o q : Piece) (n : ℕ) (d t : Option Range) → TakenOf m x o q (inline n d t)
      → PartBetween q.end (q.end + n) d × PartBetween q.end (q.end + n) t
  inline_parts_within x o q n d t l =
      let k : HasTail (rules p labels) x m.pieces l.from l.to (inline n d t) = ((taken_are c x l.from l.to (inline n d t)).0 l.taken).has_tail in
      let pair : Paired m.pieces l.from l.to = taken_pair c x l.from l.to (inline n d t) l.taken in
      let eq : pair.closed.piece ≡ q = some-injective pair.closed.piece q (sym pair.closed.at ∙ l.close_at) in
      let ek : k.close_piece ≡ q = some-injective k.close_piece q (sym k.close_at ∙ l.close_at) in
      let end : q.end ≡ q.start + 1 = close_end q l.to l.close_at (ap (λ (y : Piece). role y.kind) (sym eq) ∙ pair.closed.as_role) in
      let r : ReadAs (drop (k.close_piece.start + 1) p) (k.close_piece.start + 1) (inline n d t) = inline_read _ _ (inline_only k.reads refl) in
      rw (end, ← ek) (read_between (drop (k.close_piece.start + 1) p) (k.close_piece.start + 1) n d t r)

-- ---- the definition of a reference
tail_defined : {labels : List (List ℕ)} {text s : List ℕ} {at : ℕ} {t : Tail} (offset : ℕ) (ds : List Definition) (x : Sort) (o q : Piece) → TailOf labels text s at t
    → (target_of offset ds (pair_span x o q t)).number ≤ length labels
tail_defined offset ds x o q (first (empty b r i j)) = omega arith
tail_defined offset ds x o q (first (untitled b c m r n i j k)) = omega arith
tail_defined offset ds x o q (first (titled b c m u c' a r n i j k l y)) = omega arith
tail_defined offset ds x o q (second l a b f) = omega (arith, f.within)
tail_defined offset ds x o q (third a b l f k) = omega (arith, f.within)
tail_defined offset ds x o q (third_alone a b l f k) = omega (arith, f.within)

-- there is a definition of the number that a row gives
pub number_defined : (p : List ℕ) (labels : List (List ℕ)) (m : Marking Tail) → Meets (rules p labels) m → (offset : ℕ) (ds : List Definition) (x : Span Tail) → SpanOf m x
    → (target_of offset ds x).number ≤ length labels
number_defined p labels m c offset ds (code_span q) s = omega arith
number_defined p labels m c offset ds (pair_span x o q t) l = tail_defined offset ds x o q ((taken_are c x l.from l.to t).0 l.taken).has_tail.reads
