-- One step past a piece, by what the piece comes to.
use Rattle.std.specs.Prelude.{Option as Found, Some}
use Prim.Native.Nat.{ℕ, ◌+◌, ◌<◌, ◌^◌}
use native.Mathlib.Omega.{arith}
use mathlib.Core.Path.{◌≡◌, refl, sym, ap, ◌∙◌, subst}
use mathlib.Core.Bool.{Bool, true, false, cond, not, ◌&&◌}
use mathlib.Core.Option.{Option, none, some}
use mathlib.Core.List.{List, [], ◌∷◌}
use borrow.Author.Tests.{lt-ltb}
use lib.Dec.{ltb}
use lib.ListN.{get_or}
use Rattle.marking.specs.Marking.{Kind, code, opens, Piece}
use Rattle.marking.specs.Spans as marked
use Rattle.marking.specs.Reading.{Match, alone, paired, taken, sort_of, barred, is_code, with_tail, piece_at, last_after}
use Rattle.line.specs.Line.{line_of}
use Rattle.line.specs.Promise.{line_if, Before}
use Rattle.line.specs.declared.Line.{Line}
use Rattle.line.proofs.Lines.{counted_on, number_there}
use Rattle.rows.specs.Rows
use Rattle.row.specs.declared.Definition.{Definition}
use Rattle.span.specs.declared.Span.{Span}
use Rattle.span.specs.Row.{whole_rows, stored_on, stored}
use Rattle.span.proofs.Put.{stored_line}
use Rattle.inline.specs.Tails.{Tail, length_of}
use Rattle.inline.specs.ReadingPieces.{piece, piece_from}
use Rattle.inline.specs.Reading.{grammar, tail_at}
use Rattle.inline.specs.ReadingRows.{row_for}
use Rattle.link.specs.Reading.{sort_by, pair_row}
use Rattle.step.specs.Promise.{last_place, Lined, fits, lined, Opening, is_image, open_end, spans_at, Steps, closing}
use Rattle.step.specs.declared.Walk.{Walk}
use Rattle.inline.proofs.Pieces.{at_close}
use Rattle.step.proofs.Openings.{Opens, at_opening}

-- whether a link lies between, and the last link afterwards, as the code tells them
barred_by : (b : Bool) (o last : ℕ) → barred (sort_by b) o last ≡ (not b && ltb o last)
barred_by true o last = refl
barred_by false o last = refl

last_by : (b : Bool) (o : ℕ) (last : Found ℕ) (t : Tail) → last_place (cond b last (Some o)) ≡ last_after (last_place last) (taken (sort_by b) o t)
last_by true o last t = refl
last_by false o last t = refl

abbrev code_spans : Piece → List (marked.Span Tail)
code_spans q = marked.code_span q ∷ []

module _ (s : List ℕ) (offset : ℕ) (p : List ℕ) (labels : List (List ℕ)) (ds : List Definition) (v : Walk) (t : List ℕ) where
  -- whatever number of brackets is open afterwards, and whatever line was asked for last
  abbrev Passed : Match Tail → ℕ → Found ℕ → ℕ → List ℕ → Type 0
  Passed f at last row u = (depth : ℕ) (line : Line) → Steps s offset p labels ds f v t (record { at = at; last = last; row = row; depth = depth; line = line }) u

  -- ---- a piece in no pair
  pub step_quiet : (q : Piece) → piece_from p v.at ≡ q → is_code q.kind ≡ false → Passed alone q.end v.last v.row t
  unfolding Rows.stored_all
  step_quiet q e k depth line =
      let z : spans_at s offset p labels ds v.at alone ≡ [] =
      ap (λ (x : Piece). cond (is_code x.kind) (code_spans (piece_at (grammar p labels) v.at)) []) e
      ∙ ap (λ (b : Bool). cond b (code_spans (piece_at (grammar p labels) v.at)) []) k in
      record { at = ap (λ (x : Piece). x.end) (sym e); last = refl; row = rw z (omega arith); table = rw z refl }

  -- nor is an opening piece in one yet
  pub step_opens : (n : ℕ) → Opens p v.at n → Passed alone n v.last v.row t
  step_opens n o =
      let k : Kind = opens (sort_by (is_image p v.at)) in
      step_quiet (piece k v.at n) (at_opening p v.at o.opening ∙ ap (piece k v.at) o.ends) refl

  pub step_code : (e : ℕ) → piece_from p v.at ≡ piece code v.at e → {r : Span} {u : List ℕ} → r ≡ row_for offset p ds (marked.code_span (piece code v.at e))
      → u ≡ stored s t v.row r → Passed alone e v.last (v.row + 1) u
  unfolding Rows.stored_all
  step_code e q er eu depth line =
      let z : spans_at s offset p labels ds v.at alone ≡ marked.code_span (piece code v.at e) ∷ [] =
      ap (λ (x : Piece). cond (is_code x.kind) (code_spans (piece x.kind v.at x.end)) []) q in
      record { at = ap (λ (x : Piece). x.end) (sym q); last = refl; row = rw z refl; table = rw (z, ← er) eu }

  -- ---- a `]`, with the `[` or `![` at place o
  module _ (o : ℕ) (ho : Opening p o) (hc : get_or p v.at 0 ≡ 93) where
    -- it is no image, and a link opened after it already
    abbrev held : Bool
    held = not (is_image p o) && ltb o (last_place v.last)

    abbrev tail_here : Option Tail
    tail_here = tail_at p labels (open_end p o) v.at

    abbrev closing_as : Piece → Match Tail
    closing_as q = cond (barred (sort_of q.kind) o (last_place v.last)) (paired o) (with_tail (sort_of q.kind) o (tail_at p labels q.end v.at))

    closing_by : (b : Bool) → held ≡ b → (x : Option Tail) → tail_here ≡ x → closing s offset p labels ds v o ≡ cond b (paired o) (with_tail (sort_by (is_image p o)) o x)
    closing_by b eb x ex =
        ap closing_as (at_opening p o ho)
        ∙ ap (λ (y : Bool). cond y (paired o) (with_tail (sort_by (is_image p o)) o tail_here)) (barred_by (is_image p o) o (last_place v.last) ∙ eb)
        ∙ ap (λ (y : Option Tail). cond b (paired o) (with_tail (sort_by (is_image p o)) o y)) ex

    paired_step : (f : Match Tail) → f ≡ paired o → Passed f (v.at + 1) v.last v.row t
    unfolding Rows.stored_all
    paired_step f e depth line =
        rw e (record { at = ap (λ (x : Piece). x.end) (sym (at_close p v.at hc)); last = refl; row = omega arith; table = refl })

    pub step_held : held ≡ true → Passed (closing s offset p labels ds v o) (v.at + 1) v.last v.row t
    step_held h = paired_step _ (closing_by true h _ refl)

    pub step_tailless : held ≡ false → none ≡ tail_here → Passed (closing s offset p labels ds v o) (v.at + 1) v.last v.row t
    step_tailless h e = paired_step _ (closing_by false h _ (sym e))

    taken_step : (f : Match Tail) (x : Tail) → f ≡ taken (sort_by (is_image p o)) o x → {n : ℕ} {last : Found ℕ} {r : Span} {u : List ℕ} → n ≡ length_of x → last ≡ cond (is_image p o) v.last (Some o)
        → r ≡ pair_row offset ds (is_image p o) o v.at x → u ≡ stored s t v.row r → Passed f (v.at + 1 + n) last (v.row + 1) u
    unfolding Rows.stored_all
    taken_step f x e en el er eu depth line =
        rw e
        (record {
          at = rw (at_close p v.at hc, en);
          last = ap last_place el ∙ last_by (is_image p o) o v.last x;
          row = refl;
          table = rw (at_close p v.at hc, at_opening p o ho, ← er) eu;
        })

    pub step_taken : held ≡ false → (x : Tail) → some x ≡ tail_here → {n : ℕ} {last : Found ℕ} {r : Span} {u : List ℕ} → n ≡ length_of x → last ≡ cond (is_image p o) v.last (Some o)
        → r ≡ pair_row offset ds (is_image p o) o v.at x → u ≡ stored s t v.row r → Passed (closing s offset p labels ds v o) (v.at + 1 + n) last (v.row + 1) u
    step_taken h x e = taken_step _ x (closing_by false h _ (sym e))

-- ---- lines
-- the row of a span whose line is known where it is stored
pub row_stored : (s : List ℕ) (t : List ℕ) (k : ℕ) {r x : Span} → r ≡ x → {line : ℕ} → (k < whole_rows t → line ≡ line_of s x.whole.start) → {u : List ℕ} → u ≡ stored_on line t k r → u ≡ stored s t k r
row_stored s t k {r} e f q = q ∙ stored_line s t k r (λ h. f h ∙ ap (λ (y : Span). line_of s y.whole.start) (sym e))

pub lined_by : (s : List ℕ) (offset : ℕ) (t : List ℕ) (w : Walk) {l : Line} → l ≡ line_if (fits t w) s w.line (offset + w.at)
    → record { at = w.at; last = w.last; row = w.row; depth = w.depth; line = l } ≡ lined s offset t w
lined_by s offset t w e = rw e refl

-- c is the walk v with the line of its place
module _ (s : List ℕ) (offset : ℕ) (t : List ℕ) (v : Walk) (l : Lined s offset v) {c : Walk} (ec : c ≡ lined s offset t v) where
  abbrev line_is : c.line ≡ line_if (fits t v) s v.line (offset + v.at)
  line_is = ap (λ (x : Walk). x.line) ec

  pub still_lined : Before s c.line (offset + v.at)
  still_lined = counted_on (fits t v) l.before line_is

  pub line_known : v.row < whole_rows t → c.line.number ≡ line_of s (offset + v.at)
  line_known h = number_there (fits t v) l.before line_is (lt-ltb v.row (whole_rows t) h)

  pub line_small : offset + v.at + 1 < 2 ^ 32 → c.line.number < 2 ^ 32
  line_small h = omega (arith, still_lined.few)

  pub step_counted : (p : List ℕ) (labels : List (List ℕ)) (ds : List Definition) (e : ℕ) → piece_from p v.at ≡ piece code v.at e → {r : Span} {u : List ℕ}
      → r ≡ row_for offset p ds (marked.code_span (piece code v.at e)) → u ≡ stored_on c.line.number t v.row r
      → Steps s offset p labels ds alone v t (record { at = e; last = c.last; row = v.row + 1; depth = c.depth; line = c.line }) u
  step_counted p labels ds e q {u = u} er eu =
      subst (λ (n : Found ℕ). Steps s offset p labels ds alone v t (record { at = e; last = n; row = v.row + 1; depth = c.depth; line = c.line }) u)
      (sym (ap (λ (x : Walk). x.last) ec)) (step_code s offset p labels ds v t e q er (row_stored s t v.row er line_known eu) c.depth c.line)
