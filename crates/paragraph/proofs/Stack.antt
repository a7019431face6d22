-- The places on the stack are those of the brackets that are open, past an opening piece and past a `]`.
use Prim.Native.Nat.{ℕ, ◌+◌, ◌-◌, ◌≤◌, ◌<◌, ◌^◌}
use native.Mathlib.Numerals.{add-one}
use native.Mathlib.Omega.{arith}
use native.Mathlib.Decide.{ℕ_discrete}
use mathlib.Core.Path.{◌≡◌, refl, sym, ap, ◌∙◌, subst}
use mathlib.Core.Option.{Option}
use mathlib.Core.List.{List, [], ◌∷◌, reverse, reverse-append, tail}
use lib.ListN.{length, get_or, take, set, length-set, length-take, length-reverse, length-map}
use lib.Seq.{take-suc, take-suc-set, get_or-set_same, get_or-set_other}
use Rattle.std.proofs.lemmas.List.{map-set, get_or-map}
use Rattle.line.specs.Line.{line_of}
use Rattle.line.specs.Promise.{Before}
use Rattle.line.specs.declared.Line.{Line}
use Rattle.note.specs.Note.{depth_limit}
use Rattle.marking.specs.Marking.{Sort, opening, closing, role, Piece}
use Rattle.marking.specs.Reading.{sort_of, found_by, found_closing, stack_by}
use Rattle.marking.specs.ReadingSpans.{scan_found, scan_step}
use Rattle.marking.proofs.Finish.{scan_grows}
use Rattle.row.specs.declared.Definition.{Definition}
use Rattle.span.specs.Row.{whole_rows}
use Rattle.inline.specs.Tails.{Tail}
use Rattle.inline.specs.ReadingPieces.{piece_from}
use Rattle.inline.specs.Reading.{grammar}
use Rattle.inline.proofs.Computing.{sound}
use Rattle.step.specs.Promise as walk
use Rattle.step.specs.Promise.{last_place, Lined, lined, Opening, open_end, LinedPair, Steps, Closes}
use Rattle.paragraph.specs.Promise.{bracket, places, lines, open_places, Waits, opened, pushed, Closing, Brackets, match_at}
use Rattle.step.specs.declared.Walk.{Walk}
use Rattle.paragraph.specs.declared.Bracket.{Bracket}
use Rattle.inline.proofs.Pieces.{at_close}
use Rattle.step.proofs.Openings.{Opens, at_opening, opening_onward}
use Rattle.step.proofs.Step.{step_opens, still_lined, line_known}

push : (st : List ℕ) (d a : ℕ) → d < length st → a ∷ reverse (take d st) ≡ reverse (take (d + 1) (set st d a))
push st d a h = rw (add-one d, take-suc-set st d a h, reverse-append)

pop : (st : List ℕ) (d : ℕ) → d < length st → reverse (take (d + 1) st) ≡ get_or st d 0 ∷ reverse (take d st)
pop st d h = rw (add-one d, take-suc st d 0 h, reverse-append)

length_places : (stack : List Bracket) → length (places stack) ≡ length stack
length_places stack = length-map stack (λ (b : Bracket). b.at)

length_lines : (stack : List Bracket) → length (lines stack) ≡ length stack
length_lines stack = length-map stack (λ (b : Bracket). b.line)

-- what a bracket on the stack says
pub place_on : (stack : List Bracket) (i : ℕ) (d : Bracket) → i < length stack → get_or (places stack) i 0 ≡ (get_or stack i d).at
place_on stack i d h = get_or-map (λ (b : Bracket). b.at) stack i d 0 h

pub line_on : (stack : List Bracket) (i : ℕ) (d : Bracket) → i < length stack → get_or (lines stack) i 0 ≡ (get_or stack i d).line
line_on stack i d h = get_or-map (λ (b : Bracket). b.line) stack i d 0 h

pub opens_here : (p : List ℕ) (at : ℕ) → Opening p at → role (piece_from p at).kind ≡ opening
opens_here p at e = ap (λ (x : Piece). role x.kind) (at_opening p at e)

pub closes_here : (p : List ℕ) (at : ℕ) → get_or p at 0 ≡ 93 → role (piece_from p at).kind ≡ closing
closes_here p at e = ap (λ (x : Piece). role x.kind) (at_close p at e)

module _ (s : List ℕ) (offset : ℕ) (p : List ℕ) (rows : ℕ) (w : Walk) (stack : List Bracket) (x : Waits s offset p rows w stack) where
  pub open_length : length (open_places w stack) ≡ w.depth
  open_length = length-reverse (take w.depth (places stack)) ∙ omega (arith, length-take w.depth (places stack), length_places stack, x.room, x.fits)

  -- further on, with no more of them open
  pub waits_later : (w' : Walk) → w'.depth ≤ w.depth → w.at ≤ w'.at → w.row ≤ w'.row → Waits s offset p rows w' stack
  waits_later w' d l m =
      record {
        room = x.room;
        fits = omega (arith, x.fits);
        each = λ i h. ((x.each i (omega arith)).0, omega (arith, (x.each i (omega arith)).1));
        lines_are = λ r i h. x.lines_are (omega arith) i (omega arith);
      }

pub opened_by : (s : List ℕ) (offset : ℕ) (t : List ℕ) (w : Walk) (n : ℕ) {c : Walk} → c ≡ lined s offset t w
    → record { at = n; last = c.last; row = c.row; depth = w.depth + 1; line = c.line } ≡ opened n (lined s offset t w)
opened_by s offset t w n e = rw e refl

-- ---- an opening piece
-- what stands on the stack with a place and a line on top
module _ (stack : List Bracket) (w : Walk) (n : ℕ) (d : w.depth < length stack) where
  abbrev stack' : List Bracket
  stack' = pushed stack w n

  places_now : places stack' ≡ set (places stack) w.depth w.at
  places_now = map-set (λ (b : Bracket). b.at) stack w.depth (bracket w.at n)

  lines_now : lines stack' ≡ set (lines stack) w.depth n
  lines_now = map-set (λ (b : Bracket). b.line) stack w.depth (bracket w.at n)

  at_top : get_or (places stack') w.depth 0 ≡ w.at
  at_top = ap (λ (l : List ℕ). get_or l w.depth 0) places_now ∙ get_or-set_same (places stack) w.depth w.at 0 (omega (arith, length_places stack))

  line_at_top : get_or (lines stack') w.depth 0 ≡ n
  line_at_top = ap (λ (l : List ℕ). get_or l w.depth 0) lines_now ∙ get_or-set_same (lines stack) w.depth n 0 (omega (arith, length_lines stack))

  below : (i : ℕ) → i < w.depth → get_or (places stack') i 0 ≡ get_or (places stack) i 0
  below i h = ap (λ (l : List ℕ). get_or l i 0) places_now ∙ get_or-set_other (places stack) w.depth i w.at 0 (λ q. omega arith)

  line_below : (i : ℕ) → i < w.depth → get_or (lines stack') i 0 ≡ get_or (lines stack) i 0
  line_below i h = ap (λ (l : List ℕ). get_or l i 0) lines_now ∙ get_or-set_other (lines stack) w.depth i n 0 (λ q. omega arith)

  push_on : w.at ∷ open_places w stack ≡ reverse (take (w.depth + 1) (places stack'))
  push_on = push (places stack) w.depth w.at (omega (arith, length_places stack)) ∙ ap (λ (l : List ℕ). reverse (take (w.depth + 1) l)) (sym places_now)

-- past it the line is that of its place, if it is asked for
module _ (s : List ℕ) (offset : ℕ) (p : List ℕ) (t : List ℕ) (w : Walk) (stack : List Bracket) (x : Waits s offset p (whole_rows t) w stack) (l : Lined s offset w)
    (n : ℕ) (e : Opens p w.at n) (d : w.depth < depth_limit) where
  abbrev c : Walk
  c = lined s offset t w

  abbrev new : List Bracket
  new = pushed stack w c.line.number

  on_stack : w.depth < length stack
  on_stack = omega (arith, x.room)

  each : (i : ℕ) → i < w.depth + 1 → Opening p (get_or (places new) i 0) × (open_end p (get_or (places new) i 0) ≤ n)
  each i h = cases (ℕ_discrete i w.depth)
    where
      cases : Dec (i ≡ w.depth) → Opening p (get_or (places new) i 0) × (open_end p (get_or (places new) i 0) ≤ n)
      cases (yes q) = rw (q, at_top stack w c.line.number on_stack) (e.opening, omega (arith, e.ends))
      cases (no q) = rw (below stack w c.line.number on_stack i (omega arith)) ((x.each i (omega arith)).0, omega (arith, (x.each i (omega arith)).1, opening_onward p w.at e))

  lines_are : w.row < whole_rows t → (i : ℕ) → i < w.depth + 1 → get_or (lines new) i 0 ≡ line_of s (offset + get_or (places new) i 0)
  lines_are r i h = cases (ℕ_discrete i w.depth)
    where
      cases : Dec (i ≡ w.depth) → get_or (lines new) i 0 ≡ line_of s (offset + get_or (places new) i 0)
      cases (yes q) = rw (q, line_at_top stack w c.line.number on_stack, at_top stack w c.line.number on_stack) (line_known s offset t w l refl r)
      cases (no q) =
          rw (line_below stack w c.line.number on_stack i (omega arith), below stack w c.line.number on_stack i (omega arith)) (x.lines_are r i (omega arith))

  pub bracket_opens : (labels : List (List ℕ)) (ds : List Definition) → Brackets s offset p labels ds w stack t (opened n c) new t
  bracket_opens labels ds =
      record {
        steps = rw (opens_here p w.at e.opening) (step_opens s offset p labels ds w t n e _ _);
        still_open = sym (ap (stack_by w.at (open_places w stack)) (opens_here p w.at e.opening) ∙ push_on stack w c.line.number on_stack);
        waits = record {
          room = omega (arith, length-set stack w.depth (bracket w.at c.line.number), x.room);
          fits = omega arith;
          each = each;
          lines_are = lines_are;
        };
        counted = still_lined s offset t w l refl;
      }

-- ---- a `]` with the innermost bracket that is open
module _ (s : List ℕ) (offset : ℕ) (p : List ℕ) (t : List ℕ) (w : Walk) (stack : List Bracket) (x : Waits s offset p (whole_rows t) w stack) (c : Closing p w) where
  abbrev inner : ℕ
  inner = w.depth - 1

  abbrev top : ℕ
  top = get_or (places stack) inner 0

  pub inner_inside : inner < length stack
  inner_inside = omega (arith, c.some_open, x.fits, x.room)

  pub pair_on_top : {o line : ℕ} → top ≡ o → get_or (lines stack) inner 0 ≡ line → line < 2 ^ 32 → LinedPair s offset p t w o line
  pair_on_top eo el small =
      let l : inner < w.depth = omega (arith, c.some_open) in
      let m = x.each inner l in
      rw (← eo, ← el) (record {
        pair = record { open_at = m.0; text = record { close_at = c.close_at; ordered = m.1; inside = c.inside } };
        some_open = c.some_open;
        small = omega arith;
        is_line = λ r. x.lines_are r inner l;
      })

  on_top : open_places w stack ≡ top ∷ reverse (take inner (places stack))
  on_top =
      let e : w.depth ≡ inner + 1 = omega (arith, c.some_open) in
      ap (λ (n : ℕ). reverse (take n (places stack))) e ∙ pop (places stack) inner (omega (arith, inner_inside, length_places stack))

  module _ (labels : List (List ℕ)) (ds : List Definition) where
    step_grows : {u : List ℕ} {w' : Walk} → Steps s offset p labels ds (match_at s offset p labels ds w (open_places w stack)) w t w' u → w.at < w'.at
    unfolding scan_step scan_found
    step_grows m = omega (arith, m.at, scan_grows (grammar p labels) (sound p labels) (record { place = w.at; stack = open_places w stack; last_link = last_place w.last; spans = [] }) c.inside)

    abbrev sort_here : ℕ → Sort
    sort_here a = sort_of ((grammar p labels).kind_at a)

    abbrev tail_here : ℕ → Option Tail
    tail_here a = (grammar p labels).tail_at ((grammar p labels).end_at a) w.at

    pairs : match_at s offset p labels ds w (open_places w stack) ≡ walk.closing s offset p labels ds w top
    pairs =
        ap (found_by sort_here tail_here (last_place w.last) (open_places w stack)) (closes_here p w.at c.close_at) ∙ ap (found_closing sort_here tail_here (last_place w.last)) on_top

    pub bracket_closes : Lined s offset w → {o : ℕ} → top ≡ o → {u : List ℕ} {w' : Walk} → Closes s offset p labels ds o w t w' u → Brackets s offset p labels ds w stack t w' stack u
    bracket_closes l eo {u} {w'} r =
        let q : Closes s offset p labels ds top w t w' u = rw eo r in
        let m : Steps s offset p labels ds (match_at s offset p labels ds w (open_places w stack)) w t w' u = rw pairs q.0 in
        record {
          steps = m;
          still_open = sym (ap (stack_by w.at (open_places w stack)) (closes_here p w.at c.close_at) ∙ ap tail on_top ∙ ap (λ (n : ℕ). reverse (take n (places stack))) (sym q.1));
          waits = waits_later s offset p (whole_rows t) w stack x w' (omega (arith, q.1)) (omega (arith, step_grows m)) (omega (arith, m.row));
          counted = subst (λ (n : Line). Before s n (offset + w.at)) (sym q.2) l.before;
        }
