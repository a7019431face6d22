-- A paragraph of openings alone, of either sort: none of them is in a pair, so there is no span, and the first too many is the one at the limit.
use Prim.Native.Nat.{ℕ, zero, suc, ◌+◌, ◌-◌, ◌≤◌, ◌<◌}
use native.Mathlib.Nat.{add-zero}
use native.Mathlib.Omega.{arith}
use mathlib.Core.Path.{◌≡◌, refl, sym, ap, ◌∙◌}
use mathlib.Core.Bool.{cond}
use mathlib.Core.Option.{Option, none, some}
use mathlib.Core.List.{List, [], ◌∷◌, ◌++◌, map, append_assoc}
use borrow.Author.Tests.{lt-ltb, le-ltb, lt-leb, le-leb, ltb-true, ltb-false}
use lib.Dec.{ltb}
use lib.ListN.{length, get_or, take, drop, replicate, length-append, length-drop, length-replicate}
use lib.Seq.{get_or-drop, drop_at, take_at}
use Rattle.scan.proofs.Test.{by}
use Rattle.block.specs.Block.{Placed}
use Rattle.row.specs.declared.Definition.{Definition}
use Rattle.marking.specs.Marking.{Sort, link, image, Piece, opens}
use Rattle.marking.specs.Spans.{Span}
use Rattle.marking.specs.ReadingRules.{Grammar}
use Rattle.marking.specs.ReadingSpans.{Scan, scan_found, scan_step, finish, scan_start, spans, overs, over}
use Rattle.marking.proofs.Finish.{finish_step, finish_end, overs_step, overs_deep, overs_end}
use Rattle.inline.specs.Pieces.{image_opens}
use Rattle.inline.specs.Tails.{Tail}
use Rattle.inline.specs.ReadingPieces.{piece, piece_from}
use Rattle.inline.specs.Reading.{grammar}
use Rattle.inline.specs.ReadingRows.{span_row}
use Rattle.inline.proofs.Computing.{sound}
use Rattle.inline.proofs.Pieces.{at_open, at_image}
use Rattle.note.specs.Note.{depth_limit}
use Rattle.note.specs.Reading.{rows_in, place_or, deep_in}
use Rattle.note.specs.Samples.{brackets, openings, opener, openers, opened}

-- ---- their bytes
openers_join : (xs ys : List Sort) → openers (xs ++ ys) ≡ openers xs ++ openers ys
openers_join [] ys = refl
openers_join (x ∷ xs) ys = ap (λ (l : List ℕ). opener x ++ l) (openers_join xs ys) ∙ sym (append_assoc (opener x) (openers xs) (openers ys))

some_bytes : (x : Sort) → 0 < length (opener x)
some_bytes link = omega arith
some_bytes image = omega arith

one_longer : (xs : List Sort) (x : Sort) → length (openers (xs ++ x ∷ [])) ≡ length (openers xs) + length (opener x)
one_longer xs x =
    omega (arith, ap length (openers_join xs (x ∷ [])), length-append (openers xs) (opener x ++ []), length-append (opener x) [])

opening_at : (x : Sort) (p : List ℕ) (a : ℕ) (rest : List ℕ) → drop a p ≡ opener x ++ rest → piece_from p a ≡ piece (opens x) a (a + length (opener x))
opening_at link p a rest e = at_open p a (sym (get_or-drop a p 0 0 ∙ ap (λ (k : ℕ). get_or p k 0) (add-zero a)) ∙ ap (λ (l : List ℕ). get_or l 0 0) e)
opening_at image p a rest e = at_image p a (ap image_opens e)

-- where the bracket of the first too many stands
abbrev pub over_in : ℕ → List Sort → Option ℕ
over_in limit xs = cond (ltb limit (length xs)) (some (length (openers (take (suc limit) xs)) - 1)) none

module _ (xs : List Sort) (labels : List (List ℕ)) where
  abbrev g : Grammar Tail
  g = grammar (openers xs) labels

  -- the first of them are passed
  record Passed (before : List Sort) (s : Scan Tail) : Type 0 where
    place_is : s.place ≡ length (openers before)
    waiting : length s.stack ≡ length before
    no_span : s.spans ≡ []

  starts : Passed [] scan_start
  unfolding scan_start
  starts = record { place_is = refl; waiting = refl; no_span = refl }

  module _ (before : List Sort) (x : Sort) (after : List Sort) (e : before ++ x ∷ after ≡ xs) (s : Scan Tail) (q : Passed before s) where
    rest_is : drop s.place (openers xs) ≡ opener x ++ openers after
    rest_is =
        ap (λ (ys : List Sort). drop s.place (openers ys)) (sym e)
        ∙ ap (drop s.place) (openers_join before (x ∷ after))
        ∙ drop_at (openers before) (openers (x ∷ after)) s.place (sym q.place_is)

    here : piece_from (openers xs) s.place ≡ piece (opens x) s.place (s.place + length (opener x))
    here = opening_at x (openers xs) s.place (openers after) rest_is

    next : Passed (before ++ x ∷ []) (scan_step g s)
    unfolding scan_step scan_found
    next =
        record {
          place_is = rw here (omega (arith, q.place_is, one_longer before x));
          waiting = rw here (omega (arith, q.waiting, length-append before (x ∷ [])));
          no_span = rw (here, q.no_span);
        }

    inside : s.place < g.size
    inside = omega (arith, ap length rest_is, length-drop s.place (openers xs), length-append (opener x) (openers after), some_bytes x)

    step_over : (limit : ℕ) → length before < limit → overs limit g s ≡ overs limit g (scan_step g s)
    step_over limit l = overs_step limit g (sound (openers xs) labels) s inside (rw here (lt-leb limit (length s.stack) (omega (arith, q.waiting))))

    deep_here : (limit : ℕ) → length before ≡ limit → overs limit g s ≡ over_in limit xs
    deep_here limit l =
        overs_deep limit g s inside (rw here (le-leb limit (length s.stack) (omega (arith, q.waiting))))
        ∙ ap {B = Option ℕ} some (ap (λ (z : Piece). z.end - 1) here ∙ place)
        ∙ ap (λ (ys : List Sort). some (length (openers ys) - 1)) (sym taken)
        ∙ sym (rw (lt-ltb limit (length xs) more))
      where
        place : s.place + length (opener x) - 1 ≡ length (openers (before ++ x ∷ [])) - 1
        place = omega (arith, q.place_is, one_longer before x)

        taken : take (suc limit) xs ≡ before ++ x ∷ []
        taken =
            ap (take (suc limit)) (sym e ∙ sym (append_assoc before (x ∷ []) after))
            ∙ take_at (before ++ x ∷ []) after (suc limit) (omega (arith, length-append before (x ∷ [])))

        more : limit < length xs
        more = omega (arith, ap length e, length-append before (x ∷ after))

  ended : (before : List Sort) (s : Scan Tail) → before ++ [] ≡ xs → Passed before s → g.size ≤ s.place
  ended before s e q = omega (arith, q.place_is, ap (λ (ys : List Sort). length (openers ys)) e, ap length (openers_join before []), length-append (openers before) [])

  over_from : (limit : ℕ) (after before : List Sort) (s : Scan Tail) → before ++ after ≡ xs → length before ≤ limit → Passed before s → overs limit g s ≡ over_in limit xs
  over_from limit [] before s e l q =
      let n : length before ≡ length xs = omega (arith, ap length e, length-append before []) in
      overs_end limit g s (ended before s e q) ∙ sym (rw (le-ltb limit (length xs) (omega arith)))
  over_from limit (x ∷ after) before s e l q =
      by (ltb (length before) limit)
      (λ b.
      let c = ltb-true (length before) limit b in
      step_over before x after e s q limit c
      ∙ over_from limit after (before ++ x ∷ []) (scan_step g s) (append_assoc before (x ∷ []) after ∙ e) (omega (arith, length-append before (x ∷ []))) (next before x after e s q))
      (λ b. deep_here before x after e s q limit (omega (arith, ltb-false (length before) limit b)))

  spans_from : (after before : List Sort) (s : Scan Tail) → before ++ after ≡ xs → Passed before s → (finish g s).spans ≡ []
  spans_from [] before s e q = ap (λ (x : Scan Tail). x.spans) (finish_end g s (ended before s e q)) ∙ q.no_span
  spans_from (x ∷ after) before s e q =
      ap (λ (z : Scan Tail). z.spans) (finish_step g (sound (openers xs) labels) s (inside before x after e s q))
      ∙ spans_from after (before ++ x ∷ []) (scan_step g s) (append_assoc before (x ∷ []) after ∙ e) (next before x after e s q)

  over_openers : (limit : ℕ) → over limit g ≡ over_in limit xs
  unfolding over
  over_openers limit = over_from limit xs [] scan_start refl (omega arith) starts

  no_spans : spans g ≡ []
  unfolding spans
  no_spans = spans_from xs [] scan_start refl starts

module _ (labels : List (List ℕ)) (at : ℕ) (ps : List Placed) where
  pub deep_opened : (xs : List Sort) → deep_in labels (opened at xs ∷ ps) ≡ place_or at (over_in depth_limit xs) (deep_in labels ps)
  unfolding deep_in
  deep_opened xs = ap (λ (o : Option ℕ). place_or at o (deep_in labels ps)) (over_openers xs labels depth_limit)

  pub rows_opened : (xs : List Sort) (s : List ℕ) (ds : List Definition) → rows_in s labels ds (opened at xs ∷ ps) ≡ rows_in s labels ds ps
  unfolding rows_in
  rows_opened xs s ds = ap (λ (ys : List (Span Tail)). map (span_row s at (openers xs) ds) ys ++ rows_in s labels ds ps) (no_spans xs labels)

-- ---- opening brackets of links alone
links_are : (n : ℕ) → openers (replicate n link) ≡ brackets n
links_are zero = refl
links_are (suc n) = ap (λ (l : List ℕ). 91 ∷ l) (links_are n)

links_size : (k n : ℕ) → k ≤ n → length (openers (take k (replicate n link))) ≡ k
links_size zero n h = refl
links_size (suc k) zero h = absurd (omega arith)
links_size (suc k) (suc n) h = ap suc (links_size k n (omega arith))

-- where the first too many of n stands
abbrev pub first_over : ℕ → Option ℕ
first_over n = cond (ltb depth_limit n) (some depth_limit) none

links_over : (n : ℕ) → over_in depth_limit (replicate n link) ≡ first_over n
links_over n =
    by (ltb depth_limit n)
    (λ e. rw (length-replicate {A = Sort} n link, e, links_size (suc depth_limit) n (ltb-true depth_limit n e)))
    (λ e. rw (length-replicate {A = Sort} n link, e))

module _ (labels : List (List ℕ)) (at n : ℕ) (ps : List Placed) where
  pub deep_openings : deep_in labels (openings at n ∷ ps) ≡ place_or at (first_over n) (deep_in labels ps)
  deep_openings =
      ap (λ (l : List ℕ). deep_in labels (record { at = at; bytes = l } ∷ ps)) (sym (links_are n))
      ∙ deep_opened labels at ps (replicate n link)
      ∙ ap (λ (o : Option ℕ). place_or at o (deep_in labels ps)) (links_over n)

  pub rows_openings : (s : List ℕ) (ds : List Definition) → rows_in s labels ds (openings at n ∷ ps) ≡ rows_in s labels ds ps
  rows_openings s ds =
      ap (λ (l : List ℕ). rows_in s labels ds (record { at = at; bytes = l } ∷ ps)) (sym (links_are n)) ∙ rows_opened labels at ps (replicate n link) s ds
