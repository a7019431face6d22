-- The ways through a turn of the loop.
use Rattle.std.specs.Prelude.{None, Option as Found, Some, Err}
use Prim.Native.Nat.{ℕ, ◌+◌, ◌-◌, ◌/◌, ◌≤◌, ◌<◌, ◌^◌}
use native.Mathlib.Omega.{arith}
use native.Mathlib.Decide.{ℕ_discrete}
use mathlib.Core.Path.{◌≡◌, refl, sym, ap, ◌∙◌, subst, subst⁻¹}
use mathlib.Core.Bool.{true, false, ◌&&◌}
use mathlib.Core.Option.{Option, some}
use mathlib.Core.List.{List, [], reverse}
use borrow.Author.Tests.{eq-eqb, ne_eqb, eqb-true, lt-leb, le-leb, ltb-true, ltb-false}
use lib.Dec.{eqb, ltb}
use lib.ListN.{length, get_or, take, drop, length-take, length-drop}
use Rattle.line.specs.Promise.{Before}
use Rattle.note.specs.Note.{depth_limit}
use Rattle.scan.proofs.Test.{by, and_left, and_right}
use Rattle.scan.specs.Byte.{escapes}
use Rattle.scan.specs.Reading.{run}
use Rattle.marking.specs.Marking.{Sort, Role, nothing, closing, role, Piece}
use Rattle.marking.specs.Reading.{alone, sort_of, found_by, stack_by}
use Rattle.marking.specs.ReadingSpans.{scan_found, too_deep, over}
use Rattle.marking.proofs.Finish.{overs_deep}
use Rattle.row.specs.declared.Definition.{Definition}
use Rattle.row.specs.Row.{range}
use Rattle.row.specs.First.{bytes_of}
use Rattle.span.specs.Row.{width, whole_rows}
use Rattle.inline.specs.Pieces.{backtick}
use Rattle.inline.specs.Tails.{Tail}
use Rattle.inline.specs.ReadingPieces.{closing_run, span_or_text, piece_from}
use Rattle.inline.proofs.Turns.{from_escape, from_backticks, from_byte}
use Rattle.inline.specs.Reading.{grammar}
use Rattle.paragraph.specs.Tally.{in_note, tally_of}
use Rattle.step.specs.Promise.{last_place, lined, opening_end, Bounds, Steps}
use Rattle.step.proofs.Openings.{at_opening, opens_there, none_there, opening_inside, opening_onward}
use Rattle.paragraph.specs.Promise.{places, open_places, Waits, opened, pushed, Closing, Lies, role_at, Brackets, Reads}
use Rattle.step.specs.declared.Walk.{Walk}
use Rattle.paragraph.specs.declared.Bracket.{Bracket}
use Rattle.inline.proofs.Pieces.{at_close}
use Rattle.paragraph.proofs.Stack.{opens_here, closes_here, open_length, waits_later, bracket_opens}
use Rattle.paragraph.proofs.Most.{held_deep}
use Rattle.paragraph.proofs.Loop.{On, lined_here, on_next, on_less}

-- ---- a piece that is no bracket
run_role : (a e : ℕ) (f : Found ℕ) → role (span_or_text a e f).kind ≡ nothing
run_role a e (Some c) = refl
run_role a e None = refl

quiet_role : (p : List ℕ) (a : ℕ) → opening_end p a ≡ None → (get_or p a 0 ≡ 93 → ⊥) → role (piece_from p a).kind ≡ nothing
quiet_role p a z m =
    let n = none_there p a z in
    by (escapes (drop a p)) (λ e. rw (from_escape p a e))
    (λ e. by (backtick (get_or p a 0))
    (λ t. rw (from_backticks p a e t) (run_role a (a + run backtick (drop a p)) (closing_run (run backtick (drop a p)) (drop (a + run backtick (drop a p)) p) (a + run backtick (drop a p)))))
    (λ t. rw (from_byte p a e t n.1, ne_eqb (get_or p a 0) 91 n.0, ne_eqb (get_or p a 0) 93 m)))

-- a piece of that role, where these brackets wait, comes to nothing and changes nothing
record Idle (sort_at : ℕ → Sort) (tail_of : ℕ → Option Tail) (last at : ℕ) (st : List ℕ) (x : Role) : Type 0 where
  found : found_by sort_at tail_of last st x ≡ alone
  stack : stack_by at st x ≡ st
  room : too_deep depth_limit st x ≡ false

module _ (sort_at : ℕ → Sort) (tail_of : ℕ → Option Tail) (last at : ℕ) (st : List ℕ) (x : Role) where
  idle_nothing : x ≡ nothing → Idle sort_at tail_of last at st x
  idle_nothing e = rw e (record { found = refl; stack = refl; room = refl })

  idle_closing : x ≡ closing → st ≡ [] → Idle sort_at tail_of last at st x
  idle_closing e z = rw (e, z) (record { found = refl; stack = refl; room = refl })

-- ---- what the tests tell
pub closing_test : (p : List ℕ) (w : Walk) → w.at < length p → (eqb (get_or p w.at 0) 93 && ltb 0 w.depth) ≡ true → Closing p w
closing_test p w h t =
    record {
      inside = h;
      close_at = eqb-true (get_or p w.at 0) 93 (and_left (eqb (get_or p w.at 0) 93) (ltb 0 w.depth) t);
      some_open = ltb-true 0 w.depth (and_right (eqb (get_or p w.at 0) 93) (ltb 0 w.depth) t);
    }

unpaired : (b d : ℕ) → (eqb b 93 && ltb 0 d) ≡ false → b ≡ 93 → d ≡ 0
unpaired b d f e = let l = ltb-false 0 d (rw (eq-eqb b 93 e) at f) in omega arith

-- as many rows fit as before
rows_same : (t t₀ : List ℕ) → length t ≡ length t₀ → whole_rows t ≡ whole_rows t₀
rows_same t t₀ e = ap (λ (n : ℕ). n / width) e

module _ (s : List ℕ) (offset : ℕ) (p : List ℕ) (labels : List (List ℕ)) (ds : List Definition) (k : ℕ) (t₀ : List ℕ) {stack : List Bracket} {w : Walk} {t : List ℕ}
    (o : On s offset p labels ds k t₀ stack w t) (h : w.at < length p) where
  abbrev waiting : List ℕ
  waiting = open_places w stack

  abbrev sorts_here : ℕ → Sort
  sorts_here a = sort_of ((grammar p labels).kind_at a)

  abbrev tails_here : ℕ → Option Tail
  tails_here a = (grammar p labels).tail_at ((grammar p labels).end_at a) w.at

  abbrev role_here : Role
  role_here = role_at s offset p labels ds w.at

  waiting_length : length waiting ≡ w.depth
  waiting_length = open_length s offset p (whole_rows t₀) w stack o.waits

  -- ---- a piece in no pair
  module _ (n : opening_end p w.at ≡ None) (m : get_or p w.at 0 ≡ 93 → w.depth ≡ 0) where
    idle : Idle sorts_here tails_here (last_place w.last) w.at waiting role_here
    idle = cases (ℕ_discrete (get_or p w.at 0) 93)
      where
        cases : Dec (get_or p w.at 0 ≡ 93) → Idle sorts_here tails_here (last_place w.last) w.at waiting role_here
        cases (yes e) = idle_closing sorts_here tails_here (last_place w.last) w.at waiting role_here (ap (λ (x : Piece). role x.kind) (at_close p w.at e)) (ap (λ (d : ℕ). reverse (take d (places stack))) (m e))
        cases (no e) = idle_nothing sorts_here tails_here (last_place w.last) w.at waiting role_here (quiet_role p w.at n e)

    module _ {w' : Walk} {u : List ℕ} (y : Steps s offset p labels ds alone w t w' u) (d : w'.depth ≡ w.depth) where
      same_open : stack_by w.at waiting role_here ≡ open_places w' stack
      same_open = idle.stack ∙ ap (λ (x : ℕ). reverse (take x (places stack))) (sym d)

      piece_less : w.at < w'.at
      unfolding scan_found
      piece_less = on_less s offset p labels ds k t₀ o h stack y idle.found same_open

      pub piece_on : Before s w'.line (offset + w.at) → On s offset p labels ds k t₀ stack w' u
      unfolding scan_found
      piece_on b =
          on_next s offset p labels ds k t₀ o h stack y idle.found same_open idle.room
          (waits_later s offset p (whole_rows t₀) w stack o.waits w' (omega (arith, d)) (omega (arith, piece_less)) (omega (arith, y.row))) b

  -- ---- a bracket
  module _ (room : too_deep depth_limit waiting role_here ≡ false) (same : length t ≡ length t₀) {w' : Walk} {stack' : List Bracket} {u : List ℕ} (y : Brackets s offset p labels ds w stack t w' stack' u) where
    bracket_less : w.at < w'.at
    unfolding scan_found
    bracket_less = on_less s offset p labels ds k t₀ o h stack' y.steps refl (sym y.still_open)

    bracket_on : On s offset p labels ds k t₀ stack' w' u
    unfolding scan_found
    bracket_on =
        on_next s offset p labels ds k t₀ o h stack' y.steps refl (sym y.still_open) room
        (subst (λ (n : ℕ). Waits s offset p n w' stack') (rows_same t t₀ same) y.waits) y.counted

  -- ---- what the code has where its ways meet
  abbrev Turned : Walk → List Bracket → List ℕ → Type 0
  Turned w' stack' u = On s offset p labels ds k t₀ stack' w' u × (w.at < w'.at)

  pub waits_here : length t ≡ length t₀ → Waits s offset p (whole_rows t) w stack
  waits_here same = subst⁻¹ (λ (n : ℕ). Waits s offset p n w stack) (rows_same t t₀ same) o.waits

  -- an opening piece ends within the paragraph
  pub open_inside : {f : Found ℕ} {n : ℕ} → f ≡ opening_end p w.at → f ≡ Some n → (w.at < n) × (n ≤ length p)
  open_inside ef en = let e = opens_there p w.at (sym ef ∙ en) in (opening_onward p w.at e, opening_inside p w.at e h)

  pub open_turn : length t ≡ length t₀ → {f : Found ℕ} {n : ℕ} → f ≡ opening_end p w.at → f ≡ Some n → (w.depth ≡ depth_limit → ⊥) → {w'' : Walk} {stack'' : List Bracket} → w'' ≡ opened n (lined s offset t w)
      → stack'' ≡ pushed stack w w''.line.number → {w' : Walk} {stack' : List Bracket} {u : List ℕ} → w' ≡ w'' → stack' ≡ stack'' → u ≡ t → Turned w' stack' u
  open_turn same {n = n} ef en m ez el ew es eu =
      let e = opens_there p w.at (sym ef ∙ en) in
      let d : w.depth < depth_limit = omega (arith, o.waits.fits) in
      let r : too_deep depth_limit waiting role_here ≡ false = ap (too_deep depth_limit waiting) (opens_here p w.at e.opening) ∙ lt-leb depth_limit (length waiting) (omega (arith, waiting_length)) in
      let y = bracket_opens s offset p t w stack (waits_here same) (lined_here s offset p labels ds k t₀ o h) n e d labels ds in
      rw (ew, es, el, ez, eu) (bracket_on r same y, bracket_less r same y)

  pub close_turn : length t ≡ length t₀ → Closing p w → {w'' : Walk} {u'' : List ℕ} → Brackets s offset p labels ds w stack t w'' stack u''
      → {w' : Walk} {stack' : List Bracket} {u : List ℕ} → w' ≡ w'' → stack' ≡ stack → u ≡ u'' → Turned w' stack' u
  close_turn same c y ew es eu =
      let r : too_deep depth_limit waiting role_here ≡ false = ap (too_deep depth_limit waiting) (closes_here p w.at c.close_at) in
      rw (ew, es, eu) (bracket_on r same y, bracket_less r same y)

  pub piece_turn : {f : Found ℕ} → f ≡ opening_end p w.at → f ≡ None → (eqb (get_or p w.at 0) 93 && ltb 0 w.depth) ≡ false → {w'' : Walk} {u'' : List ℕ} → Steps s offset p labels ds alone w t w'' u''
      → (w''.depth ≡ w.depth) × Before s w''.line (offset + w.at) → {w' : Walk} {stack' : List Bracket} {u : List ℕ} → w' ≡ w'' → stack' ≡ stack → u ≡ u'' → Turned w' stack' u
  piece_turn ef en f y (d, b) ew es eu =
      let n : opening_end p w.at ≡ None = sym ef ∙ en in
      let m = unpaired (get_or p w.at 0) w.depth f in
      rw (ew, es, eu) (piece_on n m y d b, piece_less n m y d)

  -- ---- a bracket too many
  pub deep_reads : {f : Found ℕ} {n : ℕ} → f ≡ opening_end p w.at → f ≡ Some n → w.depth ≡ depth_limit → (u : List ℕ) → Reads s offset p labels ds k t₀ (Err (record { place = offset + (n - 1) })) u
  unfolding over
  deep_reads {n = n} ef en d u =
      let y = opens_there p w.at (sym ef ∙ en) in
      let q : over depth_limit (grammar p labels) ≡ some (n - 1) =
      sym o.same_over ∙ overs_deep depth_limit (grammar p labels) (record { place = w.at; stack = waiting; last_link = last_place w.last; spans = o.xs }) h (ap (too_deep depth_limit waiting) (opens_here p w.at y.opening) ∙ le-leb depth_limit (length waiting) (omega (arith, waiting_length)))
      ∙ ap (λ (a : ℕ). some (a - 1)) (ap (λ (x : Piece). x.end) (at_opening p w.at y.opening) ∙ y.ends) in
      record {
        walk = w;
        answer = sym (ap (λ (x : Option ℕ). tally_of (in_note offset x) w) q);
        row = λ z. let no : ⊥ = omega arith in absurd no;
        line = λ z. let no : ⊥ = omega arith in absurd no;
        table = λ z. let no : ⊥ = omega arith in absurd no;
        few = λ z. let no : ⊥ = omega arith in absurd no;
        few_ends = λ z. let no : ⊥ = omega arith in absurd no;
        deep = λ z. held_deep p k w.at w.row o.so_far h d y.opening;
      }

-- ---- what the bounds of the whole paragraph tell
pub part_length : (note : List ℕ) (start end : ℕ) → start ≤ end → end ≤ length note → length (bytes_of note (range start end)) ≡ end - start
part_length note start end l m = simp (length-take, length-drop) (omega arith)

pub bounds_here : {note : List ℕ} {start end count : ℕ} {from : Walk} (b : Lies note start end count from) {k : ℕ} (ek : k ≡ from.row) {labels : List (List ℕ)} {ds : List Definition} {t₀ : List ℕ} {stack : List Bracket} {w : Walk} {t : List ℕ}
    → On note start (bytes_of note (range start end)) labels ds k t₀ stack w t → w.at < length (bytes_of note (range start end)) → (n : ℕ) → n < 2 ^ 32
    → Bounds start (bytes_of note (range start end)) n w
bounds_here {note} {start} {end} b ek o h n few =
    let e = part_length note start end b.ordered b.inside in
    record {
      places = omega (arith, e, b.ordered, b.inside, b.places);
      definitions = few;
      rows = omega (arith, e, b.ordered, b.inside, b.rows, o.row_is, o.few, h);
    }
