-- The line at the front of a text, its length and whether it is blank, by the law and by the reading; and that each text has exactly one list of lines.
use Prim.Native.Nat.{ℕ, ◌+◌, ◌<◌}
use native.Mathlib.Omega.{arith}
use mathlib.Core.Path.{◌≡◌, refl, sym, ap, ◌∙◌}
use mathlib.Core.List.{List, [], ◌∷◌, ◌++◌, append_assoc, append-nil}
use mathlib.Core.Bool.{true, false, true≢false}
use mathlib.Core.Logic.{◌↔◌}
use borrow.Author.Tests.{eqb-true, not-true}
use lib.ListN.{length, take, drop, length-append}
use lib.Seq.{take_at, drop_at}
use lib.Dec.{eqb, leb-suc-suc, leb-suc-zero}
use Rattle.scan.proofs.Test.{by}
use Rattle.scan.specs.Reading.{run}
use Rattle.scan.proofs.Scan.{run_yes, run_no}
use Rattle.scan.specs.Every.{Every, none, more}
use Rattle.block.specs.Line.{padding, in_line, EndOfLine, feed, end, Lines, none, line, last, Blank}
use Rattle.block.specs.Reading.{blank_line, line_length, block_rest}

-- l is a line that `rest` follows
pub record LineBefore (l rest : List ℕ) : Type 0 where
  pub body : List ℕ
  pub ending : List ℕ
  pub whole : l ≡ body ++ ending
  pub plain : Every in_line body
  pub ended : EndOfLine (ending ++ rest) rest
  pub alone : EndOfLine ending []
  pub nonempty : 0 < length l

-- s starts with the line l, and the lines ls follow
pub record Starts (s l : List ℕ) (ls : List (List ℕ)) : Type 0 where
  pub rest : List ℕ
  pub whole : s ≡ l ++ rest
  pub is_line : LineBefore l rest
  pub others : Lines rest ls

pub starts : {s l : List ℕ} {ls : List (List ℕ)} → Lines s (l ∷ ls) → Starts s l ls
starts (line {body} {s} e m) =
    record {
      rest = s;
      whole = sym (append_assoc body (10 ∷ []) s);
      is_line = record { body = body; ending = 10 ∷ []; whole = refl; plain = e; ended = feed; alone = feed; nonempty = omega (arith, length-append body (10 ∷ [])) };
      others = m;
    }
starts (last {b} {body} e) =
    record {
      rest = [];
      whole = sym (append-nil (b ∷ body));
      is_line = record { body = b ∷ body; ending = []; whole = sym (append-nil (b ∷ body)); plain = e; ended = end; alone = end; nonempty = omega arith };
      others = none;
    }

pub no_lines : {s : List ℕ} → Lines s [] → s ≡ []
no_lines none = refl

-- ---- a blank line
blank_on : (b : ℕ) (s : List ℕ) → padding b ≡ true → blank_line (b ∷ s) ≡ blank_line s
unfolding blank_line
blank_on b s e = rw (run_yes padding b s e, leb-suc-suc)

blank_stop : (b : ℕ) (s : List ℕ) → padding b ≡ false → blank_line (b ∷ s) ≡ eqb b 10
unfolding blank_line
blank_stop b s e = rw (run_no padding b s e, leb-suc-zero)

blank_end : {tail rest : List ℕ} → EndOfLine tail rest → blank_line tail ≡ true
unfolding blank_line run
blank_end (feed {rest}) = blank_stop 10 rest refl
blank_end end = refl

module _ {tail rest : List ℕ} (ends : EndOfLine tail rest) where
  padded_blank : {body : List ℕ} → Every padding body → blank_line (body ++ tail) ≡ true
  padded_blank none = blank_end ends
  padded_blank (more {b} {l} e p) = blank_on b (l ++ tail) e ∙ padded_blank p

  blank_padded : {body : List ℕ} → Every in_line body → blank_line (body ++ tail) ≡ true → Every padding body
  blank_padded none h = none
  blank_padded (more {b} {l} e p) h =
      by (padding b) (λ y. more y (blank_padded p (sym (blank_on b (l ++ tail) y) ∙ h)))
      (λ n. absurd (true≢false (sym (sym (blank_stop b (l ++ tail) n) ∙ h) ∙ not-true _ e)))

  -- ---- how long a line is, and how a block goes on after it
  line_length_lem : {body : List ℕ} → Every in_line body → line_length (body ++ tail) + length rest ≡ length (body ++ tail)
  unfolding line_length
  line_length_lem none = elim ends as (λ (tail rest : List ℕ) _. line_length tail + length rest ≡ length tail) [ feed ↦ omega arith | end ↦ refl ]
  line_length_lem (more {b} {l} e p) = let h = line_length_lem p in rw (not-true (eqb b 10) e, line_length) (omega arith)

  block_line : {body : List ℕ} → Every in_line body → block_rest false (body ++ tail) + length rest ≡ length (body ++ tail) + block_rest true rest
  unfolding block_rest
  block_line none = elim ends as (λ (tail rest : List ℕ) _. block_rest false tail + length rest ≡ length tail + block_rest true rest) [ feed ↦ omega arith | end ↦ refl ]
  block_line (more {b} {l} e p) = let h = block_line p in rw (not-true (eqb b 10) e) (omega arith)

-- ---- the same of a line in its text
module _ {l rest : List ℕ} (first : LineBefore l rest) where
  split : l ++ rest ≡ first.body ++ (first.ending ++ rest)
  split = rw first.whole (append_assoc first.body first.ending rest)

  pub blank_iff : (blank_line (l ++ rest) ≡ true) ↔ Blank l
  blank_iff = (
    (λ h.
        record {
          body = first.body;
          ending = first.ending;
          whole = first.whole;
          padded = blank_padded first.ended first.plain (rw split at h);
          ended = first.alone;
        }),
    (λ m.
        let h : blank_line l ≡ true = rw m.whole (padded_blank m.ended m.padded) in
        rw split (padded_blank first.ended (blank_padded first.alone first.plain (rw first.whole at h)))),
  )

  pub other_line : (Blank l → ⊥) → blank_line (l ++ rest) ≡ false
  other_line n = by (blank_line (l ++ rest)) (λ h. absurd (n (blank_iff.0 h))) (λ h. h)

  pub first_length : line_length (l ++ rest) ≡ length l
  first_length =
      let h = rw (← split) at (line_length_lem first.ended first.plain) in
      omega (arith, length-append l rest)

  pub block_first : block_rest false (l ++ rest) ≡ length l + block_rest true rest
  block_first =
      let h = rw (← split) at (block_line first.ended first.plain) in
      omega (arith, length-append l rest)

-- ---- each text has exactly one list of lines
pub record LinesOf (s : List ℕ) : Type 0 where
  pub lines : List (List ℕ)
  pub are_lines : Lines s lines

before : (b : ℕ) → in_line b ≡ true → {s : List ℕ} {ls : List (List ℕ)} → Lines s ls → LinesOf (b ∷ s)
before b e none = record { lines = (b ∷ []) ∷ []; are_lines = last (more e none) }
before b e (line {body} {s} {ls} p m) = record { lines = (b ∷ body ++ 10 ∷ []) ∷ ls; are_lines = line (more e p) m }
before b e (last {b = c} {body} p) = record { lines = (b ∷ c ∷ body) ∷ []; are_lines = last (more e p) }

pub lines_of : (s : List ℕ) → LinesOf s
lines_of [] = record { lines = []; are_lines = none }
lines_of (b ∷ s) =
    let m = lines_of s in
    by (eqb b 10) (λ e. rw (eqb-true b 10 e) (record { lines = (10 ∷ []) ∷ m.lines; are_lines = line none m.are_lines }))
    (λ n. before b (simp n) m.are_lines)

-- the first line and what follows it are told by `line_length`
module _ {s l : List ℕ} {ls : List (List ℕ)} (f : Starts s l ls) where
  pub size : line_length s ≡ length l
  size = rw f.whole (first_length f.is_line)

  pub front : l ≡ take (line_length s) s
  front = rw size (rw f.whole (sym (take_at l f.rest (length l) refl)))

  pub back : f.rest ≡ drop (line_length s) s
  back = rw size (rw f.whole (sym (drop_at l f.rest (length l) refl)))

never : {l : List ℕ} {ls : List (List ℕ)} → Lines [] (l ∷ ls) → ⊥
never {l} p = let f = starts p in omega (arith, f.is_line.nonempty, length-append l f.rest, ap length f.whole)

pub lines_one : {s : List ℕ} (ls ms : List (List ℕ)) → Lines s ls → Lines s ms → ls ≡ ms
lines_one [] [] p q = refl
lines_one [] (m ∷ ms) p q = absurd (never (rw (no_lines p) at q))
lines_one (l ∷ ls) [] p q = absurd (never (rw (no_lines q) at p))
lines_one {s = s} (l ∷ ls) (m ∷ ms) p q =
    let f = starts p in
    let g = starts q in
    let e = front f ∙ sym (front g) in
    let t = lines_one {s = drop {A = ℕ} (line_length s) s} ls ms (rw (back f) at f.others) (rw (back g) at g.others) in
    cc
