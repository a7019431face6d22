-- "An end of line is its LF, taken with it, or the note's end": each definition of a note goes on to the one or to the other.
use Rattle.std.specs.Prelude.{None, Option, Some}
use Prim.Native.Nat.{ℕ, ◌+◌, ◌-◌, ◌≤◌, ◌<◌}
use native.Mathlib.Nat.{zero-add}
use native.Mathlib.Omega.{arith}
use mathlib.Core.Path.{◌≡◌, refl, sym, ap, subst, ◌∙◌}
use mathlib.Core.List.{List, [], ◌∷◌, ◌++◌, append_assoc, append-nil, Memᴰ}
use mathlib.Core.Logic.{inl, inr}
use lib.ListN.{length, get_or, length-append}
use lib.Seq.{get_or_at, get_or-append-add, get_or-take}
use Rattle.block.specs.Line.{EndOfLine, feed, end, Lines}
use Rattle.block.specs.Block.{Placed, bytes_of_lines}
use Rattle.block.specs.Reading.{blocks}
use Rattle.block.proofs.Lines.{LineBefore, starts}
use Rattle.block.proofs.Maximal.{block_iff}
use Rattle.block.proofs.Places.{block_within}
use Rattle.row.specs.declared.Definition.{Definition}
use Rattle.definition.specs.Reading.{entry, definition_at, up_to_end}
use Rattle.definition.proofs.Lines.{LineEnded}
use Rattle.definition.proofs.Definitions.{definition_ended}
use Rattle.definition.proofs.Places.{definition_onward}
use Rattle.definition.proofs.Notes.{end_length}

-- ---- where a line of a text ends
no_more : {a b : List ℕ} → EndOfLine a b → a ≡ b → b ≡ []
no_more (feed {rest}) e = let no : ⊥ = omega (arith, ap length e) in absurd no
no_more end e = refl

body_ended : (body : List ℕ) {ending : List ℕ} (rest : List ℕ) → EndOfLine ending [] → EndOfLine (ending ++ rest) rest → LineEnded ((body ++ ending) ++ rest) (length (body ++ ending))
body_ended body rest feed e =
    inl (rw append_assoc (get_or_at body 10 rest 0 (length (body ++ 10 ∷ []) - 1) (omega (arith, length-append body (10 ∷ [])))))
body_ended body rest end e = inr (rw (no_more e refl, append-nil (body ++ [])))

line_ended : {l rest : List ℕ} → LineBefore l rest → LineEnded (l ++ rest) (length l)
line_ended {l} {rest} m = rw m.whole (body_ended m.body rest m.alone m.ended)

ended_later : (l s : List ℕ) (n : ℕ) → 0 < n → LineEnded s n → LineEnded (l ++ s) (length l + n)
ended_later l s n h (inl e) =
    let k : length l + n - 1 ≡ length l + (n - 1) = omega arith in
    inl (ap (λ (i : ℕ). get_or (l ++ s) i 0) k ∙ get_or-append-add l s (n - 1) 0 ∙ e)
ended_later l s n h (inr e) = inr (omega (arith, length-append l s))

lines_ended : {s : List ℕ} (ls after : List (List ℕ)) → Lines s (ls ++ after) → 0 < length (bytes_of_lines ls) → LineEnded s (length (bytes_of_lines ls))
lines_ended [] after p h = let no : ⊥ = omega arith in absurd no
lines_ended (l ∷ []) after p h = let f = starts p in rw (f.whole, append-nil l) (line_ended f.is_line)
lines_ended {s = s} (l ∷ m ∷ ls) after p h =
    let f = starts p in
    let g = starts f.others in
    let k : 0 < length (bytes_of_lines (m ∷ ls)) = omega (arith, g.is_line.nonempty, length-append m (bytes_of_lines ls)) in
    rw (f.whole, length-append l (bytes_of_lines (m ∷ ls))) (ended_later l f.rest (length (bytes_of_lines (m ∷ ls))) k (lines_ended {s = f.rest} (m ∷ ls) after f.others k))

-- a run of lines that others stand before
run_ended : {s : List ℕ} (before ls after : List (List ℕ)) → Lines s (before ++ (ls ++ after)) → 0 < length (bytes_of_lines ls)
    → LineEnded s (length (bytes_of_lines before) + length (bytes_of_lines ls))
run_ended [] ls after p h = rw zero-add (lines_ended ls after p h)
run_ended {s = s} (l ∷ before) ls after p h =
    let f = starts p in
    let n = length (bytes_of_lines before) + length (bytes_of_lines ls) in
    let e : length (bytes_of_lines (l ∷ before)) + length (bytes_of_lines ls) ≡ length l + n = omega (arith, length-append l (bytes_of_lines before)) in
    rw (f.whole, e) (ended_later l f.rest n (omega arith) (run_ended {s = f.rest} before ls after f.others h))

module _ (s : List ℕ) (b : Placed) (mem : Memᴰ b (blocks s)) where
  -- a block goes on to an LF, or to the note's end
  pub block_ended : LineEnded s (b.at + length b.bytes)
  block_ended =
      let r = (block_iff s b).0 mem in
      let h : 0 < length (bytes_of_lines (r.first ∷ r.run)) = subst (λ (x : Placed). 0 < length x.bytes) r.whole (block_within s mem).nonempty in
      subst (λ (x : Placed). LineEnded s (x.at + length x.bytes)) (sym r.whole) (run_ended r.before (r.first ∷ r.run) r.after r.are_lines h)

  in_note : (n : ℕ) → 0 < n → n ≤ b.at + length b.bytes → LineEnded (up_to_end s b) n → LineEnded s n
  in_note n h k (inl e) = inl (sym (get_or-take (b.at + length b.bytes) s (n - 1) 0 (omega arith)) ∙ e)
  in_note n h k (inr e) = subst (LineEnded s) (sym (e ∙ end_length s b (block_within s mem))) block_ended

  -- so does each definition of a block
  pub definition_in_note : (at : ℕ) (d : Definition) (n : ℕ) → definition_at (up_to_end s b) at ≡ Some (entry d n) → LineEnded s n
  definition_in_note at d n q =
      let (x, y) = definition_onward (up_to_end s b) at d n q in
      let z = end_length s b (block_within s mem) in
      in_note n (omega arith) (omega arith) (definition_ended (up_to_end s b) at (omega arith) d n q)
