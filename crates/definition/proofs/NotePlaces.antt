-- Where a note's definitions and paragraphs stand: within the note, the paragraphs one after the other.
use Prim.Native.Nat.{ℕ, zero, suc, ◌+◌, ◌-◌, ◌≤◌}
use native.Mathlib.Nat.{le_trans}
use native.Mathlib.Omega.{arith}
use mathlib.Core.Path.{◌≡◌, sym, ap, ◌∙◌}
use mathlib.Core.List.Memᴰ
use mathlib.Core.List.{List, [], ◌∷◌, ◌++◌, Memᴰ}
use mathlib.Core.Logic.{⊎_elim}
use borrow.Author.Tests.{leb-false}
use lib.ListN.{length, get_or, take, drop, length-drop, take-append-drop}
use lib.Seq.{length-take-le, take-append-le, drop-append-le}
use lib.Dec.{leb, eqb}
use Rattle.scan.proofs.Test.{by}
use Rattle.block.specs.Block.{Placed}
use Rattle.block.proofs.Places as block
use Rattle.row.specs.declared.Definition.{Definition}
use Rattle.definition.specs.Reading.{definition_at, taking_from, definitions_from, up_to_end, definitions_of, paragraph_end, paragraph_from, paragraph_of, definitions_in, paragraphs_in, definitions, paragraphs}
use Rattle.definition.proofs.Places.{Numbers, definition_numbers}
use Rattle.definition.proofs.Takings.{by_entry, from_none, from_one, taking_takes}
use Rattle.definition.proofs.Notes.{end_length, starts}

-- ---- definitions
longer : {s t : List ℕ} {d : Definition} → length s ≤ length t → Numbers s d → Numbers t d
longer h n =
    record {
      label_start = le_trans n.label_start h;
      label_ends_at = le_trans n.label_ends_at h;
      destination_start = le_trans n.destination_start h;
      destination_end = le_trans n.destination_end h;
      title_start = le_trans n.title_start h;
      title_end = le_trans n.title_end h;
    }

abbrev All : (Definition → Type 0) → List Definition → Type 0
All P ds = (d : Definition) → Memᴰ d ds → P d

all_cons : {P : Definition → Type 0} (c : Definition) (ds : List Definition) → P c → All P ds → All P (c ∷ ds)
all_cons c ds p f d (Memᴰ.head e) = rw e p
all_cons c ds p f d (Memᴰ.tail m) = f d m

module _ (s : List ℕ) where
  from_numbers : (k at : ℕ) → All (Numbers s) (taking_from k s at).definitions
  unfolding taking_from
  from_numbers zero at = λ d m. absurd (Memᴰ.not-nil m)
  from_numbers (suc k) at =
      by_entry (definition_at s at)
      (λ e. rw (from_none s (suc k) at e) (λ d m. absurd (Memᴰ.not-nil m)))
      (λ c n e. rw (from_one s k at c n e) (all_cons c (taking_from k s n).definitions (definition_numbers s at c n e) (from_numbers k n)))

  pub taken_numbers : (at : ℕ) → All (Numbers s) (definitions_from s at).definitions
  unfolding definitions_from
  taken_numbers at = from_numbers (length s) at

module _ (s : List ℕ) where
  in_numbers : {from : ℕ} {bs : List Placed} → block.InOrder s from bs → All (Numbers s) (definitions_in s bs)
  unfolding definitions_in definitions_of
  in_numbers block.done d m = absurd (Memᴰ.not-nil m)
  in_numbers (block.next {b = b} h w o) d m =
      ⊎_elim (λ x. longer (omega (arith, end_length s b w, w.inside)) (taken_numbers (up_to_end s b) b.at d x)) (λ y. in_numbers o d y)
      (Memᴰ.append_cases (definitions_from (up_to_end s b) b.at).definitions m)

  -- every number of a definition of the note s is at most its length
  pub definitions_inside : All (Numbers s) (definitions s)
  unfolding definitions
  definitions_inside = in_numbers (block.blocks_in_order s)

-- ---- paragraphs
-- p is bytes of s, at its place
pub record Inside (s : List ℕ) (p : Placed) : Type 0 where
  pub bytes_there : p.bytes ≡ take (length p.bytes) (drop p.at s)
  pub inside : p.at + length p.bytes ≤ length s

-- each lies within s, the first starts at `from` or later, and each other where the one before it ends, or later
pub data Ordered (s : List ℕ) : ℕ → List Placed → Type 0 where
  done : {from : ℕ} → Ordered s from []
  next : {from : ℕ} {p : Placed} {ps : List Placed} → from ≤ p.at → Inside s p → Ordered s (p.at + length p.bytes) ps → Ordered s from (p ∷ ps)

earlier : {s : List ℕ} {from before : ℕ} {ps : List Placed} → before ≤ from → Ordered s from ps → Ordered s before ps
earlier h done = done
earlier h (next k w o) = next (le_trans h k) w o

end_fits : (u : List ℕ) → paragraph_end u ≤ length u
unfolding paragraph_end
end_fits u = by (eqb (get_or u (length u - 1) 0) 10) (λ t. rw t (omega arith)) (λ f. rw f (omega arith))

-- bytes of the first m of s are bytes of s
module _ (s : List ℕ) (m : ℕ) (h : m ≤ length s) (at n : ℕ) (k : at + n ≤ m) where
  part_length : length (take n (drop at (take m s))) ≡ n
  part_length = length-take-le n (drop at (take m s)) (omega (arith, length-drop at (take m s), length-take-le m s h))

  part_there : take n (drop at (take m s)) ≡ take n (drop at s)
  part_there =
      let l = length-take-le m s h in
      let e : drop at s ≡ drop at (take m s) ++ drop m s = ap (drop at) (sym (take-append-drop m s)) ∙ drop-append-le at (take m s) (drop m s) (omega arith) in
      sym (ap (take n) e ∙ take-append-le n (drop at (take m s)) (drop m s) (omega (arith, length-drop at (take m s))))

  part_inside : Inside s (record { at = at; bytes = take n (drop at (take m s)) })
  part_inside = record { bytes_there = rw part_length part_there; inside = omega (arith, part_length) }

module _ (s : List ℕ) where
  then_others : (b : Placed) (w : block.Within s b) {from after : ℕ} (ps : List Placed) → from ≤ b.at → b.at ≤ after → Ordered s (b.at + length b.bytes) ps
      → Ordered s from (paragraph_from (up_to_end s b) after ++ ps)
  unfolding paragraph_from
  then_others b w {from} {after} ps h k o =
      by (leb (length (up_to_end s b)) after) (λ t. rw t (earlier (omega arith) o))
      (λ f.
      let u = up_to_end s b in
      let z = leb-false (length u) after f in
      let m = b.at + length b.bytes in
      let n = paragraph_end u - after in
      let size : after + n ≤ m = omega (arith, end_fits u, end_length s b w) in
      let low : from ≤ after = omega arith in
      let high : after + length (take n (drop after u)) ≤ m = omega (arith, part_length s m w.inside after n size) in
      rw f (next low (part_inside s m w.inside after n size) (earlier high o)))

  in_order : {from : ℕ} {bs : List Placed} → block.InOrder s from bs → Ordered s from (paragraphs_in s bs)
  unfolding paragraphs_in paragraph_of definitions_of
  in_order block.done = done
  in_order (block.next {b = b} {bs = bs} h w o) = then_others b w (paragraphs_in s bs) h (taking_takes (up_to_end s b) b.at (starts s b w)).low (in_order o)

  pub paragraphs_in_order : Ordered s 0 (paragraphs s)
  unfolding paragraphs
  paragraphs_in_order = in_order (block.blocks_in_order s)
