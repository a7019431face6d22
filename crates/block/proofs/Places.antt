-- Where the blocks of a note lie, and what a loop over a note meets at a blank line and at a block.
use Prim.Native.Nat.{ℕ, ◌+◌, ◌≤◌, ◌<◌}
use native.Mathlib.Nat.{le_refl, le_trans, le-add_right}
use native.Mathlib.Omega.{arith}
use mathlib.Core.Path.{◌≡◌, refl, sym, ap, ◌∙◌}
use mathlib.Core.List.{List, [], ◌∷◌, ◌++◌, Memᴰ}
use mathlib.Core.Bool.{true, false}
use lib.ListN.{length, take, drop, length-append, length-drop}
use lib.Seq.{take_at, drop_at, drop-drop}
use Rattle.scan.specs.Reading.{leap}
use Rattle.block.specs.Line.{Lines}
use Rattle.block.specs.Block.{Placed, bytes_of_lines, Blocks, none, blank, block}
use Rattle.block.specs.Reading.{blank_line, line_length, block_length, part_length, block_here, blocks}
use Rattle.block.proofs.Lines.{starts}
use Rattle.block.proofs.Parts.{line_some, line_fits, block_some, block_fits, other_some, leap_blank, leap_block}
use Rattle.block.proofs.Blocks.{run_of, blocks_iff}

-- b is bytes of s, at its place, and at least one
pub record Within (s : List ℕ) (b : Placed) : Type 0 where
  pub bytes_there : b.bytes ≡ take (length b.bytes) (drop b.at s)
  pub inside : b.at + length b.bytes ≤ length s
  pub nonempty : 0 < length b.bytes

-- each lies within s, the first starts at `from` or later, and each other where the one before it ends, or later
pub data InOrder (s : List ℕ) : ℕ → List Placed → Type 0 where
  done : {from : ℕ} → InOrder s from []
  next : {from : ℕ} {b : Placed} {bs : List Placed} → from ≤ b.at → Within s b → InOrder s (b.at + length b.bytes) bs → InOrder s from (b ∷ bs)

earlier : {s : List ℕ} {from before : ℕ} {bs : List Placed} → before ≤ from → InOrder s from bs → InOrder s before bs
earlier h done = done
earlier h (next k w o) = next (le_trans h k) w o

module _ (s : List ℕ) where
  -- what follows the first k bytes from `at` on
  moved : (at k : ℕ) (front after : List ℕ) → drop at s ≡ front ++ after → length front ≡ k → after ≡ drop (at + k) s
  moved at k front after e n = sym (ap (drop k) e ∙ drop_at front after k n) ∙ drop-drop k at s

  within : (at : ℕ) (front after : List ℕ) → drop at s ≡ front ++ after → 0 < length front → Within s (record { at = at; bytes = front })
  within at front after e h =
      let n = ap length e ∙ length-append front after in
      record {
        bytes_there = sym (ap (take (length front)) e ∙ take_at front after (length front) refl);
        inside = omega (arith, length-drop at s);
        nonempty = h;
      }

  in_order : {at : ℕ} {ls : List (List ℕ)} {bs : List Placed} → Blocks at ls bs → Lines (drop at s) ls → InOrder s at bs
  in_order none p = done
  in_order (blank {at} {l} m on) p =
      let f = starts p in
      earlier (le-add_right at (length l)) (in_order on (rw (moved at (length l) l f.rest f.whole refl) at f.others))
  in_order (block {at} {l} {run} {rest} others over on) p =
      let r = run_of (l ∷ run) rest p in
      let h : 0 < length (bytes_of_lines (l ∷ run)) = omega (arith, (starts p).is_line.nonempty, length-append l (bytes_of_lines run)) in
      next (le_refl at) (within at (bytes_of_lines (l ∷ run)) r.after r.whole h)
      (in_order on (rw (moved at (length (bytes_of_lines (l ∷ run))) (bytes_of_lines (l ∷ run)) r.after r.whole refl) at r.others))

  pub blocks_in_order : InOrder s 0 (blocks s)
  blocks_in_order = let m = (blocks_iff s (blocks s)).0 refl in in_order m.are_blocks m.are_lines

  each_within : {from : ℕ} {b : Placed} {bs : List Placed} → InOrder s from bs → Memᴰ b bs → Within s b
  each_within {b = b} (done {from = from}) m = elim m [ ]
  each_within (next h w o) (Memᴰ.head e) = rw e w
  each_within (next h w o) (Memᴰ.tail m) = each_within o m

  -- a block of s lies within s
  pub block_within : {b : Placed} → Memᴰ b (blocks s) → Within s b
  block_within m = each_within blocks_in_order m

  next_after : {from : ℕ} (bs : List Placed) (b c : Placed) (cs : List Placed) → InOrder s from (bs ++ b ∷ c ∷ cs) → b.at + length b.bytes ≤ c.at
  next_after [] b c cs (next h w (next k v o)) = k
  next_after {from = from} (x ∷ bs) b c cs (next h w o) = next_after {from = x.at + length x.bytes} bs b c cs o

  -- of two blocks side by side the second starts where the first ends, or later
  pub blocks_apart : (bs : List Placed) (b c : Placed) (cs : List Placed) → blocks s ≡ bs ++ b ∷ c ∷ cs → b.at + length b.bytes ≤ c.at
  blocks_apart bs b c cs e = next_after bs b c cs (rw e at blocks_in_order)

-- ---- a loop over the note s that has come to place i
module _ (s : List ℕ) (i : ℕ) where
  pub other_inside : blank_line (drop i s) ≡ false → i < length s
  other_inside e = omega (arith, other_some (drop i s) e, length-drop i s)

  pub line_advances : i < length s → 0 < line_length (drop i s)
  line_advances h = line_some (drop i s) (omega (arith, length-drop i s))

  pub line_inside : i < length s → i + line_length (drop i s) ≤ length s
  line_inside h = omega (arith, line_fits (drop i s), length-drop i s)

  pub block_advances : blank_line (drop i s) ≡ false → 0 < block_length (drop i s)
  block_advances e = block_some (drop i s) (other_some (drop i s) e)

  pub block_inside : blank_line (drop i s) ≡ false → i + block_length (drop i s) ≤ length s
  block_inside e = omega (arith, other_inside e, block_fits (drop i s), length-drop i s)

  pub turn_blank : i < length s → blank_line (drop i s) ≡ true
      → leap part_length block_here 0 (drop i s) i ≡ leap part_length block_here 0 (drop (i + line_length (drop i s)) s) (i + line_length (drop i s))
  turn_blank h e = leap_blank (drop i s) i (omega (arith, length-drop i s)) e ∙ rw drop-drop

  pub turn_block : blank_line (drop i s) ≡ false
      → leap part_length block_here 0 (drop i s) i
      ≡ record { at = i; bytes = take (block_length (drop i s)) (drop i s) } ∷ leap part_length block_here 0 (drop (i + block_length (drop i s)) s) (i + block_length (drop i s))
  turn_block e = leap_block (drop i s) i e ∙ rw (drop-drop (block_length (drop i s)) i s)
