-- Each note has exactly one list of blocks by the law, and `blocks` gives it.
use Prim.Native.Nat.{ℕ, ◌+◌, ◌<◌}
use native.Mathlib.Omega.{arith}
use mathlib.Core.Path.{◌≡◌, refl, sym, ap, ◌∙◌}
use mathlib.Core.List.{List, [], ◌∷◌, ◌++◌, append_assoc, append-nil}
use mathlib.Core.Bool.{true, false, true≢false}
use mathlib.Core.Logic.{◌↔◌}
use lib.ListN.{length, take, drop, length-append}
use lib.Seq.{take_at, drop_at}
use Rattle.scan.proofs.Test.{by}
use Rattle.scan.specs.Reading.{leap}
use Rattle.block.specs.Line.{Lines, none, Blank}
use Rattle.block.specs.Block.{Placed, bytes_of_lines, AllOther, none, more, BlankOrEnd, end, blank, Blocks, block, BlocksOf}
use Rattle.block.specs.Reading.{blank_line, block_rest, block_length, part_length, block_here, blocks}
use Rattle.block.proofs.Lines.{Starts, starts, no_lines, blank_iff, other_line, block_first, size, back, lines_of}
use Rattle.block.proofs.Parts.{fresh_over, fresh_on, leap_blank, leap_block}

-- ---- a run of lines at the front of a text
pub record Run (s : List ℕ) (run rest : List (List ℕ)) : Type 0 where
  pub after : List ℕ
  pub whole : s ≡ bytes_of_lines run ++ after
  pub others : Lines after rest

pub run_of : {s : List ℕ} (run rest : List (List ℕ)) → Lines s (run ++ rest) → Run s run rest
run_of {s} [] rest p = record { after = s; whole = refl; others = p }
run_of {s = s} (l ∷ run) rest p =
    let f = starts p in
    let r = run_of {s = f.rest} run rest f.others in
    record { after = r.after; whole = f.whole ∙ ap (λ (x : List ℕ). l ++ x) r.whole ∙ sym (append_assoc l (bytes_of_lines run) r.after); others = r.others }

starts_blank : {s l : List ℕ} {ls : List (List ℕ)} → Starts s l ls → Blank l → blank_line s ≡ true
starts_blank f m = rw f.whole ((blank_iff f.is_line).1 m)

starts_other : {s l : List ℕ} {ls : List (List ℕ)} → Starts s l ls → (Blank l → ⊥) → blank_line s ≡ false
starts_other f n = rw f.whole (other_line f.is_line n)

-- ---- how far a block goes
over_zero : {s : List ℕ} {rest : List (List ℕ)} → BlankOrEnd rest → Lines s rest → block_rest true s ≡ 0
unfolding block_rest
over_zero end p = rw (no_lines p)
over_zero {s} (blank m) p = fresh_over s (starts_blank (starts p) m)

run_length : {s : List ℕ} {run rest : List (List ℕ)} → AllOther run → BlankOrEnd rest → Lines s (run ++ rest) → block_rest true s ≡ length (bytes_of_lines run)
run_length none over p = over_zero over p
run_length {s} (more {l} {ls} n others) over p =
    let f = starts p in
    let h = run_length {s = f.rest} others over f.others in
    fresh_on s (starts_other f n) ∙ rw f.whole (block_first f.is_line ∙ rw h (sym (length-append l (bytes_of_lines ls))))

block_length_lem : {s l : List ℕ} {run rest : List (List ℕ)} → AllOther (l ∷ run) → BlankOrEnd rest → Lines s ((l ∷ run) ++ rest) → block_length s ≡ length (bytes_of_lines (l ∷ run))
unfolding block_length
block_length_lem {s} (more n others) over p = sym (fresh_on s (starts_other (starts p) n)) ∙ run_length (more n others) over p

-- ---- complete: what the law calls the blocks is read
other_first : {l : List ℕ} {run : List (List ℕ)} → AllOther (l ∷ run) → Blank l → ⊥
other_first (more n others) = n

pub starts_some : {s l : List ℕ} {ls : List (List ℕ)} → Starts s l ls → 0 < length s
starts_some {s} {l} f = let h = ap length f.whole ∙ length-append l f.rest in omega (arith, f.is_line.nonempty)

complete : {at : ℕ} {ls : List (List ℕ)} {bs : List Placed} → Blocks at ls bs → {s : List ℕ} → Lines s ls → leap part_length block_here 0 s at ≡ bs
unfolding leap
complete none p = rw (no_lines p)
complete (blank {at} {l} m on) {s} p =
    let f = starts p in
    leap_blank s at (starts_some f) (starts_blank f m) ∙ rw (← (back f), size f) (complete on f.others)
complete (block {at} {l} {run} {rest} {bs} others over on) {s} p =
    let r = run_of (l ∷ run) rest p in
    let n = block_length_lem others over p in
    let t : take (block_length s) s ≡ bytes_of_lines (l ∷ run) = ap (take (block_length s)) r.whole ∙ take_at (bytes_of_lines (l ∷ run)) r.after (block_length s) (sym n) in
    let d : drop (block_length s) s ≡ r.after = ap (drop (block_length s)) r.whole ∙ drop_at (bytes_of_lines (l ∷ run)) r.after (block_length s) (sym n) in
    leap_block s at (starts_other (starts p) (other_first others)) ∙ rw (t, d, n, complete on r.others)

-- ---- sound: the law has blocks for every note. ls is a run of other lines and a rest, and the rest has its blocks
record Divided (ls : List (List ℕ)) : Type 0 where
  run : List (List ℕ)
  rest : List (List ℕ)
  whole : ls ≡ run ++ rest
  others : AllOther run
  over : BlankOrEnd rest
  on : (at : ℕ) → (bs : List Placed) × Blocks at rest bs

blocks_at : {ls : List (List ℕ)} (d : Divided ls) (at : ℕ) → (bs : List Placed) × Blocks at ls bs
blocks_at d at = rw d.whole (from d.run d.others)
  where
    from : (run : List (List ℕ)) → AllOther run → (bs : List Placed) × Blocks at (run ++ d.rest) bs
    from [] none = d.on at
    from (l ∷ run) others = let (bs, on) = d.on (at + length (bytes_of_lines (l ∷ run))) in (record { at = at; bytes = bytes_of_lines (l ∷ run) } ∷ bs, block others d.over on)

divided : (ls after : List (List ℕ)) {s : List ℕ} → Lines s (ls ++ after) → Divided ls
divided [] after p = record { run = []; rest = []; whole = refl; others = none; over = end; on = λ at. ([], none) }
divided (l ∷ ls) after p =
    let f = starts p in
    let d = divided ls after f.others in
    by (blank_line (l ++ f.rest))
    (λ e.
    let m = (blank_iff f.is_line).0 e in
    record { run = []; rest = l ∷ ls; whole = refl; others = none; over = blank m; on = λ at. (let (bs, on) = blocks_at d (at + length l) in (bs, blank m on)) })
    (λ e.
    record {
      run = l ∷ d.run;
      rest = d.rest;
      whole = ap (λ (x : List (List ℕ)). l ∷ x) d.whole;
      others = more (λ m. true≢false (sym ((blank_iff f.is_line).1 m) ∙ e)) d.others;
      over = d.over;
      on = d.on;
    })

-- the lines ls, which stand at the front of the lines of s, have blocks
pub blocks_among : (ls after : List (List ℕ)) {s : List ℕ} → Lines s (ls ++ after) → (at : ℕ) → (bs : List Placed) × Blocks at ls bs
blocks_among ls after p at = blocks_at (divided ls after p) at

-- the blocks of a note are those that `blocks` reads
pub blocks_iff : (s : List ℕ) (bs : List Placed) → (blocks s ≡ bs) ↔ BlocksOf s bs
unfolding blocks
blocks_iff s bs = (
  (λ e.
      let m = lines_of s in
      let (cs, are) = blocks_among m.lines [] {s = s} (rw append-nil m.are_lines) 0 in
      record { lines = m.lines; are_lines = m.are_lines; are_blocks = rw (sym (complete are m.are_lines) ∙ e) at are }),
  (λ m. complete m.are_blocks m.are_lines),
)
