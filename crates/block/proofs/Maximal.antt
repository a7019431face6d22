-- The blocks of a note are its maximal runs of other lines, all of them and nothing else.
use Prim.Native.Nat.{ℕ, ◌+◌}
use native.Mathlib.Nat.{add_assoc, add-zero, zero-add}
use native.Mathlib.Omega.{arith}
use mathlib.Core.Path.{◌≡◌, refl, ap, ◌∙◌}
use mathlib.Core.List.Memᴰ
use mathlib.Core.List.{List, [], ◌∷◌, ◌++◌, append_assoc, append-nil, Memᴰ}
use mathlib.Core.Logic.{◌↔◌, ◌⊎◌, inl, inr, ⊎_elim}
use lib.ListN.{length, length-append}
use Rattle.block.specs.Line.{Lines, Blank}
use Rattle.block.specs.Block.{Placed, bytes_of_lines, AllOther, none, more, BlankOrEnd, blank, Fresh, start, blank_last, further, MaximalRun, Blocks, block}
use Rattle.block.specs.Reading.{blocks}
use Rattle.block.proofs.Blocks.{run_of, blocks_iff, blocks_among}

fresh_snoc : (ls : List (List ℕ)) {l : List ℕ} → Blank l → Fresh (ls ++ l ∷ [])
fresh_snoc [] m = blank_last m
fresh_snoc (x ∷ []) m = further (blank_last m)
fresh_snoc (x ∷ y ∷ ls) m = further (fresh_snoc (y ∷ ls) m)

fresh_tail : {l : List ℕ} {ls : List (List ℕ)} → Fresh (l ∷ ls) → Fresh ls
fresh_tail (blank_last m) = start
fresh_tail (further f) = f

fresh_rest : (run : List (List ℕ)) {rest : List (List ℕ)} → Fresh (run ++ rest) → Fresh rest
fresh_rest [] f = f
fresh_rest (l ∷ run) f = fresh_rest run (fresh_tail f)

joined_length : (ls ms : List (List ℕ)) → length (bytes_of_lines (ls ++ ms)) ≡ length (bytes_of_lines ls) + length (bytes_of_lines ms)
joined_length [] ms = omega arith
joined_length (l ∷ ls) ms = let h = joined_length ls ms in omega (arith, length-append l (bytes_of_lines ls), length-append l (bytes_of_lines (ls ++ ms)))

-- ---- a block is a maximal run. `before` are the lines already passed
not_both : {l : List ℕ} {run rest : List (List ℕ)} → AllOther (l ∷ run) → BlankOrEnd (l ∷ rest) → ⊥
not_both (more n others) (blank m) = n m

is_run : (s : List ℕ) {at : ℕ} {ls : List (List ℕ)} {bs : List Placed} {b : Placed} → Blocks at ls bs → (before : List (List ℕ)) → at ≡ length (bytes_of_lines before)
    → Lines s (before ++ ls) → Fresh before ⊎ BlankOrEnd ls → Memᴰ b bs → MaximalRun s b
is_run s none before e p o m = absurd (Memᴰ.not-nil m)
is_run s (blank {at} {l} {ls} q on) before e p o m =
    is_run s on (before ++ l ∷ []) (omega (arith, joined_length before (l ∷ []), length-append l [])) (rw append_assoc p) (inl (fresh_snoc before q)) m
is_run s (block {at} {l} {run} {rest} others over on) before e p o m =
    ⊎_elim
    (λ h.
    record {
      before = before;
      first = l;
      run = run;
      after = rest;
      are_lines = p;
      others = others;
      fresh = ⊎_elim (λ f. f) (λ q. absurd (not_both others q)) o;
      over = over;
      whole = h ∙ ap (λ (x : ℕ). record { at = x; bytes = bytes_of_lines (l ∷ run) }) e;
    })
    (λ h. is_run s on (before ++ (l ∷ run)) (omega (arith, joined_length before (l ∷ run))) (rw append_assoc p) (inr over) h)
    (Memᴰ.cases_cons m)

-- ---- a maximal run is a block: the blocks before it and those from it on are the blocks of all
last_other : {l : List ℕ} (run : List (List ℕ)) → AllOther (l ∷ run) → Fresh (l ∷ run) → ⊥
last_other [] (more n others) (blank_last m) = n m
last_other (x ∷ run) (more n others) (further f) = last_other run others f

over_on : {l : List ℕ} {run : List (List ℕ)} (rest after : List (List ℕ)) → AllOther (l ∷ run) → Fresh ((l ∷ run) ++ rest) → BlankOrEnd rest → BlankOrEnd (rest ++ after)
over_on {run = run} [] after others f o = absurd (last_other run others (rw append-nil at f))
over_on (x ∷ rest) after others f (blank m) = blank m

append : {at : ℕ} {ls : List (List ℕ)} {bs : List Placed} → Blocks at ls bs → Fresh ls → {after : List (List ℕ)} {cs : List Placed}
    → Blocks (at + length (bytes_of_lines ls)) after cs → Blocks at (ls ++ after) (bs ++ cs)
append (none {at}) f q = rw add-zero at q
append (blank {at} {l} {ls} m on) f q = blank m (append on (fresh_tail f) (rw (length-append, ← add_assoc) at q))
append (block {at} {l} {run} {rest} others over on) f {after} q =
    rw append_assoc (block others (over_on rest after others f over) (append on (fresh_rest (l ∷ run) f) (rw (joined_length, ← add_assoc) at q)))

pub run_is : (s : List ℕ) (b : Placed) → MaximalRun s b → Memᴰ b (blocks s)
run_is s b r =
    let n = length (bytes_of_lines r.before) in
    let t = run_of r.before ((r.first ∷ r.run) ++ r.after) r.are_lines in
    let u = run_of (r.first ∷ r.run) r.after t.others in
    let (bs, front) = blocks_among r.before ((r.first ∷ r.run) ++ r.after) r.are_lines 0 in
    let (cs, back) = blocks_among r.after [] {s = u.after} (rw append-nil u.others) (0 + n + length (bytes_of_lines (r.first ∷ r.run))) in
    let e = (blocks_iff s _).1 (record { lines = _; are_lines = r.are_lines; are_blocks = append front r.fresh (block r.others r.over back) }) in
    rw e (Memᴰ.append_right bs (Memᴰ.head (r.whole ∙ rw (zero-add n))))

pub block_iff : (s : List ℕ) (b : Placed) → Memᴰ b (blocks s) ↔ MaximalRun s b
block_iff s b = ((λ m. let o = (blocks_iff s (blocks s)).0 refl in is_run s o.are_blocks [] refl o.are_lines (inl start) m), run_is s b)
