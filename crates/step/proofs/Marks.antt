-- The marks of what follows a closing bracket are lent to the tail reader, and come back.
use Prim.Native.Nat.{ℕ, ◌+◌, ◌-◌, ◌<◌}
use native.Mathlib.Omega.{arith}
use mathlib.Core.Path.{◌≡◌, sym, ◌∙◌}
use mathlib.Core.List.{List, ◌++◌}
use mathlib.Core.Bool.{Bool, true, false}
use lib.ListN.{length, get_or, take, drop, length-append, get_or-append}
use lib.Seq.{drop_at, length-take-le}
use Rattle.parens.specs.Unclosed.{slashed, Prepared}
use Rattle.parens.proofs.Parts.{unslashed, part_whole, part_prepared, whole_prepared, later}

-- what stands past the table is of no account
wider : {s : List ℕ} {m : List Bool} {k : ℕ} (z : List Bool) → Prepared s k m → Prepared s k (m ++ z)
wider {s} {m} z t =
    record {
      wide = omega (arith, t.wide, length-append m z);
      made =
          λ e. record {
            marked = λ i h x. get_or-append m z false i (omega (arith, t.wide)) ∙ (t.made (sym (get_or-append m z false (length s) t.wide) ∙ e)).marked i h x;
          };
    }

module _ (p : List ℕ) (c : ℕ) (e : get_or p c 0 ≡ 93) (h : c < length p) where
  after_bracket : slashed p (c + 1) ≡ false
  after_bracket = unslashed p c (λ q. omega arith)

  pub lent : (m : List Bool) → Prepared p c m → Prepared (take (length p - (c + 1)) (drop (c + 1) p)) 0 (take (length m - (c + 1)) (drop (c + 1) m))
  lent m t = rw (part_whole p (c + 1), part_whole m (c + 1)) (part_prepared p (c + 1) after_bracket (omega arith) (later (omega arith) t))

  pub back : (m part z : List Bool) → Prepared p c m → Prepared (take (length p - (c + 1)) (drop (c + 1) p)) 0 part → Prepared p (c + 1) (take (c + 1) m ++ (part ++ z))
  back m part z w t =
      let k : length (take (c + 1) m) ≡ c + 1 = length-take-le (c + 1) m (omega (arith, w.wide)) in
      whole_prepared p (c + 1) after_bracket {m = take (c + 1) m ++ (part ++ z)} (omega arith) (rw (drop_at (take (c + 1) m) (part ++ z) (c + 1) k) (wider z (rw (part_whole p (c + 1)) at t)))
