-- The rows that stand in a table, one after the other.
use Prim.Native.Nat.{ℕ, zero, suc, ◌+◌, ◌*◌}
use native.Mathlib.Nat.{zero-mul, suc-mul}
use native.Mathlib.Omega.{arith}
use mathlib.Core.Path.{◌≡◌, refl, ap}
use mathlib.Core.Option.{some, some-injective, none-ne-some}
use mathlib.Core.List.{List, [], ◌∷◌, ◌++◌, append_assoc}
use lib.ListN.{length, take, drop, get_elem?}
use lib.Seq.{take_at, drop-append-add}
use Rattle.rows.specs.Rows.{rows}

module _ {A : Type 0} (width : ℕ) (numbers : A → List ℕ) where
  -- each of these has a row of this width
  abbrev pub EachWide : List A → Type 0
  EachWide xs = (k : ℕ) (x : A) → get_elem? xs k ≡ some x → length (numbers x) ≡ width

  -- the numbers of row k, with whatever follows the rows
  pub row_placed : (xs : List A) (rest : List ℕ) → EachWide xs → (k : ℕ) (x : A) → get_elem? xs k ≡ some x → take width (drop (k * width) (rows numbers xs ++ rest)) ≡ numbers x
  unfolding rows
  row_placed [] rest w k x e = absurd (none-ne-some x e)
  row_placed (y ∷ xs) rest w zero x e =
      rw (zero-mul, append_assoc (numbers y) (rows numbers xs) rest, take_at (numbers y) (rows numbers xs ++ rest) width (w 0 y refl)) (ap numbers (some-injective y x e))
  row_placed (y ∷ xs) rest w (suc k) x e =
      let n : suc k * width ≡ length (numbers y) + k * width = omega (arith, suc-mul k width, w 0 y refl) in
      rw (n, append_assoc (numbers y) (rows numbers xs) rest, drop-append-add (numbers y) (rows numbers xs ++ rest) (k * width)) (row_placed xs rest (λ j. w (suc j)) k x e)
