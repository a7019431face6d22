-- Where the pieces of a tiling stand.
use mathlib.Core.Path.{◌≡◌, sym, ap, ◌∙◌, subst}
use mathlib.Core.Option.{none, some-injective, none-ne-some}
use mathlib.Core.List.{List, [], ◌∷◌, ◌++◌}
use Prim.Native.Nat.{ℕ, zero, suc, ◌≤◌, ◌<◌}
use native.Mathlib.Omega.{arith}
use lib.ListN.{take, get_elem?}
use Rattle.marking.specs.Marking.{Piece, At, Tiles}

-- the end of the last piece
abbrev pub reach : ℕ → List Piece → ℕ
reach a [] = a
reach a (q ∷ qs) = reach q.end qs

pub tiles_start : (a b : ℕ) (ps : List Piece) (k : ℕ) (q : Piece) → Tiles a ps b → At ps k q → q.start ≡ reach a (take k ps)
tiles_start a b [] k q t h = absurd (none-ne-some q h)
tiles_start a b (x ∷ ps) zero q t h = ap (λ (y : Piece). y.start) (sym (some-injective x q h)) ∙ t.0
tiles_start a b (x ∷ ps) (suc k) q t h = tiles_start x.end b ps k q t.2 h

pub tiles_stop : (a b : ℕ) (ps : List Piece) (k : ℕ) → Tiles a ps b → get_elem? ps k ≡ none → reach a (take k ps) ≡ b
tiles_stop a b [] zero t h = t
tiles_stop a b [] (suc k) t h = t
tiles_stop a b (x ∷ ps) zero t h = absurd (none-ne-some x (sym h))
tiles_stop a b (x ∷ ps) (suc k) t h = tiles_stop x.end b ps k t.2 h

tiles_from : (a b : ℕ) (ps : List Piece) (k : ℕ) (y : Piece) → Tiles a ps b → At ps k y → a ≤ y.start
tiles_from a b [] k y t h = absurd (none-ne-some y h)
tiles_from a b (x ∷ ps) zero y t h = let e : x ≡ y = some-injective x y h in let s : x.start ≡ y.start = ap (λ (z : Piece). z.start) e in omega (arith, t.0)
tiles_from a b (x ∷ ps) (suc k) y t h = omega (arith, t.0, t.1, tiles_from x.end b ps k y t.2 h)

-- places grow with the pieces
pub tiles_order : (a b : ℕ) (ps : List Piece) (i k : ℕ) (x y : Piece) → Tiles a ps b → At ps i x → At ps k y → i < k → (x.start ≤ x.end) × (x.end ≤ y.start)
tiles_order a b [] i k x y t h h' l = absurd (none-ne-some y h')
tiles_order a b (p ∷ ps) i zero x y t h h' l = absurd (omega arith)
tiles_order a b (p ∷ ps) zero (suc k) x y t h h' l =
    let e : p ≡ x = some-injective p x h in
    let s : p.start ≡ x.start = ap (λ (z : Piece). z.start) e in
    let f : p.end ≡ x.end = ap (λ (z : Piece). z.end) e in
    (omega (arith, t.1), omega (arith, tiles_from p.end b ps k y t.2 h'))
tiles_order a b (p ∷ ps) (suc i) (suc k) x y t h h' l = tiles_order p.end b ps i k x y t.2 h h' (omega arith)

pub tiles_append : (a b d : ℕ) (ps qs : List Piece) → Tiles a ps b → Tiles b qs d → Tiles a (ps ++ qs) d
tiles_append a b d [] qs s t = subst (λ (x : ℕ). Tiles x qs d) (sym s) t
tiles_append a b d (p ∷ ps) qs s t = (s.0, s.1, tiles_append p.end b d ps qs s.2 t)
