-- The numbers of the span that is read from a row, and its line, are the row's.
use Prim.Native.Nat.{ℕ, zero, suc, ◌+◌, ◌*◌, ◌<◌, ◌≤◌}
use native.Mathlib.Nat.{add-zero}
use native.Mathlib.Omega.{arith}
use mathlib.Core.Path.{◌≡◌, refl, sym, ap, ◌∙◌}
use mathlib.Core.List.{List, [], ◌∷◌}
use lib.ListN.{length, get_or, take, drop}
use Rattle.scan.proofs.Scan.{at_cons}
use Rattle.span.specs.Row.{width, numbers_on, whole_rows, row_at}
use Rattle.span.specs.Reading.{span_at, line_in}

-- n numbers from place a + j on, one after the other
abbrev each : List ℕ → ℕ → ℕ → ℕ → List ℕ
each t a j zero = []
each t a j (suc n) = get_or t (a + j) 0 ∷ each t a (suc j) n

each_taken : (t : List ℕ) (a n j : ℕ) → a + j + n ≤ length t → take n (drop (a + j) t) ≡ each t a j n
each_taken t a zero j h = refl
each_taken t a (suc n) j h =
    let e : a + j + 1 ≡ a + suc j = omega arith in
    ap (take (suc n)) (at_cons t (a + j) (omega arith)) ∙ ap (λ (l : List ℕ). get_or t (a + j) 0 ∷ l) (ap (λ (i : ℕ). take n (drop i t)) e ∙ each_taken t a n (suc j) (omega arith))

pub numbers_at : (t : List ℕ) (k : ℕ) → k < whole_rows t → numbers_on (line_in t k) (span_at t k) ≡ row_at t k
numbers_at t k h =
    let at = k * width in
    let a2 : at + 1 + 1 ≡ at + 2 = omega arith in
    let a4 : at + 3 + 1 ≡ at + 4 = omega arith in
    let a7 : at + 6 + 1 ≡ at + 7 = omega arith in
    let a9 : at + 8 + 1 ≡ at + 9 = omega arith in
    let z : at + 0 ≡ at = add-zero at in
    rw (a2, a4, a7, a9) (sym (rw z at (each_taken t at width 0 (omega arith))))
