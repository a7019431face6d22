-- How long text on the page can be: at most six bytes for each byte.
use Prim.Native.Nat.{ℕ, ◌*◌, ◌≤◌}
use native.Mathlib.Omega.{arith}
use mathlib.Core.List.{List, [], ◌∷◌, flat_map}
use lib.ListN.{length, length-append}
use lib.Dec.{lit≤}
use Rattle.scan.proofs.Test.{by}
use Rattle.scan.specs.Byte.{escapes}
use Rattle.escaping.specs.Escaping.{escaped}
use Rattle.escaping.specs.Reading.{undone, text_of}
use Rattle.escaping.proofs.Undone.{undone_escape, undone_byte}
use Rattle.escaping.proofs.Cases.{on_escaped}

abbrev pub Six : List ℕ → Type 0
Six w = length w ≤ 6

pub escaped_most : (b : ℕ) → length (escaped b) ≤ 6
escaped_most b = on_escaped Six b (lit≤ tt) (lit≤ tt) (lit≤ tt) (lit≤ tt) (λ e. lit≤ tt)

pub each_most : (f : ℕ → List ℕ) → ((b : ℕ) → length (f b) ≤ 6) → (l : List ℕ) → length (flat_map f l) ≤ 6 * length l
unfolding flat_map
each_most f h [] = lit≤ tt
each_most f h (b ∷ l) = omega (arith, h b, each_most f h l, length-append (f b) (flat_map f l))

pub undone_most : (l : List ℕ) → length (undone l) ≤ length l
unfolding undone
undone_most [] = lit≤ tt
undone_most (b ∷ []) = lit≤ tt
undone_most (b ∷ p ∷ s) =
    by (escapes (b ∷ p ∷ s)) (λ e. rw (undone_escape b p s e) (omega (arith, undone_most s)))
    (λ e. rw (undone_byte b (p ∷ s) e) (omega (arith, undone_most (p ∷ s))))

pub text_most : (l : List ℕ) → length (text_of l) ≤ 6 * length l
text_most l = omega (arith, each_most escaped escaped_most (undone l), undone_most l)
