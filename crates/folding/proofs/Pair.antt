-- The characters of two bytes: where their bytes and their code points lie.
use Prim.Native.Nat.{ℕ, ◌+◌, ◌*◌, ◌≤◌, ◌<◌}
use native.Mathlib.Omega.{arith}
use mathlib.Core.Path.{◌≡◌}
use mathlib.Core.Bool.{true, false, ◌&&◌}
use borrow.Author.Tests.{leb-true, ltb-true}
use lib.Dec.{leb, ltb}
use Rattle.scan.specs.Byte.{within}
use Rattle.scan.proofs.Test.{by, and_left, and_right}
use Rattle.folding.specs.Pair.{pair, code_of}

pub pair_bounds : (b x : ℕ) → pair b x ≡ true → (194 ≤ b) × (128 ≤ x) × (b * 64 + x < 13744)
unfolding pair
pair_bounds b x e =
    let l : within 0xC2 0xD4 b ≡ true = and_left _ (within 0x80 0xBF x && ltb (b * 64 + x) 13744) e in
    let r : (within 0x80 0xBF x && ltb (b * 64 + x) 13744) ≡ true = and_right (within 0xC2 0xD4 b) _ e in
    (leb-true _ _ (and_left _ (leb b 0xD4) l), leb-true _ _ (and_left _ (leb x 0xBF) (and_left _ (ltb (b * 64 + x) 13744) r)), ltb-true _ _ (and_right (within 0x80 0xBF x) _ r))

pub code_low : (b x : ℕ) → pair b x ≡ true → 128 ≤ code_of b x
unfolding code_of
code_low b x e = let h = pair_bounds b x e in omega arith

pub code_high : (b x : ℕ) → pair b x ≡ true → code_of b x < 1328
unfolding code_of
code_high b x e = let h = pair_bounds b x e in omega arith

pub low_alone : (b x : ℕ) → b < 194 → pair b x ≡ false
low_alone b x h = by (pair b x) (λ e. let k = pair_bounds b x e in let no : ⊥ = omega arith in absurd no) (λ e. e)
