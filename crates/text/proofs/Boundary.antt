-- In well-formed text an ASCII byte is a character by itself, so what stands before it and what stands after it is well-formed too:
-- `characters` counts the code points of any part that lies between two ASCII bytes.
use Prim.Native.Nat.{ℕ, suc, ◌<◌}
use native.Mathlib.Omega.{arith}
use mathlib.Core.Path.{◌≡◌, refl, ap}
use mathlib.Core.Logic.{◌⊎◌, inl, inr, ⊎_elim}
use mathlib.Core.List.{List, [], ◌∷◌, ◌++◌}
use lib.ListN.{length, length-append}
use Rattle.scan.proofs.Member.{in_here, in_back}
use Rattle.text.specs.Utf8.{Character, Run, none, more, WellFormed}
use Rattle.text.proofs.Character.{alone, later_byte}

-- ---- two ways to part one list
Parted : List ℕ → List ℕ → List ℕ → ℕ → List ℕ → Type 0
Parted c s l b r =
    ((m : List ℕ) × (l ≡ c ++ m) × (s ≡ m ++ b ∷ r)) ⊎ ((d : List ℕ) × (c ≡ l ++ b ∷ d) × (r ≡ d ++ s))

parted : (c s l : List ℕ) (b : ℕ) (r : List ℕ) → c ++ s ≡ l ++ b ∷ r → Parted c s l b r
unfolding Parted
parted [] s l b r e = inl (l, refl, e)
parted (x ∷ c) s [] b r e = let q : x ≡ b = cc in inr (c, rw q, cc)
parted (x ∷ c) s (y ∷ l) b r e =
    let q : x ≡ y = cc in
    let f : c ++ s ≡ l ++ b ∷ r = cc in
    ⊎_elim (λ v. inl (v.0, rw (q, v.1), v.2)) (λ v. inr (v.0, rw (q, v.1), v.2)) (parted c s l b r f)

-- ---- an ASCII byte within a character is the whole of it
whole_character : (l : List ℕ) (b : ℕ) (d : List ℕ) → Character (l ++ b ∷ d) → b < 128 → (l ≡ []) × (d ≡ [])
whole_character [] b d w h = (refl, alone b d w h)
whole_character (x ∷ l) b d w h = let no : ⊥ = omega (arith, later_byte w (in_back l (b ∷ d) b (in_here d refl))) in absurd no

-- ---- the theorem
pub around_ascii : {s : List ℕ} {n : ℕ} → Run Character s n → (l : List ℕ) (b : ℕ) (r : List ℕ) → s ≡ l ++ b ∷ r → b < 128 → WellFormed l × WellFormed r
unfolding Parted
around_ascii none l b r e h = let no : ⊥ = omega (arith, simp length-append at (ap length e)) in absurd no
around_ascii (more {c = c} {s = s} {n = n} w k) l b r e h =
    ⊎_elim
    (λ v. let u = around_ascii k v.0 b r v.2 h in
    (record { count = suc u.0.count; run = rw v.1 (more w u.0.run) }, u.1))
    (λ v. let q = whole_character l b v.0 (rw v.1 at w) h in
    (record { count = 0; run = rw q.0 none }, record { count = n; run = rw (v.2, q.1) k }))
    (parted c s l b r e)
