-- `code_content` is the content of a code span, and there is one.
use Prim.Native.Nat.{ℕ, zero, suc, ◌-◌, ◌≤◌, ◌<◌}
use native.Mathlib.Omega.{arith}
use mathlib.Core.Path.{◌≡◌, refl, sym, ap, subst, ◌∙◌}
use mathlib.Core.List.{List, [], ◌∷◌, ◌++◌, map, append-nil}
use mathlib.Core.Bool.{Bool, true, false, true≢false, cond, ◌&&◌}
use mathlib.Core.Logic.{◌↔◌}
use lib.ListN.{length, get_or, take, drop, length-append, length-map, get_or-map}
use lib.Seq.{take-suc, take-length, take-append_seam, get_or-append_seam}
use lib.Dec.{eqb, ltb}
use borrow.Author.Tests.{ltb-true, ltb-false, lt-ltb, le-ltb, eqb-true}
use Rattle.scan.proofs.Test.{by, and_left, and_right, and_false, or_false}
use Rattle.scan.specs.Reading.{run}
use Rattle.scan.proofs.Scan.{run_yes, run_no}
use Rattle.scan.specs.Every.{Every, none, empty}
use Rattle.scan.proofs.Every.{run_iff}
use Rattle.code.specs.Code.{feed_as_space, space, Trimmed, dropped, all_spaces, other_start, other_end, Code}
use Rattle.code.specs.Reading.{space_or_lf, margin, code_content}

-- ---- the run of spaces at the front, and the whole
run_most : (c : List ℕ) → run space c ≤ length c
run_most c =
    let f = (run_iff space c (run space c)).0 refl in
    omega (arith, f.size, ap length f.is_front.whole, length-append f.front f.rest)

run_all : {c : List ℕ} → Every space c → run space c ≡ length c
run_all {c} e = (run_iff space c (length c)).1 (record { front = c; rest = []; is_front = record { whole = sym (append-nil c); passes = e; halts = empty }; size = refl })

no_rest : (l : List ℕ) → length l ≡ 0 → l ≡ []
no_rest [] e = refl
no_rest (b ∷ l) e = let no : ⊥ = omega arith in absurd no

all_run : (c : List ℕ) → run space c ≡ length c → Every space c
all_run c e =
    let f = (run_iff space c (length c)).0 e in
    let z = no_rest f.rest (omega (arith, f.size, ap length f.is_front.whole, length-append f.front f.rest)) in
    rw (f.is_front.whole, z, append-nil) f.is_front.passes

-- ---- the reading over the content whose LFs became spaces
abbrev surrounded : List ℕ → Bool
surrounded c = ltb 0 (run space c) && ltb (run space c) (length c) && space (get_or c (length c - 1) 0)

unfoldable trim : List ℕ → List ℕ
trim c = take (length c - cond (surrounded c) 1 0 - cond (surrounded c) 1 0) (drop (cond (surrounded c) 1 0) c)

trim_no : (c : List ℕ) → surrounded c ≡ false → trim c ≡ c
unfolding trim
trim_no c e = let z : length c - 0 - 0 ≡ length c = omega arith in rw (e, z) (take-length c)

trim_yes : (b : ℕ) (t : List ℕ) → surrounded (b ∷ t) ≡ true → trim (b ∷ t) ≡ take (length t - 1) t
unfolding trim
trim_yes b t e = let z : suc (length t) - 1 - 1 ≡ length t - 1 = omega arith in rw (e, z)

-- ---- the last byte
last_of : (l : List ℕ) (b : ℕ) → get_or (l ++ b ∷ []) (length (l ++ b ∷ []) - 1) 0 ≡ b
last_of l b =
    let z : length (l ++ b ∷ []) - 1 ≡ length l = omega (arith, length-append l (b ∷ [])) in
    rw z (get_or-append_seam l b [] 0)

last : (c : List ℕ) → 0 < length c → c ≡ take (length c - 1) c ++ get_or c (length c - 1) 0 ∷ []
last c h =
    let z : suc (length c - 1) ≡ length c = omega arith in
    sym (take-length c) ∙ (rw z at (take-suc c (length c - 1) 0 (omega arith)))

-- ---- a content that is surrounded by spaces, taken apart
record Inside (c : List ℕ) : Type 0 where
  nonempty : 0 < run space c
  not_all : run space c < length c
  last_space : space (get_or c (length c - 1) 0) ≡ true

inside : (c : List ℕ) → surrounded c ≡ true → Inside c
inside c e =
    let f = and_left _ (space (get_or c (length c - 1) 0)) e in
    record {
      nonempty = ltb-true 0 (run space c) (and_left _ (ltb (run space c) (length c)) f);
      not_all = ltb-true (run space c) (length c) (and_right (ltb 0 (run space c)) _ f);
      last_space = and_right (ltb 0 (run space c) && ltb (run space c) (length c)) _ e;
    }

surrounds : (c : List ℕ) → Inside c → surrounded c ≡ true
surrounds c i = simp (lt-ltb 0 (run space c) i.nonempty, lt-ltb (run space c) (length c) i.not_all, i.last_space)

-- ---- sound
starts_with_space : (b : ℕ) (t : List ℕ) → 0 < run space (b ∷ t) → b ≡ 32
starts_with_space b t h =
    by (space b) (λ e. eqb-true b 32 e) (λ e. let no : ⊥ = omega (arith, run_no space b t e) in absurd no)

yes : (c : List ℕ) → surrounded c ≡ true → Trimmed c (trim c)
yes [] e = let i = inside [] e in let no : ⊥ = omega (arith, i.nonempty, i.not_all) in absurd no
yes (b ∷ t) e =
    let i = inside (b ∷ t) e in
    let h : 0 < length t = omega (arith, i.nonempty, i.not_all) in
    let z : suc (length t) - 1 ≡ suc (length t - 1) = omega arith in
    let k : get_or t (length t - 1) 0 ≡ 32 = eqb-true _ 32 (rw z at i.last_space) in
    let w : b ∷ t ≡ 32 ∷ (take (length t - 1) t ++ 32 ∷ []) =
    rw (starts_with_space b t i.nonempty) (ap (λ (x : List ℕ). 32 ∷ x) (rw k at (last t h))) in
    rw (trim_yes b t e)
    (subst (λ (x : List ℕ). Trimmed x (take (length t - 1) t)) (sym w)
    (dropped (λ all. let r = run_all (subst (Every space) (sym w) all) in let no : ⊥ = omega (arith, r, i.not_all) in no)))

-- the last byte of a content that starts with a space, is not all spaces and is not surrounded
no_last : (c : List ℕ) → surrounded c ≡ false → 0 < run space c → run space c < length c → space (get_or c (length c - 1) 0) ≡ false
no_last c e h k =
    by (space (get_or c (length c - 1) 0))
    (λ y. absurd (true≢false (sym (surrounds c (record { nonempty = h; not_all = k; last_space = y })) ∙ e))) (λ n. n)

no : (c : List ℕ) → surrounded c ≡ false → Trimmed c c
no [] e = all_spaces none
no (b ∷ t) e =
    by (space b)
    (λ y.
    let h : 0 < run space (b ∷ t) = omega (arith, run_yes space b t y) in
    by (ltb (run space (b ∷ t)) (length (b ∷ t)))
    (λ k. subst (λ (x : List ℕ). Trimmed x x) (sym (last (b ∷ t) (omega arith)))
    (other_end (take (length (b ∷ t) - 1) (b ∷ t)) (get_or (b ∷ t) (length (b ∷ t) - 1) 0) (no_last (b ∷ t) e h (ltb-true _ _ k))))
    (λ k. all_spaces (all_run (b ∷ t) (omega (arith, run_most (b ∷ t), ltb-false (run space (b ∷ t)) (length (b ∷ t)) k)))))
    (λ n. other_start b t n)

trim_sound : (c : List ℕ) → Trimmed c (trim c)
trim_sound c = by (surrounded c) (yes c) (λ e. rw (trim_no c e) (no c e))

-- ---- complete
trim_complete : {c m : List ℕ} → Trimmed c m → trim c ≡ m
trim_complete (dropped {m} n) =
    let c : List ℕ = 32 ∷ (m ++ 32 ∷ []) in
    let l : space (get_or c (length c - 1) 0) ≡ true = rw (last_of (32 ∷ m) 32) in
    let k : run space c < length c =
    by (ltb (run space c) (length c)) (ltb-true _ _)
    (λ f. absurd (n (all_run c (omega (arith, run_most c, ltb-false (run space c) (length c) f))))) in
    let z : length (m ++ 32 ∷ []) - 1 ≡ length m = omega (arith, length-append m (32 ∷ [])) in
    trim_yes 32 (m ++ 32 ∷ []) (surrounds c (record { nonempty = omega (arith, run_yes space 32 (m ++ 32 ∷ []) refl); not_all = k; last_space = l }))
    ∙ rw z (take-append_seam m (32 ∷ []))
trim_complete (all_spaces {l} e) = trim_no l (simp (le-ltb (run space l) (length l) (omega (arith, run_all e)), and_false))
trim_complete (other_start b l e) = trim_no (b ∷ l) (simp (run_no space b l e))
trim_complete (other_end l b e) = trim_no (l ++ b ∷ []) (simp (last_of l b, e, and_false))

-- ---- the same over the bytes of the span
module _ (f : ℕ → ℕ) where
  map_take : (n : ℕ) (l : List ℕ) → map f (take n l) ≡ take n (map f l)
  map_take zero l = refl
  map_take (suc n) [] = refl
  map_take (suc n) (b ∷ l) = ap (λ (x : List ℕ). f b ∷ x) (map_take n l)

  map_drop : (n : ℕ) (l : List ℕ) → map f (drop n l) ≡ drop n (map f l)
  map_drop zero l = refl
  map_drop (suc n) [] = refl
  map_drop (suc n) (b ∷ l) = map_drop n l

space_or_lf_lem : (b : ℕ) → space_or_lf b ≡ space (feed_as_space b)
space_or_lf_lem b = by (eqb b 10) (λ e. rw (e, eqb-true b 10 e)) (λ e. rw (e, or_false))

run_spaced : (l : List ℕ) → run space_or_lf l ≡ run space (map feed_as_space l)
unfolding run
run_spaced [] = refl
run_spaced (b ∷ l) =
    by (space (feed_as_space b))
    (λ e. run_yes space_or_lf b l (space_or_lf_lem b ∙ e) ∙ ap suc (run_spaced l) ∙ sym (run_yes space (feed_as_space b) (map feed_as_space l) e))
    (λ e. run_no space_or_lf b l (space_or_lf_lem b ∙ e) ∙ sym (run_no space (feed_as_space b) (map feed_as_space l) e))

content : (l : List ℕ) → code_content l ≡ trim (map feed_as_space l)
unfolding margin trim
content l =
    let e : space_or_lf (get_or l (length l - 1) 0) ≡ space (get_or (map feed_as_space l) (length l - 1) 0) =
    space_or_lf_lem (get_or l (length l - 1) 0) ∙ ap space (sym (get_or-map feed_as_space l (length l - 1) 0)) in
    rw (map_take, map_drop, run_spaced, e, length-map)

pub code_iff : (l m : List ℕ) → Code l m ↔ (code_content l ≡ m)
code_iff l m = ((λ t. content l ∙ trim_complete t), (λ e. rw e at (rw (sym (content l)) at (trim_sound (map feed_as_space l)))))
