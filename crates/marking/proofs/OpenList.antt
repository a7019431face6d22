-- The brackets open at a point, as a list: every marking has one at every point, and its length is their number.
use mathlib.Core.Path.{◌≡◌, refl, sym, ap, ◌∙◌}
use mathlib.Core.Logic.{◌⊎◌, inl, inr}
use mathlib.Core.Bool.{Bool, true, false, false≢true, cond, not, ◌&&◌, ◌||◌}
use mathlib.Core.Option.{Option, none, some, some-injective, none-ne-some}
use mathlib.Core.List.{List, [], ◌∷◌}
use Prim.Native.Nat.{ℕ, zero, suc, ◌+◌, ◌<◌}
use native.Mathlib.Decide.{ℕ_discrete}
use native.Mathlib.Omega.{arith}
use lib.ListN.{length, get_elem?}
use Rattle.marking.specs.Marking.{Role, nothing, opening, closing, trailing, role, Piece, Marking, Plays}
use Rattle.scan.specs.Member.{In}
use Rattle.marking.specs.Open.{count, any, is_opening, opens_by, opens_at, opened_before, paired_before, open_brackets}
use Rattle.marking.proofs.Sorted.{in_cases, in_later, in_none, sorted_same}

-- the opening piece i stands before the point k, and is paired with no piece before it
pub record OpenAt {T : Type 0} (m : Marking T) (k i : ℕ) : Type 0 where
  pub bracket : Plays opening m.pieces i
  pub before : i < k
  pub unpaired : (j : ℕ) → j < k → m.pairs i j ≡ true → ⊥

-- xs lists the brackets open at the point k, the last one first
pub record OpenAre {T : Type 0} (m : Marking T) (k : ℕ) (xs : List ℕ) : Type 0 where
  pub each : (i : ℕ) → OpenAt m k i → In i xs
  pub no_others : (i : ℕ) → In i xs → OpenAt m k i
  pub falling : (d i j : ℕ) → get_elem? xs d ≡ some i → get_elem? xs (suc d) ≡ some j → j < i

open_one : {T : Type 0} (m : Marking T) (k : ℕ) (xs ys : List ℕ) → OpenAre m k xs → OpenAre m k ys → xs ≡ ys
open_one m k xs ys a b =
    sorted_same (λ (u : ℕ) (v : ℕ). v < u) (λ u v x p q. omega arith) (λ u p. omega arith) xs ys a.falling b.falling
    (λ z h. b.each z (a.no_others z h)) (λ z h. a.each z (b.no_others z h))

-- ---- tests on the numbers below k

any_found : (test : ℕ → Bool) (k : ℕ) → any test k ≡ true → (j : ℕ) × (j < k) × (test j ≡ true)
any_found test zero e = absurd (false≢true e)
any_found test (suc k) e = by (λ (e' : any test k ≡ true). any_found test k e') (test k) refl e
  where
    by : (any test k ≡ true → (j : ℕ) × (j < k) × (test j ≡ true)) → (b : Bool) → test k ≡ b → b || any test k ≡ true → (j : ℕ) × (j < suc k) × (test j ≡ true)
    by below true h z = (k, omega arith, h)
    by below false h z = let w : (j : ℕ) × (j < k) × (test j ≡ true) = below z in (w.0, omega (arith, w.1), w.2)

any_back : (test : ℕ → Bool) (k j : ℕ) → j < k → test j ≡ true → any test k ≡ true
any_back test zero j h e = absurd (omega arith)
any_back test (suc k) j h e = by (λ (h' : j < k). any_back test k j h' e) (test k) refl (ℕ_discrete j k)
  where
    by : (j < k → any test k ≡ true) → (b : Bool) → test k ≡ b → Dec (j ≡ k) → b || any test k ≡ true
    by below true z d = refl
    by below false z (yes jk) = absurd (false≢true (sym z ∙ ap test (sym jk) ∙ e))
    by below false z (no ne) = below (omega arith)

-- the numbers below k that pass the test, the last one first
abbrev below : (ℕ → Bool) → ℕ → List ℕ
below test zero = []
below test (suc k) = cond (test k) (k ∷ below test k) (below test k)

below_length : (test : ℕ → Bool) (k : ℕ) → length (below test k) ≡ count test k
below_length test zero = refl
below_length test (suc k) = by (test k) (below_length test k)
  where
    by : (b : Bool) → length (below test k) ≡ count test k → length (cond b (k ∷ below test k) (below test k)) ≡ cond b 1 0 + count test k
    by true e = omega arith
    by false e = omega arith

below_in : (test : ℕ → Bool) (k i : ℕ) → In i (below test k) → (i < k) × (test i ≡ true)
below_in test zero i h = absurd (in_none i h)
below_in test (suc k) i h = by (λ (h' : In i (below test k)). below_in test k i h') (test k) refl h
  where
    older : (In i (below test k) → (i < k) × (test i ≡ true)) → In i (below test k) → (i < suc k) × (test i ≡ true)
    older rest h' = let w : (i < k) × (test i ≡ true) = rest h' in (omega (arith, w.0), w.1)

    split : (In i (below test k) → (i < k) × (test i ≡ true)) → test k ≡ true → (k ≡ i) ⊎ In i (below test k) → (i < suc k) × (test i ≡ true)
    split rest e (inl z) = (omega arith, ap test (sym z) ∙ e)
    split rest e (inr h') = older rest h'

    by : (In i (below test k) → (i < k) × (test i ≡ true)) → (b : Bool) → test k ≡ b → In i (cond b (k ∷ below test k) (below test k)) → (i < suc k) × (test i ≡ true)
    by rest true e h' = split rest e (in_cases i k (below test k) h')
    by rest false e h' = older rest h'

in_below : (test : ℕ → Bool) (k i : ℕ) → i < k → test i ≡ true → In i (below test k)
in_below test zero i h e = absurd (omega arith)
in_below test (suc k) i h e = by (λ (h' : i < k). in_below test k i h' e) (test k) refl (ℕ_discrete i k)
  where
    by : (i < k → In i (below test k)) → (b : Bool) → test k ≡ b → Dec (i ≡ k) → In i (cond b (k ∷ below test k) (below test k))
    by rest true z (yes ik) = (0, ap {B = Option ℕ} some (sym ik))
    by rest true z (no ne) = in_later i k (below test k) (rest (omega arith))
    by rest false z (yes ik) = absurd (false≢true (sym z ∙ ap test (sym ik) ∙ e))
    by rest false z (no ne) = rest (omega arith)

below_falls : (test : ℕ → Bool) (k d i j : ℕ) → get_elem? (below test k) d ≡ some i → get_elem? (below test k) (suc d) ≡ some j → j < i
below_falls test zero d i j p q = absurd (none-ne-some i p)
below_falls test (suc k) d i j p q = by (λ (d : ℕ) (p : get_elem? (below test k) d ≡ some i) (q : get_elem? (below test k) (suc d) ≡ some j). below_falls test k d i j p q) (test k) d p q
  where
    Older : Type 0
    Older = (d : ℕ) → get_elem? (below test k) d ≡ some i → get_elem? (below test k) (suc d) ≡ some j → j < i

    by : Older → (b : Bool) (d : ℕ) → get_elem? (cond b (k ∷ below test k) (below test k)) d ≡ some i → get_elem? (cond b (k ∷ below test k) (below test k)) (suc d) ≡ some j → j < i
    by rest true zero p q = let z : k ≡ i = some-injective k i p in omega (arith, (below_in test k j (0, q)).0)
    by rest true (suc d) p q = rest d p q
    by rest false d p q = rest d p q

-- ---- the brackets that pass the test "opens, and is not paired by then"

count_split : (f h : ℕ → Bool) (k : ℕ) → count f k ≡ count (λ i. f i && h i) k + count (λ i. f i && not (h i)) k
count_split f h zero = refl
count_split f h (suc k) = by (f k) (h k) (count_split f h k)
  where
    by : (a b : Bool) → count f k ≡ count (λ i. f i && h i) k + count (λ i. f i && not (h i)) k
        → cond a 1 0 + count f k ≡ (cond (a && b) 1 0 + count (λ i. f i && h i) k) + (cond (a && not b) 1 0 + count (λ i. f i && not (h i)) k)
    by true true e = omega arith
    by true false e = omega arith
    by false b e = omega arith

and_true : (a b : Bool) → a && b ≡ true → (a ≡ true) × (b ≡ true)
and_true true b e = (refl, e)
and_true false b e = absurd (false≢true e)

not_both_true : (b : Bool) → not b ≡ true → b ≡ true → ⊥
not_both_true true e e' = false≢true e
not_both_true false e e' = false≢true e'

not_true_of : (b : Bool) → (b ≡ true → ⊥) → not b ≡ true
not_true_of true f = absurd (f refl)
not_true_of false f = refl

is_opening_lem : (r : Role) → is_opening r ≡ true → r ≡ opening
is_opening_lem nothing e = absurd (false≢true e)
is_opening_lem opening e = refl
is_opening_lem closing e = absurd (false≢true e)
is_opening_lem trailing e = absurd (false≢true e)

module _ {T : Type 0} (m : Marking T) where
  opens_plays : (i : ℕ) → opens_at m i ≡ true → Plays opening m.pieces i
  opens_plays i e = by (get_elem? m.pieces i) refl e
    where
      by : (o : Option Piece) → get_elem? m.pieces i ≡ o → opens_by o ≡ true → Plays opening m.pieces i
      by none z e' = absurd (false≢true e')
      by (some q) z e' = record { piece = q; at = z; as_role = is_opening_lem (role q.kind) e' }

  plays_opens : (i : ℕ) → Plays opening m.pieces i → opens_at m i ≡ true
  plays_opens i p = ap opens_by p.at ∙ ap is_opening p.as_role

  abbrev is_open : ℕ → ℕ → Bool
  is_open k i = opens_at m i && not (any (m.pairs i) k)

  abbrev pub open_list : ℕ → List ℕ
  open_list k = below (is_open k) k

  pub listed : (k : ℕ) → OpenAre m k (open_list k)
  listed k =
      record {
        each = λ i o. in_below (is_open k) k i o.before (passes i o);
        no_others = λ i h. opened_by i (below_in (is_open k) k i h);
        falling = below_falls (is_open k) k;
      }
    where
      passes : (i : ℕ) → OpenAt m k i → is_open k i ≡ true
      passes i o =
          let free : not (any (m.pairs i) k) ≡ true = not_true_of (any (m.pairs i) k) (λ e. let w : (j : ℕ) × (j < k) × (m.pairs i j ≡ true) = any_found (m.pairs i) k e in o.unpaired w.0 w.1 w.2) in
          ap (λ (b : Bool). b && not (any (m.pairs i) k)) (plays_opens i o.bracket) ∙ free

      opened_by : (i : ℕ) → (i < k) × (is_open k i ≡ true) → OpenAt m k i
      opened_by i h =
          let w : (opens_at m i ≡ true) × (not (any (m.pairs i) k) ≡ true) = and_true (opens_at m i) (not (any (m.pairs i) k)) h.1 in
          record { bracket = opens_plays i w.0; before = h.0; unpaired = λ j hj p. not_both_true (any (m.pairs i) k) w.1 (any_back (m.pairs i) k j hj p) }

  pub number_is : (k : ℕ) (xs : List ℕ) → OpenAre m k xs → open_brackets m k ≡ length xs
  unfolding open_brackets opened_before paired_before
  number_is k xs a =
      let e : length xs ≡ length (open_list k) = ap length (open_one m k xs (open_list k) a (listed k)) in
      omega (arith, below_length (is_open k) k, count_split (opens_at m) (λ i. any (m.pairs i) k) k)
