-- Folding twice changes nothing, of whole texts and of compared forms.
use Prim.Native.Nat.{ℕ, ◌+◌, ◌*◌, ◌≤◌, ◌<◌}
use native.Mathlib.Omega.{arith}
use mathlib.Core.Path.{◌≡◌, refl, sym, ap, ◌∙◌}
use mathlib.Core.List.{List, [], ◌∷◌, ◌++◌}
use mathlib.Core.Bool.{Bool, true, false, true≢false, not, ◌&&◌, ◌||◌}
use borrow.Author.Tests.{eqb-true, leb-true, ltb-true, ltb-false, not-true}
use lib.ListN.{get_or}
use lib.Dec.{eqb, leb, ltb}
use Rattle.scan.specs.Byte.{within, blank}
use Rattle.scan.proofs.Test.{by, and_left, and_right}
use Rattle.casefold.specs.Fold.{expand, lower}
use Rattle.scan.specs.Lists.{equals}
use Rattle.scan.proofs.Lists.{equals_to}
use Rattle.folding.specs.Pair.{pair, code_of, headed}
use Rattle.folding.proofs.Pair.{pair_bounds, code_low, code_high, low_alone}
use Rattle.folding.proofs.Words.{alone, stays, settled, expand_settled, expand_headed}
use Rattle.matching.specs.Reading.{folds_from, folds, spaced, squeeze, compared}
use Rattle.matching.proofs.Forms.{folds_pair, folds_one, squeeze_blank, squeeze_ink}
use Rattle.matching.proofs.Spelled.{lower_high, low_second, no_pair_0}
use Rattle.matching.proofs.Starts.{blank_low, folds_blank, start_one, start_pair, spaced_headed}

-- ---- bytes that stay
not_lead : (x y : ℕ) → not (within 0xC2 0xD4 x) ≡ true → pair x y ≡ false
unfolding pair
not_lead x y e = let f : within 0xC2 0xD4 x ≡ false = not-true _ e in rw f

alone_one : (x : ℕ) (s : List ℕ) → alone x ≡ true → folds (x ∷ s) ≡ x ∷ folds s
alone_one x s e =
    folds_one x s (not_lead x (get_or s 0 0) (and_left _ (eqb (lower x) x) e))
    ∙ ap (λ (y : ℕ). y ∷ folds s) (eqb-true (lower x) x (and_right (not (within 0xC2 0xD4 x)) _ e))

either : (s t : Bool) → (s || t) ≡ true → s ≡ false → t ≡ true
either true t e f = absurd (true≢false f)
either false t e f = e

pub stay : (l m : List ℕ) → settled l ≡ true → folds (l ++ m) ≡ l ++ folds m
unfolding settled
stay [] m e = refl
stay (x ∷ []) m e = alone_one x m e
stay (x ∷ y ∷ l) m e =
    by (alone x && settled (y ∷ l))
    (λ a.
    alone_one x (y ∷ (l ++ m)) (and_left _ (settled (y ∷ l)) a) ∙ ap (λ (r : List ℕ). x ∷ r) (stay (y ∷ l) m (and_right (alone x) _ a)))
    (λ a.
    let f : (stays x y && settled l) ≡ true = either _ _ e a in
    let g : stays x y ≡ true = and_left _ (settled l) f in
    let h : expand (code_of x y) ≡ x ∷ y ∷ [] = equals_to _ _ (and_right (pair x y) _ g) in
    folds_pair x y (l ++ m) (and_left _ (equals (expand (code_of x y)) (x ∷ y ∷ [])) g)
    ∙ ap (λ (r : List ℕ). r ++ folds (l ++ m)) h
    ∙ ap (λ (r : List ℕ). x ∷ y ∷ r) (stay l m (and_right (stays x y) _ f)))

-- ---- lower case
pub lower_twice : (b : ℕ) → lower (lower b) ≡ lower b
unfolding lower
lower_twice b =
    by (within 65 90 b)
    (λ w. let k : 65 ≤ b = leb-true 65 b (and_left _ (leb b 90) w) in rw w (lower_high (b + 32) (omega arith)))
    (λ w. rw (w, w))

pub lower_under : (b : ℕ) → b < 194 → lower b < 194
unfolding lower
lower_under b h =
    by (within 65 90 b)
    (λ w. let k : b ≤ 90 = leb-true b 90 (and_right (leb 65 b) _ w) in rw w (omega arith))
    (λ w. rw w h)

lower_back : (b : ℕ) → 128 ≤ lower b → lower b ≡ b
unfolding lower
lower_back b h =
    by (within 65 90 b)
    (λ w. let k : b ≤ 90 = leb-true b 90 (and_right (leb 65 b) _ w) in let l : 128 ≤ b + 32 = rw w at h in let no : ⊥ = omega arith in absurd no)
    (λ w. rw w)

-- ---- a byte 0x80 to 0xBF at the front was there before
middle : ℕ → Bool
middle y = within 0x80 0xBF y

headed_front : (l m : List ℕ) → headed l ≡ true → middle (get_or (l ++ m) 0 0) ≡ false
unfolding middle
headed_front [] m h = absurd (true≢false (sym h))
headed_front (x ∷ l) m h = not-true _ h

front_one : (b : ℕ) (t : List ℕ) → pair b (get_or t 0 0) ≡ false → middle (get_or (folds (b ∷ t)) 0 0) ≡ true → get_or (folds (b ∷ t)) 0 0 ≡ b
unfolding middle
front_one b t n m =
    let q : folds (b ∷ t) ≡ lower b ∷ folds t = folds_one b t n in
    let o : within 0x80 0xBF (lower b) ≡ true = rw q at m in
    rw q (lower_back b (leb-true 0x80 (lower b) (and_left _ (leb (lower b) 0xBF) o)))

front : (t : List ℕ) → middle (get_or (folds t) 0 0) ≡ true → get_or (folds t) 0 0 ≡ get_or t 0 0
unfolding folds_from
front [] m = refl
front (b ∷ []) m = front_one b [] (no_pair_0 b) m
front (b ∷ x ∷ t) m =
    by (pair b x)
    (λ p.
    let h = headed_front (expand (code_of b x)) (folds t) (expand_headed (code_of b x) (code_low b x p) (code_high b x p)) in
    absurd (true≢false (sym (rw (folds_pair b x t p) at m) ∙ h)))
    (λ p. front_one b (x ∷ t) p m)

pair_middle : (b y : ℕ) → pair b y ≡ true → middle y ≡ true
unfolding pair middle
pair_middle b y e = and_left _ (ltb (b * 64 + y) 13744) (and_right (within 0xC2 0xD4 b) _ e)

still : (b : ℕ) (t : List ℕ) → pair b (get_or t 0 0) ≡ false → pair (lower b) (get_or (folds t) 0 0) ≡ false
still b t n =
    by (ltb b 194)
    (λ e. low_alone (lower b) _ (lower_under b (ltb-true b 194 e)))
    (λ e.
    let k : 194 ≤ b = ltb-false b 194 e in
    rw (lower_high b (omega arith))
    (by (pair b (get_or (folds t) 0 0))
    (λ q. absurd (true≢false (sym q ∙ ap (pair b) (front t (pair_middle b _ q)) ∙ n)))
    (λ q. q)))

twice_one : (b : ℕ) (t : List ℕ) → pair b (get_or t 0 0) ≡ false → folds (folds t) ≡ folds t → folds (folds (b ∷ t)) ≡ folds (b ∷ t)
twice_one b t n ih =
    rw (folds_one b t n) (folds_one (lower b) (folds t) (still b t n) ∙ ap (λ (y : ℕ). y ∷ folds (folds t)) (lower_twice b) ∙ ap (λ (r : List ℕ). lower b ∷ r) ih)

-- every text, folded twice, is as folded once
pub folds_twice : (s : List ℕ) → folds (folds s) ≡ folds s
unfolding folds_from
folds_twice [] = refl
folds_twice (b ∷ []) = twice_one b [] (no_pair_0 b) refl
folds_twice (b ∷ x ∷ s) =
    by (pair b x)
    (λ p.
    rw (folds_pair b x s p)
    (stay (expand (code_of b x)) (folds s) (expand_settled (code_of b x) (code_low b x p) (code_high b x p))
    ∙ ap (λ (r : List ℕ). expand (code_of b x) ++ r) (folds_twice s)))
    (λ p. twice_one b (x ∷ s) p (folds_twice (x ∷ s)))

-- ---- trimming and folding change places
folds_spaced : (l : List ℕ) → folds (spaced l) ≡ spaced (folds l)
unfolding spaced folds_from
folds_spaced [] = refl
folds_spaced (b ∷ []) = folds_blank 32 (b ∷ []) refl ∙ rw (folds_one b [] (no_pair_0 b))
folds_spaced (b ∷ x ∷ l) =
    folds_blank 32 (b ∷ x ∷ l) refl
    ∙ by (pair b x)
    (λ p. rw (folds_pair b x l p) (sym (spaced_headed (expand (code_of b x)) (folds l) (expand_headed (code_of b x) (code_low b x p) (code_high b x p)))))
    (λ p. rw (folds_one b (x ∷ l) p))

spaced_front : (l : List ℕ) → get_or (spaced l) 0 0 < 128
unfolding spaced
spaced_front [] = omega arith
spaced_front (x ∷ l) = omega arith

after : (b : ℕ) (u : List ℕ) → pair b (get_or u 0 0) ≡ false → pair b (get_or (squeeze u false) 0 0) ≡ false
unfolding squeeze
after b [] n = n
after b (x ∷ u) n =
    by (blank x)
    (λ e. rw (squeeze_blank x u false e) (low_second b _ (spaced_front (squeeze u true))))
    (λ e. rw (squeeze_ink x u false e) n)

high_ink : (x : ℕ) → 65 ≤ x → blank x ≡ false
high_ink x h = by (blank x) (λ e. let k = blank_low x e in let no : ⊥ = omega arith in absurd no) (λ e. e)

swap_blank : (b : ℕ) (u : List ℕ) (t : Bool) → blank b ≡ true → folds (squeeze u true) ≡ squeeze (folds u) true → folds (squeeze (b ∷ u) t) ≡ squeeze (folds (b ∷ u)) t
swap_blank b u true e ih = rw (squeeze_blank b u true e, folds_blank b u e) (ih ∙ sym (squeeze_blank b (folds u) true e))
swap_blank b u false e ih =
    rw (squeeze_blank b u false e, folds_blank b u e) (folds_spaced (squeeze u true) ∙ ap spaced ih ∙ sym (squeeze_blank b (folds u) false e))

swap_one : (b : ℕ) (u : List ℕ) (t : Bool) → blank b ≡ false → pair b (get_or u 0 0) ≡ false → folds (squeeze u false) ≡ squeeze (folds u) false → folds (squeeze (b ∷ u) t) ≡ squeeze (folds (b ∷ u)) t
swap_one b u t e n ih =
    rw (squeeze_ink b u t e) (folds_one b (squeeze u false) (after b u n) ∙ ap (λ (r : List ℕ). lower b ∷ r) ih ∙ sym (start_one b u t e n))

swap_pair : (b x : ℕ) (u : List ℕ) (t : Bool) → pair b x ≡ true → folds (squeeze u false) ≡ squeeze (folds u) false → folds (squeeze (b ∷ x ∷ u) t) ≡ squeeze (folds (b ∷ x ∷ u)) t
swap_pair b x u t p ih =
    let k = pair_bounds b x p in
    rw (squeeze_ink b (x ∷ u) t (high_ink b (omega arith)), squeeze_ink x u false (high_ink x (omega arith)))
    (folds_pair b x (squeeze u false) p ∙ ap (λ (r : List ℕ). expand (code_of b x) ++ r) ih ∙ sym (start_pair b x u t p))

pub swap : (u : List ℕ) (t : Bool) → folds (squeeze u t) ≡ squeeze (folds u) t
unfolding folds_from squeeze
swap [] t = refl
swap (b ∷ []) t =
    by (blank b) (λ e. swap_blank b [] t e refl) (λ e. swap_one b [] t e (no_pair_0 b) refl)
swap (b ∷ x ∷ u) t =
    by (blank b)
    (λ e. swap_blank b (x ∷ u) t e (swap (x ∷ u) true))
    (λ e. by (pair b x) (λ p. swap_pair b x u t p (swap u false)) (λ p. swap_one b (x ∷ u) t e p (swap (x ∷ u) false)))

-- ---- trimming twice
squeeze_spaced : (l : List ℕ) → squeeze (spaced l) false ≡ spaced (squeeze l true)
unfolding spaced squeeze
squeeze_spaced [] = refl
squeeze_spaced (x ∷ l) = squeeze_blank 32 (x ∷ l) false refl

pub squeeze_twice : (u : List ℕ) (t : Bool) → squeeze (squeeze u t) t ≡ squeeze u t
unfolding squeeze
squeeze_twice [] t = refl
squeeze_twice (b ∷ u) true =
    by (blank b)
    (λ e. rw (squeeze_blank b u true e) (squeeze_twice u true))
    (λ e. rw (squeeze_ink b u true e) (squeeze_ink b (squeeze u false) true e ∙ ap (λ (r : List ℕ). b ∷ r) (squeeze_twice u false)))
squeeze_twice (b ∷ u) false =
    by (blank b)
    (λ e. rw (squeeze_blank b u false e) (squeeze_spaced (squeeze u true) ∙ ap spaced (squeeze_twice u true)))
    (λ e. rw (squeeze_ink b u false e) (squeeze_ink b (squeeze u false) false e ∙ ap (λ (r : List ℕ). b ∷ r) (squeeze_twice u false)))

-- the compared form of a compared form is itself
pub compared_twice : (l : List ℕ) → compared (compared l) ≡ compared l
unfolding compared
compared_twice l =
    ap (λ (r : List ℕ). squeeze r true) (swap (folds l) true)
    ∙ squeeze_twice (folds (folds l)) true
    ∙ ap (λ (r : List ℕ). squeeze r true) (folds_twice l)
