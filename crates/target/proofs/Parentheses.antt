-- Balanced text by a count: how many parentheses are open after each byte. The count is what `raw_run` keeps; it says the same as the law.
use Prim.Native.Nat.{ℕ, suc, ◌+◌, ◌-◌, ◌<◌}
use native.Mathlib.Nat.{add-zero}
use native.Mathlib.Omega.{arith}
use mathlib.Core.Path.{◌≡◌, refl, sym, ap, subst}
use mathlib.Core.List.{List, [], ◌∷◌, ◌++◌, append_assoc, append-nil}
use mathlib.Core.Logic.{◌↔◌}
use mathlib.Core.Bool.{true, false, ◌||◌}
use lib.ListN.{get_or}
use lib.Dec.{eqb}
use Rattle.scan.specs.Byte.{punctuation, escapes}
use Rattle.target.specs.Target.{AllClosed, ClosesOnlyOpened}
use Rattle.target.specs.Target as law

-- Where d parentheses are open before l, e are open after it, and l closes none that is not open.
pub data Counted : ℕ → List ℕ → ℕ → Type 0 where
  none : {d : ℕ} → Counted d [] d
  escape : {d e p : ℕ} {l : List ℕ} → punctuation p ≡ true → Counted d l e → Counted d (92 ∷ p ∷ l) e
  opened : {d e : ℕ} {l : List ℕ} → Counted (d + 1) l e → Counted d (40 ∷ l) e
  closed : {d e : ℕ} {l : List ℕ} → 0 < d → Counted (d - 1) l e → Counted d (41 ∷ l) e
  byte : {d e b : ℕ} {l : List ℕ} → (eqb b 40 || eqb b 41) ≡ false → escapes (b ∷ l) ≡ false → Counted d l e → Counted d (b ∷ l) e

-- l leaves n parentheses open, and closes none that it has not opened
pub data Leaves : ℕ → List ℕ → Type 0 where
  all_closed : {l : List ℕ} → AllClosed [] l → Leaves 0 l
  one_more : {n : ℕ} {k l : List ℕ} → AllClosed (40 ∷ []) k → Leaves n l → Leaves (suc n) (k ++ 40 ∷ l)

-- ---- the law is counted
-- whether b starts an escape rests on the one byte after it
next_alike : (b : ℕ) (k l after : List ℕ) → get_or l 0 0 ≡ get_or after 0 0 → escapes (b ∷ (k ++ after)) ≡ false → escapes (b ∷ (k ++ l)) ≡ false
next_alike b [] l after h x = rw h x
next_alike b (c ∷ k) l after h x = x

-- balanced text changes no count: l follows it, and starts as `after` does
over_balanced : {after k : List ℕ} → AllClosed after k → (l : List ℕ) {d e : ℕ} → get_or l 0 0 ≡ get_or after 0 0 → Counted d l e → Counted d (k ++ l) e
over_balanced law.none l h c = c
over_balanced (law.escape x t) l h c = escape x (over_balanced t l h c)
over_balanced (law.byte {after = after} {l = k} {b = b} n x t) l h c = byte n (next_alike b k l after h x) (over_balanced t l h c)
over_balanced (law.group {k = k} {l = m} t u) l {d} {e} h c =
    let back : d ≡ d + 1 - 1 = omega arith in
    let inside : Counted (d + 1) (41 ∷ (m ++ l)) e = closed {d = d + 1} (omega arith) (subst (λ (i : ℕ). Counted i (m ++ l) e) back (over_balanced u l h c)) in
    let whole : Counted d (40 ∷ (k ++ 41 ∷ (m ++ l))) e = opened (over_balanced t (41 ∷ (m ++ l)) refl inside) in
    subst (λ (x : List ℕ). Counted d (40 ∷ x) e) (sym (append_assoc k (41 ∷ m) l)) whole

leaves_counted : {n : ℕ} {l : List ℕ} → Leaves n l → (d : ℕ) → Counted d l (d + n)
leaves_counted (all_closed {l} t) d = rw add-zero (subst (λ (x : List ℕ). Counted d x d) (append-nil l) (over_balanced t [] refl none))
leaves_counted (one_more {n} {k} {l} t u) d =
    let rest : Counted (d + 1) l (d + suc n) = subst (Counted (d + 1) l) (omega arith) (leaves_counted u (d + 1)) in
    over_balanced t (40 ∷ l) refl (opened rest)

-- ---- what is counted is the law
-- where d parentheses are open before l: it closes none of them, or balanced text stands before the first `)` that does
data Reads : ℕ → List ℕ → ℕ → Type 0 where
  stays : {d n e : ℕ} {l : List ℕ} → e ≡ d + n → Leaves n l → Reads d l e
  closes : {d e : ℕ} {k l : List ℕ} → 0 < d → AllClosed (41 ∷ []) k → Reads (d - 1) l e → Reads d (k ++ 41 ∷ l) e

-- x may stand before balanced text that starts as l does
abbrev Grows : List ℕ → List ℕ → Type 0
Grows x l = (after k : List ℕ) → get_or (k ++ after) 0 0 ≡ get_or l 0 0 → AllClosed after k → AllClosed after (x ++ k)

first_alike : (c : ℕ) (k l : List ℕ) → get_or (k ++ c ∷ []) 0 0 ≡ get_or (k ++ c ∷ l) 0 0
first_alike c [] l = refl
first_alike c (b ∷ k) l = refl

leaves_after : (x : List ℕ) {l : List ℕ} {n : ℕ} → Grows x l → Leaves n l → Leaves n (x ++ l)
leaves_after x g (all_closed {l} t) = all_closed (g [] l (ap (λ (y : List ℕ). get_or y 0 0) (append-nil l)) t)
leaves_after x g (one_more {n} {k} {l} t u) =
    subst (Leaves (suc n)) (append_assoc x k (40 ∷ l)) (one_more (g (40 ∷ []) k (first_alike 40 k l) t) u)

reads_after : (x : List ℕ) {l : List ℕ} {d e : ℕ} → Grows x l → Reads d l e → Reads d (x ++ l) e
reads_after x g (stays q t) = stays q (leaves_after x g t)
reads_after x g (closes {d} {e} {k} {l} h t r) =
    subst (λ (y : List ℕ). Reads d y e) (append_assoc x k (41 ∷ l)) (closes h (g (41 ∷ []) k (first_alike 41 k l) t) r)

byte_grows : (b : ℕ) (l : List ℕ) → (eqb b 40 || eqb b 41) ≡ false → escapes (b ∷ l) ≡ false → Grows (b ∷ []) l
byte_grows b l n x after k h t = law.byte {after = after} {l = k} {b = b} n (rw h x) t

group_grows : (k l : List ℕ) → AllClosed (41 ∷ []) k → Grows (40 ∷ (k ++ 41 ∷ [])) l
group_grows k l t after m h u = subst (λ (y : List ℕ). AllClosed after (40 ∷ y)) (sym (append_assoc k (41 ∷ []) m)) (law.group t u)

reads_opened : {d e : ℕ} {l : List ℕ} → Reads (d + 1) l e → Reads d (40 ∷ l) e
reads_opened {d} {e} (stays {n = n} q t) = let r : e ≡ d + suc n = omega arith in stays r (one_more law.none t)
reads_opened {d} {e} (closes {k = k} {l = l} h t r) =
    subst (λ (y : List ℕ). Reads d (40 ∷ y) e) (append_assoc k (41 ∷ []) l) (reads_after (40 ∷ (k ++ 41 ∷ [])) (group_grows k l t) (subst (λ (i : ℕ). Reads i l e) (omega arith) r))

reads : {d e : ℕ} {l : List ℕ} → Counted d l e → Reads d l e
reads {d} none = stays (sym (add-zero d)) (all_closed law.none)
reads (escape {p = p} x t) = reads_after (92 ∷ p ∷ []) (λ after k h u. law.escape x u) (reads t)
reads (opened t) = reads_opened (reads t)
reads (closed h t) = closes h law.none (reads t)
reads (byte {b = b} {l = l} n x t) = reads_after (b ∷ []) (byte_grows b l n x) (reads t)

nothing_open : {d e : ℕ} {l : List ℕ} → Reads d l e → d ≡ 0 → Leaves e l
nothing_open {l = l} (stays q t) z = subst (λ (n : ℕ). Leaves n l) (omega arith) t
nothing_open (closes h t r) z = let no : ⊥ = omega arith in absurd no

pub leaves_iff : (n : ℕ) (l : List ℕ) → Leaves n l ↔ Counted 0 l n
leaves_iff n l = ((λ t. subst (Counted 0 l) (omega arith) (leaves_counted t 0)), λ c. nothing_open (reads c) refl)

-- ---- the two laws
none_left : {n : ℕ} {l : List ℕ} → Leaves n l → n ≡ 0 → AllClosed [] l
none_left (all_closed t) z = t
none_left (one_more t u) z = let no : ⊥ = omega arith in absurd no

-- "all parentheses closed": none is left open
pub balanced_iff : (l : List ℕ) → AllClosed [] l ↔ Leaves 0 l
balanced_iff l = (all_closed, λ t. none_left t refl)

leaves_some : {l : List ℕ} → ClosesOnlyOpened l → (n : ℕ) × Leaves n l
leaves_some (law.balanced t) = (0, all_closed t)
leaves_some (law.opened t u) = let (n, v) = leaves_some u in (suc n, one_more t v)

closes_opened : {n : ℕ} {l : List ℕ} → Leaves n l → ClosesOnlyOpened l
closes_opened (all_closed t) = law.balanced t
closes_opened (one_more t u) = law.opened t (closes_opened u)

-- "never closes an unescaped parenthesis it has not opened": some number of them is left open
pub closes_only_opened_iff : (l : List ℕ) → ClosesOnlyOpened l ↔ ((n : ℕ) × Leaves n l)
closes_only_opened_iff l = (leaves_some, λ (n, t). closes_opened t)
