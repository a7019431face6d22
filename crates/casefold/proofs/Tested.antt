-- The rules of folding, each one computed test over all 1,328 characters of the table, carried to each.
use Prim.Native.Nat.{ℕ, ◌<◌, ◌≤◌}
use native.Mathlib.Omega.{arith}
use mathlib.Core.Path.{◌≡◌, refl, sym, ap, ◌∙◌}
use mathlib.Core.List.{List, [], ◌∷◌, ◌++◌, append_assoc}
use mathlib.Core.Bool.{Bool, true, false}
use borrow.Author.Tests.{ltb-true, ltb-false, ne_eqb}
use lib.Dec.{ltb}
use lib.ListN.{get_or, get_or-eq_default}
use Rattle.scan.specs.Byte.{blank}
use Rattle.scan.specs.Lists.{equals}
use Rattle.scan.proofs.Lists.{equals_to}
use Rattle.scan.proofs.Test.{by, and_left, and_right}
use Rattle.scan.proofs.Below.{all, at, every}
use Rattle.casefold.specs.Table.{table}
use Rattle.casefold.specs.Fold.{Several, several, fold_by, fold, fold_all, lower, inked}
use Rattle.casefold.specs.Samples.{table_and_list}

-- ---- a later character folds to itself
low : Several → Bool
low s = ltb s.from 1328

several_low : every low several ≡ true
unfolding low several
several_low = refl

past_list : (l : List Several) → every low l ≡ true → (c : ℕ) → 1328 ≤ c → fold_by l c ≡ get_or table c c ∷ []
unfolding low fold_by
past_list [] e c h = refl
past_list (s ∷ l) e c h =
    let k : s.from < 1328 = ltb-true _ _ (and_left (low s) (every low l) e) in
    rw (ne_eqb s.from c (λ q. omega arith), fold_by) (past_list l (and_right (low s) (every low l) e) c h)

pub later : (c : ℕ) → 1328 ≤ c → fold c ≡ c ∷ []
unfolding fold
later c h = past_list several several_low c h ∙ ap (λ (x : ℕ). x ∷ []) (get_or-eq_default table c (omega (arith, table_and_list.entries)))

-- ---- folding twice changes nothing
unfoldable again : ℕ → Bool
again c = equals (fold_all (fold c)) (fold c)

again_holds : all again 1328 ≡ true
unfolding equals again table several fold_by fold fold_all
again_holds = refl

pub fold_twice : (c : ℕ) → fold_all (fold c) ≡ fold c
unfolding again fold_all
fold_twice c =
    by (ltb c 1328)
    (λ e. equals_to _ _ (at again 1328 again_holds c (ltb-true c 1328 e)))
    (λ e. rw (later c (ltb-false c 1328 e)) (rw (later c (ltb-false c 1328 e))))

fold_append : (l m : List ℕ) → fold_all (l ++ m) ≡ fold_all l ++ fold_all m
unfolding fold_all
fold_append [] m = refl
fold_append (c ∷ l) m = rw (fold_append l m) (sym (append_assoc (fold c) (fold_all l) (fold_all m)))

pub fold_all_twice : (l : List ℕ) → fold_all (fold_all l) ≡ fold_all l
unfolding fold_all
fold_all_twice [] = refl
fold_all_twice (c ∷ l) = fold_append (fold c) (fold_all l) ∙ rw (fold_twice c, fold_all_twice l)

-- ---- a blank folds to itself, and nothing else to one
unfoldable blanks : ℕ → Bool
blanks c = elim (blank c) [ true ↦ equals (fold c) (c ∷ []) | false ↦ inked (fold c) ]

blanks_hold : all blanks 1328 ≡ true
unfolding equals blanks inked table several fold_by fold
blanks_hold = refl

pub fold_blank : (c : ℕ) → blank c ≡ true → fold c ≡ c ∷ []
unfolding blanks
fold_blank c e =
    by (ltb c 1328)
    (λ h. equals_to _ _ (rw (e, blanks) at (at blanks 1328 blanks_hold c (ltb-true c 1328 h))))
    (λ h. later c (ltb-false c 1328 h))

pub fold_ink : (c : ℕ) → blank c ≡ false → inked (fold c) ≡ true
unfolding blanks inked
fold_ink c e =
    by (ltb c 1328)
    (λ h. rw (e, blanks) at (at blanks 1328 blanks_hold c (ltb-true c 1328 h)))
    (λ h. rw (later c (ltb-false c 1328 h)) (rw e))

-- ---- below U+0080
unfoldable letters : ℕ → Bool
letters c = equals (fold c) (lower c ∷ [])

letters_hold : all letters 128 ≡ true
unfolding equals letters table several fold_by fold lower
letters_hold = refl

pub ascii_folds : (c : ℕ) → c < 128 → fold c ≡ lower c ∷ []
unfolding letters
ascii_folds c h = equals_to _ _ (at letters 128 letters_hold c h)
