-- The bytes that the characters of two bytes fold to, by computed tests over all of them, carried to each.
use Prim.Native.Nat.{ℕ, ◌<◌, ◌≤◌}
use mathlib.Core.Path.{◌≡◌, refl}
use mathlib.Core.List.{List, [], ◌∷◌}
use mathlib.Core.Bool.{Bool, true, not, ◌&&◌, ◌||◌}
use borrow.Author.Tests.{le-ltb}
use lib.Dec.{eqb, ltb}
use Rattle.scan.specs.Byte.{within}
use Rattle.scan.proofs.Test.{and_left, and_right}
use Rattle.scan.proofs.Below.{all, at}
use Rattle.casefold.specs.Table.{table}
use Rattle.casefold.specs.Fold.{several, fold_by, fold, utf8, utf8s, expand, lower, inked}
use Rattle.scan.specs.Lists.{equals}
use Rattle.scan.proofs.Lists.{equals_to}
use Rattle.folding.specs.Pair.{pair, code_of, headed}
use Rattle.folding.specs.Word.{unpack, unpacked, utf8_word, several_word, word_of}

-- ---- the number holds them
unfoldable words : ℕ → Bool
words c = ltb c 128 || equals (unpacked (word_of c)) (expand c)

words_hold : all words 1328 ≡ true
unfolding equals words unpack utf8_word several_word word_of table several fold_by fold utf8 utf8s expand
words_hold = refl

pub word_right : (c : ℕ) → 128 ≤ c → c < 1328 → unpacked (word_of c) ≡ expand c
unfolding words
word_right c l h = equals_to _ _ (rw (le-ltb c 128 l) at (at words 1328 words_hold c h))

-- ---- they fold to themselves, none is blank, and the first continues nothing
abbrev pub alone : ℕ → Bool
alone x = not (within 0xC2 0xD4 x) && eqb (lower x) x

abbrev pub stays : ℕ → ℕ → Bool
stays x y = pair x y && equals (expand (code_of x y)) (x ∷ y ∷ [])

-- there are at most six bytes, so that the two calls cost nothing
unfoldable pub settled : List ℕ → Bool
settled [] = true
settled (x ∷ []) = alone x
settled (x ∷ y ∷ l) = (alone x && settled (y ∷ l)) || (stays x y && settled l)

abbrev good : List ℕ → Bool
good l = settled l && (inked l && headed l)

unfoldable goods : ℕ → Bool
goods c = ltb c 128 || good (expand c)

goods_hold : all goods 1328 ≡ true
unfolding equals goods settled inked pair code_of lower table several fold_by fold utf8 utf8s expand
goods_hold = refl

module _ (c : ℕ) (l : 128 ≤ c) (h : c < 1328) where
  goods_at : good (expand c) ≡ true
  unfolding goods
  goods_at = rw (le-ltb c 128 l) at (at goods 1328 goods_hold c h)

  pub expand_settled : settled (expand c) ≡ true
  expand_settled = and_left _ (inked (expand c) && headed (expand c)) goods_at

  pub expand_inked : inked (expand c) ≡ true
  expand_inked = and_left _ (headed (expand c)) (and_right (settled (expand c)) _ goods_at)

  pub expand_headed : headed (expand c) ≡ true
  expand_headed = and_right (inked (expand c)) _ (and_right (settled (expand c)) _ goods_at)
