-- How many characters a text has, byte by byte: no more than bytes.
use Prim.Native.Nat.{ℕ, ◌+◌, ◌≤◌, ◌<◌}
use native.Mathlib.Omega.{arith}
use mathlib.Core.Path.{◌≡◌, refl, sym, ap, ◌∙◌}
use mathlib.Core.List.{List}
use mathlib.Core.Bool.{Bool, true, false, cond}
use borrow.Author.Tests.{le-leb}
use lib.Dec.{leb}
use lib.ListN.{length, get_or, take}
use Rattle.std.specs.Int.{from_bool}
use Rattle.std.proofs.lemmas.List.{length-take, take_all}
use Rattle.std.proofs.lemmas.List.Sums.{sum_by_more, count_by-le-length}
use Rattle.text.specs.Sequences.{starts_sequence, characters}
use Rattle.label.specs.Label.{label_limit}

one_if : (b : Bool) → from_bool b ≡ cond b 1 0
one_if true = refl
one_if false = refl

pub at_most_one : (b : Bool) → from_bool b ≤ 1
at_most_one true = omega arith
at_most_one false = omega arith

module _ (l : List ℕ) where
  pub few_bytes : length l ≤ label_limit → true ≡ leb (characters l) label_limit
  unfolding characters
  few_bytes h = let k = count_by-le-length starts_sequence l in sym (le-leb (characters l) label_limit (omega arith))

  -- ---- the characters of the front, up to i
  pub front_none : 0 ≡ characters (take 0 l)
  unfolding characters
  front_none = refl

  module _ (i : ℕ) {n : ℕ} where
    pub front_more : i < length l → n ≡ characters (take i l) → {k : ℕ} → k ≡ from_bool (starts_sequence (get_or l i 0)) → n + k ≡ characters (take (i + 1) l)
    unfolding characters
    front_more h e f = rw (e, f, one_if (starts_sequence (get_or l i 0))) (sym (sum_by_more (λ b. cond (starts_sequence b) 1 0) l i 0 h))

    pub front_few : n ≡ characters (take i l) → n ≤ i
    unfolding characters
    front_few e = omega (arith, e, count_by-le-length starts_sequence (take i l), length-take i l)

    pub front_whole : length l ≤ i → n ≡ characters (take i l) → n ≡ characters l
    front_whole h e = e ∙ ap characters (take_all i l h)
