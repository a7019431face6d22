-- The ways through a turn of the lookup, which keeps what the rows left give.
use Rattle.std.specs.Prelude.{None, Option, Some}
use Prim.Native.Nat.{ℕ, zero, suc, ◌+◌, ◌-◌, ◌*◌, ◌≤◌, ◌<◌}
use native.Mathlib.Nat.{sub-zero}
use native.Mathlib.Omega.{arith}
use mathlib.Core.Path.{◌≡◌, refl, sym, ap, subst, ◌∙◌}
use mathlib.Core.List.{List, ◌∷◌}
use mathlib.Core.Bool.{true, false}
use Rattle.matching.specs.Reading.{matches}
use Rattle.texts.specs.Texts.{Texts, text_of}
use Rattle.row.specs.declared.Range.{Range}
use Rattle.row.specs.Row.{width}
use Rattle.row.specs.First.{bytes_of}
use Rattle.row.specs.Reading.{listed_from, label_at, match_from, row_from, row_of, Within}

pub match_hit : (k : ℕ) (l : List ℕ) (ls : List (List ℕ)) (label : List ℕ) → matches l label ≡ true → match_from k (l ∷ ls) label ≡ Some k
unfolding match_from
match_hit k l ls label e = rw (e, match_from)

pub match_miss : (k : ℕ) (l : List ℕ) (ls : List (List ℕ)) (label : List ℕ) → matches l label ≡ false → match_from k (l ∷ ls) label ≡ match_from (k + 1) ls label
unfolding match_from
match_miss k l ls label e = rw (e, match_from)

-- the text with a number that is not the note's
pub other_text : (T : Texts) (k : ℕ) → (k ≡ 0 → ⊥) → T.sheet ≡ text_of T k
other_text T zero n = absurd (n refl)
other_text T (suc k) n = refl

-- the part r of text k, where that is the note, and where it is the sheet
module _ (T : Texts) (k : ℕ) (r : Range) where
  pub in_note : Within (text_of T k) r → k ≡ 0 → Within T.note r
  in_note w e = subst (λ (n : ℕ). Within (text_of T n) r) e w

  pub in_sheet : Within (text_of T k) r → (k ≡ 0 → ⊥) → Within T.sheet r
  in_sheet w n = rw (other_text T k n) w

  pub of_note : k ≡ 0 → bytes_of T.note r ≡ bytes_of (text_of T k) r
  of_note e = rw e refl

  pub of_sheet : (k ≡ 0 → ⊥) → bytes_of T.sheet r ≡ bytes_of (text_of T k) r
  of_sheet n = ap (λ (s : List ℕ). bytes_of s r) (other_text T k n)

module _ (T : Texts) (t label : List ℕ) where
  less : (n k : ℕ) → k < n → n - k ≡ suc (n - (k + 1))
  less n k h = omega arith

  -- the lookup in n rows stands at row k, where what is left gives r
  module _ {n k : ℕ} {r : Option ℕ} (inv : row_from T t label k n ≡ r) where
    module _ (h : k < n) where
      module _ {own : List ℕ} (p : own ≡ label_at T t (k * width)) where
        pub row_hit : matches own label ≡ true → Some k ≡ r
        unfolding listed_from
        row_hit e = sym (rw (less n k h) (match_hit k _ _ label (rw p at e))) ∙ inv

        pub row_miss : matches own label ≡ false → row_from T t label (k + 1) n ≡ r
        unfolding listed_from
        row_miss e = sym (rw (less n k h) (match_miss k _ _ label (rw p at e))) ∙ inv

    pub row_none : n ≤ k → None ≡ r
    unfolding listed_from match_from
    row_none h = let z : n - k ≡ 0 = omega arith in rw z at inv

  pub from_first : (n : ℕ) → row_from T t label 0 n ≡ row_of T t label n
  unfolding row_of
  from_first n = rw sub-zero refl
