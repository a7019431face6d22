-- Looking a label up among definitions, one definition after the other, and in one text after the other.
use Rattle.std.specs.Prelude.{None, Option, Some}
use Prim.Native.Nat.{ℕ, ◌+◌}
use native.Mathlib.Numerals.{add-one}
use mathlib.Core.Path.{◌≡◌, refl, sym, ap, ◌∙◌}
use mathlib.Core.List.{List, [], ◌∷◌, ◌++◌}
use mathlib.Core.Bool.{true, false}
use Rattle.scan.proofs.Test.{by}
use Rattle.texts.specs.Texts.{Texts, text_of}
use Rattle.matching.specs.Reading.{matches}
use Rattle.row.specs.declared.Definition.{Definition}
use Rattle.row.specs.Row.{Listed, listed}
use Rattle.row.specs.First.{bytes_of, labels_of}
use Rattle.row.specs.Reading.{match_from}
use Rattle.row.proofs.Turn.{match_hit, match_miss}
use Rattle.definition.specs.Reading.{definitions}
use Rattle.joined.specs.Joined.{listed_in}
use Rattle.joined.specs.Reading.{joined}
use Rattle.enquiry.specs.declared.Destination.{Destination}
use Rattle.enquiry.specs.Answers.{own_labels}
use Rattle.enquiry.specs.Reading.{answer_by, answer_at, answer_in, answer_of, answer_for}

-- ---- numbers of labels
abbrev one_on : Option ℕ → Option ℕ
one_on (Some k) = Some (k + 1)
one_on None = None

-- labels that are numbered from one more on
numbered : (k : ℕ) (ls : List (List ℕ)) (label : List ℕ) → match_from (k + 1) ls label ≡ one_on (match_from k ls label)
unfolding match_from
numbered k [] label = refl
numbered k (l ∷ ls) label =
    by (matches l label)
    (λ e. match_hit (k + 1) l ls label e ∙ ap one_on (sym (match_hit k l ls label e)))
    (λ e. match_miss (k + 1) l ls label e ∙ numbered (k + 1) ls label ∙ ap one_on (sym (match_miss k l ls label e)))

-- ---- answers
behind : (j : Listed) (js : List Listed) (f : Option ℕ) → answer_at (j ∷ js) (one_on f) ≡ answer_at js f
behind j js (Some k) = rw add-one
behind j js None = refl

module _ (label : List ℕ) where
  pub none_left : answer_in [] label [] ≡ None
  unfolding answer_in match_from
  none_left = refl

  -- l is the label of j, ls are those of js
  module _ (l : List ℕ) (ls : List (List ℕ)) (j : Listed) (js : List Listed) where
    pub equal_here : matches l label ≡ true → answer_in (l ∷ ls) label (j ∷ js) ≡ Some (answer_by j)
    unfolding answer_in
    equal_here e = ap (answer_at (j ∷ js)) (match_hit 0 l ls label e)

    pub other_here : matches l label ≡ false → answer_in (l ∷ ls) label (j ∷ js) ≡ answer_in ls label js
    unfolding answer_in
    other_here e = ap (answer_at (j ∷ js)) (match_miss 0 l ls label e ∙ numbered 0 ls label) ∙ behind j js (match_from 0 ls label)

-- ---- texts
-- the answer of one text, or else that of the next
abbrev pub or_next : Option Destination → Option Destination → Option Destination
or_next (Some d) e = Some d
or_next None e = e

-- the labels of a text's definitions are its own
pub own_labels_lem : (T : Texts) (k : ℕ) (ds : List Definition) → labels_of T (listed_in k ds) ≡ own_labels (text_of T k) ds
own_labels_lem T k [] = refl
own_labels_lem T k (d ∷ ds) = ap (λ (ls : List (List ℕ)). bytes_of (text_of T k) d.label ∷ ls) (own_labels_lem T k ds)

pub labels_append : (T : Texts) (js ks : List Listed) → labels_of T (js ++ ks) ≡ labels_of T js ++ labels_of T ks
labels_append T [] ks = refl
labels_append T (j ∷ js) ks = ap (λ (ls : List (List ℕ)). bytes_of (text_of T j.text) j.definition.label ∷ ls) (labels_append T js ks)

pub joined_labels : (T : Texts) → labels_of T (joined T) ≡ own_labels T.note (definitions T.note) ++ own_labels T.sheet (definitions T.sheet)
unfolding joined
joined_labels T =
    let a = definitions T.note in
    let b = definitions T.sheet in
    labels_append T (listed_in 0 a) (listed_in 1 b) ∙ rw (own_labels_lem T 0 a, own_labels_lem T 1 b)

module _ (label : List ℕ) where
  answer_append : (s : List ℕ) (k : ℕ) (ds : List Definition) (ls : List (List ℕ)) (js : List Listed)
      → answer_in (own_labels s ds ++ ls) label (listed_in k ds ++ js) ≡ or_next (answer_in (own_labels s ds) label (listed_in k ds)) (answer_in ls label js)
  answer_append s k [] ls js = rw (none_left label)
  answer_append s k (d ∷ ds) ls js =
      let l = bytes_of s d.label in
      by (matches l label)
      (λ e. rw (equal_here label l (own_labels s ds) (listed k d) (listed_in k ds) e) (equal_here label l (own_labels s ds ++ ls) (listed k d) (listed_in k ds ++ js) e))
      (λ e.
      rw (other_here label l (own_labels s ds) (listed k d) (listed_in k ds) e)
      (other_here label l (own_labels s ds ++ ls) (listed k d) (listed_in k ds ++ js) e ∙ answer_append s k ds ls js))

  -- the note's answer, or else the sheet's
  pub answer_joined : (T : Texts) → answer_for T label ≡ or_next (answer_of 0 T.note label) (answer_of 1 T.sheet label)
  unfolding answer_for answer_of joined
  answer_joined T =
      ap (λ (ls : List (List ℕ)). answer_in ls label (joined T)) (joined_labels T)
      ∙ answer_append T.note 0 (definitions T.note) (own_labels T.sheet (definitions T.sheet)) (listed_in 1 (definitions T.sheet))
