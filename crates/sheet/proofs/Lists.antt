-- The joined list as two lists: what stands in front is the note's.
use Prim.Native.Nat.{ℕ, zero, suc, ◌+◌, ◌-◌, ◌≤◌, ◌<◌}
use native.Mathlib.Omega.{arith}
use mathlib.Core.Path.{◌≡◌, refl, ap, ap₂, ◌∙◌}
use mathlib.Core.List.{List, [], ◌∷◌, ◌++◌, map, map-append}
use lib.ListN.{length, get_or}
use Rattle.scan.specs.Member.{In}
use Rattle.texts.specs.Texts.{Texts, text_of}
use Rattle.row.specs.declared.Definition.{Definition}
use Rattle.row.specs.Row.{Listed, definitions_of}
use Rattle.row.specs.First.{past_end, named_text}
use Rattle.definition.specs.Reading.{definitions}
use Rattle.joined.specs.Joined.{listed_in}
use Rattle.joined.specs.Reading.{joined}

definitions_listed : (k : ℕ) (ds : List Definition) → definitions_of (listed_in k ds) ≡ ds
definitions_listed k [] = refl
definitions_listed k (d ∷ ds) = ap (λ (l : List Definition). d ∷ l) (definitions_listed k ds)

pub definitions_joined : (T : Texts) → definitions_of (joined T) ≡ definitions T.note ++ definitions T.sheet
unfolding joined
definitions_joined T =
    map-append (λ (j : Listed). j.definition) (listed_in 0 (definitions T.note)) (listed_in 1 (definitions T.sheet))
    ∙ rw (definitions_listed 0 (definitions T.note), definitions_listed 1 (definitions T.sheet)) refl

-- the entries in front name the note
note_in_front : (ds : List Definition) (js : List Listed) (k : ℕ) → k < length ds → (get_or (listed_in 0 ds ++ js) k past_end).text ≡ 0
note_in_front [] js k h = absurd (omega arith)
note_in_front (d ∷ ds) js zero h = refl
note_in_front (d ∷ ds) js (suc k) h = note_in_front ds js k (omega arith)

pub named_note : (T : Texts) (n : ℕ) → n ≤ length (definitions T.note) → named_text T (joined T) n ≡ T.note
unfolding joined
named_note T zero h = refl
named_note T (suc k) h = ap (text_of T) (note_in_front (definitions T.note) (listed_in 1 (definitions T.sheet)) k (omega arith))

-- two functions that agree on the members of a list make the same list of it
pub map_same : {A B : Type 0} (f g : A → B) (xs : List A) → ((x : A) → In x xs → f x ≡ g x) → map f xs ≡ map g xs
map_same f g [] e = refl
map_same {B = B} f g (x ∷ xs) e = ap₂ (λ (y : B) (l : List B). y ∷ l) (e x (0, refl)) (map_same f g xs (λ y (k, i). e y (suc k, i)))
