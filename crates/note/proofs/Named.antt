-- The definition with a number in the joined list, and the text that it names.
use Prim.Native.Nat.{ℕ, zero, suc}
use native.Mathlib.Numerals.{add-one}
use mathlib.Core.Path.{◌≡◌, refl, ap}
use mathlib.Core.List.{List, [], ◌∷◌}
use lib.ListN.{get_or}
use Rattle.texts.specs.Texts.{Texts, text_of}
use Rattle.row.specs.Row.{absent, definition, Listed, definitions_of}
use Rattle.row.specs.First.{past_end, named_text}
use Rattle.span.specs.Row.{definition_number}
use Rattle.inline.specs.Rows.{defined}

pub definition_at : (js : List Listed) (k : ℕ) → get_or (definitions_of js) k (definition absent absent absent) ≡ (get_or js k past_end).definition
definition_at [] k = refl
definition_at (j ∷ js) zero = refl
definition_at (j ∷ js) (suc k) = definition_at js k

pub defined_at : (js : List Listed) (k : ℕ)
    → defined (definitions_of js) k ≡ record { number = definition_number k; destination = (get_or js k past_end).definition.destination; title = (get_or js k past_end).definition.title }
defined_at js k = rw (definition_at js k) refl

pub named_at : (T : Texts) (js : List Listed) (k : ℕ) → named_text T js (definition_number k) ≡ text_of T (get_or js k past_end).text
named_at T js k = ap (named_text T js) (add-one k)
