-- Definitions that conflict: equal labels, and another destination or title. Document 02, request 8.
use Rattle.std.specs.Prelude.{ℕ, suc, ◌<◌, ◌≡◌, ◌↔◌, List, length, get_or}
use Rattle.matching.specs.Form.{Equal}
use Rattle.texts.specs.Texts.{Texts, text_of}
use Rattle.row.specs.Row.{absent, Listed}
use Rattle.row.specs.First.{bytes_of, past_end}

-- ---- the parts of an entry of the joined list, each as written in its own text: escapes are not undone
abbrev pub label_bytes : Texts → Listed → List ℕ
label_bytes T j = bytes_of (text_of T j.text) j.definition.label

abbrev pub destination_bytes : Texts → Listed → List ℕ
destination_bytes T j = bytes_of (text_of T j.text) j.definition.destination

abbrev pub title_bytes : Texts → Listed → List ℕ
title_bytes T j = bytes_of (text_of T j.text) j.definition.title

-- it has a title: "An absent part is 0, 0.", and an empty title is present
abbrev pub HasTitle : Listed → Type 0
HasTitle j = j.definition.title ≡ absent → ⊥

-- two definitions "differ in destination bytes, title bytes or the presence of a title"
pub data Differ (T : Texts) (a b : Listed) : Type 0 where
  in_destination : (destination_bytes T a ≡ destination_bytes T b → ⊥) → Differ T a b
  in_title : (title_bytes T a ≡ title_bytes T b → ⊥) → Differ T a b
  in_presence : ((HasTitle a ↔ HasTitle b) → ⊥) → Differ T a b

-- ---- in the joined list: "in the note, the sheet or one in each"
abbrev pub entry : List Listed → ℕ → Listed
entry joined k = get_or joined k past_end

-- definition k of the joined list "so differs from an earlier one of equal label", whichever that is
pub record Conflict (joined : List Listed) (T : Texts) (k : ℕ) : Type 0 where
  pub within : k < length joined
  pub earlier : ℕ
  pub before : earlier < k
  pub equal : Equal (label_bytes T (entry joined earlier)) (label_bytes T (entry joined k))
  pub differ : Differ T (entry joined earlier) (entry joined k)

-- no two definitions do: "Identical repeats still pass."
abbrev pub NoConflict : List Listed → Texts → Type 0
NoConflict joined T = (k : ℕ) → Conflict joined T k → ⊥

-- "the row number, from 1, of the first definition that so differs"
pub record FirstConflict (joined : List Listed) (T : Texts) (row : ℕ) : Type 0 where
  pub index : ℕ
  pub conflict : Conflict joined T index
  pub first : (i : ℕ) → i < index → Conflict joined T i → ⊥
  pub numbered : row ≡ suc index
