-- What is claimed of an index: the first row with an equal label is the one that the slow lookup finds, and there is none exactly when that finds
-- none. Document 02, request 13.
use Rattle.std.specs.Prelude.{ℕ, ◌+◌, ◌<◌, ◌≡◌, List, None, Some}
use Rattle.texts.specs.Texts.{Texts}
use Rattle.matching.specs.Form.{Equal}
use Rattle.matching.specs.Reading.{compared}
use Rattle.std.specs.declared.cmp.Ordering.TheVariants.{Equal as equal}
use Rattle.order.specs.Order.{rank}
use Rattle.row.specs.Reading.{row_of}
use Rattle.index.specs.Index.{label_of, form_of, key_in, entry_at, row_at, Window}

pub record IndexClaims (T : Texts) (t : List ℕ) (count : ℕ) (index : List ℕ) : Type 0 where
  -- where a label's form belongs, its first row stands, or the label has none
  pub found : (label : List ℕ) (p : ℕ) → Window T t count index (compared label) p p → p < count → rank (form_of T t (row_at index p)) (compared label) ≡ equal
      → row_of T t label count ≡ Some (row_at index p)
  pub missing : (label : List ℕ) (p : ℕ) → Window T t count index (compared label) p p → (p < count → rank (form_of T t (row_at index p)) (compared label) ≡ equal → ⊥)
      → row_of T t label count ≡ None
  -- a row whose key is not that of the entry before it is the first of its label
  pub new : (p : ℕ) → p < count → ((q : ℕ) → q + 1 ≡ p → key_in (entry_at index q) ≡ key_in (entry_at index p) → ⊥)
      → (i : ℕ) → i < row_at index p → Equal (label_of T t i) (label_of T t (row_at index p)) → ⊥
