-- What is claimed of equal labels, of any bytes. Document 02, request 3.
use Rattle.std.specs.Prelude.{ℕ, ◌≡◌, List, ◌↔◌}
use Rattle.matching.specs.Form.{Folded, Compared, Equal}
use Rattle.matching.specs.Reading.{compared}
use Rattle.matching.specs.Before.{Ascii, EqualBefore}

pub record LabelClaims : Type 0 where
  -- each label has one compared form
  pub has_form : (l : List ℕ) → Compared l (compared l)
  pub one_form : (l c d : List ℕ) → Compared l c → Compared l d → c ≡ d
  -- equality is an equivalence
  pub reflexive : (a : List ℕ) → Equal a a
  pub symmetric : (a b : List ℕ) → Equal a b → Equal b a
  pub transitive : (a b c : List ℕ) → Equal a b → Equal b c → Equal a c
  -- "folding twice changes nothing": a folded label is its own folding, and a compared form its own compared form
  pub folded_twice : (l f : List ℕ) → Folded l f → Folded f f
  pub compared_twice : (l c : List ℕ) → Compared l c → Compared c c
  -- what was equal before is equal, and ASCII labels are equal exactly if they were
  pub still : (a b : List ℕ) → EqualBefore a b → Equal a b
  pub ascii : (a b : List ℕ) → Ascii a → Ascii b → Equal a b ↔ EqualBefore a b
