-- An index finds what the slow lookup finds.
use Prim.Native.Nat.{ℕ}
use mathlib.Core.List.{List}
use Rattle.texts.specs.Texts.{Texts}
use Rattle.index.specs.Index.{Holds}
use Rattle.index.specs.Claims.{IndexClaims}
use Rattle.index.proofs.Search.{found, missing, new}

pub index_claims : (T : Texts) (t : List ℕ) (count : ℕ) (index : List ℕ) → Holds T t count index → IndexClaims T t count index
index_claims T t count index x = record { found = found T t count index x; missing = missing T t count index x; new = new T t count index x }
