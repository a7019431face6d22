-- What stands on the page for a text or a title.
use Rattle.std.specs.Prelude.{ℕ, ◌≡◌, true, false, cond, eqb}
use mathlib.Core.List.{List, [], ◌∷◌, flat_map}
use Rattle.scan.specs.Byte.{punctuation, escapes}
use Rattle.scan.specs.Ascii.{ascii}

-- "Escapes lose the backslash", and "escapes are read from its start and never overlap": m is l with its escapes undone
pub data Undone : List ℕ → List ℕ → Type 0 where
  empty : Undone [] []
  escape : {p : ℕ} {l m : List ℕ} → punctuation p ≡ true → Undone l m → Undone (92 ∷ p ∷ l) (p ∷ m)
  byte : {b : ℕ} {l m : List ℕ} → escapes (b ∷ l) ≡ false → Undone l m → Undone (b ∷ l) (b ∷ m)

-- "`&`, `<`, `>`, `"` become `&amp;`, `&lt;`, `&gt;`, `&quot;`" (bytes 38, 60, 62, 34)
unfoldable pub escaped : ℕ → List ℕ
escaped b =
    cond (eqb b 38) (ascii "&amp;")
    (cond (eqb b 60) (ascii "&lt;") (cond (eqb b 62) (ascii "&gt;") (cond (eqb b 34) (ascii "&quot;") (b ∷ []))))

-- "Escapes lose the backslash"; the four characters are replaced "in text, code and titles": the bytes l as they stand on the page
pub data Text : List ℕ → List ℕ → Type 0 where
  text : {l m : List ℕ} → Undone l m → Text l (flat_map escaped m)
