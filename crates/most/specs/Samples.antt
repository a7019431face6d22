-- What paragraphs can have at the most, by computation.
use Rattle.std.specs.Prelude.{◌≡◌, refl}
use Rattle.scan.specs.Ascii.{ascii}
use Rattle.most.specs.Most.{ends, look, held}

pub record Counts : Type 0 where
  -- two references, and no bracket that stays open
  pub references : held (ascii "[max] and [dose]") ≡ 0
  pub two : ends (ascii "[max] and [dose]") ≡ 2
  -- the outer one may
  pub nested : held (ascii "[max [dose]]") ≡ 1
  pub unclosed : held (ascii "[[max") ≡ 2
  -- what follows may be code, or escaped
  pub code : held (ascii "[`]`") ≡ 1
  pub escaped : held (ascii "[\\]") ≡ 1
  pub backticks : ends (ascii "`a` [b]") ≡ 3
  -- a run of backticks counts once
  pub runs : ends (ascii "``a``") ≡ 2

pub counts : Counts
unfolding ends look held
counts = record { references = refl; two = refl; nested = refl; unclosed = refl; code = refl; escaped = refl; backticks = refl; runs = refl }
