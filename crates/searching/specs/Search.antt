-- A search for a label in an index whose entries are in order.
use Rattle.std.specs.Prelude.{ℕ, List}
use Rattle.texts.specs.Texts.{Texts}
use Rattle.matching.specs.Reading.{compared}
use Rattle.order.specs.Order.{rank}
use Rattle.row.specs.Listing.{texts_of}
use Rattle.index.specs.Index.{form_of, row_at, Back, Window, Found, Missing}
use Rattle.indexing.specs.declared.arranged.Arranged.{Arranged}
use Rattle.searching.specs.declared.sought.Sought.{Sought}
use Rattle.std.specs.declared.cmp.Ordering.{Ordering}

module _ (rows : Arranged) (sought : Sought) where
  abbrev T : Texts
  T = texts_of rows.definitions.now

  abbrev t : List ℕ
  t = rows.definitions.now.table.now

  abbrev form : List ℕ
  form = compared sought.label.now

  -- how the row at place p stands to the label
  abbrev pub rank_at : ℕ → Ordering
  rank_at p = rank (form_of T t (row_at rows.index.now p)) form

  -- what stands at the place hi is greater
  abbrev pub BackAt : ℕ → Type 0
  BackAt = Back T t rows.definitions.now.count rows.index.now form

  -- the label belongs between these places
  abbrev pub WindowAt : ℕ → ℕ → Type 0
  WindowAt = Window T t rows.definitions.now.count rows.index.now form

  -- where the first row with the label stands
  abbrev pub FoundAt : ℕ → Type 0
  FoundAt = Found T t rows.definitions.now.count rows.index.now form

  -- where it would stand, if no row has it
  abbrev pub MissingAt : ℕ → Type 0
  MissingAt = Missing T t rows.definitions.now.count rows.index.now form
