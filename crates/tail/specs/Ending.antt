-- What the code answers of a tail, as document 01, "A paragraph's marking", tells of it.
use Rattle.std.specs.Prelude.{ℕ, ◌+◌, ◌≡◌, List, None, Option as Found, Some, IfSome}
use Rattle.std.proofs.Math.Option.{Option, none, some}
use Rattle.texts.specs.Texts.{Texts}
use Rattle.row.specs.declared.listing.Definitions.{Definitions}
use Rattle.row.specs.First.{labels_of}
use Rattle.row.specs.Listing.{texts_of}
use Rattle.row.specs.Reading.{listed_from}
use Rattle.inline.specs.Tails.{Tail, inline, full, collapsed, shortcut, length_of}
use Rattle.inline.specs.ReadingTails.{moved, label_after}
use Rattle.tail.specs.declared.Way.{Way}
use Rattle.tail.specs.declared.Way.TheVariants.{Parts, Full, Collapsed, Shortcut}
use Rattle.tail.specs.declared.ReadTail.{ReadTail}

-- the labels of the first `count` rows of a definition table
abbrev pub labels_in : Texts → List ℕ → ℕ → List (List ℕ)
labels_in T t count = labels_of T (listed_from t 0 count)

-- the labels of the rows of a definition table
abbrev pub all_labels : Definitions → List (List ℕ)
all_labels d = labels_in (texts_of d) d.table.now d.count

-- a tail of n bytes whose first byte stands at place `at` of the paragraph
abbrev pub shown_by : ℕ → ℕ → Way → Tail
shown_by at n (Parts d t) = inline n (moved at d) (moved at t)
shown_by at n (Full k) = full n k
shown_by at n (Collapsed k) = collapsed k
shown_by at n (Shortcut k) = shortcut k

abbrev pub shown : ℕ → ReadTail → Tail
shown at t = shown_by at t.length t.way

abbrev pub shown? : ℕ → Found ReadTail → Option Tail
shown? at (Some t) = some (shown at t)
shown? at None = none

-- the length that is answered is the tail's
abbrev pub Sized : ReadTail → Type 0
Sized t = (at : ℕ) → t.length ≡ length_of (shown at t)

abbrev pub Sized? : Found ReadTail → Type 0
Sized? f = IfSome f Sized

-- the length of the label that follows, with its brackets, by the place of its `]`
abbrev pub length_to : Found ℕ → Found ℕ
length_to (Some e) = Some (e + 1)
length_to None = None

abbrev pub label_length : List ℕ → Found ℕ
label_length s = length_to (label_after s)
