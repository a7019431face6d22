-- The tail of a link by the three rules, "first match only": `text` stands between the brackets, and s after them.
use Rattle.std.specs.Prelude.{ℕ, ◌+◌, ◌-◌, List, Bool, true, false, cond, ◌&&◌, get_or, take, drop, eqb, None, Option as Found, Some}
use Rattle.std.proofs.Math.Option.{Option, none, some}
use Rattle.label.specs.Reading.{label_end, is_label}
use Rattle.target.specs.Reading.{space_run, destination_of, title_of}
use Rattle.target.specs.declared.Part.{Part}
use Rattle.row.specs.declared.Range.{Range}
use Rattle.row.specs.Reading.{first_match}
use Rattle.row.specs.Row.{range}
use Rattle.inline.specs.Tails.{Tail, inline, full, collapsed, shortcut}
use Rattle.inline.specs.declared.InlineParts.{InlineParts}

-- ---- the tail of an inline link; places count from the start of s
abbrev pub parts : ℕ → Found Range → Found Range → Found InlineParts
parts n d t = Some (record { size = n; destination = d; title = t })

-- the place after the space that starts at place `at`
abbrev pub space_end : List ℕ → ℕ → ℕ
space_end s at = at + space_run (drop at s)

-- the `)` stands at place h
unfoldable pub closed_at : List ℕ → ℕ → Found Range → Found Range → Found InlineParts
closed_at s h d t = cond (eqb (get_or s h 0) 41) (parts (h + 1) d t) None

-- after a destination and some space, up to place h, by the title that is read there
abbrev pub titled : List ℕ → ℕ → Range → Found Part → Found InlineParts
titled s h d (Some t) = closed_at s (space_end s t.next) (Some d) (Some (range t.start t.end))
titled s h d None = closed_at s h (Some d) None

-- after a destination that ends before place n, with space up to place h
unfoldable pub after_destination : List ℕ → ℕ → ℕ → Range → Found InlineParts
after_destination s n h d = elim (eqb h n) [ true ↦ closed_at s h (Some d) None | false ↦ titled s h d (title_of (drop h s) h) ]

-- after `(` and space up to place g, by the destination that is read there
abbrev pub body_of : List ℕ → ℕ → Found Part → Found InlineParts
body_of s g (Some d) = after_destination s d.next (space_end s d.next) (range d.start d.end)
body_of s g None = closed_at s (space_end s g) None None

abbrev pub after_space : List ℕ → ℕ → Found InlineParts
after_space s g = body_of s g (destination_of (drop g s) g)

unfoldable pub inline_of : List ℕ → Found InlineParts
inline_of s = elim (eqb (get_or s 0 0) 40) [ true ↦ after_space s (space_end s 1) | false ↦ None ]

-- ---- the tail of a reference, and of any link
-- the place of the `]` of the label that follows, where one does
unfoldable pub label_after : List ℕ → Found ℕ
label_after s = elim (eqb (get_or s 0 0) 91) [ true ↦ label_end (drop 1 s) 1 | false ↦ None ]

abbrev pub empty_after : List ℕ → Bool
empty_after s = eqb (get_or s 0 0) 91 && eqb (get_or s 1 0) 93

-- a full reference of n bytes, by the definition that is found
abbrev pub full_by : ℕ → Found ℕ → Option Tail
full_by n (Some k) = some (full n k)
full_by n None = none

-- a reference by its text, by whether `[]` follows and by the definition that is found
abbrev pub short_by : Bool → Found ℕ → Option Tail
short_by empty (Some k) = some (cond empty (collapsed k) (shortcut k))
short_by empty None = none

unfoldable pub text_tail : List (List ℕ) → List ℕ → List ℕ → Option Tail
text_tail labels text s = elim (is_label text) [ true ↦ short_by (empty_after s) (first_match labels text) | false ↦ none ]

-- by where the label that follows ends
abbrev pub reference_by : List (List ℕ) → List ℕ → List ℕ → Found ℕ → Option Tail
reference_by labels text s (Some e) = full_by (e + 1) (first_match labels (take (e - 1) (drop 1 s)))
reference_by labels text s None = text_tail labels text s

abbrev pub reference_of : List (List ℕ) → List ℕ → List ℕ → Option Tail
reference_of labels text s = reference_by labels text s (label_after s)

-- a part of s, where s starts at place `at`
abbrev pub moved : ℕ → Found Range → Option Range
moved at (Some r) = some (range (at + r.start) (at + r.end))
moved at None = none

abbrev pub moved_parts : ℕ → InlineParts → Tail
moved_parts at q = inline q.size (moved at q.destination) (moved at q.title)

abbrev pub tail_by : List (List ℕ) → List ℕ → List ℕ → ℕ → Found InlineParts → Option Tail
tail_by labels text s at (Some q) = some (moved_parts at q)
tail_by labels text s at None = reference_of labels text s

unfoldable pub tail_of : List (List ℕ) → List ℕ → List ℕ → ℕ → Option Tail
tail_of labels text s at = tail_by labels text s at (inline_of s)
