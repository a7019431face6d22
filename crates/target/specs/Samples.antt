-- Samples by computation.
use Rattle.std.specs.Prelude.{ℕ, ◌≡◌, refl, [], None, Option, Some}
use Prim.Native.String.{String}
use Rattle.scan.specs.Ascii.{ascii}
use Rattle.scan.specs.Reading.{scan, closing_step, closing}
use Rattle.target.specs.Target.{AllClosed, none, escape, byte, group, ClosesOnlyOpened, balanced, opened}
use Rattle.target.specs.Reading.{space_from, space_run, depth_after, raw_step, raw_run, part, judged, destination_of, closer, title_of}
use Rattle.target.specs.declared.Part.{Part}

abbrev destination_in : String → Option Part
destination_in t = destination_of (ascii t) 0

abbrev title_in : String → Option Part
title_in t = title_of (ascii t) 0

abbrev space_in : String → ℕ
space_in t = space_run (ascii t)

raw_destinations : (destination_in "foo\\)\\:" ≡ Some (part 0 7 7))
    × (destination_in "(foo(and(bar)))" ≡ Some (part 0 15 15))
    × (destination_in "foo(and(bar)" ≡ None)
    × (destination_in "foo)bar" ≡ Some (part 0 3 3))
    × (destination_in "/my uri" ≡ Some (part 0 3 3))
    × (destination_in "a\\(b" ≡ Some (part 0 4 4))
    × (destination_in "a\\\\(b" ≡ None)
    × (destination_in "(a\\)" ≡ None)
    × (destination_in "(a\\))" ≡ Some (part 0 5 5))
    × (destination_in "a\\ b" ≡ Some (part 0 2 2))
    × (destination_in ")" ≡ None)
    × (destination_in " a" ≡ None)
    × (destination_in "" ≡ None)
unfolding scan depth_after raw_step raw_run judged destination_of
raw_destinations = (refl, refl, refl, refl, refl, refl, refl, refl, refl, refl, refl, refl, refl)

angled_destinations : (destination_in "<b)c>" ≡ Some (part 1 4 5))
    × (destination_in "<my uri>x" ≡ Some (part 1 7 8))
    × (destination_in "<>" ≡ Some (part 1 1 2))
    × (destination_in "<foo\\>" ≡ None)
    × (destination_in "<a<b>" ≡ None)
    × (destination_in "<a\nb>" ≡ None)
unfolding scan closing_step closing destination_of
angled_destinations = (refl, refl, refl, refl, refl, refl)

titles : (title_in "\"title\"" ≡ Some (part 1 6 7))
    × (title_in "'tit\"le'" ≡ Some (part 1 7 8))
    × (title_in "(title)" ≡ Some (part 1 6 7))
    × (title_in "\"a\\\"b\"" ≡ Some (part 1 5 6))
    × (title_in "\"\"" ≡ Some (part 1 1 2))
    × (title_in "(a(b)" ≡ None)
    × (title_in "\"title" ≡ None)
    × (title_in "title" ≡ None)
unfolding scan closing_step closing closer title_of
titles = (refl, refl, refl, refl, refl, refl, refl, refl)

spaces : (space_in " \t\n x" ≡ 4)
    × (space_in " \n \n x" ≡ 3)
    × (space_in "x " ≡ 0)
    × (space_in "" ≡ 0)
unfolding space_from
spaces = (refl, refl, refl, refl)

-- ---- by construction
-- a group in a group, and a byte after it
nested : AllClosed [] (ascii "((a)b)c")
nested = group {k = ascii "(a)b"} {l = ascii "c"} (group {k = ascii "a"} {l = ascii "b"} (byte refl refl none) (byte refl refl none)) (byte refl refl none)

-- the first `)` stands in an escape, the second closes
escaped : AllClosed [] (ascii "(a\\))")
escaped = group {k = ascii "a\\)"} {l = []} (byte refl refl (escape refl none)) none

-- a `\` at the end of the text is a byte
slash_ends : AllClosed [] (ascii "a\\")
slash_ends = byte refl refl (byte refl refl none)

-- one parenthesis left open
left_open : ClosesOnlyOpened (ascii "(a)(b")
left_open =
    opened {k = ascii "(a)"} {l = ascii "b"} (group {k = ascii "a"} {l = []} (byte refl refl none) none) (balanced (byte refl refl none))
