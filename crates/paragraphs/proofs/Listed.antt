-- The paragraphs of a list, one after the other.
use Rattle.std.specs.Prelude.{Option as Found, Some, None, IsSome}
use Prim.Native.Nat.{ℕ, ◌+◌, ◌<◌}
use native.Mathlib.Omega.{arith}
use mathlib.Core.Path.{◌≡◌, refl}
use mathlib.Core.List.{List, []}
use Rattle.walk.specs.declared.Paragraph.{Paragraph}
use Rattle.walk.specs.Reading.{paragraphs_from, from}
use Rattle.walk.specs.Promise.{FirstParagraph, IsParagraph, Remembers, Onward}

-- paragraph k of n is there
pub is_there : (s list : List ℕ) (n k : ℕ) (x : Found Paragraph) → Onward s list n k x → k < n → IsSome x
is_there s list n k (Some o) e h = refl
is_there s list n k None e h = absurd (omega arith)

-- and after it paragraph k + 1 is looked for
pub next_there : (s list : List ℕ) (n k : ℕ) {x : Found Paragraph} → Onward s list n k x → {o : Paragraph} → x ≡ Some o → o.next ≡ from s list (k + 1)
next_there s list n k e ex = (rw ex at e).1

-- it is the first from where it is looked for, in whichever of two equal notes
pub met : {s s' : List ℕ} {at : ℕ} {x : Found Paragraph} → s ≡ s' → IsParagraph s at x → {o : Paragraph} → x ≡ Some o → FirstParagraph s' at o.start o.end o.next
met es q ex = rw (← es) (rw ex at q)

-- after the last of n, none is left
pub none_left : {s s' list : List ℕ} {n at : ℕ} → s ≡ s' → Remembers s list n → at ≡ from s list n → paragraphs_from s' at ≡ []
none_left es r e = rw (← es, e) r.over
