-- Samples by computation, over a toy grammar: `[` and `![` open, `]` closes, any other byte is plain, and the only tail is `()`.
use Rattle.std.specs.Prelude.{◌≡◌, refl, Bool, true, cond, ◌&&◌, List, [], ◌∷◌, map, ℕ, suc, ◌+◌, eqb, length, get_or}
use Rattle.std.proofs.Math.Option.{Option, none, some}
use Rattle.scan.specs.Ascii.{ascii}
use Rattle.marking.specs.Marking.{Sort, link, image, Kind, plain, closes, opens}
use Rattle.marking.specs.Spans.{Span, code_span, pair_span}
use Rattle.marking.specs.Open.{opened_before, paired_before, open_brackets}
use Rattle.marking.specs.ReadingRules.{Grammar}
use Rattle.marking.specs.Reading.{reading, run, step, found, extend, start}
use Rattle.marking.specs.ReadingSpans.{spans, finish, scan, scan_step, scan_found, scan_start, over, overs, over_within}

abbrev pictures : List ℕ → ℕ → Bool
pictures p i = eqb (get_or p i 0) 33 && eqb (get_or p (suc i) 0) 91

abbrev kind_of : ℕ → Kind
kind_of b = cond (eqb b 91) (opens link) (cond (eqb b 93) closes plain)

abbrev tail_of : List ℕ → ℕ → ℕ → Option ℕ
tail_of p o s = cond (eqb (get_or p (s + 1) 0) 40) (cond (eqb (get_or p (s + 2) 0) 41) (some 2) none) none

abbrev toy : List ℕ → Grammar ℕ
toy p =
    record {
      size = length p;
      kind_at = λ i. cond (pictures p i) (opens image) (kind_of (get_or p i 0));
      end_at = λ i. cond (pictures p i) (suc (suc i)) (suc i);
      tail_at = tail_of p;
      length_of = λ t. t;
    }

-- a span's start and end, after 1 for a code span, 2 for a link and 6 for an image
abbrev sort_number : Sort → ℕ
sort_number link = 2
sort_number image = 6

abbrev numbers : Span ℕ → List ℕ
numbers (code_span q) = 1 ∷ q.start ∷ q.end ∷ []
numbers (pair_span x o c t) = sort_number x ∷ o.start ∷ (c.end + t) ∷ []

-- two links, from 3 to 8 and from 14 to 18
nested : List ℕ
nested = ascii "[a [b]() c]() []()"

nested_spans : map numbers (spans (toy nested)) ≡ (2 ∷ 3 ∷ 8 ∷ []) ∷ (2 ∷ 14 ∷ 18 ∷ []) ∷ []
unfolding spans finish scan scan_step scan_found scan_start nested
nested_spans = refl

-- the outer brackets, pieces 0 and 9, are a pair and no link
nested_pair : (reading (toy nested)).pairs 0 9 ≡ true
unfolding reading run step found extend start nested
nested_pair = refl

nested_no_link : (reading (toy nested)).links 0 9 ≡ none
unfolding reading run step found extend start nested
nested_no_link = refl

-- in [[][ two brackets are open before the `]`, one after it and two at the end
deep : List ℕ
deep = 91 ∷ 91 ∷ 93 ∷ 91 ∷ []

deep_open : map (open_brackets (reading (toy deep))) (0 ∷ 1 ∷ 2 ∷ 3 ∷ 4 ∷ []) ≡ 0 ∷ 1 ∷ 2 ∷ 1 ∷ 2 ∷ []
unfolding open_brackets opened_before paired_before reading run step found extend start deep
deep_open = refl

deep_over : map (λ limit. over limit (toy deep)) (0 ∷ 1 ∷ 2 ∷ []) ≡ some 0 ∷ some 1 ∷ none ∷ []
unfolding over overs over_within scan_step scan_found scan_start deep
deep_over = refl

-- "An image may hold links and images", and such a link bars an outer one "through images too": the outer brackets are none
holding : List ℕ
holding = ascii "[![[a]() ![b]()]()]()"

holding_spans : map numbers (spans (toy holding)) ≡ (2 ∷ 3 ∷ 8 ∷ []) ∷ (6 ∷ 9 ∷ 15 ∷ []) ∷ (6 ∷ 1 ∷ 18 ∷ []) ∷ []
unfolding spans finish scan scan_step scan_found scan_start holding
holding_spans = refl

-- "A link may hold an image"
held : List ℕ
held = ascii "[![]()]()"

held_spans : map numbers (spans (toy held)) ≡ (6 ∷ 1 ∷ 6 ∷ []) ∷ (2 ∷ 0 ∷ 9 ∷ []) ∷ []
unfolding spans finish scan scan_step scan_found scan_start held
held_spans = refl

-- an image is no link: pieces 0 and 1 are a pair, with a tail
lone : List ℕ
lone = ascii "![]()"

lone_image : (reading (toy lone)).images 0 1 ≡ some 2
unfolding reading run step found extend start lone
lone_image = refl

lone_no_link : (reading (toy lone)).links 0 1 ≡ none
unfolding reading run step found extend start lone
lone_no_link = refl

-- without a tail it is neither
bare : List ℕ
bare = ascii "![]"

bare_spans : map numbers (spans (toy bare)) ≡ []
unfolding spans finish scan scan_step scan_found scan_start bare
bare_spans = refl

-- both sorts of opening count, and the place of the one too many is its `[`
mixed : List ℕ
mixed = ascii "[![![]"

mixed_over : map (λ limit. over limit (toy mixed)) (0 ∷ 1 ∷ 2 ∷ 3 ∷ []) ≡ some 0 ∷ some 2 ∷ some 4 ∷ none ∷ []
unfolding over overs over_within scan_step scan_found scan_start mixed
mixed_over = refl
