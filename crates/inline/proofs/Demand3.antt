-- Demand 3 for one paragraph p with the labels of the definitions: one marking meets the rules, and the reading gives its spans.
use Prim.Native.Nat.{ℕ}
use mathlib.Core.Path.{◌≡◌}
use mathlib.Core.Logic.{◌↔◌, ◌≢◌}
use mathlib.Core.Option.{none, some}
use mathlib.Core.List.{List}
use Rattle.marking.specs.Marking.{Marking, Meets}
use Rattle.marking.specs.Spans.{Span, SpansAre}
use Rattle.marking.specs.Open.{NeverOver, FirstOver}
use Rattle.marking.specs.Claims.{ExactlyOne, OnePairAtMost, PairsNest, NoLinkHoldsALink, LinksApart, TakenAsOpened, TailsOnlyAfterTaken}
use Rattle.marking.specs.Reading.{reading}
use Rattle.marking.specs.ReadingSpans.{spans, over}
use Rattle.marking.proofs.Demand3 as any
use Rattle.inline.specs.Tails.{Tail}
use Rattle.inline.specs.Paragraph.{rules}
use Rattle.inline.specs.Reading.{grammar}
use Rattle.inline.proofs.Computing.{computes, sound}

module _ (p : List ℕ) (labels : List (List ℕ)) where
  -- "A marking meets the conditions exactly when everything in this section holds of it."
  abbrev pub MeetsRules : Marking Tail → Type 0
  MeetsRules m = Meets (rules p labels) m

  -- one marking meets the rules, any that meets them is that one, and every other breaks one
  pub exactly_one_marking : ExactlyOne (rules p labels)
  exactly_one_marking = any.exactly_one (rules p labels) (grammar p labels) (computes p labels) (sound p labels)

  pub the_marking : Marking Tail
  the_marking = reading (grammar p labels)

  pub the_marking_meets : MeetsRules the_marking
  unfolding the_marking
  the_marking_meets = any.reading_meets (rules p labels) (grammar p labels) (computes p labels) (sound p labels)

  pub no_other_marking : (m : Marking Tail) → MeetsRules m → m ≡ the_marking
  unfolding the_marking
  no_other_marking = any.is_reading (rules p labels) (grammar p labels) (computes p labels) (sound p labels)

  pub every_other_breaks_a_rule : (m : Marking Tail) → m ≢ the_marking → MeetsRules m → ⊥
  every_other_breaks_a_rule m other c = other (no_other_marking m c)

  -- ---- what holds of a marking that meets the rules
  module _ (m : Marking Tail) (c : MeetsRules m) where
    pub every_bracket_in_one_pair_at_most : OnePairAtMost m
    every_bracket_in_one_pair_at_most = any.one_pair_at_most (rules p labels) m c

    pub pairs_nest : PairsNest m
    pairs_nest = any.pairs_nest (rules p labels) m c

    pub no_link_holds_a_link : NoLinkHoldsALink m
    no_link_holds_a_link = any.no_link_holds_a_link (rules p labels) m c

    pub links_stand_apart : LinksApart m
    links_stand_apart = any.links_apart (rules p labels) m c

    -- every link is a pair that `[` opens, every image one that `![` opens
    pub taken_as_opened : TakenAsOpened m
    taken_as_opened = any.taken_as_opened (rules p labels) m c

    pub tails_only_after_taken : TailsOnlyAfterTaken (rules p labels) m
    tails_only_after_taken = any.tails_only_after_taken (rules p labels) m c

    -- the spans that are read are its links, images and code spans, each once, and no others, in increasing order of end
    pub its_spans_are_read : SpansAre (rules p labels) m (spans (grammar p labels))
    its_spans_are_read = any.spans_of_any (rules p labels) (grammar p labels) (computes p labels) (sound p labels) m c

    pub no_other_span_list : (xs : List (Span Tail)) → SpansAre (rules p labels) m xs → xs ≡ spans (grammar p labels)
    no_other_span_list xs a = any.spans_unique (rules p labels) m xs (spans (grammar p labels)) a its_spans_are_read

    -- the first bracket with which more than so many are open, or never
    pub first_bracket_too_many : (limit place : ℕ) → (over limit (grammar p labels) ≡ some place) ↔ FirstOver limit m place
    first_bracket_too_many limit = any.over_first (rules p labels) (grammar p labels) (computes p labels) (sound p labels) limit m c

    pub never_too_many : (limit : ℕ) → (over limit (grammar p labels) ≡ none) ↔ NeverOver limit m
    never_too_many limit = any.over_never (rules p labels) (grammar p labels) (computes p labels) (sound p labels) limit m c
