-- The grammar of a paragraph computes its rules, and its pieces and tails lie within the paragraph.
use Prim.Native.Nat.{ℕ, ◌+◌, ◌-◌, ◌≤◌, ◌<◌}
use native.Mathlib.Omega.{arith}
use mathlib.Core.Path.{◌≡◌, refl, sym, ap}
use mathlib.Core.Option.{some}
use mathlib.Core.List.{List}
use lib.ListN.{length, take, drop, length-drop}
use Rattle.marking.specs.Marking.{closing, role, Piece}
use Rattle.marking.specs.ReadingRules.{Computed, Computes}
use Rattle.marking.proofs.Sound.{Sound}
use Rattle.inline.specs.Tails.{Tail, length_of}
use Rattle.inline.specs.Paragraph.{rules}
use Rattle.inline.specs.ReadingPieces.{piece_from}
use Rattle.inline.proofs.PieceBounds.{sized}
use Rattle.inline.specs.Reading.{grammar, tail_at}
use Rattle.inline.proofs.TailBounds.{tail_of_fits}
use Rattle.inline.proofs.Starting.{IsFrom, starts_iff}
use Rattle.inline.proofs.Tailing.{tail_iff}

module _ (p : List ℕ) (labels : List (List ℕ)) where
  -- a tail ends within the paragraph
  pub tail_within : (o c : ℕ) (t : Tail) → c < length p → role (piece_from p c).kind ≡ closing → tail_at p labels o c ≡ some t → (piece_from p c).end + length_of t ≤ length p
  tail_within o c t h k e =
      omega (arith, (sized p c h).one_byte k, tail_of_fits (drop (c + 1) p) labels (take (c - o) (drop o p)) (c + 1) t e, length-drop (c + 1) p)

  pub sound : Sound (grammar p labels)
  sound = record { grows = λ a h. (sized p a h).grows; within = λ a h. (sized p a h).within; no_tail = λ a h. (sized p a h).no_tail; tail_within = tail_within }

  as_computed : (q : Piece) → IsFrom p q → Computed (grammar p labels) q
  as_computed q f = record { inside = f.inside; kind_is = ap (λ (x : Piece). x.kind) (sym f.from); end_is = ap (λ (x : Piece). x.end) (sym f.from) }

  as_from : (q : Piece) → Computed (grammar p labels) q → IsFrom p q
  as_from q c =
      let k : (piece_from p q.start).kind ≡ q.kind = sym c.kind_is in
      let s : (piece_from p q.start).start ≡ q.start = (sized p q.start c.inside).starts in
      let e : (piece_from p q.start).end ≡ q.end = sym c.end_is in
      record { inside = c.inside; from = λ i. record { kind = k i; start = s i; end = e i } }

  pub computes : Computes (rules p labels) (grammar p labels)
  computes =
      record {
        sizes = refl;
        lengths = λ t. refl;
        starts = λ q h. ((λ s. as_computed q ((starts_iff p q).0 s)), (λ c. (starts_iff p q).1 (as_from q c)));
        tails = λ o c t h l k. tail_iff labels (take (c - o) (drop o p)) (drop (c + 1) p) (c + 1) t;
      }
