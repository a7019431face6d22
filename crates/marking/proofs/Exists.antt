-- The reading from left to right makes a marking that meets the conditions.
use mathlib.Core.Path.{◌≡◌, refl, sym, ◌∙◌, subst}
use mathlib.Core.Bool.{Bool, true, false, false≢true}
use mathlib.Core.Option.{some, none-ne-some}
use Prim.Native.Nat.{ℕ, zero, suc, ◌+◌, ◌≤◌, ◌<◌}
use native.Mathlib.Omega.{arith}
use lib.Dec.{ltb}
use lib.ListN.{get_or}
use borrow.Author.Tests.{ltb-true, ltb-false}
use Rattle.marking.specs.Marking.{Sort, link, image, Role, nothing, opening, closing, trailing, role, chosen, Meets}
use Rattle.marking.specs.Spans.{Span, code_span, pair_span, SpanOf}
use Rattle.marking.specs.ReadingRules.{Grammar}
use Rattle.marking.specs.Reading.{State, piece_at, blank, sort_of, found_by, place_after, extend, found, step, run, start, reading}
use Rattle.marking.proofs.Roles.{nothing≢closing, opening≢closing, trailing≢closing}
use Rattle.marking.proofs.Stack.{StackOf, stack_start}
use Rattle.marking.proofs.Sound.{Sound, rules_of, MeetsTo}
use Rattle.marking.proofs.Next.{FoundIs}
use Rattle.marking.proofs.Extend.{extended}
use Rattle.marking.proofs.Found.{LastLink, found_alone, found_closing_lem, further, stack_further, last_bounds, last_link_is}
use Rattle.marking.proofs.SpanStep.{SpansTo, spans_extended}

pub record Inv {T : Type 0} (g : Grammar T) (s : State T) : Type 0 where
  pub sound : Sound g
  pub meets : MeetsTo g s.place s.marking
  pub bound : s.place ≤ g.size
  pub stack_is : StackOf s.marking.pieces s.stack
  pub last_is : LastLink s.marking s.last_link
  pub spans_are : SpansTo g s.place s.marking s.spans

pub found_is : {T : Type 0} (g : Grammar T) (s : State T) → Inv g s → FoundIs g s.marking (piece_at g s.place) (found g s)
unfolding found
found_is g s v = by (role (g.kind_at s.place)) refl
  where
    by : (r : Role) → role (g.kind_at s.place) ≡ r
        → FoundIs g s.marking (piece_at g s.place)
        (found_by (λ i. sort_of (get_or s.marking.pieces i blank).kind) (λ i. g.tail_at (get_or s.marking.pieces i blank).end s.place) s.last_link s.stack r)
    by nothing e = found_alone g s.marking (piece_at g s.place) (λ i e' l. nothing≢closing (sym e ∙ e'))
    by opening e = found_alone g s.marking (piece_at g s.place) (λ i e' l. opening≢closing (sym e ∙ e'))
    by closing e = found_closing_lem g s.marking s.place s.last_link v.last_is e s.stack v.stack_is
    by trailing e = found_alone g s.marking (piece_at g s.place) (λ i e' l. trailing≢closing (sym e ∙ e'))

pub step_inv : {T : Type 0} (g : Grammar T) (s : State T) → Inv g s → s.place < g.size → Inv g (step g s) × (s.place < (step g s).place)
unfolding step extend
step_inv g s v h =
    let fi : FoundIs g s.marking (piece_at g s.place) (found g s) = found_is g s v in
    let w : (s.place < place_after g (piece_at g s.place) (found g s)) × (place_after g (piece_at g s.place) (found g s) ≤ g.size) = further g v.sound s.marking s.place v.meets h (found g s) fi in (
      record {
        sound = v.sound;
        meets = extended g v.sound s.marking s.place v.meets h (found g s) fi;
        bound = w.1;
        stack_is = stack_further g v.sound s.marking s.place v.meets h (found g s) s.stack v.stack_is;
        last_is =
            record {
              bounds = last_bounds g v.sound s.marking s.place v.meets h s.last_link v.last_is (found g s) fi;
              is_link = last_link_is g v.sound s.marking s.place v.meets h s.last_link v.last_is (found g s) fi;
            };
        spans_are = spans_extended g v.sound s.marking s.place v.meets h (found g s) fi s.spans v.spans_are;
      },
      w.0,
    )

-- ---- the whole reading

none_taken : {T : Type 0} (x : Sort) (i j : ℕ) (t : T) → chosen x start.marking i j ≡ some t → ⊥
unfolding start
none_taken link i j t e = none-ne-some t e
none_taken image i j t e = none-ne-some t e

no_span : {T : Type 0} (x : Span T) → SpanOf start.marking x → ⊥
unfolding start
no_span (code_span q) s = none-ne-some q s.at
no_span (pair_span x o c t) s = none_taken x s.from s.to t s.taken

pub start_inv : {T : Type 0} (g : Grammar T) → Sound g → Inv g start
unfolding start
start_inv g sd =
    record {
      sound = sd;
      meets =
          record {
            tiled = refl;
            kinds = λ k q a. absurd (none-ne-some q a);
            tails = λ x i j t q l. absurd (none_taken x i j t l);
            no_other_tails = λ k q a. absurd (none-ne-some q a);
            pairs_are = λ i j. ((λ e. absurd (false≢true e)), λ p. absurd (none-ne-some p.closed.piece p.closed.at));
            links_are = λ i j t. ((λ e. absurd (none_taken link i j t e)), λ l. absurd (false≢true l.paired));
            images_are = λ i j t. ((λ e. absurd (none_taken image i j t e)), λ l. absurd (false≢true l.paired));
          };
      bound = omega arith;
      stack_is = stack_start;
      last_is = record { bounds = λ i j t l. absurd (none-ne-some t l); is_link = λ e. absurd (omega arith) };
      spans_are =
          record {
            are = record { each = λ x s. absurd (no_span x s); no_others = λ x h. absurd (none-ne-some x h.1); in_order = λ k x y a. absurd (none-ne-some x a) };
            ends = λ x h. absurd (none-ne-some x h.1);
          };
    }

abbrev pub Done : {T : Type 0} → Grammar T → State T → Type 0
Done g s = Inv g s × (s.place ≡ g.size)

run_suc : (n : ℕ) {T : Type 0} (g : Grammar T) (s : State T) → Inv g s → g.size ≤ s.place + suc n
    → ((s' : State T) → Inv g s' → g.size ≤ s'.place + n → Done g (run n g s')) → Done g (run (suc n) g s)
unfolding run
run_suc n {T} g s v h below = by (ltb s.place g.size) refl
  where
    by : (x : Bool) → ltb s.place g.size ≡ x → Done g (elim x as (λ y. State T) [ true ↦ run n g (step g s) | false ↦ s ])
    by true e =
        let w : Inv g (step g s) × (s.place < (step g s).place) = step_inv g s v (ltb-true s.place g.size e) in
        below (step g s) w.0 (omega (arith, w.1))
    by false e = (v, omega (arith, ltb-false s.place g.size e, v.bound))

pub run_inv : (n : ℕ) {T : Type 0} (g : Grammar T) (s : State T) → Inv g s → g.size ≤ s.place + n → Done g (run n g s)
unfolding run
run_inv zero g s v h = (v, omega (arith, v.bound))
run_inv (suc n) g s v h = run_suc n g s v h (λ s' v' h'. run_inv n g s' v' h')

pub exists : {T : Type 0} (g : Grammar T) → Sound g → Meets (rules_of g) (reading g)
unfolding reading
exists g sd =
    let w : Inv g (run g.size g start) × ((run g.size g start).place ≡ g.size) = run_inv g.size g start (start_inv g sd) (omega arith) in
    subst (λ (b : ℕ). MeetsTo g b (run g.size g start).marking) w.1 w.0.meets
