-- The stack lists the brackets open at the point that the reading has come to.
use mathlib.Core.Path.{◌≡◌, refl, sym, ap, ◌∙◌, subst}
use mathlib.Core.Logic.{◌≢◌, ◌⊎◌, inl, inr}
use mathlib.Core.Bool.{true}
use mathlib.Core.Option.{Option, some, some-injective, none-ne-some}
use mathlib.Core.List.{List, [], ◌∷◌, ◌++◌, tail}
use Prim.Native.Nat.{ℕ, zero, suc, ◌<◌}
use native.Mathlib.Omega.{arith}
use lib.ListN.{length, get_elem?, length-append}
use Rattle.marking.specs.Marking.{Role, nothing, opening, closing, trailing, role, Piece, Marking}
use Rattle.scan.specs.Member.{In}
use Rattle.marking.specs.ReadingRules.{Grammar}
use Rattle.marking.specs.Reading.{Match, State, pair_column, piece_at, extra, stack_by, extend, found, step}
use Rattle.marking.proofs.Lists.{at_left, at_seam}
use Rattle.marking.proofs.Sorted.{in_cases, in_later, in_none, head_first}
use Rattle.marking.proofs.Roles.{nothing≢opening, nothing≢closing, opening≢closing, closing≢opening, trailing≢opening, trailing≢closing}
use Rattle.marking.proofs.Stack.{StackOf, top_is}
use Rattle.marking.proofs.Sound.{Sound, MeetsTo}
use Rattle.marking.proofs.Next.{OldOrNew, FoundIs, ext_pairs_old, ext_pairs_new, Stands, earlier, here, after, stands}
use Rattle.marking.proofs.Extend.{pair_cases, ext_pairs}
use Rattle.marking.proofs.Exists.{Inv, found_is}
use Rattle.marking.proofs.OpenList.{OpenAt, OpenAre}

module _ {T : Type 0} (g : Grammar T) (sd : Sound g) (m : Marking T) (b : ℕ) (c : MeetsTo g b m) (inside : b < g.size) (f : Match T) (fi : FoundIs g m (piece_at g b) f) where
  abbrev next : Piece
  next = piece_at g b

  abbrev added : List Piece
  added = next ∷ extra g next f

  abbrev grown : Marking T
  grown = extend g m next f

  -- an open bracket of the longer list is an old one that the next piece does not pair, or the next piece
  abbrev StaysOrNew : ℕ → Type 0
  StaysOrNew i = (OpenAt m (length m.pieces) i × (pair_column f i ≡ true → ⊥)) ⊎ ((length m.pieces ≡ i) × (role (g.kind_at b) ≡ opening))

  pub longer : length m.pieces < length (m.pieces ++ added)
  longer = omega (arith, length-append m.pieces added)

  open_split : (i : ℕ) → OpenAt grown (length (m.pieces ++ added)) i → StaysOrNew i
  unfolding extend
  open_split i o = by (stands g m.pieces next f i o.bracket.piece o.bracket.at)
    where
      by : Stands g m.pieces next f i o.bracket.piece → StaysOrNew i
      by (earlier a h) =
          inl (
            record {
              bracket = record { piece = o.bracket.piece; at = a; as_role = o.bracket.as_role };
              before = h;
              unpaired = λ j hj p. o.unpaired j (omega (arith, longer)) (ext_pairs_old g m next f i j (omega arith) ∙ p);
            },
            λ p. o.unpaired (length m.pieces) longer (ext_pairs_new g m next f i ∙ p),
          )
      by (here e e') = inr (sym e, ap (λ (y : Piece). role y.kind) (sym e') ∙ o.bracket.as_role)
      by (after y a t e e' e'') = absurd (trailing≢opening (ap (λ (y : Piece). role y.kind) (sym e'') ∙ o.bracket.as_role))

  pub pairs_cases : (i j : ℕ) → grown.pairs i j ≡ true → OldOrNew m.pieces f i j
  unfolding extend
  pairs_cases i j p = pair_cases g sd m b c inside f fi i j ((ext_pairs g sd m b c inside f fi i j).0 p)

  open_join : (i : ℕ) → OpenAt m (length m.pieces) i → (pair_column f i ≡ true → ⊥) → OpenAt grown (length (m.pieces ++ added)) i
  unfolding extend
  open_join i o ne =
      record {
        bracket = record { piece = o.bracket.piece; at = at_left m.pieces added i o.bracket.piece o.bracket.at; as_role = o.bracket.as_role };
        before = omega (arith, longer, o.before);
        unpaired = λ j hj p. by j (pairs_cases i j p);
      }
    where
      by : (j : ℕ) → OldOrNew m.pieces f i j → ⊥
      by j (inl t) = o.unpaired j t.0 ((c.pairs_are i j).1 t.1)
      by j (inr t) = ne t.1

  open_new : role (g.kind_at b) ≡ opening → OpenAt grown (length (m.pieces ++ added)) (length m.pieces)
  unfolding extend
  open_new e =
      record {
        bracket = record { piece = next; at = at_seam m.pieces next (extra g next f); as_role = e };
        before = longer;
        unpaired = λ j hj p. by j ((ext_pairs g sd m b c inside f fi (length m.pieces) j).0 p).before (pairs_cases (length m.pieces) j p);
      }
    where
      by : (j : ℕ) → length m.pieces < j → OldOrNew m.pieces f (length m.pieces) j → ⊥
      by j h (inl t) = omega (arith, t.0)
      by j h (inr t) = omega (arith, t.0)

  not_paired : (r : Role) → role (g.kind_at b) ≡ r → r ≢ closing → (i : ℕ) → pair_column f i ≡ true → ⊥
  not_paired r e ne i p = ne (sym e ∙ ((fi.pair_found i).0 p).0)

  abbrev After : List ℕ → Type 0
  After st = OpenAre grown (length (m.pieces ++ added)) st

  open_same : (r : Role) → role (g.kind_at b) ≡ r → r ≢ closing → r ≢ opening → (st : List ℕ) → OpenAre m (length m.pieces) st → After st
  open_same r e nc no' st a =
      record {
        each = λ i o. by i (open_split i o);
        no_others = λ i h. open_join i (a.no_others i h) (not_paired r e nc i);
        falling = a.falling;
      }
    where
      by : (i : ℕ) → StaysOrNew i → In i st
      by i (inl t) = a.each i t.0
      by i (inr t) = absurd (no' (sym e ∙ t.1))

  open_pushed : role (g.kind_at b) ≡ opening → (st : List ℕ) → OpenAre m (length m.pieces) st → After (length m.pieces ∷ st)
  open_pushed e st a =
      record {
        each = λ i o. by i (open_split i o);
        no_others = λ i h. get i (in_cases i (length m.pieces) st h);
        falling = fall;
      }
    where
      by : (i : ℕ) → StaysOrNew i → In i (length m.pieces ∷ st)
      by i (inl t) = in_later i (length m.pieces) st (a.each i t.0)
      by i (inr t) = (0, ap {B = Option ℕ} some t.0)

      get : (i : ℕ) → (length m.pieces ≡ i) ⊎ In i st → OpenAt grown (length (m.pieces ++ added)) i
      get i (inl t) = subst (λ (x : ℕ). OpenAt grown (length (m.pieces ++ added)) x) t (open_new e)
      get i (inr h) = open_join i (a.no_others i h) (not_paired opening e opening≢closing i)

      fall : (d i j : ℕ) → get_elem? (length m.pieces ∷ st) d ≡ some i → get_elem? (length m.pieces ∷ st) (suc d) ≡ some j → j < i
      fall zero i j p q = let z : length m.pieces ≡ i = some-injective (length m.pieces) i p in omega (arith, (a.no_others j (0, q)).before)
      fall (suc d) i j p q = a.falling d i j p q

  open_popped : role (g.kind_at b) ≡ closing → (st : List ℕ) → StackOf m.pieces st → OpenAre m (length m.pieces) st → After (tail st)
  open_popped e [] s a =
      record {
        each = λ i o. by i (open_split i o);
        no_others = λ i h. absurd (in_none i h);
        falling = λ d i j p. absurd (none-ne-some i p);
      }
    where
      by : (i : ℕ) → StaysOrNew i → In i []
      by i (inl t) = a.each i t.0
      by i (inr t) = absurd (closing≢opening (sym e ∙ t.1))
  open_popped e (x ∷ st) s a =
      record {
        each = λ i o. by i (open_split i o);
        no_others = λ i h. open_join i (a.no_others i (in_later i x st h)) (λ p. top_gone i h (some-injective x i ((top_is m.pieces (x ∷ st) i s).1 ((fi.pair_found i).0 p).1)));
        falling = λ d i j p q. a.falling (suc d) i j p q;
      }
    where
      top_gone : (i : ℕ) → In i st → x ≡ i → ⊥
      top_gone i h z = let w : i < x = head_first (λ (u : ℕ) (v : ℕ). v < u) (λ u v w p q. omega arith) (λ u p. omega arith) x st a.falling i h in omega arith

      by : (i : ℕ) → StaysOrNew i → In i st
      by i (inl t) = rest (in_cases i x st (a.each i t.0))
        where
          rest : (x ≡ i) ⊎ In i st → In i st
          rest (inl z) = absurd (t.1 ((fi.pair_found i).1 (e, (top_is m.pieces (x ∷ st) i s).0 (ap {B = Option ℕ} some z))))
          rest (inr h) = h
      by i (inr t) = absurd (closing≢opening (sym e ∙ t.1))

  open_next : (r : Role) → role (g.kind_at b) ≡ r → (st : List ℕ) → StackOf m.pieces st → OpenAre m (length m.pieces) st → After (stack_by (length m.pieces) st r)
  open_next nothing e st s a = open_same nothing e nothing≢closing nothing≢opening st a
  open_next opening e st s a = open_pushed e st a
  open_next closing e st s a = open_popped e st s a
  open_next trailing e st s a = open_same trailing e trailing≢closing trailing≢opening st a

pub open_step : {T : Type 0} (g : Grammar T) (s : State T) → Inv g s → s.place < g.size
    → OpenAre s.marking (length s.marking.pieces) s.stack → OpenAre (step g s).marking (length (step g s).marking.pieces) (step g s).stack
unfolding step extend
open_step g s v h a = open_next g v.sound s.marking s.place v.meets h (found g s) (found_is g s v) (role (g.kind_at s.place)) refl s.stack v.stack_is a
